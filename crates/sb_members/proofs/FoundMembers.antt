-- What is found in members that were put in one after another.
use Rattle.std.proofs.Common.{◌≡◌, ℕ, ◌≤◌, Bool, true, false, if◌then◌else◌, List, [], ◌∷◌, Option, Some, None, refl, sym, ap, ◌∙◌, arith}
use Rattle.std.specs.Ordering.{match_ordering}
use Rattle.std.specs.Str.{bytes_eq}
use Rattle.std.specs.declared.cmp.Ordering.{Ordering}
use Rattle.std.specs.declared.cmp.Ordering.TheVariants.{Less, Equal, Greater}
use Rattle.std.proofs.lemmas.Slice.Eq.{bytes_eq-Decides}
use Rattle.serde_json.specs.Data.{Data, Members, no_members, member, put, depth, members_depth}
use Rattle.serde_json.specs.Find.{get_member}
use Rattle.serde_json.proofs.Views.{get_member-put, get_member-put_other}
use Rattle.sb_json.specs.Fields.{key_of}
use Rattle.sb_json.specs.declared.fields.Field.{Field}
use Rattle.sb_members.specs.Writing.{with_member_if_any}
use Rattle.sb_members.specs.Parts.{Parts, made, or_later, found, NestsWithin, AllWithin}

none_first : (later : Option Data) → or_later None later ≡ later
none_first None = refl
none_first (Some later) = refl

some_first : (d : Data) (later : Option Data) → or_later (Some d) later ≡ Some d
some_first d None = refl
some_first d (Some later) = refl

same : (b : Bool) (o : Option Data) → o ≡ if b then or_later None o else o
same true o = sym (none_first o)
same false o = refl

put_there : (b : Bool) (k l : List ℕ) (d : Data) (ms : Members) → bytes_eq k l ≡ b → get_member k (put l d ms) ≡ if b then or_later (Some d) (get_member k ms) else get_member k ms
put_there true k l d ms e = rw ((bytes_eq-Decides k l).0 e) (get_member-put l d ms) ∙ sym (some_first d (get_member k ms))
put_there false k l d ms e = get_member-put_other k l d ms (λ h. cc (e, (bytes_eq-Decides k l).1 h))

get_with : (f g : Field) (o : Option Data) (ms : Members)
    → get_member (key_of f) (with_member_if_any g o ms) ≡ if bytes_eq (key_of f) (key_of g) then or_later o (get_member (key_of f) ms) else get_member (key_of f) ms
get_with f g None ms = same _ _
get_with f g (Some d) ms = put_there _ (key_of f) (key_of g) d ms refl

pub get_made : (f : Field) (ps : Parts) → get_member (key_of f) (made ps) ≡ found f ps
get_made f [] = refl
get_made f (p ∷ ps) =
    get_with f p.0 p.1 (made ps)
    ∙ ap (λ (later : Option Data). if bytes_eq (key_of f) (key_of p.0) then or_later p.1 later else later) (get_made f ps)

-- ---- how deep they nest

ordered_depth : (o : Ordering) (a b c : Members) (n : ℕ) → members_depth a ≤ n → members_depth b ≤ n → members_depth c ≤ n → members_depth (match_ordering o a b c) ≤ n
ordered_depth Less a b c n p q r = p
ordered_depth Equal a b c n p q r = q
ordered_depth Greater a b c n p q r = r

put_depth : (k : List ℕ) (d : Data) (ms : Members) (n : ℕ) → depth d ≤ n → members_depth ms ≤ n → members_depth (put k d ms) ≤ n
put_depth k d no_members n p q = omega arith
put_depth k d (member l e ms) n p q =
    ordered_depth _ (member k d (member l e ms)) (member l d ms) (member l e (put k d ms)) n (omega arith) (omega arith) (omega (arith, put_depth k d ms n p (omega arith)))

with_depth : (f : Field) (o : Option Data) (ms : Members) (n : ℕ) → NestsWithin n o → members_depth ms ≤ n → members_depth (with_member_if_any f o ms) ≤ n
with_depth f None ms n h m = m
with_depth f (Some d) ms n h m = put_depth (key_of f) d ms n h m

pub members_within : (ps : Parts) (n : ℕ) → AllWithin n ps → members_depth (made ps) ≤ n
members_within [] n h = omega arith
members_within (p ∷ ps) n h = with_depth p.0 p.1 (made ps) n h.0 (members_within ps n h.1)
