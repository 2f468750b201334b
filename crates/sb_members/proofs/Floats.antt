-- Members have a float only where a value has one.
use Rattle.std.proofs.Common.{◌≡◌, ℕ, Bool, true, false, ◌||◌, List, [], ◌∷◌, Option, Some, None, refl}
use Rattle.std.specs.Ordering.{match_ordering}
use Rattle.std.specs.declared.cmp.Ordering.{Ordering}
use Rattle.std.specs.declared.cmp.Ordering.TheVariants.{Less, Equal, Greater}
use Rattle.serde_json.specs.Data.{Data, Members, no_members, member, put}
use Rattle.serde_json.specs.Written.{has_float, members_have_float}
use Rattle.sb_json.specs.Fields.{key_of}
use Rattle.sb_json.specs.declared.fields.Field.{Field}
use Rattle.sb_members.specs.Writing.{with_member_if_any}
use Rattle.sb_members.specs.Parts.{Parts, made, HasNoFloat, AllHaveNoFloat}

member_none : (k : List ℕ) (d : Data) (ms : Members) → has_float d ≡ false → members_have_float ms ≡ false → members_have_float (member k d ms) ≡ false
member_none k d ms h m = rw (h, m) refl

rest_none : (k : List ℕ) (d : Data) (ms : Members) → members_have_float (member k d ms) ≡ false → (has_float d ≡ false) × (members_have_float ms ≡ false)
rest_none k d ms h = both (has_float d) (members_have_float ms) h
  where
    both : (a b : Bool) → (a || b) ≡ false → (a ≡ false) × (b ≡ false)
    both true b e = absurd (cc e)
    both false b e = (refl, e)

put_at : (o : Ordering) (k l : List ℕ) (d e : Data) (ms : Members) → has_float d ≡ false → has_float e ≡ false → members_have_float ms ≡ false → members_have_float (put k d ms) ≡ false
    → members_have_float (match_ordering o (member k d (member l e ms)) (member l d ms) (member l e (put k d ms))) ≡ false
put_at Less k l d e ms h g m p = member_none k d (member l e ms) h (member_none l e ms g m)
put_at Equal k l d e ms h g m p = member_none l d ms h m
put_at Greater k l d e ms h g m p = member_none l e (put k d ms) g p

put_none : (k : List ℕ) (d : Data) (ms : Members) → has_float d ≡ false → members_have_float ms ≡ false → members_have_float (put k d ms) ≡ false
put_none k d no_members h m = member_none k d no_members h refl
put_none k d (member l e ms) h m =
    let r = rest_none l e ms m in
    put_at _ k l d e ms h r.0 r.1 (put_none k d ms h r.1)

with_none : (f : Field) (o : Option Data) (ms : Members) → HasNoFloat o → members_have_float ms ≡ false → members_have_float (with_member_if_any f o ms) ≡ false
with_none f None ms h m = m
with_none f (Some d) ms h m = put_none (key_of f) d ms h m

pub made_none : (ps : Parts) → AllHaveNoFloat ps → members_have_float (made ps) ≡ false
made_none [] h = refl
made_none (p ∷ ps) h = with_none p.0 p.1 (made ps) h.0 (made_none ps h.1)
