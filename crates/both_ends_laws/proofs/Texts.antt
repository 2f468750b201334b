-- How long the texts of objects and lists are at least, by those of their parts.
use Rattle.std.proofs.Common.{◌≡◌, ℕ, ◌+◌, ◌≤◌, ◌/◌, ◌%◌, Bool, true, false, cond, ◌&&◌, nat_lt, List, [], ◌∷◌, ◌++◌, length, map, Option, Some, None, refl, ap, ◌∙◌, arith, length-append}
use Rattle.std.specs.Ordering.{nat_cmp, match_ordering, is_lt}
use Rattle.std.specs.Cmp.Lexicographic.{slice_cmp}
use Rattle.std.specs.declared.cmp.Ordering.{Ordering}
use Rattle.std.specs.declared.cmp.Ordering.TheVariants.{Less, Equal, Greater}
use Rattle.std.proofs.lemmas.Bool.{and_parts, false≢true}
use Rattle.std.specs.Char.{digit_char}
use Rattle.json.specs.Print.{quoted, escape, escape_byte, escape_letter}
use Rattle.serde_json.specs.Data.{Data, object, Members, no_members, member, put}
use Rattle.serde_json.specs.View.{items_of}
use Rattle.serde_json.specs.Written.{compact_text, items_text, members_text}
use Rattle.sb_json.specs.Fields.{key_of}
use Rattle.sb_json.specs.declared.fields.Field.{Field}
use Rattle.sb_members.specs.Parts.{Parts, made}
use Rattle.sb_members.specs.Writing.{with_member_if_any, list_written}
use Rattle.both_ends_laws.proofs.Costs.{total}

-- ---- strings

-- a byte is written as one at least
escaped_some : (b : ℕ) → 1 ≤ length (escape_byte b)
unfolding escape_byte
escaped_some b = go (nat_lt 0 (escape_letter b)) (nat_lt b 32)
  where
    go : (short control : Bool)
        → 1 ≤ length (cond short (92 ∷ escape_letter b ∷ []) (cond control (92 ∷ 117 ∷ 48 ∷ 48 ∷ digit_char (b / 16) ∷ digit_char (b % 16) ∷ []) (b ∷ [])))
    go true control = omega arith
    go false true = omega arith
    go false false = omega arith

escaped_length : (s : List ℕ) → length s ≤ length (escape s)
escaped_length [] = omega arith
escaped_length (b ∷ s) = omega (arith, length-append (escape_byte b) (escape s), escaped_some b, escaped_length s)

pub string_length : (s : List ℕ) → length s + 2 ≤ length (quoted s)
string_length s = omega (arith, length-append (escape s) (34 ∷ []), escaped_length s)

-- ---- parts that stand in the order of their keys

-- whether a key stands before those of parts
abbrev is_before : List ℕ → Parts → Bool
is_before k [] = true
is_before k (p ∷ ps) = is_lt (slice_cmp nat_cmp k (key_of p.0)) && is_before k ps

abbrev pub is_in_order : Parts → Bool
is_in_order [] = true
is_in_order (p ∷ ps) = is_before (key_of p.0) ps && is_in_order ps

abbrev with_first : Field → Option Data → Members → Members
with_first f None ms = ms
with_first f (Some d) ms = member (key_of f) d ms

abbrev as_they_stand : Parts → Members
as_they_stand [] = no_members
as_they_stand (p ∷ ps) = with_first p.0 p.1 (as_they_stand ps)

abbrev is_before_first : List ℕ → Members → Bool
is_before_first k no_members = true
is_before_first k (member l e ms) = is_lt (slice_cmp nat_cmp k l)

chosen_first : (o : Ordering) (a b c : Members) → is_lt o ≡ true → match_ordering o a b c ≡ a
chosen_first Less a b c h = refl
chosen_first Equal a b c h = absurd (false≢true h)
chosen_first Greater a b c h = absurd (false≢true h)

put_first : (k : List ℕ) (d : Data) (ms : Members) → is_before_first k ms ≡ true → put k d ms ≡ member k d ms
put_first k d no_members h = refl
put_first k d (member l e ms) h = chosen_first (slice_cmp nat_cmp k l) _ _ _ h

first_of_two : (k : List ℕ) (f : Field) (o : Option Data) (ms : Members) → is_lt (slice_cmp nat_cmp k (key_of f)) ≡ true
    → is_before_first k ms ≡ true
    → is_before_first k (with_first f o ms) ≡ true
first_of_two k f None ms first later = later
first_of_two k f (Some d) ms first later = first

before_first : (k : List ℕ) (ps : Parts) → is_before k ps ≡ true → is_before_first k (as_they_stand ps) ≡ true
before_first k [] h = refl
before_first k (p ∷ ps) h =
    let both = and_parts (is_lt (slice_cmp nat_cmp k (key_of p.0))) (is_before k ps) h in
    first_of_two k p.0 p.1 (as_they_stand ps) both.0 (before_first k ps both.1)

put_part : (f : Field) (o : Option Data) (ms : Members) → is_before_first (key_of f) ms ≡ true → with_member_if_any f o ms ≡ with_first f o ms
put_part f None ms h = refl
put_part f (Some d) ms h = put_first (key_of f) d ms h

made_in_order : (ps : Parts) → is_in_order ps ≡ true → made ps ≡ as_they_stand ps
made_in_order [] h = refl
made_in_order (p ∷ ps) h =
    let both = and_parts (is_before (key_of p.0) ps) (is_in_order ps) h in
    ap (with_member_if_any p.0 p.1) (made_in_order ps both.1) ∙ put_part p.0 p.1 (as_they_stand ps) (before_first (key_of p.0) ps both.0)

-- ---- objects

-- the bytes of a value that may be absent
abbrev pub bytes_there : Option Data → ℕ
bytes_there None = 0
bytes_there (Some d) = length (compact_text d)

-- with its key, the quotes round this, its colon and its comma
abbrev pub part_bytes : Field → Option Data → ℕ
part_bytes f None = 0
part_bytes f (Some d) = length (key_of f) + 4 + length (compact_text d)

abbrev pub parts_bytes : Parts → ℕ
parts_bytes [] = 0
parts_bytes (p ∷ ps) = part_bytes p.0 p.1 + parts_bytes ps

member_length : (k : List ℕ) (d : Data) (ms : Members)
    → length k + 4 + length (compact_text d) + length (members_text true ms) ≤ length (members_text true (member k d ms))
member_length k d ms =
    omega (arith, string_length k, length-append (quoted k) (58 ∷ (compact_text d ++ members_text true ms)), length-append (compact_text d) (members_text true ms))

part_length : (f : Field) (o : Option Data) (ms : Members)
    → part_bytes f o + length (members_text true ms) ≤ length (members_text true (with_first f o ms))
part_length f None ms = omega arith
part_length f (Some d) ms = member_length (key_of f) d ms

parts_length : (ps : Parts) → 1 + parts_bytes ps ≤ length (members_text true (as_they_stand ps))
parts_length [] = omega arith
parts_length (p ∷ ps) = omega (arith, part_length p.0 p.1 (as_they_stand ps), parts_length ps)

first_members : (ms : Members) → length (members_text true ms) ≤ 1 + length (members_text false ms)
first_members no_members = omega arith
first_members (member k d ms) = omega arith

pub object_length : (ps : Parts) → is_in_order ps ≡ true → 1 + parts_bytes ps ≤ length (compact_text (object (made ps)))
object_length ps h =
    let same : length (members_text true (made ps)) ≡ length (members_text true (as_they_stand ps)) = ap (λ (ms : Members). length (members_text true ms)) (made_in_order ps h) in
    omega (arith, same, parts_length ps, first_members (made ps))

pub part_at_least : (f : Field) (o : Option Data) → bytes_there o ≤ part_bytes f o
part_at_least f None = omega arith
part_at_least f (Some d) = omega arith

-- ---- lists

module _ {A : Type 0} (write : A → Data) where
  item_length : (x : A) (xs : List A) → length (items_text true (items_of (map write (x ∷ xs)))) ≡ 1 + length (compact_text (write x)) + length (items_text true (items_of (map write xs)))
  item_length x xs = omega (arith, length-append (compact_text (write x)) (items_text true (items_of (map write xs))))

  items_length : (xs : List A)
      → length (items_text true (items_of (map write xs))) ≡ 1 + total (λ x. 1 + length (compact_text (write x))) xs
  items_length [] = refl
  items_length (x ∷ xs) = omega (arith, item_length x xs, items_length xs)

  first_items : (xs : List A) → length (items_text true (items_of (map write xs))) ≤ 1 + length (items_text false (items_of (map write xs)))
  first_items [] = omega arith
  first_items (x ∷ xs) = omega arith

  pub list_length : (xs : List A) → total (λ x. 1 + length (compact_text (write x))) xs ≤ bytes_there (list_written write xs)
  list_length [] = omega arith
  list_length (x ∷ xs) = omega (arith, items_length (x ∷ xs), first_items (x ∷ xs))
