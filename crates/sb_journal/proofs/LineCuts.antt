-- How the lines of an input begin.
use Rattle.std.proofs.Common.{◌≡◌, ℕ, ◌+◌, ◌-◌, ◌<◌, ◌≤◌, nat_lt, List, [], ◌∷◌, Bool, true, false, cond, length, take, drop, refl, ap, ◌∙◌, subst, Some, None, arith}
use Rattle.std.specs.Prelude.{◌==◌, if◌then◌else◌, position}
use Rattle.std.specs.List.{slice_split, position_or_len}
use Rattle.std.specs.Str.Lines.{lines, lines_of_parts, strip_carriage_return}
use Rattle.std.proofs.lemmas.Bool.{ltb-false}
use Rattle.std.proofs.lemmas.Bool.Decides.{nat_tests}
use Rattle.std.proofs.lemmas.List.Quantifiers.{position-Some}
use Rattle.std.proofs.lemmas.List.Sums.{position_or_len_is, fails_before_first}
use Rattle.std.proofs.lemmas.List.Splits.{slice_split_first, slice_split_none, length-slice_split}
use Rattle.std.proofs.lemmas.List.Elements.{All-from_get_or}
use Rattle.std.proofs.lemmas.List.{length-drop, take_all}
use Rattle.input_lines.specs.Lines.{is_newline}

parts_some : (xs : List ℕ) → 0 < length (slice_split is_newline xs)
parts_some xs = omega (arith, length-slice_split is_newline xs)

-- a part before others is a line that a newline ended
ends_first : (part : List ℕ) (parts : List (List ℕ)) → 0 < length parts → lines_of_parts (part ∷ parts) ≡ strip_carriage_return part ∷ lines_of_parts parts
ends_first part [] h = absurd (omega arith)
ends_first part (q ∷ qs) h = refl

-- if there is no position, no place of the list passes
none_at : (xs : List ℕ) (b : Bool) → nat_lt (position_or_len is_newline xs) (length xs) ≡ b → cond b (Some (position_or_len is_newline xs)) None ≡ None → length xs ≤ position_or_len is_newline xs
none_at xs true e h = absurd (cc)
none_at xs false e h = ltb-false _ _ e

-- the first newline ends the first line
pub line_found : (xs : List ℕ) (i : ℕ) → position is_newline xs ≡ Some i → lines xs ≡ strip_carriage_return (take i xs) ∷ lines (take (length xs - (i + 1)) (drop (i + 1) xs))
line_found xs i h =
    let found = position-Some is_newline xs i 0 h in
    let place : position_or_len is_newline xs ≡ i = position_or_len_is is_newline xs i 0 (omega (arith, found.0)) found.2 (λ _. found.1) in
    let lt : position_or_len is_newline xs < length xs = rw place found.0 in
    let parts : slice_split is_newline xs ≡ take i xs ∷ slice_split is_newline (drop (i + 1) xs) = subst (λ n. slice_split is_newline xs ≡ take n xs ∷ slice_split is_newline (drop (n + 1) xs)) place (slice_split_first is_newline xs 0 lt) in
    let whole : take (length xs - (i + 1)) (drop (i + 1) xs) ≡ drop (i + 1) xs = take_all _ (drop (i + 1) xs) (omega (arith, length-drop (i + 1) xs)) in
    rw whole (ap lines_of_parts parts ∙ ends_first (take i xs) (slice_split is_newline (drop (i + 1) xs)) (parts_some (drop (i + 1) xs)))

not_zero : (n : ℕ) → 0 < n → (n == 0) ≡ false
not_zero n h = grind (arith, nat_tests)

chosen : (b : Bool) (xs ys : List (List ℕ)) → b ≡ false → (if b then xs else ys) ≡ ys
chosen b xs ys e = rw e refl

one_part : (xs : List ℕ) → 0 < length xs → lines_of_parts (xs ∷ []) ≡ xs ∷ []
one_part xs h = chosen (length xs == 0) [] (xs ∷ []) (not_zero (length xs) h)

-- a text with some byte and no newline is one line
pub line_none : (xs : List ℕ) → 0 < length xs → position is_newline xs ≡ None → lines xs ≡ xs ∷ []
line_none xs some h =
    let past : length xs ≤ position_or_len is_newline xs = none_at xs _ refl h in
    ap lines_of_parts (slice_split_none is_newline xs (All-from_get_or (λ x. is_newline x ≡ false) xs 0 (λ i l. fails_before_first is_newline xs i 0 (omega arith))))
    ∙ one_part xs some
