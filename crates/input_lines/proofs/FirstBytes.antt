-- What a search for the first newline tells.
use Rattle.std.proofs.Common.{◌≡◌, ℕ, suc, ◌+◌, ◌<◌, ◌≤◌, List, [], ◌∷◌, Bool, true, false, cond, length, get_or, refl, sym, ap, ◌∙◌, Option, Some, None, arith, nat_lt}
use Rattle.std.specs.Prelude.{position, count_by}
use Rattle.std.specs.List.{position_or_len}
use Rattle.std.proofs.lemmas.List.Sums.{position_or_len_is, fails_before_first, sum_by-cons}
use borrow.Author.Tests.{ltb-false}
use Rattle.memchr.specs.Find.{IsFirstByte, is_byte}
use Rattle.input_lines.specs.Lines.{is_newline}

fails : (b : ℕ) (t : Bool) → is_newline b ≡ t → (is_newline b ≡ true → ⊥) → is_newline b ≡ false
fails b true e h = absurd (h e)
fails b false e h = e

told : (xs : List ℕ) (i : ℕ) (b : Bool) → nat_lt i (length xs) ≡ b → position_or_len is_newline xs ≡ i → position is_newline xs ≡ cond b (Some i) None
told xs i b e h = rw h (rw e refl)

-- the first place whose byte is a newline is the position of the first newline
pub first_is_position : (xs : List ℕ) (r : Option ℕ) → IsFirstByte (is_byte 10) xs r → r ≡ position is_newline xs
first_is_position xs None h =
    let place : position_or_len is_newline xs ≡ length xs = position_or_len_is is_newline xs (length xs) 0 (omega arith) (λ k l. fails _ _ refl (h k (omega arith) l)) (λ l. absurd (omega arith)) in
    sym (told xs (length xs) false (grind arith) place)
first_is_position xs (Some i) h =
    let place : position_or_len is_newline xs ≡ i = position_or_len_is is_newline xs i 0 (omega (arith, h.0.high)) (λ k l. fails _ _ refl (h.0.before k (omega arith) l)) (λ l. h.1) in
    sym (told xs i true (grind (arith, h.0.high)) place)

-- where there is no position, no place of the list passes
pub none_at : (xs : List ℕ) (b : Bool) → nat_lt (position_or_len is_newline xs) (length xs) ≡ b → cond b (Some (position_or_len is_newline xs)) None ≡ None → length xs ≤ position_or_len is_newline xs
none_at xs true e h = absurd (cc)
none_at xs false e h = ltb-false _ _ e

counts_none : (xs : List ℕ) → ((k : ℕ) → k < length xs → is_newline (get_or xs k 0) ≡ false) → count_by is_newline xs ≡ 0
counts_none [] h = refl
counts_none (x ∷ xs) h =
    let rest : count_by is_newline xs ≡ 0 = counts_none xs (λ k l. h (suc k) (omega (arith, l))) in
    let head : count_by is_newline (x ∷ xs) ≡ 0 + count_by is_newline xs = sum_by-cons _ x xs ∙ ap (λ t. cond t 1 0 + count_by is_newline xs) (h 0 (omega arith)) in
    omega (arith, rest, head)

-- a text without a newline has none to count
pub none_counted : (xs : List ℕ) → position is_newline xs ≡ None → 0 ≡ count_by is_newline xs
none_counted xs h =
    let past : length xs ≤ position_or_len is_newline xs = none_at xs _ refl h in
    sym (counts_none xs (λ k l. fails_before_first is_newline xs k 0 (omega (arith, past, l))))
