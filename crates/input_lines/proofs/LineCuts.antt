-- How the lines of a text begin, and how many there are.
use Rattle.std.proofs.Common.{◌≡◌, ℕ, zero, suc, ◌+◌, ◌-◌, ◌<◌, ◌≤◌, List, [], ◌∷◌, Bool, true, false, cond, not, length, take, drop, refl, sym, ap, ◌∙◌, subst, Some, None, arith}
use Rattle.std.specs.Prelude.{position, count_by, slice_get}
use Rattle.std.specs.List.{slice_split, onto_first, position_or_len}
use Rattle.std.proofs.lemmas.List.Quantifiers.{position-Some}
use Rattle.std.proofs.lemmas.List.Sums.{position_or_len_is, fails_before_first, sum_by-cons}
use Rattle.std.proofs.lemmas.List.Splits.{slice_split_first, slice_split_none, slice_split-cons_yes, slice_split-cons_no, length-slice_split}
use Rattle.std.proofs.lemmas.List.Elements.{All-from_get_or}
use Rattle.std.proofs.lemmas.List.{length-drop, take_all}
use borrow.Author.Tests.{eqb-true}
use Rattle.input_lines.proofs.FirstBytes.{none_at}
use Rattle.input_lines.specs.Lines.{ends_open, newline, is_newline, without_empty_end, lines_of}

parts_some : (xs : List ℕ) → 0 < length (slice_split is_newline xs)
parts_some xs = omega (arith, length-slice_split is_newline xs)

-- a part before others stays
keeps_first : (part : List ℕ) (parts : List (List ℕ)) → 0 < length parts → without_empty_end (part ∷ parts) ≡ part ∷ without_empty_end parts
keeps_first part [] h = absurd (omega arith)
keeps_first [] (q ∷ qs) h = refl
keeps_first (b ∷ bs) (q ∷ qs) h = refl

-- the first newline ends the first line
pub line_found : (xs : List ℕ) (i : ℕ) → position is_newline xs ≡ Some i → lines_of xs ≡ take i xs ∷ lines_of (take (length xs - (i + 1)) (drop (i + 1) xs))
line_found xs i h =
    let found = position-Some is_newline xs i 0 h in
    let place : position_or_len is_newline xs ≡ i = position_or_len_is is_newline xs i 0 (omega (arith, found.0)) found.2 (λ _. found.1) in
    let lt : position_or_len is_newline xs < length xs = rw place found.0 in
    let parts : slice_split is_newline xs ≡ take i xs ∷ slice_split is_newline (drop (i + 1) xs) = subst (λ n. slice_split is_newline xs ≡ take n xs ∷ slice_split is_newline (drop (n + 1) xs)) place (slice_split_first is_newline xs 0 lt) in
    let whole : take (length xs - (i + 1)) (drop (i + 1) xs) ≡ drop (i + 1) xs = take_all _ (drop (i + 1) xs) (omega (arith, length-drop (i + 1) xs)) in
    rw whole (ap without_empty_end parts ∙ keeps_first (take i xs) (slice_split is_newline (drop (i + 1) xs)) (parts_some (drop (i + 1) xs)))

one_part : (xs : List ℕ) → 0 < length xs → without_empty_end (xs ∷ []) ≡ xs ∷ []
one_part [] h = absurd (omega arith)
one_part (x ∷ xs) h = refl

-- a text with some byte and no newline is one line
pub line_none : (xs : List ℕ) → 0 < length xs → position is_newline xs ≡ None → lines_of xs ≡ xs ∷ []
line_none xs some h =
    let past : length xs ≤ position_or_len is_newline xs = none_at xs _ refl h in
    ap without_empty_end (slice_split_none is_newline xs (All-from_get_or (λ x. is_newline x ≡ false) xs 0 (λ i l. fails_before_first is_newline xs i 0 (omega arith))))
    ∙ one_part xs some

pub lines-rest : (xs ys : List ℕ) → lines_of xs ≡ xs ∷ [] → lines_of xs ≡ xs ∷ lines_of (take (length ys - length ys) (drop (length ys) xs))
lines-rest xs ys h =
    let none : length ys - length ys ≡ 0 = omega arith in
    rw none h

-- byte by byte
pub lines-newline : (b : ℕ) (bs : List ℕ) → is_newline b ≡ true → lines_of (b ∷ bs) ≡ [] ∷ lines_of bs
lines-newline b bs h = ap without_empty_end (slice_split-cons_yes is_newline b bs h) ∙ keeps_first [] (slice_split is_newline bs) (parts_some bs)

onto_kept : (b : ℕ) (parts : List (List ℕ)) → 0 < length parts → without_empty_end (onto_first b parts) ≡ onto_first b (without_empty_end parts)
onto_kept b [] h = absurd (omega arith)
onto_kept b ([] ∷ []) h = refl
onto_kept b ([] ∷ q ∷ qs) h = refl
onto_kept b ((p ∷ ps) ∷ qs) h = refl

pub lines-other : (b : ℕ) (bs : List ℕ) → is_newline b ≡ false → lines_of (b ∷ bs) ≡ onto_first b (lines_of bs)
lines-other b bs h = ap without_empty_end (slice_split-cons_no is_newline b bs h) ∙ onto_kept b (slice_split is_newline bs) (parts_some bs)

pub length-onto : (b : ℕ) (ls : List (List ℕ)) → 0 < length ls → length (onto_first b ls) ≡ length ls
length-onto b [] h = absurd (omega arith)
length-onto b (l ∷ ls) h = refl

pub onto_some : (b : ℕ) (ls : List (List ℕ)) → 0 < length (onto_first b ls)
onto_some b [] = omega arith
onto_some b (l ∷ ls) = omega arith

-- a text with some byte has a line
some_by : (c : ℕ) (cs : List ℕ) (t : Bool) → is_newline c ≡ t → 0 < length (lines_of (c ∷ cs))
some_by c cs true h = subst (λ (ls : List (List ℕ)). 0 < length ls) (sym (lines-newline c cs h)) (omega arith)
some_by c cs false h = subst (λ (ls : List (List ℕ)). 0 < length ls) (sym (lines-other c cs h)) (onto_some c (lines_of cs))

pub lines_some : (text : List ℕ) → 0 < length text → 0 < length (lines_of text)
lines_some [] h = absurd (omega arith)
lines_some (c ∷ cs) h = some_by c cs _ refl

-- how many lines there are: those that are ended, and one that is not
counts_one : (b : ℕ) (t : Bool) → is_newline b ≡ t → length (lines_of (b ∷ [])) ≡ count_by is_newline (b ∷ []) + cond (not t) 1 0
counts_one b true h = ap length (lines-newline b [] h) ∙ rw h refl
counts_one b false h = ap length (lines-other b [] h) ∙ rw h refl

counts_more : (b c : ℕ) (cs : List ℕ) (t : Bool) (n : ℕ) → is_newline b ≡ t → length (lines_of (c ∷ cs)) ≡ count_by is_newline (c ∷ cs) + n → length (lines_of (b ∷ c ∷ cs)) ≡ count_by is_newline (b ∷ c ∷ cs) + n
counts_more b c cs true n h k = ap length (lines-newline b (c ∷ cs) h) ∙ (let more : count_by is_newline (b ∷ c ∷ cs) ≡ 1 + count_by is_newline (c ∷ cs) = sum_by-cons _ b (c ∷ cs) ∙ ap (λ t. cond t 1 0 + count_by is_newline (c ∷ cs)) h in omega arith)
counts_more b c cs false n h k = ap length (lines-other b (c ∷ cs) h) ∙ length-onto b (lines_of (c ∷ cs)) (some_by c cs _ refl) ∙ (let more : count_by is_newline (b ∷ c ∷ cs) ≡ 0 + count_by is_newline (c ∷ cs) = sum_by-cons _ b (c ∷ cs) ∙ ap (λ t. cond t 1 0 + count_by is_newline (c ∷ cs)) h in omega arith)

pub lines_counted : (text : List ℕ) → length (lines_of text) ≡ count_by is_newline text + cond (ends_open text) 1 0
lines_counted [] = refl
lines_counted (b ∷ []) = counts_one b _ refl
lines_counted (b ∷ c ∷ cs) = counts_more b c cs _ _ refl (lines_counted (c ∷ cs))

-- the last byte tells
open_at : (text : List ℕ) (n b : ℕ) → n + 1 ≡ length text → slice_get text n ≡ Some b → ends_open text ≡ not (is_newline b)
open_at [] n b e h = absurd (cc)
open_at (c ∷ []) zero b e h = let same : c ≡ b = cc in ap (λ x. not (is_newline x)) same
open_at (c ∷ []) (suc n) b e h = absurd (cc)
open_at (c ∷ d ∷ ds) zero b e h = absurd (omega arith)
open_at (c ∷ d ∷ ds) (suc n) b e h = open_at (d ∷ ds) n b (omega arith) h

pub open_last : (text : List ℕ) (b : ℕ) → slice_get text (length text - 1) ≡ Some b → ends_open text ≡ not (is_newline b)
open_last [] b h = absurd (cc)
open_last (c ∷ cs) b h = open_at (c ∷ cs) (length (c ∷ cs) - 1) b (omega arith) h

nothing_at : (text : List ℕ) (n : ℕ) → n < length text → slice_get text n ≡ None → ⊥
nothing_at [] n l h = omega arith
nothing_at (c ∷ cs) zero l h = cc
nothing_at (c ∷ cs) (suc n) l h = nothing_at cs n (omega arith) h

pub open_none : (text : List ℕ) → slice_get text (length text - 1) ≡ None → ends_open text ≡ false
open_none [] h = refl
open_none (c ∷ cs) h = absurd (nothing_at (c ∷ cs) (length (c ∷ cs) - 1) (omega arith) h)

pub count_closed : (text : List ℕ) (ended : ℕ) → ended ≡ count_by is_newline text → ends_open text ≡ false → ended ≡ length (lines_of text)
count_closed text ended e h = e ∙ sym (lines_counted text ∙ rw h (omega arith))

pub count_open : (text : List ℕ) (ended : ℕ) → ended ≡ count_by is_newline text → ends_open text ≡ true → ended + 1 ≡ length (lines_of text)
count_open text ended e h = ap (λ n. n + 1) e ∙ sym (lines_counted text ∙ rw h refl)

test_fails : (b : ℕ) (t : Bool) → is_newline b ≡ t → (b ≡ newline → ⊥) → is_newline b ≡ false
test_fails b true e h = absurd (h (eqb-true b newline e))
test_fails b false e h = e

pub other_byte : (b : ℕ) → (b ≡ newline → ⊥) → is_newline b ≡ false
other_byte b h = test_fails b _ refl h
