-- Where lines end.
use Rattle.std.proofs.Common.{◌≡◌, ℕ, suc, ◌+◌, ◌-◌, ◌<◌, ◌≤◌, min, List, [], ◌∷◌, ◌++◌, Bool, true, false, cond, length, take, drop, refl, sym, ap, ◌∙◌, arith, get_or, add-one, append_assoc, Some, None}
use Rattle.std.proofs.lemmas.Bool.{eqb-true}
use Rattle.std.specs.Prelude.{position}
use Rattle.std.specs.List.{slice_split, onto_first, position_or_len}
use Rattle.std.proofs.lemmas.Grind.{common_steps}
use Rattle.std.proofs.lemmas.List.{take-append-drop, length-drop, take_all}
use Rattle.std.proofs.lemmas.List.Elements.{All-from_get_or, All-head, All-tail}
use Rattle.std.proofs.lemmas.List.Quantifiers.{position-Some}
use Rattle.std.proofs.lemmas.List.Splits.{slice_split_at, slice_split_none}
use Rattle.std.proofs.lemmas.List.Sums.{fails_before_first}
use Rattle.std.proofs.Math.Seq.{drop-cons}
use Rattle.list_versions.specs.Lines.{newline, is_newline}
use Rattle.list_versions.specs.Split.{IsOneLine, IsLine, IsFront, IsLong}
use Rattle.list_versions.proofs.Parts.{parts_some, none_at}

get_or-front : (n k : ℕ) (xs : List ℕ) → k < n → get_or (take n xs) k 0 ≡ get_or xs k 0
get_or-front n k xs h = grind (arith, common_steps)

length-front : (n : ℕ) (xs : List ℕ) → length (take n xs) ≡ min n (length xs)
length-front n xs = grind (arith, common_steps)

pub line_found : (bytes : List ℕ) (n i : ℕ) → n ≤ 129 → n ≤ length bytes → position is_newline (take n bytes) ≡ Some i → IsLine bytes (take i bytes) (take (length bytes - (i + 1)) (drop (i + 1) bytes))
line_found bytes n i small fits h =
    let found = position-Some is_newline (take n bytes) i 0 h in
    let lt : i < n = omega (arith, found.0, length-front n bytes) in
    let at : get_or bytes i 0 ≡ newline = eqb-true _ _ (rw (sym (get_or-front n i bytes lt)) found.1) in
    let rest : take (length bytes - (i + 1)) (drop (i + 1) bytes) ≡ drop (i + 1) bytes = take_all _ (drop (i + 1) bytes) (omega (arith, length-drop (i + 1) bytes)) in
    let cons : drop i bytes ≡ newline ∷ drop (i + 1) bytes = rw (add-one, drop-cons bytes i 0 (omega arith), at) refl in
    record {
      whole = rw (rest, ← cons) (sym (take-append-drop i bytes));
      within = All-from_get_or (λ byte. is_newline byte ≡ false) (take i bytes) 0 (λ k l. let below : k < i = omega (arith, l, length-front i bytes) in rw (get_or-front i k bytes below, sym (get_or-front n k bytes (omega arith))) (found.2 k below));
      short = omega (arith, length-front i bytes);
    }

no_newline : (xs : List ℕ) → position is_newline xs ≡ None → IsOneLine xs
no_newline xs h =
    let past : length xs ≤ position_or_len is_newline xs = none_at is_newline xs _ refl h in
    All-from_get_or (λ x. is_newline x ≡ false) xs 0 (λ i l. fails_before_first is_newline xs i 0 (omega arith))

pub front_found : (bytes : List ℕ) (n : ℕ) → length bytes ≤ n → length bytes ≤ 128 → position is_newline (take n bytes) ≡ None → IsFront bytes
front_found bytes n h short none = record { within = no_newline bytes (rw (take_all n bytes h) at none); short = short }

pub long_found : (bytes : List ℕ) (n : ℕ) → n ≡ 129 → 128 < length bytes → position is_newline (take n bytes) ≡ None → IsLong bytes
long_found bytes n e long none = record {
  front = take n bytes;
  others = drop n bytes;
  whole = sym (take-append-drop n bytes);
  within = no_newline (take n bytes) none;
  long = omega (arith, length-front n bytes);
}

-- ---- the parts of a text

pub parts_line : (bytes line rest more : List ℕ) → IsLine bytes line rest → slice_split is_newline (bytes ++ more) ≡ line ∷ slice_split is_newline (rest ++ more)
parts_line bytes line rest more h =
    ap (λ bs. slice_split is_newline (bs ++ more)) h.whole
    ∙ ap (λ bs. slice_split is_newline bs) (append_assoc line (newline ∷ rest) more)
    ∙ slice_split_at is_newline line newline (rest ++ more) h.within refl

pub parts_front : (bytes : List ℕ) → IsFront bytes → slice_split is_newline bytes ≡ bytes ∷ []
parts_front bytes h = slice_split_none is_newline bytes h.within

-- a first part that is longer than that
pub record FirstIsLong (n : ℕ) (parts : List (List ℕ)) : Type 0 where
  pub first : List ℕ
  pub others : List (List ℕ)
  pub are : parts ≡ first ∷ others
  pub long : n ≤ length first

some_first : (parts : List (List ℕ)) → 0 < length parts → FirstIsLong 0 parts
some_first [] h = absurd (omega arith)
some_first (part ∷ parts) h = record { first = part; others = parts; are = refl; long = omega arith }

long_at : (x : ℕ) (n : ℕ) (b : Bool) (parts : List (List ℕ)) → b ≡ false → FirstIsLong n parts → FirstIsLong (suc n) (cond b ([] ∷ parts) (onto_first x parts))
long_at x n true parts e h = absurd (cc)
long_at x n false parts e h = record { first = x ∷ h.first; others = h.others; are = ap (λ ps. onto_first x ps) h.are; long = omega (arith, h.long) }

first_long : (front others : List ℕ) → IsOneLine front → FirstIsLong (length front) (slice_split is_newline (front ++ others))
first_long [] others h = some_first _ (parts_some is_newline others)
first_long (x ∷ front) others h =
    long_at x (length front) (is_newline x) (slice_split is_newline (front ++ others)) (All-head (λ byte. is_newline byte ≡ false) x front h)
    (first_long front others (All-tail (λ byte. is_newline byte ≡ false) x front h))

pub parts_long : (bytes more : List ℕ) → IsLong bytes → FirstIsLong 129 (slice_split is_newline (bytes ++ more))
parts_long bytes more h =
    let first = first_long h.front (h.others ++ more) h.within in
    let same : bytes ++ more ≡ h.front ++ (h.others ++ more) = ap (λ bs. bs ++ more) h.whole ∙ append_assoc h.front h.others more in
    let long : 128 < length h.front = h.long in
    record { first = first.first; others = first.others; are = ap (λ bs. slice_split is_newline bs) same ∙ first.are; long = omega (arith, first.long) }
