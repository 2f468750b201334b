-- Where a list is cut: at the first element that passes a test.
use Rattle.std.proofs.Common.{◌≡◌, ℕ, suc, ◌+◌, ◌-◌, ◌≤◌, ◌<◌, List, [], ◌∷◌, ◌++◌, Bool, true, false, not, ◌||◌, cond, ltb, eqb, get_or, length, take, drop, Some, None, unwrap_or, refl, sym, ap, ◌∙◌, arith, ⊎_elim}
use Rattle.std.specs.List.{prefix_len, position_or_len, position, list_any, before_first, after_first, slice_split, onto_first}
use Rattle.std.proofs.lemmas.Bool.{cases_Bool, false≢true, cond_both, cond-true, cond-false, or_parts, or_from, le-ltb, lt-ltb, ltb-false, not-false, eqb-true}
use Rattle.std.proofs.lemmas.Bool.Decides.{nat_tests}
use Rattle.std.proofs.lemmas.List.{length-take-le, take_rest, take_more, take-append-drop, take_at, drop_at, take_all, length_push, append_assoc}
use Rattle.std.proofs.Math.Numerals.{one-add}
use Rattle.std.proofs.lemmas.List.Sums.{prefix_len_stops}
use Rattle.std.proofs.lemmas.List.Splits.{slice_split_first}
use Rattle.url_canon.specs.Words.{from_first}

pub prefix_len-le : {X : Type 0} (p : X → Bool) (xs : List X) → prefix_len p xs ≤ length xs
prefix_len-le p [] = omega arith
prefix_len-le p (x ∷ xs) =
    let rest = prefix_len-le p xs in
    cond_both (p x) (1 + prefix_len p xs) 0 (λ n. n ≤ length (x ∷ xs)) (λ _. omega arith) (λ _. omega arith)

pub length-take_while : {X : Type 0} (p : X → Bool) (xs : List X) → length (take (prefix_len p xs) xs) ≡ prefix_len p xs
length-take_while p xs = length-take-le (prefix_len p xs) xs (prefix_len-le p xs)

pub position_or_len-le : {X : Type 0} (p : X → Bool) (xs : List X) → position_or_len p xs ≤ length xs
position_or_len-le p xs = prefix_len-le (λ x. not (p x)) xs

-- the place that `position` finds, or the length
pub unwrap_or-position : {X : Type 0} (p : X → Bool) (xs : List X) → unwrap_or (position p xs) (length xs) ≡ position_or_len p xs
unwrap_or-position p xs =
    let within = position_or_len-le p xs in
    cond_both (ltb (position_or_len p xs) (length xs)) (Some (position_or_len p xs)) None (λ o. unwrap_or o (length xs) ≡ position_or_len p xs) (λ _. refl) (λ e. let past = ltb-false (position_or_len p xs) (length xs) e in omega arith)

pub any_from_place : {X : Type 0} (p : X → Bool) (xs : List X) → list_any p xs ≡ ltb (position_or_len p xs) (length xs)
any_from_place p [] = refl
any_from_place p (x ∷ xs) =
    let more = any_from_place p xs in
    elim (p x) as (λ b. (b || list_any p xs) ≡ ltb (cond (not b) (1 + position_or_len p xs) 0) (length (x ∷ xs))) [ true ↦ sym (lt-ltb 0 (length (x ∷ xs)) (omega arith)) | false ↦ grind (arith, nat_tests) ]

-- where none passes, the list is its one part
pub split_none : {X : Type 0} (p : X → Bool) (xs : List X) → list_any p xs ≡ false → slice_split p xs ≡ xs ∷ []
split_none p [] none = refl
split_none p (x ∷ xs) none =
    let parts = or_parts (p x) (list_any p xs) none in
    cond-false (p x) ([] ∷ slice_split p xs) (onto_first x (slice_split p xs)) parts.0 ∙ ap (onto_first x) (split_none p xs parts.1)

-- what `&s[place..]` gives, as code writes it
pub take_from : {X : Type 0} (xs : List X) (i : ℕ) → take (length xs - i) (drop i xs) ≡ drop i xs
take_from xs i = take_rest xs i

-- the rest after the first that passes, as an option
pub without_first : {X : Type 0} (p : X → Bool) (xs : List X) (place : ℕ) → place ≡ position_or_len p xs → (place ≡ length xs → ⊥) → Some (take (length xs - (place + 1)) (drop (place + 1) xs)) ≡ cond (list_any p xs) (Some (after_first p xs)) None
without_first p xs place at inside =
    let within = position_or_len-le p xs in
    let some : ltb (position_or_len p xs) (length xs) ≡ true = lt-ltb (position_or_len p xs) (length xs) (omega arith) in
    ap Some (take_rest xs (place + 1) ∙ ap (λ k. drop (k + 1) xs) at) ∙ sym (cond-true (list_any p xs) (Some (after_first p xs)) None (any_from_place p xs ∙ some))

pub parts_first : {X : Type 0} (p : X → Bool) (xs : List X) (place : ℕ) (d : X) → place ≡ position_or_len p xs → (place ≡ length xs → ⊥) → slice_split p xs ≡ take place xs ∷ slice_split p (take (length xs - (place + 1)) (drop (place + 1) xs))
parts_first p xs place d at inside =
    let within = position_or_len-le p xs in
    slice_split_first p xs d (omega arith) ∙ (ap (λ k. take k xs ∷ slice_split p (drop (k + 1) xs)) (sym at) ∙ ap (λ r. take place xs ∷ slice_split p r) (sym (take_rest xs (place + 1))))

pub parts_whole : {X : Type 0} (p : X → Bool) (xs : List X) (place : ℕ) → place ≡ position_or_len p xs → place ≡ length xs → slice_split p xs ≡ xs ∷ []
parts_whole p xs place at past =
    split_none p xs (any_from_place p xs ∙ le-ltb (position_or_len p xs) (length xs) (omega arith))

-- the element at the place passes
pub passes_at : {X : Type 0} (p : X → Bool) (xs : List X) (d : X) → position_or_len p xs < length xs → p (get_or xs (position_or_len p xs) d) ≡ true
passes_at p xs d inside = not-false (p (get_or xs (position_or_len p xs) d)) (prefix_len_stops (λ x. not (p x)) xs d inside)

-- through the first byte that is a given one
pub through_first : (byte : ℕ) (xs : List ℕ) (place : ℕ) → place ≡ position_or_len (λ x. eqb x byte) xs → (place ≡ length xs → ⊥) → take (place + 1) xs ≡ before_first (λ x. eqb x byte) xs ++ byte ∷ []
through_first byte xs place at inside =
    let p : ℕ → Bool = λ x. eqb x byte in
    let within = position_or_len-le p xs in
    let is = eqb-true (get_or xs (position_or_len p xs) 0) byte (passes_at p xs 0 (omega arith)) in
    ap (λ k. take (k + 1) xs) at ∙ (take_more xs (position_or_len p xs) 0 (omega arith) ∙ ap (λ x. before_first p xs ++ x ∷ []) is)

pub any_at : {X : Type 0} (p : X → Bool) (xs : List X) (place : ℕ) → place ≡ position_or_len p xs → (place ≡ length xs → ⊥) → list_any p xs ≡ true
any_at p xs place at inside =
    let within = position_or_len-le p xs in any_from_place p xs ∙ lt-ltb (position_or_len p xs) (length xs) (omega arith)

pub none_at : {X : Type 0} (p : X → Bool) (xs : List X) (place : ℕ) → place ≡ position_or_len p xs → place ≡ length xs → list_any p xs ≡ false
none_at p xs place at past = any_from_place p xs ∙ le-ltb (position_or_len p xs) (length xs) (omega arith)

-- a cut by cases on the first element

pub before_first-yes : {X : Type 0} (p : X → Bool) (x : X) (xs : List X) → p x ≡ true → before_first p (x ∷ xs) ≡ []
before_first-yes p x xs e = ap (λ b. take (cond (not b) (1 + position_or_len p xs) 0) (x ∷ xs)) e

pub before_first-not : {X : Type 0} (p : X → Bool) (x : X) (xs : List X) → p x ≡ false → before_first p (x ∷ xs) ≡ x ∷ before_first p xs
before_first-not p x xs e = ap (λ b. take (cond (not b) (1 + position_or_len p xs) 0) (x ∷ xs)) e ∙ ap (λ n. take n (x ∷ xs)) (one-add (position_or_len p xs))

-- nothing before the first that passes does
pub none-before_first : {X : Type 0} (p : X → Bool) (xs : List X) → list_any p (before_first p xs) ≡ false
none-before_first p [] = refl
none-before_first p (x ∷ xs) =
    ⊎_elim (λ yes. ap (list_any p) (before_first-yes p x xs yes)) (λ not_x. ap (list_any p) (before_first-not p x xs not_x) ∙ or_from (p x) (list_any p (before_first p xs)) not_x (none-before_first p xs)) (cases_Bool (p x))

pub before-and-from : {X : Type 0} (p : X → Bool) (xs : List X) → before_first p xs ++ from_first p xs ≡ xs
before-and-from p xs = take-append-drop (position_or_len p xs) xs

place_at : {X : Type 0} (p : X → Bool) (xs : List X) (y : X) (ys : List X) → list_any p xs ≡ false → p y ≡ true → length xs ≡ position_or_len p (xs ++ y ∷ ys)
place_at p [] y ys none e = ap (λ b. cond (not b) (1 + position_or_len p ys) 0) (sym e)
place_at p (x ∷ xs) y ys none e =
    let parts = or_parts (p x) (list_any p xs) none in
    let more = place_at p xs y ys parts.1 e in
    let here : position_or_len p (x ∷ (xs ++ y ∷ ys)) ≡ 1 + position_or_len p (xs ++ y ∷ ys) = ap (λ b. cond (not b) (1 + position_or_len p (xs ++ y ∷ ys)) 0) parts.0 in
    omega arith

-- a cut where the first that passes is known
pub before_first-at : {X : Type 0} (p : X → Bool) (xs : List X) (y : X) (ys : List X) → list_any p xs ≡ false → p y ≡ true → before_first p (xs ++ y ∷ ys) ≡ xs
before_first-at p xs y ys none e = take_at xs (y ∷ ys) (position_or_len p (xs ++ y ∷ ys)) (place_at p xs y ys none e)

pub from_first-at : {X : Type 0} (p : X → Bool) (xs : List X) (y : X) (ys : List X) → list_any p xs ≡ false → p y ≡ true → from_first p (xs ++ y ∷ ys) ≡ y ∷ ys
from_first-at p xs y ys none e = drop_at xs (y ∷ ys) (position_or_len p (xs ++ y ∷ ys)) (place_at p xs y ys none e)

pub after_first-at : {X : Type 0} (p : X → Bool) (xs : List X) (y : X) (ys : List X) → list_any p xs ≡ false → p y ≡ true → after_first p (xs ++ y ∷ ys) ≡ ys
after_first-at p xs y ys none e =
    let place = place_at p xs y ys none e in
    let long = length_push xs y in
    ap (λ r. drop (position_or_len p (xs ++ y ∷ ys) + 1) r) (sym (append_assoc xs (y ∷ []) ys)) ∙ drop_at (xs ++ y ∷ []) ys (position_or_len p (xs ++ y ∷ ys) + 1) (omega arith)

pub before_first-none : {X : Type 0} (p : X → Bool) (xs : List X) → list_any p xs ≡ false → before_first p xs ≡ xs
before_first-none p xs none =
    let past = ltb-false (position_or_len p xs) (length xs) (sym (any_from_place p xs) ∙ none) in take_all (position_or_len p xs) xs past

-- the first that passes stands at the front of the rest
pub from_first-some : {X : Type 0} (p : X → Bool) (xs : List X) (y : X) → ((x : X) → p x ≡ true → x ≡ y) → list_any p xs ≡ true → y ∷ after_first p xs ≡ from_first p xs
from_first-some p [] y only e = absurd (false≢true e)
from_first-some p (x ∷ xs) y only e =
    let place = position_or_len p xs in
    ⊎_elim
    (λ yes. ap (λ b. y ∷ drop (cond (not b) (1 + place) 0 + 1) (x ∷ xs)) yes ∙ (ap (λ z. z ∷ xs) (sym (only x yes)) ∙ sym (ap (λ b. drop (cond (not b) (1 + place) 0) (x ∷ xs)) yes)))
    (λ other.
    let more : list_any p xs ≡ true = sym (ap (λ b. b || list_any p xs) other) ∙ e in
    let next : 1 + place + 1 ≡ suc (place + 1) = omega arith in
    ap (λ b. y ∷ drop (cond (not b) (1 + place) 0 + 1) (x ∷ xs)) other ∙ (ap (λ n. y ∷ drop n (x ∷ xs)) next ∙ (from_first-some p xs y only more ∙ sym (ap (λ b. drop (cond (not b) (1 + place) 0) (x ∷ xs)) other ∙ ap (λ n. drop n (x ∷ xs)) (one-add place)))))
    (cases_Bool (p x))

pub ruleset places = (take_rest, prefix_len-le, length-take_while, position_or_len-le, unwrap_or-position, any_from_place)
