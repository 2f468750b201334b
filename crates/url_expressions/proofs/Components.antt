-- The components of a host, and the host without its first.
use Prim.Native.Nat.{zero}
use Rattle.std.proofs.Common.{◌≡◌, ℕ, suc, ◌+◌, ◌<◌, ◌≤◌, List, [], ◌∷◌, ◌++◌, length, get_or, take, drop, Some, None, true, false, cond, Bool, nat_lt, refl, ap, ◌∙◌, subst, arith}
use Rattle.std.specs.Prelude.{position, map, filter, nat_le}
use Rattle.std.specs.List.{slice_split, join_with_byte, position_or_len, count_by}
use Rattle.std.proofs.lemmas.List.Quantifiers.{position-Some}
use Rattle.std.proofs.lemmas.List.Sums.{position_or_len_is, fails_before_first}
use Rattle.std.proofs.lemmas.List.Splits.{slice_split_first, slice_split_none, length-slice_split, join_with_byte-slice_split}
use Rattle.std.proofs.lemmas.List.Elements.{All-from_get_or, filter-append}
use Rattle.std.proofs.lemmas.List.{take_more, map-append}
use borrow.Author.Tests.{ltb-false}
use Rattle.url_canon.specs.Words.{is_dot}
use Rattle.url_expressions.specs.Expressions.{components, last_components}

-- the first dot ends the first component
pub components_found : (xs : List ℕ) (i : ℕ) → position is_dot xs ≡ Some i → components xs ≡ take i xs ∷ components (drop (i + 1) xs)
unfolding components
components_found xs i h =
    let found = position-Some is_dot xs i 0 h in
    let place : position_or_len is_dot xs ≡ i = position_or_len_is is_dot xs i 0 (omega (arith, found.0)) found.2 (λ _. found.1) in
    let lt : position_or_len is_dot xs < length xs = rw place found.0 in
    subst (λ n. slice_split is_dot xs ≡ take n xs ∷ slice_split is_dot (drop (n + 1) xs)) place (slice_split_first is_dot xs 0 lt)

none_at : (xs : List ℕ) (b : Bool) → nat_lt (position_or_len is_dot xs) (length xs) ≡ b → cond b (Some (position_or_len is_dot xs)) None ≡ None → length xs ≤ position_or_len is_dot xs
none_at xs true e h = absurd (cc)
none_at xs false e h = ltb-false _ _ e

-- a host without a dot is one component
pub components_none : (xs : List ℕ) → position is_dot xs ≡ None → components xs ≡ xs ∷ []
unfolding components
components_none xs h =
    let past : length xs ≤ position_or_len is_dot xs = none_at xs _ refl h in
    slice_split_none is_dot xs (All-from_get_or (λ x. is_dot x ≡ false) xs 0 (λ i l. fails_before_first is_dot xs i 0 (omega arith)))

-- the components with the dots between them are the host
pub joined_components : (xs : List ℕ) → join_with_byte 46 (components xs) ≡ xs
unfolding components
joined_components xs = join_with_byte-slice_split 46 xs

pub length-components : (xs : List ℕ) → length (components xs) ≡ count_by is_dot xs + 1
unfolding components
length-components xs = length-slice_split is_dot xs

-- one more number of components, and whether the host has so many
pub hosts_more : (host : List ℕ) (counts : List ℕ) (i : ℕ) → i < length counts → map (λ n. last_components n host) (filter (λ n. nat_le n (length (components host))) (take (i + 1) counts)) ≡ map (λ n. last_components n host) (filter (λ n. nat_le n (length (components host))) (take i counts)) ++ cond (nat_le (get_or counts i 0) (length (components host))) (last_components (get_or counts i 0) host ∷ []) []
hosts_more host counts i within =
    let f : ℕ → List ℕ = λ n. last_components n host in
    let p : ℕ → Bool = λ n. nat_le n (length (components host)) in
    ap (λ ns. map f (filter p ns)) (take_more counts i 0 within)
    ∙ ap (λ ns. map f ns) (filter-append p (take i counts) (get_or counts i 0 ∷ []))
    ∙ map-append f (filter p (take i counts)) (filter p (get_or counts i 0 ∷ []))
    ∙ ap (λ ns. map f (filter p (take i counts)) ++ ns) (map-cond f (get_or counts i 0) (p (get_or counts i 0)))
  where
    map-cond : (f : ℕ → List ℕ) (n : ℕ) (b : Bool) → map f (cond b (n ∷ []) []) ≡ cond b (f n ∷ []) []
    map-cond f n true = refl
    map-cond f n false = refl

-- no number of components is 0
pub some_components : (i : ℕ) → i < 4 → 0 < get_or (5 ∷ 4 ∷ 3 ∷ 2 ∷ []) i 0
some_components zero h = omega arith
some_components (suc zero) h = omega arith
some_components (suc (suc zero)) h = omega arith
some_components (suc (suc (suc zero))) h = omega arith
some_components (suc (suc (suc (suc i)))) h = absurd (omega arith)
