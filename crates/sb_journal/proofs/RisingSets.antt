-- Rising sets of full hashes.
use Rattle.std.proofs.Common.{◌≡◌, ℕ, ◌+◌, ◌<◌, List, [], ◌∷◌, ◌++◌, Bool, true, false, length, drop, map, get_or, nat_eq, refl, sym, ap, ◌∙◌, ⊎_elim, Result, Ok, Err, arith, append_assoc}
use Rattle.std.specs.Prelude.{◌↔◌, Contains, filter, is_ok}
use Rattle.std.specs.Cmp.Lexicographic.{pointwise, bytes_decides, nat_list_cmp_total, nat_list_eq_equiv, texts_ties}
use Rattle.std.specs.List.{dedup}
use Rattle.std.specs.List.Retain.{IsFiltered, DiffersFromLast}
use Rattle.std.specs.List.Sorted.{IsPermutation, IsSorted, IsSortedBy, IsNonDecreasingBy, IsBinarySearchResult, IsSearchInRange}
use Rattle.std.specs.Ordering.{is_eq, is_lt, ordering_index, ordering_reverse}
use Rattle.std.specs.declared.cmp.Ordering.TheVariants.{Less, Equal, Greater}
use Rattle.std.specs.Str.{bytes_eq}
use Rattle.std.proofs.lemmas.Bool.{cases_lt}
use Rattle.std.proofs.lemmas.List.{drop_more}
use Rattle.std.proofs.lemmas.List.Elements.{All-from_get_or}
use Rattle.std.proofs.lemmas.List.Filters.{dedup_is}
use Rattle.std.proofs.lemmas.List.Folds.{list_any_at, list_any_none}
use Rattle.std.proofs.lemmas.List.Kept.{IsStrictlySortedBy-dedup, Contains-dedup, Contains-from_dedup}
use Rattle.std.proofs.lemmas.List.Sorted.{Contains-permutation, IsPermutation-sym, searchable_from_sorted}
use Rattle.std.proofs.lemmas.Map.Keys.{Less-from_sorted}
use Rattle.std.proofs.lemmas.Map.Text.{is_eq-slice_cmp}
use Rattle.sb_model.specs.Difference.{has_member}
use Rattle.sb_model.specs.Prefixes.{bytes_cmp, IsRising, set_of}

-- ---- what is known of sets

pub record SetLaws : Type 0 where
  pub rising : (xs : List (List ℕ)) → IsRising (set_of xs)
  pub members : (xs : List (List ℕ)) (x : List ℕ) → Contains (set_of xs) x ↔ Contains xs x
  pub only : (xs ys : List (List ℕ)) → IsRising xs → IsRising ys → ((x : List ℕ) → Contains xs x ↔ Contains ys x) → xs ≡ ys

pub set_is : SetLaws → (xs ys : List (List ℕ)) → IsRising xs → ((x : List ℕ) → Contains xs x ↔ Contains ys x) → xs ≡ set_of ys
set_is laws xs ys rises same = laws.only xs (set_of ys) rises (laws.rising ys) (λ x. (λ c. (laws.members ys x).1 ((same x).0 c), λ c. (same x).1 ((laws.members ys x).0 c)))

-- hashes that are sorted, and then rid of repeats
pub sorted_without_repeats : SetLaws → (xs sorted kept : List (List ℕ)) → IsPermutation xs sorted → IsSorted bytes_cmp sorted → IsFiltered (DiffersFromLast (pointwise nat_eq)) [] sorted kept → kept ≡ set_of xs
sorted_without_repeats laws xs sorted kept moved up filtered =
    let is : kept ≡ dedup (pointwise nat_eq) sorted = dedup_is (pointwise nat_eq) sorted kept filtered in
    is ∙ set_is laws (dedup (pointwise nat_eq) sorted) xs (IsStrictlySortedBy-dedup nat_list_cmp_total texts_ties sorted up) (λ z. (
      λ h. Contains-permutation sorted xs z (IsPermutation-sym xs sorted moved) (Contains-from_dedup (pointwise nat_eq) sorted z h),
      λ h. Contains-dedup nat_list_eq_equiv (λ x y same. (bytes_decides x y).0 same) sorted z (Contains-permutation xs sorted z moved h),
    ))

-- ---- a search

pub equal_bytes : (a b : List ℕ) → bytes_cmp a b ≡ Equal → bytes_eq a b ≡ true
equal_bytes a b e = sym (is_eq-slice_cmp a b) ∙ ap is_eq e

less_bytes : (a b : List ℕ) → bytes_cmp a b ≡ Less → bytes_eq a b ≡ false
less_bytes a b e = sym (is_eq-slice_cmp a b) ∙ ap is_eq e

greater_bytes : (a b : List ℕ) → bytes_cmp a b ≡ Greater → bytes_eq a b ≡ false
greater_bytes a b e = sym (is_eq-slice_cmp a b) ∙ ap is_eq e

not_back : (a b : List ℕ) → bytes_cmp a b ≡ Less → is_lt (bytes_cmp b a) ≡ false
not_back a b e = ap is_lt (nat_list_cmp_total.antisymm b a ∙ ap ordering_reverse e)

rising_sorted : (xs : List (List ℕ)) → IsRising xs → IsSortedBy (λ a b. is_lt (bytes_cmp a b)) xs
rising_sorted xs up = λ k d low lt. not_back (get_or xs k d) (get_or xs (k + 1) d) (Less-from_sorted bytes_cmp xs k (k + 1) d up (omega arith) lt)

searchable : (xs : List (List ℕ)) (hash : List ℕ) → IsRising xs → IsNonDecreasingBy (λ y. ordering_index (bytes_cmp y hash)) xs
searchable xs hash up = searchable_from_sorted nat_list_cmp_total (λ y. y) xs hash (rising_sorted xs up)

-- what a search for a hash in a rising set finds is whether the set has it
pub has_is : (xs : List (List ℕ)) (hash : List ℕ) (r : Result ℕ ℕ) → IsRising xs → IsBinarySearchResult (λ y. bytes_cmp y hash) xs r → IsSearchInRange r (length xs) → is_ok r ≡ has_member xs hash
has_is xs hash (Ok i) up found within = sym (list_any_at (λ other. bytes_eq other hash) xs i [] within (equal_bytes (get_or xs i []) hash (found [])))
has_is xs hash (Err i) up found within =
    let cut = found (searchable xs hash up) in
    sym (list_any_none (λ other. bytes_eq other hash) xs (All-from_get_or (λ other. bytes_eq other hash ≡ false) xs [] (λ k lt. ⊎_elim
    (λ before. less_bytes (get_or xs k []) hash (cut.0 k [] (omega arith) before))
    (λ after. greater_bytes (get_or xs k []) hash (cut.1 k [] after lt)) (cases_lt k i))))

-- ---- loops over a set

-- the step of a loop that appends what comes of the members that pass
pub passed_step : {Y : Type 0} (p : List ℕ → Bool) (f : List ℕ → Y) (xs : List (List ℕ)) (i : ℕ) (x : List ℕ) (before after whole : List Y)
    → i < length xs → x ≡ get_or xs i x → before ++ map f (filter p (drop i xs)) ≡ whole → after ≡ before ++ map f (filter p (x ∷ []))
    → after ++ map f (filter p (drop (i + 1) xs)) ≡ whole
passed_step {Y} p f xs i x before after whole lt is h e =
    let left : drop i xs ≡ x ∷ drop (i + 1) xs = drop_more xs i x lt ∙ ap (λ (y : List ℕ). y ∷ drop (i + 1) xs) (sym is) in
    ap (λ (ys : List Y). ys ++ map f (filter p (drop (i + 1) xs))) e
    ∙ append_assoc before (map f (filter p (x ∷ []))) (map f (filter p (drop (i + 1) xs)))
    ∙ ap (λ (ys : List Y). before ++ ys) (one x (drop (i + 1) xs) (p x) refl ∙ ap (λ (ys : List (List ℕ)). map f (filter p ys)) (sym left)) ∙ h
  where
    one : (x : List ℕ) (ys : List (List ℕ)) (b : Bool) → p x ≡ b → map f (filter p (x ∷ [])) ++ map f (filter p ys) ≡ map f (filter p (x ∷ ys))
    one x ys true e = rw e refl
    one x ys false e = rw e refl
