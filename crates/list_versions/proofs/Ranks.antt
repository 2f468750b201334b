-- The places of the members of a rising list, by how many members come before them.
use Rattle.std.proofs.Common.{◌≡◌, ◌≢◌, ℕ, zero, suc, ◌+◌, ◌<◌, ◌≤◌, inl, inr, Bool, true, false, not, cond, List, [], ◌∷◌, length, take, map, get_or, Some, refl, sym, ap, subst, ◌∙◌, arith}
use Rattle.std.specs.Prelude.{Contains, count_by, filter, slice_get}
use Rattle.std.specs.List.{enumerate_from}
use Rattle.std.specs.Ordering.{is_lt}
use Rattle.std.specs.declared.cmp.Ordering.{Ordering}
use Rattle.std.specs.declared.cmp.Ordering.TheVariants.{Less, Equal, Greater}
use Rattle.std.proofs.lemmas.Bool.{cases_lt}
use Rattle.std.proofs.lemmas.List.{get_or-take, length-take, get_or_default}
use Rattle.std.proofs.lemmas.List.Filters.{sum_by-filter_both}
use Rattle.std.proofs.lemmas.List.Kept.{IsStrictlySortedBy-filter}
use Rattle.std.proofs.lemmas.List.Sums.{sum_by-cons}
use Rattle.std.proofs.lemmas.Map.Keys.{sorted_tail}
use Rattle.std.proofs.lemmas.Option.{get_or_from_slice_get, slice_get_within}
use Rattle.sb_model.specs.Difference.{has_member, removed_places, added_members}
use Rattle.sb_model.specs.Prefixes.{bytes_cmp, IsRising}
use Rattle.list_versions.specs.Leading.{count_before, older_place}
use Rattle.list_versions.specs.Shifting.{IsFirstAt}
use Rattle.list_versions.proofs.Mapped.{SetLaws}
use Rattle.list_versions.proofs.Membership.{In, contains_in, in_contained, in_filter, from_filter}
use Rattle.list_versions.proofs.Rising.{IsBefore, after_head, before_itself, before_trans, has_Contains, Contains-has, rising_places}

-- ---- a place is a count

-- what passes a test stands in front of what does not: then their count is the place between them
count_at_point : (test : List ℕ → Bool) (xs : List (List ℕ)) (i : ℕ) → i ≤ length xs → ((k : ℕ) (d : List ℕ) → k < i → test (get_or xs k d) ≡ true)
    → ((k : ℕ) (d : List ℕ) → i ≤ k → k < length xs → test (get_or xs k d) ≡ false) → count_by test xs ≡ i
count_at_point test [] i within passes fails = omega arith
count_at_point test (x ∷ xs) zero within passes fails =
    let none : ◌≡◌ {A = ℕ} (cond (test x) 1 0) 0 = ap (λ (b : Bool). cond {A = ℕ} b 1 0) (fails 0 x (omega arith) (omega arith)) in
    let rest = count_at_point test xs 0 (omega arith) (λ k d lt. absurd (omega arith)) (λ k d ge lt. fails (suc k) d (omega arith) (omega arith)) in
    omega (arith, sum_by-cons (λ (y : List ℕ). cond (test y) 1 0) x xs, none, rest)
count_at_point test (x ∷ xs) (suc i) within passes fails =
    let one : ◌≡◌ {A = ℕ} (cond (test x) 1 0) 1 = ap (λ (b : Bool). cond {A = ℕ} b 1 0) (passes 0 x (omega arith)) in
    let rest = count_at_point test xs i (omega arith) (λ k d lt. passes (suc k) d (omega arith)) (λ k d ge lt. fails (suc k) d (omega arith) (omega arith)) in
    omega (arith, sum_by-cons (λ (y : List ℕ). cond (test y) 1 0) x xs, one, rest)

not_lt : (o : Ordering) → (o ≡ Less → ⊥) → is_lt o ≡ false
not_lt Less h = absurd (h refl)
not_lt Equal h = refl
not_lt Greater h = refl

pub first_count : (members : List (List ℕ)) (prefix : List ℕ) (place : ℕ) → IsRising members → IsFirstAt members prefix place → count_before members prefix ≡ place
first_count members prefix place up first =
    count_at_point (λ (member : List ℕ). is_lt (bytes_cmp member prefix)) members place first.within front back
  where
    front : (k : ℕ) (d : List ℕ) → k < place → is_lt (bytes_cmp (get_or members k d) prefix) ≡ true
    front k d lt =
        let short : k < length (take place members) = omega (arith, length-take place members, first.within) in
        ap is_lt (subst (λ (x : List ℕ). bytes_cmp x prefix ≡ Less) (get_or-take place members k d lt) (first.before k d short))

    not_before : (k : ℕ) (d : List ℕ) → place ≤ k → k < length members → IsBefore (get_or members k d) prefix → ⊥
    not_before k d ge lt before =
        let inside : place < length members = omega arith in
        let here = subst (λ (x : List ℕ). bytes_cmp x prefix ≢ Less) (get_or_default members place [] d inside) (first.here inside) in
        elim (cases_lt place k) [
          | inl less ↦ here (before_trans (get_or members place d) (get_or members k d) prefix (rising_places members place k d up less lt) before)
          | inr same ↦ (let is : k ≡ place = omega arith in here (subst (λ (n : ℕ). IsBefore (get_or members n d) prefix) is before))
        ]

    back : (k : ℕ) (d : List ℕ) → place ≤ k → k < length members → is_lt (bytes_cmp (get_or members k d) prefix) ≡ false
    back k d ge lt = not_lt (bytes_cmp (get_or members k d) prefix) (not_before k d ge lt)

pub member_count : (members : List (List ℕ)) (place : ℕ) (x : List ℕ) → IsRising members → slice_get members place ≡ Some x → count_before members x ≡ place
member_count members place x up is = first_count members x place up (record { within = within; before = before; here = here })
  where
    inside : place < length members
    inside = slice_get_within members place x is

    within : place ≤ length members
    within = omega (arith, inside)

    before : (k : ℕ) (d : List ℕ) → k < length (take place members) → bytes_cmp (get_or (take place members) k d) x ≡ Less
    before k d short =
        let lt : k < place = omega (arith, length-take place members) in
        subst (λ (y : List ℕ). IsBefore y x) (sym (get_or-take place members k d lt))
        (subst (λ (y : List ℕ). IsBefore (get_or members k d) y) (get_or_from_slice_get members place x d is) (rising_places members k place d up lt inside))

    here : place < length members → bytes_cmp (get_or members place []) x ≢ Less
    here lt less = before_itself x (subst (λ (y : List ℕ). IsBefore y x) (get_or_from_slice_get members place x [] is) less)

-- ---- the places that were removed are counts

agree : (f g : List ℕ → ℕ) (xs : List (List ℕ)) → ((x : List ℕ) → In x xs → f x ≡ g x) → map f xs ≡ map g xs
agree f g [] h = refl
agree f g (x ∷ xs) h = let rest = agree f g xs (λ y k. h y (inr k)) in let here = h x (inl refl) in λ i. here i ∷ rest i

abbrev numbered : ℕ → List (List ℕ) → List (List ℕ) → List ℕ
numbered n xs newer = map (λ (member : ℕ × List ℕ). member.0) (filter (λ (member : ℕ × List ℕ). not (has_member newer member.1)) (enumerate_from n xs))

-- one more stands in front
one_more : (x r : List ℕ) (xs : List (List ℕ)) → IsBefore x r → count_before (x ∷ xs) r ≡ 1 + count_before xs r
one_more x r xs before =
    let one : ◌≡◌ {A = ℕ} (cond (is_lt (bytes_cmp x r)) 1 0) 1 = ap (λ (o : Ordering). cond {A = ℕ} (is_lt o) 1 0) before in
    omega (arith, sum_by-cons (λ (y : List ℕ). cond (is_lt (bytes_cmp y r)) 1 0) x xs, one)

numbered_step : (n : ℕ) (x : List ℕ) (members : List (List ℕ)) (f : List ℕ → ℕ) (xs : List (ℕ × List ℕ)) (b : Bool) → n ≡ f x → map (λ (member : ℕ × List ℕ). member.0) xs ≡ map f members
    → map (λ (member : ℕ × List ℕ). member.0) (cond b ((n, x) ∷ xs) xs) ≡ map f (cond b (x ∷ members) members)
numbered_step n x members f xs true here more = λ i. here i ∷ more i
numbered_step n x members f xs false here more = more

counted : (n : ℕ) (xs newer : List (List ℕ)) → IsRising xs → numbered n xs newer ≡ map (λ r. n + count_before xs r) (added_members newer xs)
counted n [] newer up = refl
counted n (x ∷ xs) newer up =
    let first : count_before (x ∷ xs) x ≡ 0 = member_count (x ∷ xs) 0 x up refl in
    let here : n ≡ n + count_before (x ∷ xs) x = omega arith in
    let more = counted (n + 1) xs newer (sorted_tail bytes_cmp x xs up)
    ∙ agree (λ r. n + 1 + count_before xs r) (λ r. n + count_before (x ∷ xs) r) (added_members newer xs)
    (λ r k.
    let there = (from_filter (λ (member : List ℕ). not (has_member newer member)) r xs k).0 in
    omega (arith, one_more x r xs (after_head x r xs up (contains_in r xs there)))) in
    numbered_step n x (added_members newer xs) (λ r. n + count_before (x ∷ xs) r) _ (not (has_member newer x)) here more

-- ---- what two lists have is counted in either

shared : (xs ys : List (List ℕ)) (z : List ℕ) → Contains (filter (has_member ys) xs) z → Contains (filter (has_member xs) ys) z
shared xs ys z c =
    let from = from_filter (has_member ys) z xs (in_contained z (filter (has_member ys) xs) c) in
    contains_in z (filter (has_member xs) ys) (in_filter (has_member xs) z ys (Contains-has xs z (contains_in z xs from.0)) (in_contained z ys (has_Contains ys z from.1)))

same_shared : SetLaws → (old newer : List (List ℕ)) → IsRising old → IsRising newer → filter (has_member newer) old ≡ filter (has_member old) newer
same_shared laws old newer up_old up_newer =
    laws.only (filter (has_member newer) old) (filter (has_member old) newer)
    (IsStrictlySortedBy-filter bytes_cmp (has_member newer) old up_old) (IsStrictlySortedBy-filter bytes_cmp (has_member old) newer up_newer)
    (λ z. (shared old newer z, shared newer old z))

divided : (set xs : List (List ℕ)) (r : List ℕ) → count_before (filter (has_member set) xs) r + count_before (added_members set xs) r ≡ count_before xs r
divided set xs r = sum_by-filter_both (has_member set) (λ (x : List ℕ). not (has_member set x)) (λ _. refl) (λ (y : List ℕ). cond (is_lt (bytes_cmp y r)) 1 0) xs

balanced : SetLaws → (old newer : List (List ℕ)) (r : List ℕ) → IsRising old → IsRising newer
    → count_before old r + count_before (added_members old newer) r ≡ count_before newer r + count_before (added_members newer old) r
balanced laws old newer r up_old up_newer =
    let same : count_before (filter (has_member newer) old) r ≡ count_before (filter (has_member old) newer) r = ap (λ (xs : List (List ℕ)). count_before xs r) (same_shared laws old newer up_old up_newer) in
    omega (arith, same, divided newer old r, divided old newer r)

-- The place of a member that a newer list lacks is counted in the newer list: with the others that it lacks, and without those
-- that it alone has.
pub places_by_counts : SetLaws → (old newer : List (List ℕ)) → IsRising old → IsRising newer
    → removed_places old newer ≡ map (older_place newer (added_members newer old) (added_members old newer)) (added_members newer old)
places_by_counts laws old newer up_old up_newer =
    counted 0 old newer up_old
    ∙ agree (λ r. 0 + count_before old r) (older_place newer (added_members newer old) (added_members old newer)) (added_members newer old)
    (λ r k. omega (arith, balanced laws old newer r up_old up_newer))
