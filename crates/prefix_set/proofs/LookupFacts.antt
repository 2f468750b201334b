-- Where the members with the first two bytes of a prefix are, and how many steps a look-up among them takes.
use Rattle.std.proofs.Common.{◌≡◌, ◌≢◌, ℕ, zero, suc, ◌+◌, ◌*◌, ◌^◌, ◌<◌, ◌≤◌, ◌⊎◌, inl, inr, Bool, true, false, cond, List, [], ◌∷◌, length, take, drop, map, get_or, refl, sym, ap, subst, ◌∙◌, arith}
use Rattle.std.specs.Prelude.{◌↔◌, ◌==◌, ◌&&◌, IsTrue, slice_index, nat_lt}
use Rattle.std.proofs.Common.{add-one}
use Rattle.std.proofs.Math.Nat.{pow-succ', mul-le-mul_right}
use Rattle.std.proofs.Math.Pow.{pow-lt}
use Rattle.std.specs.List.{AllWithin, Contains, count_by}
use Rattle.std.specs.List.Sorted.{IsNonDecreasing, IsPartitionedBy}
use Rattle.std.specs.declared.cmp.Ordering.{Ordering}
use Rattle.std.specs.declared.cmp.Ordering.TheVariants.{Less, Equal, Greater}
use Rattle.std.proofs.lemmas.Bool.{cases_lt, ltb-false, ltb-true, le-ltb, lt-ltb, eqb-true, eq-eqb, false≢true}
use Rattle.std.proofs.lemmas.List.{get_or-map, get_or_default, get_or-take, get_or-drop, length-take, length-drop, length-map, take-append-drop}
use Rattle.std.proofs.lemmas.List.Elements.{All-contains, Contains-append_cases}
use Rattle.std.proofs.lemmas.List.Sums.{sum_by-cons, count_by-le-length}
use Rattle.std.proofs.lemmas.Map.Lookups.{exact_bytes}
use Rattle.sb_model.specs.Prefixes.{bytes_cmp, IsRising}
use Rattle.prefix_set.specs.Index.{head_number, begins_alike, alike_count, count_below, HaveHeads}
use Rattle.prefix_set.specs.Search.{AreBefore, AreAfter, IsPlaceOf, IsSpanOf}
use Rattle.prefix_set.proofs.DifferenceFacts.{has_Contains, Contains-has, has_at_place, has_not_at_place}
use Rattle.prefix_set.proofs.IndexFacts.{head_order}
use Rattle.prefix_set.proofs.SearchFacts.{rising_places, after_place}
use Rattle.prefix_set.proofs.SetFacts.{IsBefore, before_both, before_flip, before_itself}

-- ---- counts and places

-- what passes a test stands in front of what does not: then their count is the place between them
pub count_at_point : (test : List ℕ → Bool) (xs : List (List ℕ)) (i : ℕ) → i ≤ length xs
    → ((k : ℕ) (d : List ℕ) → k < i → test (get_or xs k d) ≡ true) → ((k : ℕ) (d : List ℕ) → i ≤ k → k < length xs → test (get_or xs k d) ≡ false)
    → count_by test xs ≡ i
count_at_point test [] i within passes fails = omega arith
count_at_point test (x ∷ xs) zero within passes fails =
    let none : ◌≡◌ {A = ℕ} (cond (test x) 1 0) 0 = ap (λ (b : Bool). cond {A = ℕ} b 1 0) (fails 0 x (omega arith) (omega arith)) in
    omega (
      arith,
      sum_by-cons (λ (y : List ℕ). cond (test y) 1 0) x xs,
      none,
      count_at_point test xs 0 (omega arith) (λ k d lt. absurd (omega arith)) (λ k d ge lt. fails (suc k) d (omega arith) (omega arith)),
    )
count_at_point test (x ∷ xs) (suc i) within passes fails =
    let one : ◌≡◌ {A = ℕ} (cond (test x) 1 0) 1 = ap (λ (b : Bool). cond {A = ℕ} b 1 0) (passes 0 x (omega arith)) in
    omega (
      arith,
      sum_by-cons (λ (y : List ℕ). cond (test y) 1 0) x xs,
      one,
      count_at_point test xs i (omega arith) (λ k d lt. passes (suc k) d (omega arith)) (λ k d ge lt. fails (suc k) d (omega arith) (omega arith)),
    )

none_pass : (test : List ℕ → Bool) (xs : List (List ℕ)) → ((k : ℕ) (d : List ℕ) → k < length xs → test (get_or xs k d) ≡ false) → count_by test xs ≡ 0
none_pass test xs fails = count_at_point test xs 0 (omega arith) (λ k d lt. absurd (omega arith)) (λ k d ge lt. fails k d lt)

-- and the other way round, where the test divides the list
pub record DividesAt (test : List ℕ → Bool) (xs : List (List ℕ)) (count : ℕ) : Type 0 where
  pub front : (k : ℕ) (d : List ℕ) → k < count → test (get_or xs k d) ≡ true
  pub back : (k : ℕ) (d : List ℕ) → count ≤ k → k < length xs → test (get_or xs k d) ≡ false

-- one more that passes, in front
divides_more : (test : List ℕ → Bool) (x : List ℕ) (xs : List (List ℕ)) (count : ℕ) → test x ≡ true → DividesAt test xs count → DividesAt test (x ∷ xs) (suc count)
divides_more test x xs count is rest = record { front = front; back = back }
  where
    front : (k : ℕ) (d : List ℕ) → k < suc count → test (get_or (x ∷ xs) k d) ≡ true
    front zero d lt = is
    front (suc k) d lt = rest.front k d (omega arith)

    back : (k : ℕ) (d : List ℕ) → suc count ≤ k → k < length (x ∷ xs) → test (get_or (x ∷ xs) k d) ≡ false
    back zero d ge lt = absurd (omega arith)
    back (suc k) d ge lt = rest.back k d (omega arith) (omega arith)

-- where the first fails, all fail
all_fail : (test : List ℕ → Bool) (x : List ℕ) (xs : List (List ℕ)) → IsPartitionedBy test (x ∷ xs) → test x ≡ false
    → (k : ℕ) (d : List ℕ) → k < length (x ∷ xs) → test (get_or (x ∷ xs) k d) ≡ false
all_fail test x xs parted is k d within = go (test (get_or (x ∷ xs) k d)) (λ h. parted 0 k d (omega arith) within h)
  where
    go : (b : Bool) → (b ≡ true → test x ≡ true) → b ≡ false
    go true h = absurd (false≢true (sym is ∙ h refl))
    go false h = refl

pub divides_at_count : (test : List ℕ → Bool) (xs : List (List ℕ)) → IsPartitionedBy test xs → DividesAt test xs (count_by test xs)
divides_at_count test [] parted = record { front = λ k d lt. absurd (omega arith); back = λ k d ge lt. absurd (omega arith) }
divides_at_count test (x ∷ xs) parted = go (test x) refl (divides_at_count test xs (λ i j d order within. parted (suc i) (suc j) d (omega arith) (omega arith)))
  where
    go : (b : Bool) → test x ≡ b → DividesAt test xs (count_by test xs) → DividesAt test (x ∷ xs) (count_by test (x ∷ xs))
    go true is rest =
        let one : ◌≡◌ {A = ℕ} (cond (test x) 1 0) 1 = ap (λ (b : Bool). cond {A = ℕ} b 1 0) is in
        let whole : suc (count_by test xs) ≡ count_by test (x ∷ xs) = omega (arith, sum_by-cons (λ (y : List ℕ). cond (test y) 1 0) x xs, one) in
        subst (DividesAt test (x ∷ xs)) whole (divides_more test x xs (count_by test xs) is rest)
    go false is rest =
        subst (DividesAt test (x ∷ xs)) (sym (none_pass test (x ∷ xs) (all_fail test x xs parted is)))
        (record { front = λ k d lt. absurd (omega arith); back = λ k d ge lt. all_fail test x xs parted is k d lt })

-- ---- heads in order

module _ (members : List (List ℕ)) (up : IsRising members) (heads : HaveHeads members) where
  -- no later member has a lower head
  head_rises : (i j : ℕ) (d : List ℕ) → i ≤ j → j < length members → head_number (get_or members i d) ≤ head_number (get_or members j d)
  head_rises i j d order within = elim (cases_lt i j) [
    | inl lt ↦ head_order (get_or members i d) (get_or members j d) (heads i d (omega arith)) (rising_places members i j d up lt within)
    | inr ge ↦ let same : i ≡ j = omega arith in subst (λ (n : ℕ). head_number (get_or members i d) ≤ head_number (get_or members n d)) same (omega arith)
  ]

  pub parted_below : (head : ℕ) → IsPartitionedBy (λ member. nat_lt (head_number member) head) members
  parted_below head i j d order within passes =
      lt-ltb (head_number (get_or members i d)) head
      (omega (arith, head_rises i j d order within, ltb-true (head_number (get_or members j d)) head passes))

  -- the heads themselves stand in order
  pub heads_in_order : (numbers : List ℕ) → numbers ≡ map head_number members → IsNonDecreasing numbers
  heads_in_order numbers is = subst IsNonDecreasing (sym is) (λ i j d order within.
      let inside : j < length members = omega (arith, length-map members head_number) in
      let earlier : i < length members = omega arith in
      subst (λ (n : ℕ). n ≤ get_or (map head_number members) j d) (sym (get_or-map head_number members i [] d earlier))
      (subst (λ (n : ℕ). head_number (get_or members i []) ≤ n) (sym (get_or-map head_number members j [] d inside)) (head_rises i j [] order inside)))

  -- the heads in front of a place are below, and the others are not
  pub start_of_heads : (numbers given : List ℕ) (head point : ℕ) → given ≡ numbers → numbers ≡ map head_number members → point ≤ length given
      → AllWithin (λ y. y < head) given 0 point → AllWithin (λ y. head ≤ y) given point (length given) → point ≡ count_below members head
  start_of_heads numbers given head point same is within passes fails =
      let long : length given ≡ length members = ap length (same ∙ is) ∙ length-map members head_number in
      let inside : point ≤ length members = omega arith in
      sym (count_at_point (λ member. nat_lt (head_number member) head) members point inside
      (λ k d lt. let here : k < length members = omega arith in
      lt-ltb (head_number (get_or members k d)) head (subst (λ (y : ℕ). y < head) (at k d here) (passes k 0 (omega arith) lt)))
      (λ k d ge lt. le-ltb (head_number (get_or members k d)) head (subst (λ (y : ℕ). head ≤ y) (at k d lt) (fails k 0 ge (omega arith)))))
    where
      at : (k : ℕ) (d : List ℕ) → k < length members → get_or given k 0 ≡ head_number (get_or members k d)
      at k d lt = ap (λ (ys : List ℕ). get_or ys k 0) (same ∙ is) ∙ get_or-map head_number members k d 0 lt

  -- the members in front of the span of a prefix come before it, and those behind come after it
  module _ (prefix : List ℕ) (second : slice_index prefix 1 < 256) where
    abbrev head : ℕ
    head = head_number prefix

    abbrev start : ℕ
    start = count_below members head

    abbrev end : ℕ
    end = count_below members (head + 1)

    front_of_span : (k : ℕ) (d : List ℕ) → k < start → head_number (get_or members k d) < head
    front_of_span k d lt = ltb-true (head_number (get_or members k d)) head ((divides_at_count (λ member. nat_lt (head_number member) head) members (parted_below head)).front k d lt)

    back_of_span : (k : ℕ) (d : List ℕ) → end ≤ k → k < length members → head < head_number (get_or members k d)
    back_of_span k d ge lt =
        omega (arith, ltb-false (head_number (get_or members k d)) (head + 1) ((divides_at_count (λ member. nat_lt (head_number member) (head + 1)) members (parted_below (head + 1))).back k d ge lt))

    pub span_within : end ≤ length members
    span_within = count_by-le-length (λ member. nat_lt (head_number member) (head + 1)) members

    -- a member with a lower head comes before the prefix
    lower_before : (x y : List ℕ) → slice_index y 1 < 256 → head_number x < head_number y → IsBefore x y
    lower_before x y fits lt = go (bytes_cmp x y) refl
      where
        go : (o : Ordering) → bytes_cmp x y ≡ o → IsBefore x y
        go Less is = is
        go Equal is = absurd (omega (arith, lt, ap head_number (exact_bytes x y is)))
        go Greater is = absurd (omega (arith, lt, head_order y x fits (before_flip x y is)))

    pub before_span : AreBefore (take start members) prefix
    before_span k d within =
        let below : k < start = omega (arith, length-take start members) in
        subst (λ (x : List ℕ). IsBefore x prefix) (sym (get_or-take start members k d below))
        (lower_before (get_or members k d) prefix second (front_of_span k d below))

    pub after_span : AreAfter (drop end members) prefix
    after_span k d within =
        let inside : end + k < length members = omega (arith, length-drop end members) in
        let behind : end ≤ end + k = omega arith in
        subst (IsBefore prefix) (sym (get_or-drop end members k d))
        (lower_before prefix (get_or members (end + k) d) (heads (end + k) d inside) (back_of_span (end + k) d behind inside))

-- what comes after a prefix does not come before it
pub not_before_from_after : (members : List (List ℕ)) (prefix : List ℕ) (place : ℕ) → AreAfter (drop place members) prefix → place < length members
    → bytes_cmp (get_or members place []) prefix ≢ Less
not_before_from_after members prefix place after within before =
    let some : 0 < length (drop place members) = omega (arith, length-drop place members) in
    let here : place + 0 ≡ place = omega arith in
    let later : IsBefore prefix (get_or members place []) =
    subst (λ (n : ℕ). IsBefore prefix (get_or members n [])) here (subst (IsBefore prefix) (get_or-drop place members 0 []) (after 0 [] some)) in
    before_both prefix (get_or members place []) later before

-- ---- the count of a span

both_tests : (a b : ℕ) (c d : ℕ) → (a == b && c == d) ≡ true → (a ≡ b) × (c ≡ d)
both_tests a b c d h = go (a == b) refl (c == d) refl h
  where
    go : (s : Bool) → (a == b) ≡ s → (t : Bool) → (c == d) ≡ t → (s && t) ≡ true → (a ≡ b) × (c ≡ d)
    go true is_s true is_t h = (eqb-true a b is_s, eqb-true c d is_t)
    go true is_s false is_t h = absurd (false≢true h)
    go false is_s t is_t h = absurd (false≢true h)

-- prefixes that begin alike have one head, and the other way round
unlike : (x prefix : List ℕ) → (head_number x ≡ head_number prefix → ⊥) → begins_alike x prefix ≡ false
unlike x prefix differ = go (begins_alike x prefix) refl
  where
    go : (b : Bool) → begins_alike x prefix ≡ b → b ≡ false
    go true is =
        let same : (slice_index x 0 ≡ slice_index prefix 0) × (slice_index x 1 ≡ slice_index prefix 1) = both_tests _ _ _ _ is in
        absurd (differ (omega (arith, same.0, same.1)))
    go false is = refl

alike : (x prefix : List ℕ) → slice_index x 1 < 256 → slice_index prefix 1 < 256 → head_number x ≡ head_number prefix → begins_alike x prefix ≡ true
alike x prefix second_x second same =
    let first : slice_index x 0 ≡ slice_index prefix 0 = omega arith in
    let next : slice_index x 1 ≡ slice_index prefix 1 = omega arith in
    (λ i. eq-eqb (slice_index x 0) (slice_index prefix 0) first i && eq-eqb (slice_index x 1) (slice_index prefix 1) next i)

-- a head is at most another one where it is below it, or is the same
one_more : (x prefix : List ℕ) → slice_index x 1 < 256 → slice_index prefix 1 < 256
    → ◌≡◌ {A = ℕ} (cond (nat_lt (head_number x) (head_number prefix + 1)) 1 0) (cond (nat_lt (head_number x) (head_number prefix)) 1 0 + cond (begins_alike x prefix) 1 0)
one_more x prefix second_x second = go (cases_lt (head_number x) (head_number prefix)) (cases_lt (head_number prefix) (head_number x))
  where
    counted : (a b c : Bool) → nat_lt (head_number x) (head_number prefix + 1) ≡ a → nat_lt (head_number x) (head_number prefix) ≡ b → begins_alike x prefix ≡ c
        → ◌≡◌ {A = ℕ} (cond a 1 0) (cond b 1 0 + cond c 1 0)
        → ◌≡◌ {A = ℕ} (cond (nat_lt (head_number x) (head_number prefix + 1)) 1 0) (cond (nat_lt (head_number x) (head_number prefix)) 1 0 + cond (begins_alike x prefix) 1 0)
    counted a b c is_a is_b is_c same = (λ i. cond {A = ℕ} (is_a i) 1 0) ∙ same ∙ sym (λ i. cond {A = ℕ} (is_b i) 1 0 + cond {A = ℕ} (is_c i) 1 0)

    go : (head_number x < head_number prefix) ⊎ (head_number prefix ≤ head_number x) → (head_number prefix < head_number x) ⊎ (head_number x ≤ head_number prefix)
        → ◌≡◌ {A = ℕ} (cond (nat_lt (head_number x) (head_number prefix + 1)) 1 0) (cond (nat_lt (head_number x) (head_number prefix)) 1 0 + cond (begins_alike x prefix) 1 0)
    go (inl lt) other = counted true true false (lt-ltb (head_number x) (head_number prefix + 1) (omega arith)) (lt-ltb (head_number x) (head_number prefix) lt)
        (unlike x prefix (λ same. omega (arith, lt, same))) refl
    go (inr ge) (inl gt) = counted false false false (le-ltb (head_number x) (head_number prefix + 1) (omega arith)) (le-ltb (head_number x) (head_number prefix) ge)
        (unlike x prefix (λ same. omega (arith, gt, same))) refl
    go (inr ge) (inr le) = counted true false true (lt-ltb (head_number x) (head_number prefix + 1) (omega arith)) (le-ltb (head_number x) (head_number prefix) ge)
        (alike x prefix second_x second (omega arith)) refl

-- as many members are in the span of a prefix as begin with its first two bytes
pub span_count : (members : List (List ℕ)) (prefix : List ℕ) → HaveHeads members → slice_index prefix 1 < 256
    → count_below members (head_number prefix + 1) ≡ count_below members (head_number prefix) + alike_count members prefix
span_count [] prefix heads second = refl
span_count (x ∷ xs) prefix heads second =
    omega (
      arith,
      sum_by-cons (λ (y : List ℕ). cond (nat_lt (head_number y) (head_number prefix + 1)) 1 0) x xs,
      sum_by-cons (λ (y : List ℕ). cond (nat_lt (head_number y) (head_number prefix)) 1 0) x xs,
      sum_by-cons (λ (y : List ℕ). cond (begins_alike y prefix) 1 0) x xs,
      one_more x prefix (heads 0 [] (omega arith)) second,
      span_count xs prefix (λ k d within. heads (suc k) d (omega arith)) second,
    )

-- ---- steps of a look-up

-- So many steps led from one number to another, and each halved what is left of a whole.
pub record HasHalved (whole left old new : ℕ) : Type 0 where
  pub steps : ℕ
  pub is : new ≡ old + steps
  pub halved : left * 2 ^ steps ≤ whole
  pub few : 2 ^ steps ≤ 2 * whole + 1

pub halved_none : (whole old : ℕ) → HasHalved whole whole old old
halved_none whole old = record { steps = 0; is = omega arith; halved = omega arith; few = omega arith }

pub halved_more : (whole left rest old new : ℕ) → HasHalved whole left old new → 0 < left → 2 * rest ≤ left → HasHalved whole rest old (new + 1)
halved_more whole left rest old new h some half =
    let twice : 2 ^ (h.steps + 1) ≡ 2 * 2 ^ h.steps = rw add-one (pow-succ' 2 h.steps) in
    let once : 1 * 2 ^ h.steps ≤ left * 2 ^ h.steps = mul-le-mul_right (2 ^ h.steps) some in
    let less : (2 * rest) * 2 ^ h.steps ≤ left * 2 ^ h.steps = mul-le-mul_right (2 ^ h.steps) half in
    record {
      steps = h.steps + 1;
      is = omega (arith, h.is);
      halved = omega (arith, twice, less, h.halved, ap (λ (n : ℕ). rest * n) twice);
      few = omega (arith, twice, once, h.halved);
    }

-- there are few of them
pub steps_small : (whole left old new : ℕ) → HasHalved whole left old new → whole ≤ 1048576 → old < 2 ^ 32 → new < 2 ^ 63
steps_small whole left old new h small low = elim (cases_lt 63 h.steps) [
  | inl many ↦ absurd (omega (arith, pow-lt many, h.few))
  | inr few ↦ omega (arith, h.is)
]

-- a step and the end of the search are within the bound
pub halved_bound : (whole left old new : ℕ) → HasHalved whole left old new → (r : ℕ) × (new ≡ old + r) × (2 ^ r ≤ 4 * whole + 2)
halved_bound whole left old new h = (h.steps, h.is, omega (arith, h.few))

-- ---- what a look-up answers

pub found_here : (members : List (List ℕ)) (prefix : List ℕ) (place : ℕ) → place < length members → bytes_cmp (get_or members place []) prefix ≡ Equal → Contains members prefix
found_here members prefix place within same =
    let is : get_or members place [] ≡ prefix = exact_bytes (get_or members place []) prefix same in
    (place, within, get_or_default members place prefix [] within ∙ is)

pub found_nowhere : (members : List (List ℕ)) (prefix : List ℕ) (place : ℕ) → AreBefore (take place members) prefix → AreAfter (drop place members) prefix → Contains members prefix → ⊥
found_nowhere members prefix place before after h =
    elim (Contains-append_cases (take place members) (drop place members) prefix (subst (λ (ys : List (List ℕ)). Contains ys prefix) (sym (take-append-drop place members)) h)) [
      | inl front ↦ before_itself prefix (All-contains (λ y. IsBefore y prefix) (take place members) prefix before front)
      | inr back ↦ before_itself prefix (All-contains (λ y. IsBefore prefix y) (drop place members) prefix after back)
    ]

-- the members from one that comes after a prefix on come after it
pub after_from : (members : List (List ℕ)) (prefix : List ℕ) (place : ℕ) → IsRising members → place < length members
    → bytes_cmp (get_or members place []) prefix ≡ Greater → AreAfter (drop place members) prefix
after_from members prefix place up within greater k d inside =
    let there : place + k < length members = omega (arith, length-drop place members) in
    let first : IsBefore prefix (get_or members place d) =
    subst (IsBefore prefix) (get_or_default members place [] d within) (before_flip (get_or members place []) prefix greater) in
    subst (IsBefore prefix) (sym (get_or-drop place members k d)) (after_place members prefix place k d up there first)

-- the places that an index gives
pub span_of_prefix : (members : List (List ℕ)) (prefix : List ℕ) (head start end : ℕ) → IsRising members → HaveHeads members → slice_index prefix 1 < 256
    → head ≡ head_number prefix → start ≡ count_below members head → end ≡ count_below members (head + 1) → IsSpanOf members prefix start end
span_of_prefix members prefix head start end up heads second is_head is_start is_end =
    let from : count_below members (head_number prefix) ≡ start = sym (is_start ∙ ap (count_below members) is_head) in
    let to : count_below members (head_number prefix + 1) ≡ end = sym (is_end ∙ ap (λ (h : ℕ). count_below members (h + 1)) is_head) in
    record {
      within = subst (λ (n : ℕ). n ≤ length members) to (span_within members up heads prefix second);
      count = sym to ∙ span_count members prefix heads second ∙ ap (λ (n : ℕ). n + alike_count members prefix) from;
      before = subst (λ (n : ℕ). AreBefore (take n members) prefix) from (before_span members up heads prefix second);
      after = subst (λ (n : ℕ). AreAfter (drop n members) prefix) to (after_span members up heads prefix second);
    }

-- a place tells whether a prefix is a member
pub found_at_place : (members : List (List ℕ)) (prefix : List ℕ) (index past : ℕ) (found : Bool) → IsPlaceOf members prefix index past
    → (IsTrue found ↔ (index < past)) → (IsTrue found ↔ Contains members prefix)
found_at_place members prefix index past found place tells = (
  λ h. has_Contains members prefix (has_at_place members prefix index past place (tells.0 h)),
  λ h. elim (cases_lt index past) [
    | inl lt ↦ tells.1 lt
    | inr ge ↦ absurd (false≢true (sym (has_not_at_place members prefix index past place ge) ∙ Contains-has members prefix h))
  ],
)
