-- An index of rising members by their first two bytes.
use Rattle.std.proofs.Common.{◌≡◌, ℕ, ◌+◌, ◌-◌, ◌<◌, ◌≤◌, ◌⊎◌, inl, inr, Bool, true, cond, List, [], ◌∷◌, ◌++◌, length, take, map, replicate, get_or, refl, sym, ap, subst, ◌∙◌, arith}
use Rattle.std.specs.Prelude.{slice_get, slice_index, Some, nat_lt}
use Rattle.std.specs.List.{All, Contains, count_by}
use Rattle.std.specs.declared.cmp.Ordering.{Ordering}
use Rattle.std.specs.declared.cmp.Ordering.TheVariants.{Less}
use Rattle.std.specs.Ordering.{nat_cmp, ordering_then}
use Rattle.std.proofs.lemmas.Bool.{cases_lt, le-ltb, lt-ltb}
use Rattle.std.proofs.lemmas.Cmp.{by_ranked, ranked}
use Rattle.std.proofs.lemmas.List.{map_more, take_all, get_or_append_left, get_or-append_right, get_or-replicate, length-append, length-replicate, length-take-le}
use Rattle.std.proofs.lemmas.List.Elements.{All-more, All-nil, All-weaker, All-contains}
use Rattle.std.proofs.lemmas.List.Sums.{sum_by-cons, count_by_more_no}
use Rattle.std.proofs.lemmas.Option.{get_or_from_slice_get, slice_get_within}
use Rattle.sb_model.specs.Prefixes.{bytes_cmp, IsRising}
use Rattle.prefix_set.specs.Index.{head_number, count_below, ArePlacesOf}
use Rattle.prefix_set.proofs.SearchFacts.{rising_places}
use Rattle.prefix_set.proofs.SetFacts.{IsBefore, Contains-here, Contains-there}

-- a prefix that comes before another has no greater head
pub head_order : (x y : List ℕ) → slice_index x 1 < 256 → IsBefore x y → head_number x ≤ head_number y
head_order [] y second before = omega arith
head_order (a ∷ x) [] second before = cc before
head_order (a ∷ x) (b ∷ y) second before = by_ranked (a < b) (a ≡ b) (b < a) (nat_cmp a b) (ranked a b (nat_cmp a b) refl)
    (λ is lt. omega (arith, second))
    (λ is same. rest x y second same (subst (λ (o : Ordering). ordering_then o (bytes_cmp x y) ≡ Less) is before))
    (λ is gt. cc (subst (λ (o : Ordering). ordering_then o (bytes_cmp x y) ≡ Less) is before))
  where
    rest : (x y : List ℕ) → get_or (a ∷ x) 1 0 < 256 → a ≡ b → bytes_cmp x y ≡ Less → head_number (a ∷ x) ≤ head_number (b ∷ y)
    rest [] y second same before = omega (arith, same)
    rest (c ∷ x) [] second same before = cc before
    rest (c ∷ x) (d ∷ y) second same before = by_ranked (c < d) (c ≡ d) (d < c) (nat_cmp c d) (ranked c d (nat_cmp c d) refl)
        (λ is lt. omega (arith, same, lt))
        (λ is equal. omega (arith, same, equal))
        (λ is gt. cc (subst (λ (o : Ordering). ordering_then o (bytes_cmp x y) ≡ Less) is before))

-- one member more
pub All-next : (P : List ℕ → Type 0) (xs : List (List ℕ)) (i : ℕ) (x : List ℕ) → slice_get xs i ≡ Some x → All P (take i xs) → P x → All P (take (i + 1) xs)
All-next P xs i x is all here = All-more P xs i [] (slice_get_within xs i x is) all (subst P (sym (get_or_from_slice_get xs i x [] is)) here)

pub heads_more : (xs : List (List ℕ)) (i head : ℕ) (x : List ℕ) (heads new : List ℕ) → slice_get xs i ≡ Some x → head ≡ head_number x
    → heads ≡ map head_number (take i xs) → new ≡ heads ++ head ∷ [] → new ≡ map head_number (take (i + 1) xs)
heads_more xs i head x heads new is value so_far pushed =
    pushed ∙ (λ j. so_far j ++ value j ∷ [])
    ∙ ap (λ (y : List ℕ). map head_number (take i xs) ++ head_number y ∷ []) (sym (get_or_from_slice_get xs i x [] is))
    ∙ sym (map_more head_number xs i [] (slice_get_within xs i x is))

-- ---- places, member by member

count_all : (test : List ℕ → Bool) (xs : List (List ℕ)) → ((z : List ℕ) → Contains xs z → test z ≡ true) → count_by test xs ≡ length xs
count_all test [] all = refl
count_all test (x ∷ xs) all =
    let one : ◌≡◌ {A = ℕ} (cond (test x) 1 0) 1 = ap (λ (b : Bool). cond {A = ℕ} b 1 0) (all x (Contains-here x xs)) in
    omega (arith, sum_by-cons (λ (y : List ℕ). cond (test y) 1 0) x xs, one, count_all test xs (λ z h. all z (Contains-there x z xs h)))

-- all heads are below
count_below_all : (xs : List (List ℕ)) (head : ℕ) → All (λ x. head_number x < head) xs → count_below xs head ≡ length xs
count_below_all xs head below =
    count_all (λ member. nat_lt (head_number member) head) xs
    (λ z h. lt-ltb (head_number z) head (All-contains (λ x. head_number x < head) xs z below h))

-- a further member with no lower head is not counted
count_below_more : (xs : List (List ℕ)) (i head : ℕ) (x : List ℕ) → slice_get xs i ≡ Some x → head ≤ head_number x
    → count_below (take (i + 1) xs) head ≡ count_below (take i xs) head
count_below_more xs i head x is high =
    count_by_more_no (λ member. nat_lt (head_number member) head) xs i [] (slice_get_within xs i x is)
    (ap (λ (y : List ℕ). nat_lt (head_number y) head) (get_or_from_slice_get xs i x [] is) ∙ le-ltb (head_number x) head high)

-- The places so far are those of the first members, and go as far as their heads. No later member has a head below them, but for the last.
pub record ArePlacesSoFar (places : List ℕ) (members : List (List ℕ)) (count : ℕ) : Type 0 where
  pub short : length places ≤ 65536
  pub each : (head : ℕ) → head < length places → slice_index places head ≡ count_below (take count members) head
  pub below : All (λ x. head_number x < length places) (take count members)
  pub ahead : (j : ℕ) (y : List ℕ) → count ≤ j → slice_get members j ≡ Some y → length places ≤ head_number y + 1

pub no_places : (members : List (List ℕ)) → ArePlacesSoFar [] members 0
no_places members = record {
  short = omega arith;
  each = λ head lt. absurd (omega arith);
  below = All-nil (λ x. head_number x < 0);
  ahead = λ j y order is. omega arith;
}

-- a later member has no lower head
later_head : (members : List (List ℕ)) (i j : ℕ) (x y : List ℕ) → IsRising members → slice_get members i ≡ Some x → slice_get members j ≡ Some y → i < j
    → slice_index x 1 < 256 → head_number x ≤ head_number y
later_head members i j x y up is_x is_y lt second =
    head_order x y second
    (subst (λ (z : List ℕ). IsBefore z y) (get_or_from_slice_get members i x [] is_x)
    (subst (IsBefore (get_or members i [])) (get_or_from_slice_get members j y [] is_y)
    (rising_places members i j [] up lt (slice_get_within members j y is_y))))

module _ (places : List ℕ) (members : List (List ℕ)) (i : ℕ) (x : List ℕ) (up : IsRising members) (is : slice_get members i ≡ Some x)
    (second : slice_index x 1 < 256) (so_far : ArePlacesSoFar places members i) where
  -- the head has a place already
  pub places_kept : head_number x < length places → ArePlacesSoFar places members (i + 1)
  places_kept inside = record {
    short = so_far.short;
    each = λ head lt. so_far.each head lt ∙ sym (count_below_more members i head x is (omega (arith, so_far.ahead i x (omega arith) is)));
    below = All-next (λ y. head_number y < length places) members i x is so_far.below inside;
    ahead = λ j y order is_y. omega (arith, so_far.ahead j y (omega arith) is_y);
  }

  abbrev grown : List ℕ
  grown = places ++ replicate (head_number x + 1 - length places) i

  length-grown : length places ≤ head_number x → length grown ≡ head_number x + 1
  length-grown past = omega (arith, length-append places (replicate (head_number x + 1 - length places) i), length-replicate {A = ℕ} (head_number x + 1 - length places) i)

  -- the places up to the head are where the members end that were there before
  each_grown : length places ≤ head_number x → (head : ℕ) → head < length grown → (head < length places) ⊎ (length places ≤ head)
      → slice_index grown head ≡ count_below (take (i + 1) members) head
  each_grown past head lt (inl old) =
      get_or_append_left places (replicate (head_number x + 1 - length places) i) 0 head old ∙ so_far.each head old
      ∙ sym (count_below_more members i head x is (omega arith))
  each_grown past head lt (inr new) =
      let room : head - length places < head_number x + 1 - length places = omega (arith, length-grown past) in
      let inside : i ≤ length members = omega (arith, slice_get_within members i x is) in
      get_or-append_right places (replicate (head_number x + 1 - length places) i) (length places) head 0 refl new
      ∙ get_or-replicate (head_number x + 1 - length places) (head - length places) i 0 room
      ∙ sym (count_below_more members i head x is (omega (arith, length-grown past))
      ∙ count_below_all (take i members) head (All-weaker (λ y. head_number y < length places) (λ y. head_number y < head) (λ y h. omega (arith, new)) (take i members) so_far.below)
      ∙ length-take-le i members inside)

  pub places_grown : length places ≤ head_number x → head_number x < 65536 → ArePlacesSoFar grown members (i + 1)
  places_grown past small = record {
    short = omega (arith, length-grown past);
    each = λ head lt. each_grown past head lt (cases_lt head (length places));
    below = All-next (λ y. head_number y < length grown) members i x is
        (All-weaker (λ y. head_number y < length places) (λ y. head_number y < length grown) (λ y h. omega (arith, length-grown past)) (take i members) so_far.below)
        (omega (arith, length-grown past));
    ahead = λ j y order is_y. omega (arith, length-grown past, later_head members i j x y up is is_y (omega arith) second);
  }

-- at last the end, for all heads that are left
pub places_all : (places : List ℕ) (members : List (List ℕ)) → ArePlacesSoFar places members (length members)
    → ArePlacesOf (places ++ replicate (65537 - length places) (length members)) members
places_all places members so_far = record {
  long = omega (arith, so_far.short, length-append places (replicate (65537 - length places) (length members)), length-replicate {A = ℕ} (65537 - length places) (length members));
  each = λ head lt. go head lt (cases_lt head (length places));
}
  where
    all : take (length members) members ≡ members
    all = take_all (length members) members (omega arith)

    go : (head : ℕ) → head < 65537 → (head < length places) ⊎ (length places ≤ head)
        → slice_index (places ++ replicate (65537 - length places) (length members)) head ≡ count_below members head
    go head lt (inl old) =
        get_or_append_left places (replicate (65537 - length places) (length members)) 0 head old ∙ so_far.each head old
        ∙ ap (λ (xs : List (List ℕ)). count_below xs head) all
    go head lt (inr new) =
        let room : head - length places < 65537 - length places = omega arith in
        get_or-append_right places (replicate (65537 - length places) (length members)) (length places) head 0 refl new
        ∙ get_or-replicate (65537 - length places) (head - length places) (length members) 0 room
        ∙ sym (count_below_all members head
        (All-weaker (λ y. head_number y < length places) (λ y. head_number y < head) (λ y h. omega (arith, new)) members
        (subst (All (λ y. head_number y < length places)) all so_far.below)))

-- what `resize` leaves of a list that is no longer
pub resized : (places new : List ℕ) (count len value : ℕ) → len ≡ length places → length places ≤ count
    → new ≡ take count places ++ replicate (count - len) value → new ≡ places ++ replicate (count - length places) value
resized places new count len value is short after =
    after ∙ (λ i. take_all count places short i ++ replicate (count - is i) value)
