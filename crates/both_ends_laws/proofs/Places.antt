-- The places that a difference removes, and how they are sent.
use Rattle.std.proofs.Common.{◌≡◌, ◌≤◌, ◌<◌, ◌+◌, ℕ, List, [], ◌∷◌, Bool, true, false, cond, length, map, refl, ap, arith, append-nil}
use Rattle.std.specs.Prelude.{Ok, filter, not, ◌&&◌, ◌==◌, if◌then◌else◌}
use Rattle.std.specs.List.{AllByRecursion, enumerate_from}
use Rattle.std.specs.List.Sorted.{IsStrictlySortedBy, IsStrictlyIncreasing}
use Rattle.std.specs.Ordering.{nat_cmp}
use Rattle.std.specs.declared.cmp.Ordering.TheVariants.{Less}
use Rattle.std.proofs.lemmas.List.Elements.{All-from_recursion}
use Rattle.std.proofs.lemmas.Map.Keys.{IsStrictlyIncreasing-from_sorted}
use Rattle.std.proofs.lemmas.Map.Views.{length-le_from_below}
use Rattle.sb_model.specs.Difference.{has_member, removed_places}
use Rattle.rice_coding.specs.Decoding.{decoding_of}
use Rattle.rice_coding.specs.Encoding.{encoding_of}
use Rattle.rice_coding.specs.Rice.{AreInRange}
use Rattle.update_messages.specs.Answer.{removal_sets}
use Rattle.update_messages.specs.declared.sets.Removals.TheVariants as removed
use Rattle.update_client.specs.Step.{joined, places_of}

-- what the record of rising numbers is decoded to
abbrev pub DecodesAgain : Type 0
DecodesAgain = (values : List ℕ) (limit : ℕ) → IsStrictlyIncreasing values → AreInRange values → 0 < length values → length values ≤ limit
    → decoding_of (encoding_of values) limit ≡ Ok values

-- ---- where they are

kept_places : (test : List ℕ → Bool) (from : ℕ) (set : List (List ℕ)) → List ℕ
kept_places test from set = map (λ member. member.0) (filter (λ member. test member.1) (enumerate_from from set))

weaker : (low high low' high' : ℕ) → low' ≤ low → high ≤ high' → (places : List ℕ) → AllByRecursion (λ place. (low ≤ place) × (place < high)) places → AllByRecursion (λ place. (low' ≤ place) × (place < high')) places
weaker low high low' high' down up [] h = tt
weaker low high low' high' down up (place ∷ places) h = ((omega (arith, down, h.0.0), omega (arith, up, h.0.1)), weaker low high low' high' down up places h.1)

range_of : (test : List ℕ → Bool) (from : ℕ) (set : List (List ℕ)) → AllByRecursion (λ place. (from ≤ place) × (place < from + length set)) (kept_places test from set)
unfolding kept_places
range_of test from [] = tt
range_of test from (member ∷ set) = go (test member) (weaker (from + 1) ((from + 1) + length set) from (from + length (member ∷ set)) (omega arith) (omega arith) (kept_places test (from + 1) set) (range_of test (from + 1) set))
  where
    go : (kept : Bool) → AllByRecursion (λ place. (from ≤ place) × (place < from + length (member ∷ set))) (kept_places test (from + 1) set)
        → AllByRecursion (λ place. (from ≤ place) × (place < from + length (member ∷ set)))
        (map (λ (m : ℕ × List ℕ). m.0) (cond kept ((from, member) ∷ filter (λ (m : ℕ × List ℕ). test m.1) (enumerate_from (from + 1) set)) (filter (λ (m : ℕ × List ℕ). test m.1) (enumerate_from (from + 1) set))))
    go true h = ((omega arith, omega arith), h)
    go false h = h

all_later : (from high : ℕ) (places : List ℕ) → AllByRecursion (λ place. (from + 1 ≤ place) × (place < high)) places → AllByRecursion (λ place. nat_cmp from place ≡ Less) places
all_later from high [] h = tt
all_later from high (place ∷ places) h = (grind (arith, h.0.0), all_later from high places h.1)

sorted_of : (test : List ℕ → Bool) (from : ℕ) (set : List (List ℕ)) → IsStrictlySortedBy nat_cmp (kept_places test from set)
unfolding kept_places IsStrictlySortedBy
sorted_of test from [] = tt
sorted_of test from (member ∷ set) = go (test member) (all_later from ((from + 1) + length set) (kept_places test (from + 1) set) (range_of test (from + 1) set)) (sorted_of test (from + 1) set)
  where
    go : (kept : Bool) → AllByRecursion (λ place. nat_cmp from place ≡ Less) (kept_places test (from + 1) set) → IsStrictlySortedBy nat_cmp (kept_places test (from + 1) set)
        → IsStrictlySortedBy nat_cmp
        (map (λ (m : ℕ × List ℕ). m.0) (cond kept ((from, member) ∷ filter (λ (m : ℕ × List ℕ). test m.1) (enumerate_from (from + 1) set)) (filter (λ (m : ℕ × List ℕ). test m.1) (enumerate_from (from + 1) set))))
    go true later h = (later, h)
    go false later h = h

-- ---- how they are sent

below : (high : ℕ) (places : List ℕ) → AllByRecursion (λ place. (0 ≤ place) × (place < high)) places → AllByRecursion (λ place. place < high) places
below high [] h = tt
below high (place ∷ places) h = (h.0.1, below high places h.1)

in_range : (high : ℕ) → high ≤ 1048576 → (places : List ℕ) → AllByRecursion (λ place. place < high) places → AreInRange places
in_range high few [] h = tt
in_range high few (place ∷ places) h = (omega (arith, few, h.0), in_range high few places h.1)

pub places_are_below : (old newer : List (List ℕ)) → AllByRecursion (λ place. place < length old) (removed_places old newer)
unfolding kept_places
places_are_below old newer =
    below (length old) (removed_places old newer)
    (weaker 0 (0 + length old) 0 (length old) (omega arith) (omega arith) (removed_places old newer) (range_of (λ member. not (has_member newer member)) 0 old))

sent : DecodesAgain → (rice : Bool) (size high : ℕ) (places : List ℕ) → high ≤ 1048576 → AllByRecursion (λ place. place < high) places → IsStrictlySortedBy nat_cmp places
    → joined places_of (removal_sets rice size places) ≡ Ok places
sent decodes rice size high [] few under rises = refl
sent decodes rice size high (place ∷ places) few under rises = go (size == 4 && rice)
  where
    many : length (place ∷ places) ≤ 1048576
    many = omega (arith, few, length-le_from_below high (place ∷ places) rises (All-from_recursion (λ (p : ℕ). p < high) (place ∷ places) under))

    go : (coded : Bool) → joined places_of ((if coded then removed.Rice (encoding_of (place ∷ places)) else removed.Raw (place ∷ places)) ∷ []) ≡ Ok (place ∷ places)
    go true = rw (decodes (place ∷ places) 1048576 (IsStrictlyIncreasing-from_sorted (place ∷ places) rises) (in_range high few (place ∷ places) under) (omega arith) many) (ap Ok (append-nil (place ∷ places)))
    go false = ap Ok (append-nil (place ∷ places))

pub places_are_sent : DecodesAgain → (rice : Bool) (size : ℕ) (old newer : List (List ℕ)) → length old ≤ 1048576 → joined places_of (removal_sets rice size (removed_places old newer)) ≡ Ok (removed_places old newer)
unfolding kept_places
places_are_sent decodes rice size old newer few =
    sent decodes rice size (length old) (removed_places old newer) few (places_are_below old newer) (sorted_of (λ member. not (has_member newer member)) 0 old)
