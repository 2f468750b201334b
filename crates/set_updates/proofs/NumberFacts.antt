-- Rising numbers: those of prefixes of four bytes, and the places that a newer set lacks.
use Rattle.std.proofs.Common.{◌≡◌, ℕ, suc, ◌<◌, ◌≤◌, inl, inr, List, [], ◌∷◌, length, map, get_or, refl, sym, subst, arith}
use Rattle.std.specs.Prelude.{Contains}
use Rattle.std.specs.Int.{w32, from_le_bytes}
use Rattle.std.specs.List.{All, AllByRecursion, AllPairs}
use Rattle.std.specs.List.Sorted.{IsStrictlyIncreasing}
use Rattle.std.proofs.lemmas.List.Elements.{recursion_from_All}
use Rattle.std.proofs.lemmas.List.Kept.{AllPairs-from_increasing}
use Rattle.rice_coding.specs.Codes.{running_sums}
use Rattle.rice_coding.specs.Rice.{AreInRange, IsRiceRecordOf}
use Rattle.rice_coding.specs.declared.record.RiceRecord.{RiceRecord}
use Rattle.sb_model.specs.Difference.{removed_places}
use Rattle.update_messages.specs.Answer.{numbers_of}
use Rattle.update_messages.specs.Messages.{IsRiceSet}
use Rattle.update_messages.specs.Rising.{AreRisingPlaces, AreRisingNumbers}
use Rattle.set_updates.proofs.Membership.{In, contains_in, in_contained, of_each}

abbrev pub Rises : List ℕ → Type 0
Rises [] = Unit {0}
Rises (x ∷ xs) = AllByRecursion (λ y. x < y) xs × Rises xs

pairs_rise : (xs : List ℕ) → AllPairs (λ x y. x < y) xs → Rises xs
pairs_rise [] pairs = tt
pairs_rise (x ∷ xs) pairs = (
  recursion_from_All (λ y. x < y) xs (λ k d below. pairs 0 (suc k) d (omega arith) (omega (arith, below))),
  pairs_rise xs (λ i j d less below. pairs (suc i) (suc j) d (omega (arith, less)) (omega (arith, below))),
)

pub rises_from : (xs : List ℕ) → IsStrictlyIncreasing xs → Rises xs
rises_from xs up = pairs_rise xs (AllPairs-from_increasing xs up)

pub one_rising : (xs ys : List ℕ) → Rises xs → Rises ys → ((n : ℕ) → In n xs → In n ys) → ((n : ℕ) → In n ys → In n xs) → xs ≡ ys
one_rising [] [] ux uy to back = refl
one_rising [] (y ∷ ys) ux uy to back = absurd (back y (inl refl))
one_rising (x ∷ xs) [] ux uy to back = absurd (to x (inl refl))
one_rising (x ∷ xs) (y ∷ ys) ux uy to back =
    let same : x ≡ y = elim (to x (inl refl)) [
      | inl e ↦ sym e
      | inr h ↦ elim (back y (inl refl)) [
        | inl e ↦ e
        | inr k ↦ let one : y < x = of_each (λ z. y < z) x ys uy.0 h in let other : x < y = of_each (λ z. x < z) y xs ux.0 k in absurd (omega arith)
      ]
    ] in
    let rest : xs ≡ ys = one_rising xs ys ux.1 uy.1
    (λ n h. elim (to n (inr h)) [ inl e ↦ let up : x < n = of_each (λ z. x < z) n xs ux.0 h in absurd (omega arith) | inr k ↦ k ])
    (λ n h. elim (back n (inr h)) [ inl e ↦ let up : y < n = of_each (λ z. y < z) n ys uy.0 h in absurd (omega arith) | inr k ↦ k ]) in
    cc

-- rising numbers that are those of these members are their rising numbers
pub same_numbers : (ms : List (List ℕ)) (ns : List ℕ) → AreRisingNumbers ms (numbers_of ms) → IsStrictlyIncreasing ns
    → ((n : ℕ) → In n ns → In n (map (from_le_bytes w32) ms)) → ((n : ℕ) → In n (map (from_le_bytes w32) ms) → In n ns) → ns ≡ numbers_of ms
same_numbers ms ns own up to back =
    one_rising ns (numbers_of ms) (rises_from ns up) (rises_from (numbers_of ms) own.rising)
    (λ n h. in_contained n (numbers_of ms) ((own.same n).1 (contains_in n (map (from_le_bytes w32) ms) (to n h))))
    (λ n h. back n (in_contained n (map (from_le_bytes w32) ms) ((own.same n).0 (contains_in n (numbers_of ms) h))))

pub some_numbers : (ms : List (List ℕ)) → AreRisingNumbers ms (numbers_of ms) → 0 < length ms → 0 < length (numbers_of ms)
some_numbers [] own none = absurd (omega arith)
some_numbers (m ∷ ms) own some =
    let first : Contains (numbers_of (m ∷ ms)) (from_le_bytes w32 m) =
    (own.same (from_le_bytes w32 m)).1 (contains_in (from_le_bytes w32 m) (map (from_le_bytes w32) (m ∷ ms)) (inl refl)) in
    omega (arith, first.1)

pub removed_under : (old newer : List (List ℕ)) (limit : ℕ) → AreRisingPlaces (length old) (removed_places old newer) → length old ≤ limit
    → All (λ place. place < limit) (removed_places old newer)
removed_under old newer limit places few = λ k d below.
    let at : get_or (removed_places old newer) k d < length old = places.within k d below in
    omega (arith, at, few)

-- what a record of few numbers keeps to
pub rice_kept : (rice : RiceRecord) (values : List ℕ) → length values ≤ 1048576 → IsRiceRecordOf rice values → (length values ≡ 1 → (rice.parameter ≡ 0) × (rice.coded ≡ []))
    → IsRiceSet rice
rice_kept rice values few stands single =
    let range : AreInRange (rice.first ∷ running_sums rice.first stands.bits.deltas) = subst (λ (ns : List ℕ). AreInRange ns) stands.bits.sums stands.range in
    record {
      first = omega (arith, range.0);
      parameter = elim stands.parameter [
        | inl none ↦ let zero : rice.parameter ≡ 0 = (single (omega (arith, none, stands.count))).0 in omega (arith, zero)
        | inr some ↦ omega (arith, some.1)
      ];
      count = omega (arith, few, stands.count);
    }
