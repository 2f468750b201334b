-- Whether a list rises, by its places.
use Rattle.std.proofs.Common.{◌≡◌, ℕ, ◌+◌, ◌-◌, ◌<◌, ◌≤◌, true, false, List, [], length, get_or, IsTrue, Some, sym, ◌∙◌, arith, rules}
use Rattle.std.specs.Prelude.{◌↔◌}
use Rattle.std.specs.declared.cmp.Ordering.TheVariants.{Less}
use Rattle.std.specs.List.{All, AllAdjacentBelow, slice_get}
use Rattle.std.proofs.lemmas.Option.{get_or_from_slice_get}
use Rattle.std.proofs.lemmas.List.Sorted.{all_adjacent_more}
use Rattle.std.proofs.lemmas.Cmp.{nat_list_cmp_total}
use Rattle.std.proofs.lemmas.Map.Keys.{sorted_from_all_adjacent, Less-from_sorted}
use Rattle.std.proofs.lemmas.List.Elements.{All-contains, Contains-get_or}
use Rattle.sb_model.specs.Prefixes.{bytes_cmp, IsRising, set_of}
use Rattle.prefix_set.proofs.SetFacts.{rising_unique, rising-set_of, members-set_of}

-- each comes before the next
pub rises_by_places : (ms : List (List ℕ)) (i : ℕ) → length ms ≤ i → AllAdjacentBelow (λ x y. bytes_cmp x y ≡ Less) ms i → IsTrue true ↔ IsRising ms
rises_by_places ms i all adjacent =
    (λ _. sorted_from_all_adjacent nat_list_cmp_total ms [] (λ k within. adjacent k [] (omega arith)), λ _. search rules)

-- one does not come before the next
pub fails_at_place : (ms : List (List ℕ)) (i : ℕ) → 0 < i → i < length ms → (bytes_cmp (get_or ms (i - 1) []) (get_or ms i []) ≡ Less → IsTrue false) → IsTrue false ↔ IsRising ms
fails_at_place ms i some within fails =
    (λ h. absurd (search rules), λ rising. fails (Less-from_sorted bytes_cmp ms (i - 1) i [] rising (omega arith) within))

-- a rising list is its own rising list
pub set_of-itself : (ms : List (List ℕ)) → IsRising ms → ms ≡ set_of ms
set_of-itself ms up =
    rising_unique ms (set_of ms) up (rising-set_of ms) (λ z h. (members-set_of ms z).1 h) (λ z h. (members-set_of ms z).0 h)

-- what holds of each member holds of each of the rising list
pub All-set_of : (P : List ℕ → Type 0) (ms : List (List ℕ)) → All P ms → All P (set_of ms)
All-set_of P ms each k d below =
    All-contains P ms (get_or (set_of ms) k d) each ((members-set_of ms (get_or (set_of ms) k d)).0 (Contains-get_or (set_of ms) k d below))

-- the same of the two members as they were read
pub fails_at_places : (ms : List (List ℕ)) (i : ℕ) (x y : List ℕ) → 0 < i → i < length ms → slice_get ms (i - 1) ≡ Some x → slice_get ms i ≡ Some y
    → (bytes_cmp x y ≡ Less → IsTrue false) → IsTrue false ↔ IsRising ms
fails_at_places ms i x y some within at_x at_y fails =
    fails_at_place ms i some within (λ less. fails ((λ j. bytes_cmp (sym (get_or_from_slice_get ms (i - 1) x [] at_x) j) (sym (get_or_from_slice_get ms i y [] at_y) j)) ∙ less))

pub adjacent_more : (ms : List (List ℕ)) (i : ℕ) (x y : List ℕ) → 0 < i → slice_get ms (i - 1) ≡ Some x → slice_get ms i ≡ Some y → bytes_cmp x y ≡ Less
    → AllAdjacentBelow (λ x y. bytes_cmp x y ≡ Less) ms i → AllAdjacentBelow (λ x y. bytes_cmp x y ≡ Less) ms (i + 1)
adjacent_more ms i x y some at_x at_y less adjacent =
    all_adjacent_more ms (λ x y. bytes_cmp x y ≡ Less) i some adjacent
    (λ d. (λ j. bytes_cmp (get_or_from_slice_get ms (i - 1) x d at_x j) (get_or_from_slice_get ms i y d at_y j)) ∙ less)
