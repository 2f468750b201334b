-- What a change of a set gives, and why it may give nothing.
use Rattle.std.specs.Prelude.{◌≡◌, ℕ, List, ◌++◌, length, Option, Some, None, Contains, nat_lt, nat_le, slice_get, if◌then◌else◌}
use Rattle.std.specs.List.{find}
use Rattle.sb_model.specs.Candidate.{without_places}
use Rattle.sb_model.specs.Prefixes.{set_of, concatenation}
use Rattle.prefix_set.specs.declared.fault.ApplyFault.{ApplyFault}
use Rattle.prefix_set.specs.declared.fault.ApplyFault.TheVariants.{IndexRange, TooMany, TooLarge}
use Rattle.prefix_set.specs.declared.set.TheConstants.{MAX_PREFIXES, MAX_BYTES}

-- the set without the members at the places, and with the additions
abbrev pub applied : List (List ℕ) → List ℕ → List (List ℕ) → List (List ℕ)
applied set removals additions = set_of (without_places set removals ++ additions)

-- the first index that is not below a length
abbrev pub first_past : ℕ → List ℕ → Option ℕ
first_past len indices = find (λ index. nat_le len index) indices

-- why a rising list is more than a set holds: its count comes first, and then its bytes
abbrev pub limit_fault : List (List ℕ) → Option ApplyFault
limit_fault members =
    if nat_lt MAX_PREFIXES (length members) then Some (TooMany (length members))
    else if nat_lt MAX_BYTES (length (concatenation members)) then Some (TooLarge (length (concatenation members)))
    else None

-- an index that is out of range comes before what the limits say of the result
abbrev pub fault_of : Option ℕ → ℕ → List (List ℕ) → Option ApplyFault
fault_of (Some index) len members = Some (IndexRange index len)
fault_of None len members = limit_fault members

-- why a change gives no set
abbrev pub apply_fault : List (List ℕ) → List ℕ → List (List ℕ) → Option ApplyFault
apply_fault set removals additions = fault_of (first_past (length set) removals) (length set) (applied set removals additions)

-- the set has the prefix at a place that is not removed
abbrev pub Stays : List (List ℕ) → List ℕ → List ℕ → Type 0
Stays set removals prefix = (place : ℕ) × (slice_get set place ≡ Some prefix) × (Contains removals place → ⊥)
