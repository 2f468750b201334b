-- The record that is made of numbers that rise, and what it is like.
use Rattle.std.specs.Prelude.{◌≡◌, ℕ, ◌<◌, Bool, false, List, [], ◌∷◌, length}
use Rattle.std.specs.List.{AllByRecursion}
use Rattle.rice_coding.specs.declared.record.RiceRecord.{RiceRecord}
use Rattle.rice_coding.specs.Bits.{packed}
use Rattle.rice_coding.specs.Codes.{codes, running_sums, differences, best_parameter, HasFewestBits}
use Rattle.rice_coding.specs.Rice.{BeginsWith, IsRiceRecordOf}

-- the best parameter, and 0 where nothing is coded
abbrev pub parameter_for : List ℕ → ℕ
parameter_for [] = 0
parameter_for (delta ∷ deltas) = best_parameter (delta ∷ deltas)

-- a first number and the codes of the differences after it, packed into bytes
abbrev pub record_of : ℕ → List ℕ → RiceRecord
record_of first deltas = record {
  first = first;
  parameter = parameter_for deltas;
  count = length deltas;
  coded = packed (codes (parameter_for deltas) deltas);
}

-- the record of numbers that rise, of which there is one or more
unfoldable pub encoding_of : List ℕ → RiceRecord
encoding_of [] = record_of 0 []
encoding_of (first ∷ rest) = record_of first (differences first rest)

-- no other list has the record
abbrev pub StandsForOnly : RiceRecord → List ℕ → Type 0
StandsForOnly r values = (others : List ℕ) → IsRiceRecordOf r others → others ≡ values

-- the parameter is the best for the differences of the values, where there are any
abbrev pub HasBestParameter : RiceRecord → List ℕ → Type 0
HasBestParameter r values = (deltas : List ℕ) → values ≡ r.first ∷ running_sums r.first deltas → 0 < length deltas → HasFewestBits deltas r.parameter

-- the bits after the codes of the values are zeros
abbrev pub HasZerosAfter : RiceRecord → List ℕ → Type 0
HasZerosAfter r values = (left : List Bool) → BeginsWith r values left → AllByRecursion (λ bit. bit ≡ false) left
