-- How the codes of a record are read one after the other. `Rice` says what this comes to.
use Rattle.std.specs.Prelude.{ℕ, ◌≤◌, ◌<◌, zero, suc, ◌+◌, ◌-◌, ◌*◌, ◌^◌, Bool, true, false, List, [], ◌∷◌, length, take, drop, min, Option, Some, None, nat_lt, nat_eq, option_and_then, if◌then◌else◌}
use Rattle.std.specs.Option.{option_map}
use Rattle.rice_coding.specs.declared.fault.RiceFault.{RiceFault}
use Rattle.rice_coding.specs.declared.fault.RiceFault.TheVariants.{Ended, Range, LeftOver}
use Rattle.rice_coding.specs.Bits.{number_of_bits}

-- how many ones there are before the first zero, and the bits after the zero
abbrev pub unary : List Bool → Option (ℕ × List Bool)
unary [] = None
unary (false ∷ bits) = Some (0, bits)
unary (true ∷ bits) = option_map (λ (found : ℕ × List Bool). (suc found.0, found.1)) (unary bits)

-- the number of so many bits above a quotient, and the bits after it
abbrev pub with_remainder : ℕ → ℕ × List Bool → Option (ℕ × List Bool)
with_remainder parameter (quotient, bits) =
    if nat_lt (length bits) parameter then None else Some (quotient * 2 ^ parameter + number_of_bits (take parameter bits), drop parameter bits)

-- the delta whose code comes first, and the bits after the code
unfoldable pub delta_at : ℕ → List Bool → Option (ℕ × List Bool)
delta_at parameter bits = option_and_then (with_remainder parameter) (unary bits)

-- The values that are still to come, and then the end or a fault.
pub record Reading : Type 0 where
  pub values : List ℕ
  pub fault : Option RiceFault

abbrev pub with_value : ℕ → Reading → Reading
with_value value reading = record { values = value ∷ reading.values; fault = reading.fault }

abbrev pub stopped : Option RiceFault → Reading
stopped fault = record { values = []; fault = fault }

-- after the last code
abbrev pub end_after_codes : List Bool → Option RiceFault
end_after_codes bits = if nat_lt (length bits) 8 then None else Some (LeftOver (min (length bits) (2 ^ 64 - 1)))

-- what comes of a delta: the reading of the rest after one value more
abbrev pub reading_step : (ℕ → List Bool → Reading) → ℕ → ℕ → Option (ℕ × List Bool) → Reading
reading_step rest entry value None = stopped (Some (Ended entry))
reading_step rest entry value (Some (delta, bits)) =
    if nat_lt (value + delta) (2 ^ 32) then with_value (value + delta) (rest (value + delta) bits) else stopped (Some (Range entry))

-- the reading of so many codes, of which the first is that of an entry, after a value
unfoldable pub reading : ℕ → ℕ → ℕ → ℕ → List Bool → Reading
reading parameter zero entry value bits = stopped (end_after_codes bits)
reading parameter (suc count) entry value bits = reading_step (reading parameter count (entry + 1)) entry value (delta_at parameter bits)

-- What a reader keeps: entries and parameters are within their bounds.
pub record IsReady (parameter count given : ℕ) : Type 0 where
  pub entries : given + count ≤ 2 ^ 32
  pub allowed : 0 < count → (2 ≤ parameter) × (parameter ≤ 28)

-- a reading in which the first value stands before the codes, where it has not been given yet
abbrev pub reading_after : ℕ → ℕ → ℕ → ℕ → List Bool → Reading
reading_after parameter count given value bits =
    if nat_eq given 0 then with_value value (reading parameter count 1 value bits) else reading parameter count given value bits
