-- Hexadecimal digits.
use Rattle.std.specs.Prelude.{ℕ, ◌+◌, ◌*◌, nat_lt, if◌then◌else◌, Option, Some, None, option_and_then}
use Rattle.std.specs.Option.{option_map}
use Rattle.hex.specs.Hex.{hex_digit_value}

-- the value of a digit is below 16
abbrev pub digit_of : ℕ → Option ℕ
digit_of value = if nat_lt value 16 then Some value else None

-- the byte that two digits write
abbrev pub byte_of_digits : ℕ → ℕ → Option ℕ
byte_of_digits high low = option_and_then (λ h. option_map (λ l. h * 16 + l) (hex_digit_value low)) (hex_digit_value high)
