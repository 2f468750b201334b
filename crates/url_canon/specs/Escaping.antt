-- Percent-encoding (RFC 3986, section 2.1), with digits in upper case: the last step of section
-- "Canonicalization" of Safe Browsing v4, "URLs and Hashing".
use Rattle.std.specs.Prelude.{ℕ, ◌+◌, ◌/◌, ◌%◌, List, [], ◌∷◌, ◌==◌, nat_lt, nat_le, Bool, ◌||◌, if◌then◌else◌}
use Rattle.std.specs.List.{flat_map}

-- the digit of a value below 16
abbrev pub hex_digit : ℕ → ℕ
hex_digit value = if nat_lt value 10 then 48 + value else 55 + value

-- a control, a space, a byte from 127 on, a `#` or a `%`
abbrev pub is_unsafe : ℕ → Bool
is_unsafe byte = (nat_le byte 32 || nat_le 127 byte) || (byte == 35 || byte == 37)

abbrev pub escape_of : ℕ → List ℕ
escape_of byte =
    if is_unsafe byte then (37 ∷ hex_digit (byte / 16) ∷ hex_digit (byte % 16) ∷ [])
    else (byte ∷ [])

-- the text with each unsafe byte as `%` and two digits
unfoldable pub escaped : List ℕ → List ℕ
escaped text = flat_map escape_of text
