-- Bits, of which true is a one and false a zero.
use Rattle.std.specs.Prelude.{ℕ, zero, suc, ◌+◌, ◌*◌, ◌/◌, ◌%◌, ◌==◌, Bool, List, [], ◌∷◌, length, take, drop, map, if◌then◌else◌}
use Rattle.std.specs.Int.{div_ceil}
use Rattle.std.specs.List.{flat_map, range_with_len}

-- the lowest bits of a number, the lowest first
abbrev pub low_bits : ℕ → ℕ → List Bool
low_bits zero number = []
low_bits (suc count) number = (number % 2 == 1) ∷ low_bits count (number / 2)

-- the bits of a byte: eight, the lowest first
unfoldable pub byte_bits : ℕ → List Bool
byte_bits byte = low_bits 8 byte

-- the bits of a byte string
abbrev pub bits_of : List ℕ → List Bool
bits_of bytes = flat_map byte_bits bytes

-- the bits of a byte string from the one with this number on
unfoldable pub bits_from : List ℕ → ℕ → List Bool
bits_from bytes at = drop at (bits_of bytes)

-- the number with these bits, the lowest first
abbrev pub number_of_bits : List Bool → ℕ
number_of_bits [] = 0
number_of_bits (bit ∷ bits) = (if bit then 1 else 0) + 2 * number_of_bits bits

-- The bytes that hold these bits, no more than it takes: each is the number of its eight bits, and the free bits of the
-- last one are zeros.
unfoldable pub packed : List Bool → List ℕ
packed bits = map (λ i. number_of_bits (take 8 (drop (8 * i) bits))) (range_with_len 0 (div_ceil (length bits) 8))
