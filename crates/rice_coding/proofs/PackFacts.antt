-- The bytes that hold some bits.
use Rattle.std.proofs.Common.{◌≡◌, inl, inr, ℕ, zero, suc, ◌+◌, ◌-◌, ◌*◌, ◌/◌, ◌%◌, ◌^◌, ◌<◌, ◌≤◌, Bool, true, false, cond, eqb, List, [], ◌∷◌, ◌++◌, length, get_or, take, drop, replicate, refl, sym, ap, ◌∙◌, arith}
use Rattle.std.specs.Int.{bit_at, div_ceil}
use Rattle.std.proofs.Math.Nat.{pow-le-pow_right}
use Rattle.std.proofs.lemmas.Bool.{cases_lt}
use Rattle.std.proofs.lemmas.List.{ext_get_or, length-append, length-replicate, length-take, get_or_append_left, get_or-append_right, get_or-replicate, get_or_past, get_or-drop, get_or-take, take_at, drop_at}
use Rattle.std.proofs.lemmas.List.FromFn.{length-map-range_with_len, get_or-map-range_with_len}
use Rattle.std.proofs.lemmas.Nat.Bits.{bit_at_lowest, bit_at-suc, bit_at-zero}
use Rattle.rice_coding.specs.Bits.{byte_bits, bits_of, number_of_bits, packed}
use Rattle.rice_coding.proofs.BitFacts.{length-bits_of, length-byte_bits, bit_of_bytes}
use Rattle.rice_coding.proofs.CodeFacts.{number_of-lt, number_of-low_bits}

-- how many bytes there are, and each of them
length-packed : (bits : List Bool) → length (packed bits) ≡ div_ceil (length bits) 8
unfolding packed
length-packed bits = length-map-range_with_len (λ i. number_of_bits (take 8 (drop (8 * i) bits))) 0 (div_ceil (length bits) 8)

byte_of_packed : (bits : List Bool) (i : ℕ) → i < div_ceil (length bits) 8 → get_or (packed bits) i 0 ≡ number_of_bits (take 8 (drop (8 * i) bits))
unfolding packed
byte_of_packed bits i within = get_or-map-range_with_len (λ i. number_of_bits (take 8 (drop (8 * i) bits))) 0 (div_ceil (length bits) 8) i i 0 within (omega arith)

-- a bit of the number of some bits
odd : (bit : Bool) (n : ℕ) → (cond bit 1 0 + 2 * n) % 2 ≡ cond bit 1 0
odd true n = omega arith
odd false n = omega arith

half : (bit : Bool) (n : ℕ) → (cond bit 1 0 + 2 * n) / 2 ≡ n
half true n = omega arith
half false n = omega arith

one_if : (bit : Bool) → eqb (cond bit 1 0) 1 ≡ bit
one_if true = refl
one_if false = refl

bit_of_number : (bits : List Bool) (i : ℕ) → eqb (bit_at (number_of_bits bits) i) 1 ≡ get_or bits i false
bit_of_number [] i = ap (λ (n : ℕ). eqb n 1) (bit_at-zero i)
bit_of_number (bit ∷ bits) zero =
    ap (λ (n : ℕ). eqb n 1) (bit_at_lowest (cond bit 1 0 + 2 * number_of_bits bits) ∙ odd bit (number_of_bits bits)) ∙ one_if bit
bit_of_number (bit ∷ bits) (suc i) =
    ap (λ (n : ℕ). eqb n 1) (bit_at-suc (cond bit 1 0 + 2 * number_of_bits bits) i ∙ ap (λ (n : ℕ). bit_at n i) (half bit (number_of_bits bits))) ∙ bit_of_number bits i

-- how many bits of the last byte are free
abbrev pub free_bits : List Bool → ℕ
free_bits bits = 8 * div_ceil (length bits) 8 - length bits

pub free_few : (bits : List Bool) → free_bits bits < 8
free_few bits = omega arith

length-padded : (bits : List Bool) → length (bits ++ replicate (free_bits bits) false) ≡ 8 * div_ceil (length bits) 8
length-padded bits = omega (arith, length-append bits (replicate (free_bits bits) false), length-replicate (free_bits bits) false)

bit_of_padded : (bits : List Bool) (free i : ℕ) → get_or (bits ++ replicate free false) i false ≡ get_or bits i false
bit_of_padded bits free i = elim (cases_lt i (length bits)) [
  | inl below ↦ get_or_append_left bits (replicate free false) false i below
  | inr above ↦ get_or-append_right bits (replicate free false) (length bits) i false refl above ∙ zero_at (i - length bits) ∙ sym (get_or_past bits i false above)
] where
  zero_at : (j : ℕ) → get_or (replicate free false) j false ≡ false
  zero_at j = elim (cases_lt j free) [
    | inl below ↦ get_or-replicate free j false false below
    | inr above ↦ get_or_past (replicate free false) j false (omega (arith, length-replicate free false))
  ]

-- they hold the bits, and zeros after them
pub bits_of-packed : (bits : List Bool) → bits_of (packed bits) ≡ bits ++ replicate (free_bits bits) false
bits_of-packed bits =
    let long : length (bits_of (packed bits)) ≡ 8 * div_ceil (length bits) 8 = omega (arith, length-bits_of (packed bits), length-packed bits) in
    ext_get_or false (bits_of (packed bits)) (bits ++ replicate (free_bits bits) false) (long ∙ sym (length-padded bits)) (λ i within.
    let byte : i / 8 < div_ceil (length bits) 8 = omega (arith, long, within) in
    let place : 8 * (i / 8) + i % 8 ≡ i = omega arith in
    bit_of_bytes (packed bits) i
    ∙ ap (λ (n : ℕ). eqb (bit_at n (i % 8)) 1) (byte_of_packed bits (i / 8) byte)
    ∙ bit_of_number (take 8 (drop (8 * (i / 8)) bits)) (i % 8)
    ∙ get_or-take 8 (drop (8 * (i / 8)) bits) (i % 8) false (omega arith)
    ∙ get_or-drop (8 * (i / 8)) bits (i % 8) false
    ∙ ap (λ (n : ℕ). get_or bits n false) place
    ∙ sym (bit_of_padded bits (free_bits bits) i))

-- and are bytes
packed_fits : (bits : List Bool) (i : ℕ) → get_or (packed bits) i 0 < 256
packed_fits bits i = elim (cases_lt i (div_ceil (length bits) 8)) [
  | inl below ↦
      let eight = take 8 (drop (8 * i) bits) in
      let few : length eight ≤ 8 = omega (arith, length-take 8 (drop (8 * i) bits)) in
      let wide : 2 ^ length eight ≤ 2 ^ 8 = pow-le-pow_right {n = 2} (omega arith) few in
      omega (arith, byte_of_packed bits i below, number_of-lt eight, wide)
  | inr above ↦ omega (arith, get_or_past (packed bits) i 0 (omega (arith, length-packed bits)))
]

-- bytes with the same bits are the same
byte_of_bits : (x : ℕ) → x < 256 → number_of_bits (byte_bits x) ≡ x
unfolding byte_bits
byte_of_bits x fits = omega (arith, number_of-low_bits 8 x)

same_bytes : (xs ys : List ℕ) → ((i : ℕ) → get_or xs i 0 < 256) → ((i : ℕ) → get_or ys i 0 < 256) → bits_of xs ≡ bits_of ys → xs ≡ ys
same_bytes [] [] fits fit same = refl
same_bytes [] (y ∷ ys) fits fit same = absurd (omega (arith, ap length same, length-bits_of (y ∷ ys)))
same_bytes (x ∷ xs) [] fits fit same = absurd (omega (arith, ap length same, length-bits_of (x ∷ xs)))
same_bytes (x ∷ xs) (y ∷ ys) fits fit same =
    let eight : byte_bits x ≡ byte_bits y =
    sym (take_at (byte_bits x) (bits_of xs) 8 (length-byte_bits x)) ∙ ap (take 8) same ∙ take_at (byte_bits y) (bits_of ys) 8 (length-byte_bits y) in
    let first : x ≡ y = sym (byte_of_bits x (fits 0)) ∙ ap number_of_bits eight ∙ byte_of_bits y (fit 0) in
    let rest : bits_of xs ≡ bits_of ys =
    sym (drop_at (byte_bits x) (bits_of xs) 8 (length-byte_bits x)) ∙ ap (drop 8) same ∙ drop_at (byte_bits y) (bits_of ys) 8 (length-byte_bits y) in
    ap (λ (n : ℕ). n ∷ xs) first ∙ ap (λ (bytes : List ℕ). y ∷ bytes) (same_bytes xs ys (λ i. fits (suc i)) (λ i. fit (suc i)) rest)

-- bytes that hold the bits, and fewer than eight zeros after them, are these
pub packed_is : (bytes : List ℕ) (bits : List Bool) (free : ℕ) → ((i : ℕ) → get_or bytes i 0 < 256) → free < 8 → bits_of bytes ≡ bits ++ replicate free false → bytes ≡ packed bits
packed_is bytes bits free fits few is =
    let long : 8 * length bytes ≡ length bits + free = omega (arith, ap length is, length-bits_of bytes, length-append bits (replicate free false), length-replicate free false) in
    let same : free ≡ free_bits bits = omega arith in
    same_bytes bytes (packed bits) fits (packed_fits bits) (is ∙ ap (λ (n : ℕ). bits ++ replicate n false) same ∙ sym (bits_of-packed bits))
