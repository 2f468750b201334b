-- Lemmas on the bits of numbers and of byte strings.
use Rattle.std.proofs.Common.{◌≡◌, inl, inr, ℕ, zero, suc, ◌+◌, ◌-◌, ◌*◌, ◌/◌, ◌%◌, ◌^◌, ◌<◌, ◌≤◌, Bool, true, false, eqb, List, [], ◌∷◌, ◌++◌, length, get_or, take, drop, replicate, refl, sym, ap, ◌∙◌, subst, arith, bit_and, bit_or, Result, Ok, Err}
use Rattle.std.specs.Prelude.{IfOk}
use Rattle.rice_coding.specs.Codes.{code}
use Rattle.std.proofs.lemmas.List.{append_assoc, length-append, replicate-append-replicate, get_or_append_left, get_or-append_right, length-drop, length-take, get_or-take, get_or_past, drop-drop, drop_at, take_at, take_rest}
use Rattle.std.proofs.Math.Nat.{pow-suc, pow-le-pow_right, mul-mod_left}
use Rattle.std.proofs.lemmas.Nat.{pow-add, shr-shr, shr_high, shr_split, shl_whole, shl_below, shr_below, pow_pos, one_shl, mod_below, and_mask, or_comm, or_shifted, mul-add-lt, mod-pow-add, shl-shr, from_le_bytes-to_le_bytes_8}
use Rattle.std.proofs.lemmas.Nat.Bits.{bit_at_lowest, bit_at-suc, bit_at-zero}
use Rattle.std.proofs.lemmas.Bool.{cases_lt}
use Rattle.std.specs.Int.{bit_at, w64, from_le_bytes, to_le_bytes}
use Rattle.rice_coding.specs.Bits.{low_bits, byte_bits, bits_of, bits_from}

pub length-low_bits : (k n : ℕ) → length (low_bits k n) ≡ k
length-low_bits zero n = refl
length-low_bits (suc k) n = ap suc (length-low_bits k (n / 2))

pub length-byte_bits : (byte : ℕ) → length (byte_bits byte) ≡ 8
unfolding byte_bits
length-byte_bits byte = length-low_bits 8 byte

pub length-bits_of : (bytes : List ℕ) → length (bits_of bytes) ≡ 8 * length bytes
length-bits_of [] = refl
length-bits_of (byte ∷ bytes) = omega (arith, length-append (byte_bits byte) (bits_of bytes), length-byte_bits byte, length-bits_of bytes)

pub bits_of-append : (xs ys : List ℕ) → bits_of (xs ++ ys) ≡ bits_of xs ++ bits_of ys
bits_of-append [] ys = refl
bits_of-append (x ∷ xs) ys = ap (λ (bits : List Bool). byte_bits x ++ bits) (bits_of-append xs ys) ∙ sym (append_assoc (byte_bits x) (bits_of xs) (bits_of ys))

pub get_or-low_bits : (k n i : ℕ) → i < k → get_or (low_bits k n) i false ≡ eqb (bit_at n i) 1
get_or-low_bits zero n i h = absurd (omega arith)
get_or-low_bits (suc k) n zero h = ap (λ (b : ℕ). eqb b 1) (sym (bit_at_lowest n))
get_or-low_bits (suc k) n (suc i) h = get_or-low_bits k (n / 2) i (omega arith) ∙ ap (λ (b : ℕ). eqb b 1) (sym (bit_at-suc n i))

twice_pow : (y a : ℕ) → y * 2 ^ suc a ≡ 2 * (y * 2 ^ a)
twice_pow y a = rw pow-suc (omega arith)

-- the bits from k on change none below
pub low_bits_below : (k x y : ℕ) → low_bits k (x + y * 2 ^ k) ≡ low_bits k x
low_bits_below zero x y = refl
low_bits_below (suc k) x y =
    let e : y * 2 ^ suc k ≡ 2 * (y * 2 ^ k) = twice_pow y k in
    let bit : (x + y * 2 ^ suc k) % 2 ≡ x % 2 = omega arith in
    let half : (x + y * 2 ^ suc k) / 2 ≡ x / 2 + y * 2 ^ k = omega arith in
    let rest : low_bits k (x / 2 + y * 2 ^ k) ≡ low_bits k (x / 2) = low_bits_below k (x / 2) y in
    cc

pub low_bits-split : (j k n : ℕ) → low_bits (j + k) n ≡ low_bits j n ++ low_bits k (n / 2 ^ j)
low_bits-split zero k n =
    let size : 0 + k ≡ k = omega arith in
    let same : n / 2 ^ 0 ≡ n = omega arith in
    cc
low_bits-split (suc j) k n =
    let size : suc j + k ≡ suc (j + k) = omega arith in
    let high : n / 2 / 2 ^ j ≡ n / 2 ^ suc j = shr-shr n 1 j ∙ ap (λ (m : ℕ). n / 2 ^ m) (omega arith) in
    rw size (ap (λ (bits : List Bool). eqb (n % 2) 1 ∷ bits) (low_bits-split j k (n / 2) ∙ ap (λ (m : ℕ). low_bits j (n / 2) ++ low_bits k m) high))

-- the number of bytes, the lowest first
abbrev pub number_of_bytes : List ℕ → ℕ
number_of_bytes [] = 0
number_of_bytes (byte ∷ bytes) = byte + number_of_bytes bytes * 256

pub bits_of_number : (bytes : List ℕ) → ((i : ℕ) → get_or bytes i 0 < 256) → bits_of bytes ≡ low_bits (8 * length bytes) (number_of_bytes bytes)
unfolding byte_bits
bits_of_number [] fits = refl
bits_of_number (byte ∷ bytes) fits =
    let n = number_of_bytes bytes in
    let rest : bits_of bytes ≡ low_bits (8 * length bytes) n = bits_of_number bytes (λ i. fits (suc i)) in
    let below : byte < 256 = fits 0 in
    let size : 8 * suc (length bytes) ≡ 8 + 8 * length bytes = omega arith in
    let high : (byte + n * 256) / 2 ^ 8 ≡ n = omega arith in
    let first : low_bits 8 (byte + n * 256) ≡ low_bits 8 byte = low_bits_below 8 byte n in
    let whole : low_bits (8 + 8 * length bytes) (byte + n * 256) ≡ low_bits 8 (byte + n * 256) ++ low_bits (8 * length bytes) ((byte + n * 256) / 2 ^ 8) = low_bits-split 8 (8 * length bytes) (byte + n * 256) in
    cc

pub from_le_bytes_number : (bytes : List ℕ) → length bytes ≡ 8 → from_le_bytes w64 bytes ≡ number_of_bytes bytes
from_le_bytes_number (a ∷ b ∷ c ∷ d ∷ e ∷ f ∷ g ∷ h ∷ []) long = omega arith
from_le_bytes_number (a ∷ b ∷ c ∷ d ∷ e ∷ f ∷ g ∷ h ∷ i ∷ rest) long = absurd (omega arith)
from_le_bytes_number bytes long = absurd (omega arith)

pub length-bits_from : (bytes : List ℕ) (at : ℕ) → length (bits_from bytes at) ≡ 8 * length bytes - at
unfolding bits_from
length-bits_from bytes at = omega (arith, length-drop at (bits_of bytes), length-bits_of bytes)

pub bit_of_bytes : (bytes : List ℕ) (i : ℕ) → get_or (bits_of bytes) i false ≡ eqb (bit_at (get_or bytes (i / 8) 0) (i % 8)) 1
unfolding byte_bits
bit_of_bytes [] i = ap (λ (b : ℕ). eqb b 1) (sym (bit_at-zero (i % 8)))
bit_of_bytes (byte ∷ bytes) i = elim (cases_lt i 8) [
  | inl below ↦
      let q : i / 8 ≡ 0 = omega arith in
      let r : i % 8 ≡ i = omega arith in
      let long : i < length (byte_bits byte) = omega (arith, length-byte_bits byte) in
      let left : get_or (byte_bits byte ++ bits_of bytes) i false ≡ get_or (byte_bits byte) i false = get_or_append_left (byte_bits byte) (bits_of bytes) false i long in
      let one : get_or (low_bits 8 byte) i false ≡ eqb (bit_at byte i) 1 = get_or-low_bits 8 byte i below in
      rw (q, r) (left ∙ one)
  | inr above ↦
      let q : i / 8 ≡ suc ((i - 8) / 8) = omega arith in
      let r : i % 8 ≡ (i - 8) % 8 = omega arith in
      let right : get_or (byte_bits byte ++ bits_of bytes) i false ≡ get_or (bits_of bytes) (i - 8) false = get_or-append_right (byte_bits byte) (bits_of bytes) 8 i false (length-byte_bits byte) above in
      rw (q, r) (right ∙ bit_of_bytes bytes (i - 8))
]

-- A number with the bytes that a byte string begins with has its bits.
pub word_bits : (bytes chunk : List ℕ) (n : ℕ) → length chunk ≡ 8 → ((k : ℕ) → get_or chunk k 0 < 256) → n ≡ from_le_bytes w64 chunk
    → ((k : ℕ) → k < 8 → get_or chunk k 0 ≡ get_or bytes k 0) → (i : ℕ) → i < 64 → get_or (bits_of bytes) i false ≡ eqb (bit_at n i) 1
word_bits bytes chunk n long fits number same i below =
    let e : get_or chunk (i / 8) 0 ≡ get_or bytes (i / 8) 0 = same (i / 8) (omega arith) in
    let size : 8 * length chunk ≡ 64 = omega arith in
    let bits : bits_of chunk ≡ low_bits (8 * length chunk) (number_of_bytes chunk) = bits_of_number chunk fits in
    let one : get_or (low_bits 64 n) i false ≡ eqb (bit_at n i) 1 = get_or-low_bits 64 n i below in
    let value : n ≡ number_of_bytes chunk = number ∙ from_le_bytes_number chunk long in
    let all : bits_of chunk ≡ low_bits 64 n = bits ∙ ap (λ (k : ℕ). low_bits k (number_of_bytes chunk)) size ∙ ap (low_bits 64) (sym value) in
    bit_of_bytes bytes i ∙ ap (λ (b : ℕ). eqb (bit_at b (i % 8)) 1) (sym e) ∙ sym (bit_of_bytes chunk i) ∙ ap (λ (bits : List Bool). get_or bits i false) all ∙ one

pub ruleset bit_lengths = (length-bits_from)

drop_bytes : (bytes : List ℕ) (n : ℕ) → n ≤ length bytes → drop (8 * n) (bits_of bytes) ≡ bits_of (drop n bytes)
drop_bytes bytes zero h = refl
drop_bytes [] (suc n) h = absurd (omega arith)
drop_bytes (byte ∷ bytes) (suc n) h =
    let size : 8 * suc n ≡ 8 + 8 * n = omega arith in
    rw (size, ← drop-drop (8 * n) 8 (byte_bits byte ++ bits_of bytes), drop_at (byte_bits byte) (bits_of bytes) 8 (length-byte_bits byte)) (drop_bytes bytes n (omega arith))

-- the bits from a place on, read from the byte in which it lies
pub bits_from-byte : (bytes : List ℕ) (at : ℕ) → at / 8 ≤ length bytes → bits_from (drop (at / 8) bytes) (at % 8) ≡ bits_from bytes at
unfolding bits_from
bits_from-byte bytes at h =
    let place : 8 * (at / 8) + at % 8 ≡ at = omega arith in
    ap (drop (at % 8)) (sym (drop_bytes bytes (at / 8) h)) ∙ drop-drop (at % 8) (8 * (at / 8)) (bits_of bytes) ∙ ap (λ (n : ℕ). drop n (bits_of bytes)) place

pub drop-bits_from : (bytes : List ℕ) (at count : ℕ) → drop count (bits_from bytes at) ≡ bits_from bytes (at + count)
unfolding bits_from
drop-bits_from bytes at count = drop-drop count at (bits_of bytes)

pub skipped : (bytes : List ℕ) (at count : ℕ) → (at + count) / 8 ≤ length bytes
    → bits_from (take (length bytes - (at + count) / 8) (drop ((at + count) / 8) bytes)) ((at + count) % 8) ≡ drop count (bits_from bytes at)
skipped bytes at count h =
    ap (λ (rest : List ℕ). bits_from rest ((at + count) % 8)) (take_rest bytes ((at + count) / 8))
    ∙ bits_from-byte bytes (at + count) h ∙ sym (drop-bits_from bytes at count)

-- ---- writing
pub low_bits-cat : (j k x y : ℕ) → x < 2 ^ j → low_bits (j + k) (x + y * 2 ^ j) ≡ low_bits j x ++ low_bits k y
low_bits-cat j k x y fits =
    let turned : x + y * 2 ^ j ≡ y * 2 ^ j + x = omega arith in
    let high : (x + y * 2 ^ j) / 2 ^ j ≡ y = ap (λ (n : ℕ). n / 2 ^ j) turned ∙ shr_high y j x fits in
    low_bits-split j k (x + y * 2 ^ j)
    ∙ ap (λ (bits : List Bool). bits ++ low_bits k ((x + y * 2 ^ j) / 2 ^ j)) (low_bits_below j x y)
    ∙ ap (λ (n : ℕ). low_bits j x ++ low_bits k n) high

pub low_bits_mod : (k n : ℕ) → low_bits k (n % 2 ^ k) ≡ low_bits k n
low_bits_mod k n =
    let whole : n % 2 ^ k + n / 2 ^ k * 2 ^ k ≡ n = omega (arith, shr_split n k) in
    sym (low_bits_below k (n % 2 ^ k) (n / 2 ^ k)) ∙ ap (low_bits k) whole

pub low_bits_zero : (k : ℕ) → low_bits k 0 ≡ replicate k false
low_bits_zero zero = refl
low_bits_zero (suc k) = ap (λ (bits : List Bool). false ∷ bits) (low_bits_zero k)

pub low_bits_ones : (k : ℕ) → low_bits k (2 ^ k - 1) ≡ replicate k true
low_bits_ones zero = refl
low_bits_ones (suc k) =
    let twice : 2 ^ suc k ≡ 2 ^ k * 2 = pow-suc 2 k in
    let some : 0 < 2 ^ k = pow_pos k in
    let odd : (2 ^ suc k - 1) % 2 ≡ 1 = omega arith in
    let half : (2 ^ suc k - 1) / 2 ≡ 2 ^ k - 1 = omega arith in
    ap (λ (b : ℕ). eqb b 1 ∷ low_bits k ((2 ^ suc k - 1) / 2)) odd ∙ ap (λ (n : ℕ). true ∷ low_bits k n) half ∙ ap (λ (bits : List Bool). true ∷ bits) (low_bits_ones k)

-- twice a number has a zero below its bits
pub low_bits_twice : (k n : ℕ) → low_bits (suc k) (n * 2) ≡ false ∷ low_bits k n
low_bits_twice k n =
    let even : n * 2 % 2 ≡ 0 = omega arith in
    let half : n * 2 / 2 ≡ n = omega arith in
    ap (λ (b : ℕ). eqb b 1 ∷ low_bits k (n * 2 / 2)) even ∙ ap (λ (m : ℕ). false ∷ low_bits k m) half

pub take-low_bits : (j k n : ℕ) → j ≤ k → take j (low_bits k n) ≡ low_bits j n
take-low_bits j k n within =
    let size : j + (k - j) ≡ k = omega arith in
    ap (λ (m : ℕ). take j (low_bits m n)) (sym size) ∙ ap (take j) (low_bits-split j (k - j) n)
    ∙ take_at (low_bits j n) (low_bits (k - j) (n / 2 ^ j)) j (length-low_bits j n)

-- the eight bytes of a word
pub bytes_fit : (n i : ℕ) → get_or (to_le_bytes w64 n) i 0 < 256
bytes_fit n zero = omega arith
bytes_fit n (suc zero) = omega arith
bytes_fit n (suc (suc zero)) = omega arith
bytes_fit n (suc (suc (suc zero))) = omega arith
bytes_fit n (suc (suc (suc (suc zero)))) = omega arith
bytes_fit n (suc (suc (suc (suc (suc zero))))) = omega arith
bytes_fit n (suc (suc (suc (suc (suc (suc zero)))))) = omega arith
bytes_fit n (suc (suc (suc (suc (suc (suc (suc zero))))))) = omega arith
bytes_fit n (suc (suc (suc (suc (suc (suc (suc (suc i)))))))) = omega arith

pub bits_of-word : (n : ℕ) → n < 2 ^ 64 → bits_of (to_le_bytes w64 n) ≡ low_bits 64 n
bits_of-word n fits =
    bits_of_number (to_le_bytes w64 n) (bytes_fit n)
    ∙ ap (low_bits 64) (sym (from_le_bytes_number (to_le_bytes w64 n) refl) ∙ from_le_bytes-to_le_bytes_8 n fits)

pub fits-append : (xs ys : List ℕ) → ((i : ℕ) → get_or xs i 0 < 256) → ((i : ℕ) → get_or ys i 0 < 256) → (i : ℕ) → get_or (xs ++ ys) i 0 < 256
fits-append [] ys first second i = second i
fits-append (x ∷ xs) ys first second zero = first 0
fits-append (x ∷ xs) ys first second (suc i) = fits-append xs ys (λ j. first (suc j)) second i

pub fits-take : (n : ℕ) (xs : List ℕ) → ((i : ℕ) → get_or xs i 0 < 256) → (i : ℕ) → get_or (take n xs) i 0 < 256
fits-take n xs fits i = elim (cases_lt i n) [
  | inl below ↦ omega (arith, get_or-take n xs i 0 below, fits i)
  | inr above ↦ omega (arith, get_or_past (take n xs) i 0 (omega (arith, length-take n xs)))
]

take_bytes : (bytes : List ℕ) (n : ℕ) → n ≤ length bytes → bits_of (take n bytes) ≡ take (8 * n) (bits_of bytes)
take_bytes bytes zero h = refl
take_bytes [] (suc n) h = absurd (omega arith)
take_bytes (byte ∷ bytes) (suc n) h =
    let size : 8 * suc n ≡ length (byte_bits byte) + 8 * n = omega (arith, length-byte_bits byte) in
    ap (λ (bits : List Bool). byte_bits byte ++ bits) (take_bytes bytes n (omega arith))
    ∙ sym (take_both (byte_bits byte) (bits_of bytes) (8 * n)) ∙ ap (λ (k : ℕ). take k (byte_bits byte ++ bits_of bytes)) (sym size) where
      take_both : (xs ys : List Bool) (n : ℕ) → take (length xs + n) (xs ++ ys) ≡ xs ++ take n ys
      take_both [] ys n = let e : 0 + n ≡ n = omega arith in ap (λ (k : ℕ). take k ys) e
      take_both (x ∷ xs) ys n =
          let e : suc (length xs) + n ≡ suc (length xs + n) = omega arith in
          ap (λ (k : ℕ). take k (x ∷ (xs ++ ys))) e ∙ ap (λ (bits : List Bool). x ∷ bits) (take_both xs ys n)

-- ---- a number is put above the bits of a word, where both fit
put_word : (word count number bits : ℕ) → word < 2 ^ count → count + bits ≤ 64 → number < 2 ^ bits → bit_or word (number * 2 ^ count % 2 ^ 64) ≡ word + number * 2 ^ count
put_word word count number bits fits room below =
    ap (bit_or word) (shl_whole number bits count 64 below (omega arith)) ∙ or_comm word (number * 2 ^ count) ∙ or_shifted number count word fits ∙ omega arith

pub put_fits : (word count number bits : ℕ) → word < 2 ^ count → count + bits ≤ 64 → number < 2 ^ bits → bit_or word (number * 2 ^ count % 2 ^ 64) < 2 ^ (count + bits)
put_fits word count number bits fits room below =
    omega (arith, put_word word count number bits fits room below, mul-add-lt number (2 ^ count) word (2 ^ bits) below fits, pow-add 2 count bits)

pub put_bits : (word count number bits : ℕ) → word < 2 ^ count → count + bits ≤ 64 → number < 2 ^ bits
    → low_bits (count + bits) (bit_or word (number * 2 ^ count % 2 ^ 64)) ≡ low_bits count word ++ low_bits bits number
put_bits word count number bits fits room below =
    ap (low_bits (count + bits)) (put_word word count number bits fits room below) ∙ low_bits-cat count bits word number fits

-- where they do not, the low bits of the number fill the word
shl_cut : (number count room : ℕ) → count + room ≡ 64 → number * 2 ^ count % 2 ^ 64 ≡ number % 2 ^ room * 2 ^ count
shl_cut number count room size =
    let turned : 64 ≡ room + count = omega arith in
    let none : number * 2 ^ count % 2 ^ count ≡ 0 = mul-mod_left number (2 ^ count) in
    ap (λ (n : ℕ). number * 2 ^ count % 2 ^ n) turned ∙ mod-pow-add (number * 2 ^ count) room count
    ∙ ap (λ (n : ℕ). n % 2 ^ room * 2 ^ count + number * 2 ^ count % 2 ^ count) (shl-shr number count) ∙ omega (arith, none)

full_word : (word count number room : ℕ) → word < 2 ^ count → count + room ≡ 64 → low_bits 64 (bit_or word (number * 2 ^ count % 2 ^ 64)) ≡ low_bits count word ++ low_bits room number
full_word word count number room fits size =
    let low = number % 2 ^ room in
    let below : low < 2 ^ room = mod_below number (2 ^ room) (pow_pos room) in
    let small : low * 2 ^ count % 2 ^ 64 ≡ number * 2 ^ count % 2 ^ 64 = shl_whole low room count 64 below (omega arith) ∙ sym (shl_cut number count room size) in
    ap (λ (n : ℕ). low_bits n (bit_or word (number * 2 ^ count % 2 ^ 64))) (sym size)
    ∙ ap (λ (n : ℕ). low_bits (count + room) (bit_or word n)) (sym small)
    ∙ put_bits word count low room fits (omega arith) below
    ∙ ap (λ (bits : List Bool). low_bits count word ++ bits) (low_bits_mod room number)

-- and the others stand in the next one
pub next_word : (count number bits : ℕ) → count < 64 → 64 ≤ count + bits → number < 2 ^ bits → number / 2 ^ (64 - count) < 2 ^ (count + bits - 64)
next_word count number bits small long below =
    let size : count + bits - 64 + (64 - count) ≡ bits = omega arith in
    let P : ℕ → Type 0 = λ n. number < 2 ^ n in
    shr_below number (count + bits - 64) (64 - count) (subst P (sym size) below)

pub put_out : (old new : List Bool) (word count number bits : ℕ) → word < 2 ^ count → count < 64 → 64 ≤ count + bits
    → new ≡ old ++ low_bits 64 (bit_or word (number * 2 ^ count % 2 ^ 64))
    → new ++ low_bits (count + bits - 64) (number / 2 ^ (64 - count)) ≡ (old ++ low_bits count word) ++ low_bits bits number
put_out old new word count number bits fits small long is =
    let room = 64 - count in
    let rest = count + bits - 64 in
    let size : room + rest ≡ bits = omega arith in
    let written : new ≡ (old ++ low_bits count word) ++ low_bits room number =
    is ∙ ap (λ (bits : List Bool). old ++ bits) (full_word word count number room fits (omega arith)) ∙ sym (append_assoc old (low_bits count word) (low_bits room number)) in
    ap (λ (bits : List Bool). bits ++ low_bits rest (number / 2 ^ room)) written
    ∙ append_assoc (old ++ low_bits count word) (low_bits room number) (low_bits rest (number / 2 ^ room))
    ∙ ap (λ (more : List Bool). (old ++ low_bits count word) ++ more) (sym (low_bits-split room rest number) ∙ ap (λ (n : ℕ). low_bits n number) size)

-- the last bits are written out in whole bytes
pub put_last : (bytes longer : List ℕ) (count word whole : ℕ) → count < 64 → word < 2 ^ count → 8 * whole < count + 8 → count ≤ 8 * whole
    → longer ≡ bytes ++ take whole (to_le_bytes w64 word) → bits_of longer ≡ (bits_of bytes ++ low_bits count word) ++ replicate (8 * whole - count) false
put_last bytes longer count word whole small fits short long is =
    let wide : 2 ^ count ≤ 2 ^ 64 = pow-le-pow_right {n = 2} (omega arith) {i = count} {j = 64} (omega arith) in
    let size : count + (8 * whole - count) ≡ 8 * whole = omega arith in
    let none : word / 2 ^ count ≡ 0 = (let whole : 0 * 2 ^ count + word ≡ word = omega arith in ap (λ (n : ℕ). n / 2 ^ count) (sym whole) ∙ shr_high 0 count word fits) in
    let last : bits_of (take whole (to_le_bytes w64 word)) ≡ low_bits count word ++ replicate (8 * whole - count) false =
    take_bytes (to_le_bytes w64 word) whole (omega arith) ∙ ap (take (8 * whole)) (bits_of-word word (omega arith))
    ∙ take-low_bits (8 * whole) 64 word (omega arith) ∙ ap (λ (n : ℕ). low_bits n word) (sym size) ∙ low_bits-split count (8 * whole - count) word
    ∙ ap (λ (n : ℕ). low_bits count word ++ low_bits (8 * whole - count) n) none
    ∙ ap (λ (bits : List Bool). low_bits count word ++ bits) (low_bits_zero (8 * whole - count)) in
    ap bits_of is ∙ bits_of-append bytes (take whole (to_le_bytes w64 word)) ∙ ap (λ (bits : List Bool). bits_of bytes ++ bits) last
    ∙ sym (append_assoc (bits_of bytes) (low_bits count word) (replicate (8 * whole - count) false))

-- ---- ones, and the code of a delta
pub ones_more : (now next total : List Bool) (left : ℕ) → 31 < left → next ≡ now ++ low_bits 32 4294967295 → now ++ replicate left true ≡ total → next ++ replicate (left - 32) true ≡ total
ones_more now next total left many is whole =
    let size : 32 + (left - 32) ≡ left = omega arith in
    ap (λ (bits : List Bool). bits ++ replicate (left - 32) true) (is ∙ ap (λ (bits : List Bool). now ++ bits) (low_bits_ones 32)) ∙ append_assoc now (replicate 32 true) (replicate (left - 32) true)
    ∙ ap (λ (bits : List Bool). now ++ bits) (replicate-append-replicate 32 (left - 32) true ∙ ap (λ (n : ℕ). replicate n true) size) ∙ whole

-- a mask of low bits
pub low_part : (parameter delta : ℕ) → parameter ≤ 28 → bit_and delta (1 * 2 ^ parameter % 2 ^ 32 - 1) ≡ delta % 2 ^ parameter
low_part parameter delta few = ap (λ (n : ℕ). bit_and delta (n - 1)) (one_shl parameter 32 (omega arith)) ∙ and_mask delta parameter

-- low bits, a one below them and so many zeros stand whole in a word
above_ones : (parameter low ones : ℕ) → low < 2 ^ parameter → parameter ≤ 28 → ones ≤ 31 → (2 * low + 1) * 2 ^ ones % 2 ^ 64 ≡ low * 2 * 2 ^ ones + 2 ^ ones
above_ones parameter low ones below few many =
    let odd : 2 * low + 1 < 2 ^ (parameter + 1) = omega (arith, below, pow-add 2 parameter 1) in
    shl_whole (2 * low + 1) (parameter + 1) ones 64 odd (omega arith) ∙ omega arith

pub code_some : (parameter low ones : ℕ) → low < 2 ^ parameter → parameter ≤ 28 → ones ≤ 31 → 1 ≤ (2 * low + 1) * 2 ^ ones % 2 ^ 64
code_some parameter low ones below few many = omega (arith, above_ones parameter low ones below few many, pow_pos ones)

pub code_fits : (parameter low ones : ℕ) → low < 2 ^ parameter → parameter ≤ 28 → ones ≤ 31 → (2 * low + 1) * 2 ^ ones % 2 ^ 64 - 1 < 2 ^ (ones + parameter + 1)
code_fits parameter low ones below few many =
    let odd : 2 * low + 1 < 2 ^ (parameter + 1) = omega (arith, below, pow-add 2 parameter 1) in
    let size : parameter + 1 + ones ≡ ones + parameter + 1 = omega arith in
    let high : (2 * low + 1) * 2 ^ ones < 2 ^ (parameter + 1 + ones) = shl_below (2 * low + 1) (parameter + 1) ones odd in
    let whole : (2 * low + 1) * 2 ^ ones % 2 ^ 64 ≡ (2 * low + 1) * 2 ^ ones = shl_whole (2 * low + 1) (parameter + 1) ones 64 odd (omega arith) in
    let P : ℕ → Type 0 = λ n. (2 * low + 1) * 2 ^ ones % 2 ^ 64 - 1 < 2 ^ n in
    subst P size (omega (arith, high, whole))

pub low_bits_code : (parameter delta ones : ℕ) → parameter ≤ 28 → ones ≤ 31
    → low_bits (ones + parameter + 1) ((2 * (delta % 2 ^ parameter) + 1) * 2 ^ ones % 2 ^ 64 - 1) ≡ replicate ones true ++ false ∷ low_bits parameter delta
low_bits_code parameter delta ones few many =
    let low = delta % 2 ^ parameter in
    let below : low < 2 ^ parameter = mod_below delta (2 ^ parameter) (pow_pos parameter) in
    let some : 0 < 2 ^ ones = pow_pos ones in
    let size : ones + parameter + 1 ≡ ones + suc parameter = omega arith in
    let parts : (2 * low + 1) * 2 ^ ones % 2 ^ 64 - 1 ≡ 2 ^ ones - 1 + low * 2 * 2 ^ ones = omega (arith, some, above_ones parameter low ones below few many) in
    ap (λ (n : ℕ). low_bits n ((2 * low + 1) * 2 ^ ones % 2 ^ 64 - 1)) size
    ∙ ap (low_bits (ones + suc parameter)) parts
    ∙ low_bits-cat ones (suc parameter) (2 ^ ones - 1) (low * 2) (omega arith)
    ∙ ap (λ (bits : List Bool). bits ++ low_bits (suc parameter) (low * 2)) (low_bits_ones ones)
    ∙ ap (λ (bits : List Bool). replicate ones true ++ bits) (low_bits_twice parameter low ∙ ap (λ (bits : List Bool). false ∷ bits) (low_bits_mod parameter delta))

pub put_code_is : (old now new : List Bool) (parameter delta ones : ℕ) → now ++ replicate ones true ≡ old ++ replicate (delta / 2 ^ parameter) true
    → new ≡ now ++ (replicate ones true ++ false ∷ low_bits parameter delta) → new ≡ old ++ code parameter delta
unfolding code
put_code_is old now new parameter delta ones same is =
    is ∙ sym (append_assoc now (replicate ones true) (false ∷ low_bits parameter delta))
    ∙ ap (λ (bits : List Bool). bits ++ false ∷ low_bits parameter delta) same
    ∙ append_assoc old (replicate (delta / 2 ^ parameter) true) (false ∷ low_bits parameter delta)

pub if_ok_then : {A E : Type 0} (r : Result A E) {P Q : A → Type 0} → IfOk r P → ((x : A) → P x → Q x) → IfOk r Q
if_ok_then (Ok x) p f = f x p
if_ok_then (Err e) p f = tt
