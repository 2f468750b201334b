-- Lemmas on Rice codes and on how they are read.
use Rattle.std.proofs.Common.{◌≡◌, inl, inr, ℕ, zero, suc, ◌+◌, ◌-◌, ◌*◌, ◌/◌, ◌%◌, ◌^◌, ◌<◌, ◌≤◌, ◌↔◌, IsTrue, Bool, true, false, cond, eqb, List, [], ◌∷◌, ◌++◌, length, get_or, take, drop, replicate, Option, Some, None, refl, sym, ap, ◌∙◌, arith, ltb, subst}
use Rattle.std.specs.Option.{option_and_then, option_map}
use Rattle.std.proofs.Math.Nat.{le-mul_of_pos_right, mul-le-mul_right, pow-le-pow_right, pow-suc}
use Rattle.std.proofs.lemmas.Bool.{false≢true, cases_eq, cases_lt}
use Rattle.std.proofs.lemmas.Bool.Decides.{nat_tests}
use Rattle.std.proofs.lemmas.List.{drop_all, drop-drop, get_or-drop, length-drop, get_or_past, append_assoc, drop_at, drop_more, length-append, length-take-le, take-append-drop, take_at}
use Rattle.std.proofs.lemmas.Nat.{mod-pow-add, trailing_le, pow_pos, shl_below, shl_whole, shr_high, shr_split, shr-shr, mod_below}
use Rattle.std.proofs.lemmas.Nat.Bits.{bit_at_lowest, bit_at-suc, bit_at_ones, bit_at-trailing_ones}
use lib.Count.{count_trailing_zeros}
use Rattle.std.specs.Int.{bit_at, w64, trailing_ones}
use Rattle.rice_coding.specs.Bits.{low_bits, number_of_bits}
use Rattle.rice_coding.specs.Codes.{code}
use Rattle.rice_coding.specs.Rice.{HasNoCode}
use Rattle.rice_coding.proofs.BitFacts.{length-low_bits, low_bits_below}
use Rattle.rice_coding.specs.Reading.{unary, delta_at, with_remainder}

abbrev pub found : ℕ → List Bool → Option (ℕ × List Bool)
found number bits = Some (number, bits)

-- the ones before, and then what is found
abbrev pub after_ones : ℕ → Option (ℕ × List Bool) → Option (ℕ × List Bool)
after_ones n None = None
after_ones n (Some (ones, bits)) = Some (n + ones, bits)

after_ones-zero : (found : Option (ℕ × List Bool)) → after_ones 0 found ≡ found
after_ones-zero None = refl
after_ones-zero (Some (ones, bits)) = let e : 0 + ones ≡ ones = omega arith in ap (λ (n : ℕ). Some (n, bits)) e

pub after_ones-after_ones : (m n : ℕ) (found : Option (ℕ × List Bool)) → after_ones m (after_ones n found) ≡ after_ones (m + n) found
after_ones-after_ones m n None = refl
after_ones-after_ones m n (Some (ones, bits)) = let e : m + (n + ones) ≡ m + n + ones = omega arith in ap (λ (n : ℕ). Some (n, bits)) e

unary-true : (bits : List Bool) → unary (true ∷ bits) ≡ after_ones 1 (unary bits)
unary-true bits = elim (unary bits) as (λ (found : Option (ℕ × List Bool)). option_map (λ (found : ℕ × List Bool). (suc found.0, found.1)) found ≡ after_ones 1 found) [
  | None ↦ refl
  | Some x ↦ let e : suc x.0 ≡ 1 + x.0 = omega arith in ap (λ (n : ℕ). Some (n, x.1)) e
]

pub unary_after : (bits : List Bool) (n : ℕ) → ((i : ℕ) → i < n → get_or bits i false ≡ true) → unary bits ≡ after_ones n (unary (drop n bits))
unary_after bits zero ones = sym (after_ones-zero (unary bits))
unary_after [] (suc n) ones = absurd (false≢true (ones 0 (omega arith)))
unary_after (false ∷ bits) (suc n) ones = absurd (false≢true (ones 0 (omega arith)))
unary_after (true ∷ bits) (suc n) ones =
    let size : 1 + n ≡ suc n = omega arith in
    unary-true bits
    ∙ ap (after_ones 1) (unary_after bits n (λ i below. ones (suc i) (omega arith)))
    ∙ after_ones-after_ones 1 n (unary (drop n bits))
    ∙ ap (λ (m : ℕ). after_ones m (unary (drop n bits))) size

-- all bits are ones
pub unary_none : (bits : List Bool) (n : ℕ) → ((i : ℕ) → i < n → get_or bits i false ≡ true) → length bits ≤ n → unary bits ≡ None
unary_none bits n ones short = unary_after bits n ones ∙ ap (λ (rest : List Bool). after_ones n (unary rest)) (drop_all n bits short)

-- a zero comes after n ones
pub unary_some : (bits : List Bool) (n : ℕ) → ((i : ℕ) → i < n → get_or bits i false ≡ true) → n < length bits → get_or bits n false ≡ false → unary bits ≡ Some (n, drop (n + 1) bits)
unary_some bits n ones long zero_at =
    let here : drop n bits ≡ false ∷ drop (n + 1) bits = drop_more bits n false long ∙ ap (λ (b : Bool). b ∷ drop (n + 1) bits) zero_at in
    let size : n + 0 ≡ n = omega arith in
    unary_after bits n ones ∙ ap (λ (rest : List Bool). after_ones n (unary rest)) here ∙ ap (λ (m : ℕ). Some (m, drop (n + 1) bits)) size

-- the ones at the low end of a word
pub trailing_ones_set : (n : ℕ) → n < 2 ^ 64 → (i : ℕ) → i < trailing_ones w64 n → bit_at n i ≡ 1
trailing_ones_set n fits i below = elim (cases_eq n (2 ^ 64 - 1)) [
  | inl most ↦ ap (λ (m : ℕ). bit_at m i) most ∙ bit_at_ones 64 i (omega (arith, trailing_le 64 (2 ^ 64 - 1 - n)))
  | inr other ↦ (bit_at-trailing_ones w64 n (omega arith)).2 i below
]

-- the zero above them
pub trailing_ones_clear : (n : ℕ) → n < 2 ^ 64 → trailing_ones w64 n < 64 → bit_at n (trailing_ones w64 n) ≡ 0
unfolding count_trailing_zeros
trailing_ones_clear n fits few = elim (cases_eq n (2 ^ 64 - 1)) [
  | inl most ↦ absurd (let e : trailing_ones w64 n ≡ 64 = ap (trailing_ones w64) most in omega arith)
  | inr other ↦ (bit_at-trailing_ones w64 n (omega arith)).1
]

digit : (n : ℕ) → cond (eqb (n % 2) 1) 1 0 ≡ n % 2
digit n = grind (arith, nat_tests)

mod_suc : (n k : ℕ) → n % 2 ^ suc k ≡ n % 2 + 2 * (n / 2 % 2 ^ k)
mod_suc n k =
    let size : k + 1 ≡ suc k = omega arith in
    ap (λ (m : ℕ). n % 2 ^ m) (sym size) ∙ mod-pow-add n k 1 ∙ omega arith

-- the number of the low bits of a word
pub number_of_word : (k : ℕ) (bits : List Bool) (n : ℕ) → ((i : ℕ) → i < k → get_or bits i false ≡ eqb (bit_at n i) 1) → k ≤ length bits → number_of_bits (take k bits) ≡ n % 2 ^ k
number_of_word zero bits n same long = omega arith
number_of_word (suc k) [] n same long = absurd (omega arith)
number_of_word (suc k) (b ∷ bits) n same long =
    let lowest : b ≡ eqb (n % 2) 1 = same 0 (omega arith) ∙ ap (λ (b : ℕ). eqb b 1) (bit_at_lowest n) in
    let rest : number_of_bits (take k bits) ≡ n / 2 % 2 ^ k = number_of_word k bits (n / 2) (λ i below. same (suc i) (omega arith) ∙ ap (λ (b : ℕ). eqb b 1) (bit_at-suc n i)) (omega arith) in
    let first : cond b 1 0 ≡ n % 2 = ap (λ (b : Bool). cond b 1 0) lowest ∙ digit n in
    omega (arith, mod_suc n k)

-- A word whose low bits are the next ones: the ones that it begins with, and the zero after them.
pub run_ones : (bits : List Bool) (word valid run : ℕ) → word < 2 ^ 64 → ((i : ℕ) → i < valid → get_or bits i false ≡ eqb (bit_at word i) 1) → run ≡ trailing_ones w64 word
    → (i : ℕ) → i < valid → i < run → get_or bits i false ≡ true
run_ones bits word valid run fits same is i within below =
    let set : bit_at word i ≡ 1 = trailing_ones_set word fits i (omega arith) in
    same i within ∙ ap (λ (b : ℕ). eqb b 1) set

pub run_zero : (bits : List Bool) (word valid run : ℕ) → word < 2 ^ 64 → valid ≤ 64 → ((i : ℕ) → i < valid → get_or bits i false ≡ eqb (bit_at word i) 1) → run ≡ trailing_ones w64 word
    → run < valid → get_or bits run false ≡ false
run_zero bits word valid run fits few same is within =
    let clear : bit_at word (trailing_ones w64 word) ≡ 0 = trailing_ones_clear word fits (omega arith) in
    same run within ∙ ap (λ (n : ℕ). eqb (bit_at word n) 1) is ∙ ap (λ (b : ℕ). eqb b 1) clear

-- a one stands within the list
pub within_from_one : (bits : List Bool) (i : ℕ) → get_or bits i false ≡ true → i < length bits
within_from_one bits i one = elim (cases_lt i (length bits)) [
  | inl below ↦ below
  | inr above ↦ absurd (false≢true (sym (get_or_past bits i false above) ∙ one))
]

pub short_from_has : (b : Bool) (m n : ℕ) → b ≡ false → (IsTrue b ↔ (m ≤ n)) → n < m
short_from_has b m n e h = grind (arith, nat_tests)

pub long_from_has : (b : Bool) (m n : ℕ) → b ≡ true → (IsTrue b ↔ (m ≤ n)) → m ≤ n
long_from_has b m n e h = grind (arith, nat_tests)

-- ---- the delta at the front, by its parts
pub delta_at-no_zero : (parameter : ℕ) (bits : List Bool) → unary bits ≡ None → delta_at parameter bits ≡ None
unfolding delta_at
delta_at-no_zero parameter bits e = rw e refl

pub delta_at-short : (parameter ones : ℕ) (bits rest : List Bool) → unary bits ≡ Some (ones, rest) → length rest < parameter → delta_at parameter bits ≡ None
unfolding delta_at
delta_at-short parameter ones bits rest e short =
    let test : ltb (length rest) parameter ≡ true = grind (arith, nat_tests) in
    rw (e, test) refl

pub delta_at-some : (parameter ones : ℕ) (bits rest : List Bool) → unary bits ≡ Some (ones, rest) → parameter ≤ length rest
    → delta_at parameter bits ≡ Some (ones * 2 ^ parameter + number_of_bits (take parameter rest), drop parameter rest)
unfolding delta_at
delta_at-some parameter ones bits rest e long =
    let test : ltb (length rest) parameter ≡ false = grind (arith, nat_tests) in
    rw (e, test) refl

-- a quotient of 2 ^ 34 and more makes a delta of as much
pub delta_high : (ones parameter low : ℕ) → 2 ^ 34 ≤ ones → 2 ^ 34 ≤ ones * 2 ^ parameter + low
delta_high ones parameter low high = omega (arith, le-mul_of_pos_right {m = 2 ^ parameter} ones (pow_pos parameter))

-- the low bits fit
pub number_of-lt : (bits : List Bool) → number_of_bits bits < 2 ^ length bits
number_of-lt [] = omega arith
number_of-lt (true ∷ bits) = omega (arith, number_of-lt bits, pow-suc 2 (length bits))
number_of-lt (false ∷ bits) = omega (arith, number_of-lt bits, pow-suc 2 (length bits))

pub low_lt : (count : ℕ) (bits : List Bool) → count ≤ length bits → number_of_bits (take count bits) < 2 ^ count
low_lt count bits long =
    let size : length (take count bits) ≡ count = length-take-le count bits long in
    let P : ℕ → Type 0 = λ n. number_of_bits (take count bits) < 2 ^ n in
    subst P size (number_of-lt (take count bits))

-- a quotient below 2 ^ 34 stands whole in a word, above the low bits
pub shifted_whole : (ones parameter : ℕ) → ones < 2 ^ 34 → parameter ≤ 28 → ones * 2 ^ parameter % 2 ^ 64 ≡ ones * 2 ^ parameter
shifted_whole ones parameter few small = shl_whole ones 34 parameter 64 few (omega arith)

pub delta_fits : (ones parameter low : ℕ) → ones < 2 ^ 34 → parameter ≤ 28 → low < 2 ^ parameter → ones * 2 ^ parameter % 2 ^ 64 + low < 2 ^ 64
delta_fits ones parameter low few small bound =
    let high : ones * 2 ^ parameter < 2 ^ (34 + parameter) = shl_below ones 34 parameter few in
    let a : 2 ^ (34 + parameter) ≤ 2 ^ 62 = pow-le-pow_right {n = 2} (omega arith) {i = 34 + parameter} {j = 62} (omega arith) in
    let b : 2 ^ parameter ≤ 2 ^ 28 = pow-le-pow_right {n = 2} (omega arith) small in
    omega (arith, shifted_whole ones parameter few small)

-- ---- a code that stands whole in a word
bit_at-shr : (n j i : ℕ) → bit_at n (j + i) ≡ bit_at (n / 2 ^ j) i
bit_at-shr n j i = ap (λ (m : ℕ). m % 2) (sym (shr-shr n j i))

pub word_code : (bits : List Bool) (word valid k ones : ℕ) → word < 2 ^ 64 → valid ≤ 64 → ((i : ℕ) → i < valid → get_or bits i false ≡ eqb (bit_at word i) 1)
    → ones ≡ trailing_ones w64 word → valid ≤ length bits → ones + k + 1 ≤ valid → delta_at k bits ≡ Some (ones * 2 ^ k + word / 2 ^ (ones + 1) % 2 ^ k, drop (ones + k + 1) bits)
word_code bits word valid k ones fits few same is long room =
    let rest = drop (ones + 1) bits in
    let first : unary bits ≡ Some (ones, rest) =
    unary_some bits ones (λ i below. run_ones bits word valid ones fits same is i (omega arith) below) (omega arith) (run_zero bits word valid ones fits few same is (omega arith)) in
    let left : k ≤ length rest = omega (arith, length-drop (ones + 1) bits) in
    let low : number_of_bits (take k rest) ≡ word / 2 ^ (ones + 1) % 2 ^ k =
    number_of_word k rest (word / 2 ^ (ones + 1)) (λ i below.
    get_or-drop (ones + 1) bits i false ∙ same (ones + 1 + i) (omega arith) ∙ ap (λ (b : ℕ). eqb b 1) (bit_at-shr word (ones + 1) i)) left in
    let size : ones + 1 + k ≡ ones + k + 1 = omega arith in
    let after : drop k rest ≡ drop (ones + k + 1) bits = drop-drop k (ones + 1) bits ∙ ap (λ (n : ℕ). drop n bits) size in
    let delta = ones * 2 ^ k + word / 2 ^ (ones + 1) % 2 ^ k in
    let read : delta_at k bits ≡ Some (delta, drop k rest) = delta_at-some k ones bits rest first left ∙ ap (λ (n : ℕ). Some (ones * 2 ^ k + n, drop k rest)) low in
    read ∙ ap (λ (bits : List Bool). Some (delta, bits)) after

-- the bits after some of a word's
pub word_after : (bits : List Bool) (word valid count : ℕ) → count ≤ valid → ((i : ℕ) → i < valid → get_or bits i false ≡ eqb (bit_at word i) 1)
    → (i : ℕ) → i < valid - count → get_or (drop count bits) i false ≡ eqb (bit_at (word / 2 ^ count) i) 1
word_after bits word valid count within same i below =
    get_or-drop count bits i false ∙ same (count + i) (omega arith) ∙ ap (λ (b : ℕ). eqb b 1) (bit_at-shr word count i)

-- and its delta
pub word_delta : (k ones rest : ℕ) → k ≤ 28 → ones ≤ 56 → ones * 2 ^ k + rest % 2 ^ k < 2 ^ 34
word_delta k ones rest few many =
    let wide : 2 ^ k ≤ 2 ^ 28 = pow-le-pow_right {n = 2} (omega arith) few in
    let below : rest % 2 ^ k < 2 ^ k = mod_below rest (2 ^ k) (pow_pos k) in
    let high : ones * 2 ^ k ≤ 56 * 2 ^ k = mul-le-mul_right (2 ^ k) many in
    omega (arith, wide, below, high)

-- ---- a code is read as its delta, and nothing else is
unary_ones : (n : ℕ) (bits : List Bool) → unary (replicate n true ++ false ∷ bits) ≡ Some (n, bits)
unary_ones zero bits = refl
unary_ones (suc n) bits =
    let size : 1 + n ≡ suc n = omega arith in
    unary-true (replicate n true ++ false ∷ bits) ∙ ap (after_ones 1) (unary_ones n bits) ∙ ap (λ (m : ℕ). Some (m, bits)) size

pub number_of-low_bits : (k n : ℕ) → number_of_bits (low_bits k n) ≡ n % 2 ^ k
number_of-low_bits zero n = omega arith
number_of-low_bits (suc k) n = omega (arith, number_of-low_bits k (n / 2), digit n, mod_suc n k)

-- the delta of a code, whatever follows it
pub delta_at-code : (parameter delta : ℕ) (left : List Bool) → delta_at parameter (code parameter delta ++ left) ≡ Some (delta, left)
unfolding code
delta_at-code parameter delta left =
    let low = low_bits parameter delta in
    let ones = replicate (delta / 2 ^ parameter) true in
    let shape : (ones ++ false ∷ low) ++ left ≡ ones ++ false ∷ (low ++ left) = append_assoc ones (false ∷ low) left in
    let first : unary ((ones ++ false ∷ low) ++ left) ≡ Some (delta / 2 ^ parameter, low ++ left) = ap unary shape ∙ unary_ones (delta / 2 ^ parameter) (low ++ left) in
    let size : length low ≡ parameter = length-low_bits parameter delta in
    let long : parameter ≤ length (low ++ left) = omega (arith, length-append low left) in
    let front : take parameter (low ++ left) ≡ low = take_at low left parameter size in
    let rest : drop parameter (low ++ left) ≡ left = drop_at low left parameter size in
    let number : number_of_bits low ≡ delta % 2 ^ parameter = number_of-low_bits parameter delta in
    let value : delta / 2 ^ parameter * 2 ^ parameter + number_of_bits (take parameter (low ++ left)) ≡ delta =
    ap (λ (bits : List Bool). delta / 2 ^ parameter * 2 ^ parameter + number_of_bits bits) front ∙ ap (λ (n : ℕ). delta / 2 ^ parameter * 2 ^ parameter + n) number ∙ shr_split delta parameter in
    delta_at-some parameter (delta / 2 ^ parameter) ((ones ++ false ∷ low) ++ left) (low ++ left) first long
    ∙ ap (λ (n : ℕ). Some (n, drop parameter (low ++ left))) value ∙ ap (λ (bits : List Bool). Some (delta, bits)) rest

some_same : {A : Type 0} (x y : A) → Some x ≡ Some y → x ≡ y
some_same x y e = cc

-- the parts of what was found
pub found_same : (m n : ℕ) (xs ys : List Bool) → found m xs ≡ found n ys → (m ≡ n) × (xs ≡ ys)
found_same m n xs ys e =
    let pair = some_same {A = ℕ × List Bool} (m, xs) (n, ys) e in
    (ap (λ (x : ℕ × List Bool). x.0) pair, ap (λ (x : ℕ × List Bool). x.1) pair)

-- the ones and the rest of a reading that has one more one in front
ones_less : (found : Option (ℕ × List Bool)) (ones : ℕ) (rest : List Bool) → after_ones 1 found ≡ Some (ones, rest) → (n : ℕ) × (ones ≡ suc n) × (found ≡ Some (n, rest))
ones_less None ones rest e = absurd (cc)
ones_less (Some (n, bits)) ones rest e =
    let same = found_same (1 + n) ones bits rest e in
    let size : ones ≡ suc n = omega (arith, same.0) in
    (n, size, ap (λ (bits : List Bool). Some (n, bits)) same.1)

unary_is : (bits rest : List Bool) (ones : ℕ) → unary bits ≡ Some (ones, rest) → bits ≡ replicate ones true ++ false ∷ rest
unary_is [] rest ones e = absurd (cc)
unary_is (false ∷ bits) rest ones e =
    let same = found_same 0 ones bits rest e in
    rw (← same.0) (ap (λ (bits : List Bool). false ∷ bits) same.1)
unary_is (true ∷ bits) rest ones e =
    let less = ones_less (unary bits) ones rest (sym (unary-true bits) ∙ e) in
    rw less.1 (ap (λ (bits : List Bool). true ∷ bits) (unary_is bits rest less.0 less.2))

low_bits-number_of : (bits : List Bool) → low_bits (length bits) (number_of_bits bits) ≡ bits
low_bits-number_of [] = refl
low_bits-number_of (true ∷ bits) =
    let odd : (1 + 2 * number_of_bits bits) % 2 ≡ 1 = omega arith in
    let half : (1 + 2 * number_of_bits bits) / 2 ≡ number_of_bits bits = omega arith in
    let rest : low_bits (length bits) (number_of_bits bits) ≡ bits = low_bits-number_of bits in
    rw (odd, half, rest) refl
low_bits-number_of (false ∷ bits) =
    let even : (0 + 2 * number_of_bits bits) % 2 ≡ 0 = omega arith in
    let half : (0 + 2 * number_of_bits bits) / 2 ≡ number_of_bits bits = omega arith in
    let rest : low_bits (length bits) (number_of_bits bits) ≡ bits = low_bits-number_of bits in
    rw (even, half, rest) refl

-- a quotient and the low bits after it are those of the delta that they make
code_from_parts : (parameter ones : ℕ) (rest : List Bool) → parameter ≤ length rest
    → replicate ones true ++ false ∷ rest ≡ code parameter (ones * 2 ^ parameter + number_of_bits (take parameter rest)) ++ drop parameter rest
unfolding code
code_from_parts parameter ones rest long =
    let low = number_of_bits (take parameter rest) in
    let delta = ones * 2 ^ parameter + low in
    let quotient : delta / 2 ^ parameter ≡ ones = shr_high ones parameter low (low_lt parameter rest long) in
    let turned : delta ≡ low + ones * 2 ^ parameter = omega arith in
    let size : length (take parameter rest) ≡ parameter = length-take-le parameter rest long in
    let bits : low_bits parameter delta ≡ take parameter rest =
    ap (low_bits parameter) turned ∙ low_bits_below parameter low ones ∙ ap (λ (k : ℕ). low_bits k low) (sym size) ∙ low_bits-number_of (take parameter rest) in
    let whole : take parameter rest ++ drop parameter rest ≡ rest = take-append-drop parameter rest in
    let shape : (replicate ones true ++ false ∷ take parameter rest) ++ drop parameter rest ≡ replicate ones true ++ false ∷ (take parameter rest ++ drop parameter rest) =
    append_assoc (replicate ones true) (false ∷ take parameter rest) (drop parameter rest) in
    ap (λ (bits : List Bool). replicate ones true ++ false ∷ bits) (sym whole) ∙ sym shape
    ∙ ap (λ (bits : List Bool). (replicate ones true ++ false ∷ bits) ++ drop parameter rest) (sym bits)
    ∙ ap (λ (n : ℕ). (replicate n true ++ false ∷ low_bits parameter delta) ++ drop parameter rest) (sym quotient)

-- what is read is the code at the front
pub code_of_delta_at : (parameter delta : ℕ) (bits left : List Bool) → delta_at parameter bits ≡ Some (delta, left) → bits ≡ code parameter delta ++ left
unfolding delta_at
code_of_delta_at parameter delta bits left e = by_ones (unary bits) refl e where
  by_test : (ones : ℕ) (rest : List Bool) (test : Bool) → ltb (length rest) parameter ≡ test → bits ≡ replicate ones true ++ false ∷ rest
      → cond test None (found (ones * 2 ^ parameter + number_of_bits (take parameter rest)) (drop parameter rest)) ≡ found delta left → bits ≡ code parameter delta ++ left
  by_test ones rest true short is e = absurd (cc)
  by_test ones rest false long is e =
      let same = found_same (ones * 2 ^ parameter + number_of_bits (take parameter rest)) delta (drop parameter rest) left e in
      let enough : parameter ≤ length rest = grind (arith, nat_tests) in
      is ∙ code_from_parts parameter ones rest enough
      ∙ ap (λ (n : ℕ). code parameter n ++ drop parameter rest) same.0 ∙ ap (λ (bits : List Bool). code parameter delta ++ bits) same.1

  by_ones : (found : Option (ℕ × List Bool)) → unary bits ≡ found → option_and_then (with_remainder parameter) found ≡ Some (delta, left) → bits ≡ code parameter delta ++ left
  by_ones None is e = absurd (cc)
  by_ones (Some (ones, rest)) is e = by_test ones rest (ltb (length rest) parameter) refl (unary_is bits rest ones is) e

pub no_code : (parameter : ℕ) (bits : List Bool) → delta_at parameter bits ≡ None → HasNoCode parameter bits
no_code parameter bits none delta left is =
    let some : delta_at parameter bits ≡ Some (delta, left) = ap (delta_at parameter) is ∙ delta_at-code parameter delta left in
    cc

pub delta_at-no_code : (parameter : ℕ) (bits : List Bool) → HasNoCode parameter bits → delta_at parameter bits ≡ None
delta_at-no_code parameter bits none = go (delta_at parameter bits) refl where
  go : (found : Option (ℕ × List Bool)) → delta_at parameter bits ≡ found → delta_at parameter bits ≡ None
  go None e = e
  go (Some (delta, left)) e = absurd (none delta left (code_of_delta_at parameter delta bits left e))
