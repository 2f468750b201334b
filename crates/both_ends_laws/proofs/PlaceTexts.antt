-- Numbers that rise are long in decimals, but for the first ten thousand.
use Rattle.std.proofs.Common.{◌≡◌, ℕ, zero, suc, ◌+◌, ◌-◌, ◌*◌, ◌/◌, ◌%◌, ◌^◌, ◌<◌, ◌≤◌, Bool, true, false, cond, not, inl, inr, List, [], ◌∷◌, length, map, refl, arith, pow-suc}
use Rattle.std.specs.Prelude.{◌==◌, filter, decimal}
use Rattle.std.specs.Fmt.{digits, digits_onto, digit_glyph}
use Rattle.std.specs.List.{enumerate_from}
use Rattle.std.proofs.lemmas.Bool.{cases_lt, eqb-true}
use Rattle.sb_model.specs.Difference.{has_member, removed_places}
use Rattle.both_ends_laws.proofs.Costs.{total}

-- ---- decimals

abbrev last : ℕ → List ℕ → List ℕ
last n acc = digit_glyph false (n % 10) ∷ acc

chosen : (b : Bool) (least : ℕ) (some more : List ℕ) → (b ≡ true → least ≤ length some) → (b ≡ false → least ≤ length more)
    → least ≤ length (cond b some more)
chosen true least some more h g = h refl
chosen false least some more h g = g refl

not_shorter : (k n : ℕ) (acc : List ℕ) → length acc ≤ length (digits_onto k 10 false n acc)
not_shorter zero n acc = omega arith
not_shorter (suc k) n acc =
    chosen (n / 10 == 0) (length acc) (last n acc) (digits_onto k 10 false (n / 10) (last n acc)) (λ e. omega arith)
    (λ e. omega (arith, not_shorter k (n / 10) (last n acc)))

one_digit : (k n : ℕ) (acc : List ℕ) → length acc + 1 ≤ length (digits_onto (suc k) 10 false n acc)
one_digit k n acc =
    chosen (n / 10 == 0) (length acc + 1) (last n acc) (digits_onto k 10 false (n / 10) (last n acc)) (λ e. omega arith)
    (λ e. omega (arith, not_shorter k (n / 10) (last n acc)))

ten_power : (j : ℕ) → 0 < 10 ^ j
ten_power zero = omega arith
ten_power (suc j) = omega (arith, pow-suc 10 j, ten_power j)

more_digits : (j k n : ℕ) (acc : List ℕ) → j < k → 10 ^ j ≤ n → length acc + suc j ≤ length (digits_onto k 10 false n acc)
more_digits j zero n acc less high = absurd (omega (arith, less))
more_digits zero (suc k) n acc less high = omega (arith, one_digit k n acc)
more_digits (suc j) (suc k) n acc less high =
    let power : 10 ^ suc j ≡ 10 ^ j * 10 = pow-suc 10 j in
    let some : 0 < 10 ^ j = ten_power j in
    chosen (n / 10 == 0) (length acc + suc (suc j)) (last n acc) (digits_onto k 10 false (n / 10) (last n acc))
    (λ e. let none : n / 10 ≡ 0 = eqb-true (n / 10) 0 e in absurd (omega (arith, none, power, some, high)))
    (λ e. omega (arith, more_digits j k (n / 10) (last n acc) (omega (arith, less)) (omega (arith, power, high))))

some_digits : (n : ℕ) → 1 ≤ length (decimal n)
unfolding digits
some_digits n = one_digit 63 n []

five_digits : (n : ℕ) → 10000 ≤ n → 5 ≤ length (decimal n)
unfolding digits
five_digits n high = more_digits 4 64 n [] (omega arith) high

-- ---- numbers that rise

-- each number is above those before it, and the first is no less than a bound
abbrev pub RisesFrom : ℕ → List ℕ → Type 0
RisesFrom low [] = Unit {0}
RisesFrom low (n ∷ ns) = (low ≤ n) × RisesFrom (n + 1) ns

-- each number has its decimals and a comma
pub rising_length : (low : ℕ) (ns : List ℕ) → RisesFrom low ns → 6 * length ns ≤ total (λ n. 1 + length (decimal n)) ns + 4 * (10000 - low)
rising_length low [] h = omega arith
rising_length low (n ∷ ns) h =
    elim (cases_lt n 10000) [
      | inl less ↦ omega (arith, less, h.0, some_digits n, rising_length (n + 1) ns h.1)
      | inr high ↦ omega (arith, high, h.0, five_digits n high, rising_length (n + 1) ns h.1)
    ]

-- ---- the places that a newer set lacks

from_lower : (a b : ℕ) (ns : List ℕ) → a ≤ b → RisesFrom b ns → RisesFrom a ns
from_lower a b [] le h = tt
from_lower a b (n ∷ ns) le h = (omega (arith, le, h.0), h.1)

numbered_rise : (test : ℕ × List ℕ → Bool) (n : ℕ) (set : List (List ℕ))
    → RisesFrom n (map (λ member. member.0) (filter test (enumerate_from n set)))
numbered_rise test n [] = tt
numbered_rise test n (x ∷ xs) = go (test (n, x)) (numbered_rise test (n + 1) xs)
  where
    go : (b : Bool) → RisesFrom (n + 1) (map (λ (member : ℕ × List ℕ). member.0) (filter test (enumerate_from (n + 1) xs)))
        → RisesFrom n (map (λ (member : ℕ × List ℕ). member.0) (cond b ((n, x) ∷ filter test (enumerate_from (n + 1) xs)) (filter test (enumerate_from (n + 1) xs))))
    go true more = (omega arith, more)
    go false more = from_lower n (n + 1) _ (omega arith) more

pub removed_rise : (old newer : List (List ℕ)) → RisesFrom 0 (removed_places old newer)
removed_rise old newer = numbered_rise (λ member. not (has_member newer member.1)) 0 old
