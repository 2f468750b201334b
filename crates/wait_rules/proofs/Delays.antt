-- From eight failures on a delay is a day.
use Rattle.std.proofs.Common.{◌≡◌, ℕ, ◌+◌, ◌-◌, ◌*◌, ◌/◌, ◌^◌, ◌≤◌, min, arith}
use Rattle.std.specs.Int.{div_ceil}
use Rattle.std.proofs.Math.Nat.{pow-le-pow_right, mul-le-mul, le-div_iff_mul-le}
use Rattle.wait_rules.specs.Waits.{failure_delay}

doubled : (failures : ℕ) → 8 ≤ failures → 2 ^ 7 ≤ 2 ^ (failures - 1)
doubled failures h = let more : 7 ≤ failures - 1 = omega arith in pow-le-pow_right (omega arith) more

-- the product, whose first factor is at least 128
large : (factor word : ℕ) → 128 ≤ factor → 115200000 * 2 ^ 32 ≤ factor * 900000 * (2 ^ 32 + word)
large factor word h =
    let first : 128 * 900000 ≤ factor * 900000 = omega arith in
    let second : 2 ^ 32 ≤ 2 ^ 32 + word = omega arith in
    mul-le-mul first second

quotient : (factor word : ℕ) → 128 ≤ factor → 115200000 ≤ factor * 900000 * (2 ^ 32 + word) / 2 ^ 32
quotient factor word h = (le-div_iff_mul-le (omega arith)).1 (large factor word h)

capped : (n : ℕ) → 115200000 ≤ n / 2 ^ 32 → min 86400000 (div_ceil n (2 ^ 32)) ≡ 86400000
capped n h = omega arith

pub many_failures : (failures word : ℕ) → 8 ≤ failures → failure_delay failures word ≡ 86400000
many_failures failures word h = capped (2 ^ (failures - 1) * 900000 * (2 ^ 32 + word)) (quotient (2 ^ (failures - 1)) word (doubled failures h))
