use Rattle.std.proofs.Common.{◌^◌, ◌≤◌, inl, inr, arith}
use Rattle.std.proofs.Math.Nat.{pow-le-pow_right}
use Rattle.std.proofs.lemmas.Bool.{cases_lt}
use Rattle.rice_coding.proofs.parameter.likely_parameter.Goals as goal

pub returns-clause-low : goal.returns-clause-low
returns-clause-low c = elim (cases_lt c.ilog2.result 2) [
  | inl small ↦
      let low : 2 ^ c.ilog2.result ≤ 2 ^ 1 = pow-le-pow_right {n = 2} (omega arith) {i = c.ilog2.result} {j = 1} (omega (arith, small)) in
      absurd (omega (arith, low, c.ilog2.ensures.next_power_gt, c.max.ensures))
  | inr large ↦ omega (arith, large, c.min.ensures)
]
