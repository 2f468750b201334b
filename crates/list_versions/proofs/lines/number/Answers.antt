use Rattle.std.proofs.Common.{arith}
use Rattle.std.proofs.lemmas.Grind.{common_steps}
use Rattle.list_versions.specs.Lines.{short_number_of}
use Rattle.list_versions.proofs.lines.number.Goals as goal
use Rattle.list_versions.proofs.lines.number.Goals.{then-not-is_numeral-via-then-not-is_numeral, then-not-is_numeral-via-else-not-is_numeral+then-text-gt4}

pub returns-then-not-is_numeral-clause-value : goal.returns-then-not-is_numeral-clause-value
unfolding short_number_of
returns-then-not-is_numeral-clause-value c = elim c.then-not-is_numeral.branch [
  | then-not-is_numeral-via-then-not-is_numeral w ↦ grind (arith, common_steps)
  | then-not-is_numeral-via-else-not-is_numeral+then-text-gt4 w ↦ grind (arith, common_steps)
]

pub returns-clause-value : goal.returns-clause-value
unfolding short_number_of
returns-clause-value c = grind (arith, common_steps)
