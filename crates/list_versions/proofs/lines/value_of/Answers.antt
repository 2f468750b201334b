use Rattle.std.proofs.Common.{arith}
use Rattle.list_versions.proofs.Digits.{four_digits}
use Rattle.list_versions.proofs.lines.value_of.Goals as goal

pub overflow_mul-number : goal.overflow_mul-number
overflow_mul-number c = omega (arith, four_digits c.args.text.now c.loop-digit.digit-index c.requires.digits c.requires.short)

pub overflow_add-number : goal.overflow_add-number
overflow_add-number c = omega (arith, four_digits c.args.text.now c.loop-digit.digit-index c.requires.digits c.requires.short)
