use Rattle.std.proofs.Common.{arith}
use Rattle.list_versions.proofs.DigitTable.{value_in_table}
use Rattle.list_versions.proofs.hex_digits.value_of.Goals as goal

pub returns : goal.returns
returns c = value_in_table c.args.byte (omega arith)
