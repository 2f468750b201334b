use Rattle.std.proofs.Common.{sym}
use Rattle.input_lines.proofs.FirstBytes.{none_counted}
use Rattle.input_lines.proofs.input.count_newlines.Goals as goal

pub returns-in-None : goal.returns-in-None
returns-in-None c = none_counted c.args.bytes.now (sym c.in-None.ensures)
