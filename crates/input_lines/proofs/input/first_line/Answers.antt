use Rattle.std.proofs.Common.{sym}
use Rattle.input_lines.proofs.LineCuts.{line_found, line_none}
use Rattle.input_lines.proofs.input.first_line.Goals as goal

pub returns-in-Some-clause-lines : goal.returns-in-Some-clause-lines
returns-in-Some-clause-lines c = line_found c.args.text.now c.in-Some.end (sym c.in-Some.ensures)

pub returns-in-None-clause-lines : goal.returns-in-None-clause-lines
returns-in-None-clause-lines c = line_none c.args.text.now c.requires (sym c.in-None.ensures)
