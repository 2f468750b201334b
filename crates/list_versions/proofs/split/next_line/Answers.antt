use Rattle.std.proofs.Common.{sym, arith}
use Rattle.list_versions.proofs.LineEnds.{line_found, front_found, long_found}
use Rattle.list_versions.proofs.split.next_line.Goals as goal

pub returns-in-Some-clause-whole : goal.returns-in-Some-clause-whole
returns-in-Some-clause-whole c = line_found c.args.bytes.now _ c.in-Some.at (omega arith) (omega arith) (sym c.in-Some.ensures)

pub returns-in-None-clause-long : goal.returns-in-None-clause-long
returns-in-None-clause-long c = long_found c.args.bytes.now _ (omega arith) (omega arith) (sym c.in-None.ensures)

pub returns-in-None-2-clause-front : goal.returns-in-None-2-clause-front
returns-in-None-2-clause-front c = front_found c.args.bytes.now _ (omega arith) (omega arith) (sym c.in-None-2.ensures)
