use Rattle.std.proofs.Common.{◌++◌}
use Rattle.input_lines.specs.Lines.{newline}
use Rattle.update_replay.specs.Printed.{prefix_line}
use Rattle.input_lines.specs.Ways.{front_none, some_back, ended_some}
use Rattle.update_replay.proofs.replaying.print_prefix.Goals as goal

pub returns-in-Err-clause-err : goal.returns-in-Err-clause-err
returns-in-Err-clause-err g c = front_none (g.O.Sink.contents c.args.out.now) (c.args.page.now ++ prefix_line c.args.prefix.now) (some_back c.args.page.now (prefix_line c.args.prefix.now) (ended_some _ newline))
