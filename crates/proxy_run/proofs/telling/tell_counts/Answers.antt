use Rattle.std.proofs.Common.{ap}
use Rattle.std.specs.Prelude.{Err}
use Rattle.proxy_run.specs.LookEvents.{counts_line}
use Rattle.proxy_run.specs.LookSoFar.{LookOwn}
use Rattle.proxy_run.proofs.Lines.{prints_for}
use Rattle.proxy_run.proofs.telling.tell_counts.Goals as goal

pub returns-in-Err-clause-prints : goal.returns-in-Err-clause-prints
returns-in-Err-clause-prints g c =
    prints_for (Err c.in-Err.stop) (counts_line c.args.held.now.connections.taken c.args.held.now.waited c.args.held.now.finds)
    c.args.held.now.stop c.note.new.self.stop (g.O.Sink.contents c.args.out.now) (g.O.Sink.contents c.print_counts.new.out) (g.O.Sink.faults c.args.out.now) (g.O.Sink.faults c.print_counts.new.out)
    c.in-Err.ensures.prints (ap (λ (o : LookOwn). o.stop) c.note.ensures)
