use Rattle.std.proofs.Common.{sym, ap, ◌∙◌}
use Rattle.std.specs.Prelude.{Err}
use Rattle.http_serving.specs.Printed.{connection_line}
use Rattle.proxy_run.specs.LookSoFar.{LookOwn}
use Rattle.proxy_run.proofs.Lines.{line_is, served_front, served_nothing}
use Rattle.proxy_run.proofs.telling.tell_over.Goals as goal

pub returns-in-Err-WriteFault-clause-prints : goal.returns-in-Err-WriteFault-clause-prints
returns-in-Err-WriteFault-clause-prints g c one number how =
    served_front one (connection_line c.saturating_add-number.result c.args.ended.now.end) (line_is one c.args.ended.now.number c.saturating_add-number.result c.args.ended.now.end number how c.saturating_add-number.ensures)
    c.args.held.now.stop c.note.new.self.stop (g.O.Sink.contents c.args.out.now) (g.O.Sink.contents c.print_connection.new.out) (g.O.Sink.faults c.args.out.now) (g.O.Sink.faults c.print_connection.new.out)
    (c.in-Err-WriteFault.ensures.cut (ap Err c.in-Err-WriteFault.field-0-is)) (ap (λ (o : LookOwn). o.stop) c.note.ensures) (c.in-Err-WriteFault.ensures.failed (ap Err c.in-Err-WriteFault.field-0-is))

pub returns-in-Err-OutOfMemory-clause-prints : goal.returns-in-Err-OutOfMemory-clause-prints
returns-in-Err-OutOfMemory-clause-prints g c one number how =
    let is = c.in-Err-OutOfMemory.field-0-is in
    served_nothing one (connection_line c.saturating_add-number.result c.args.ended.now.end) (line_is one c.args.ended.now.number c.saturating_add-number.result c.args.ended.now.end number how c.saturating_add-number.ensures)
    c.args.held.now.stop c.note-in-Err-OutOfMemory.new.self.stop (g.O.Sink.contents c.args.out.now) (g.O.Sink.contents c.print_connection.new.out) (g.O.Sink.faults c.args.out.now) (g.O.Sink.faults c.print_connection.new.out)
    (ap g.O.Sink.contents (c.in-Err-OutOfMemory.ensures.memory (ap Err is))) (λ e. c.in-Err-OutOfMemory.ensures.some (sym how ∙ e) (ap Err is)) (ap (λ (o : LookOwn). o.stop) c.note-in-Err-OutOfMemory.ensures)
    (c.in-Err-OutOfMemory.ensures.kept (λ e. cc))
