use Rattle.std.proofs.Common.{ℕ, ap, ◌∙◌, subst}
use Rattle.std.specs.Prelude.{Err}
use Rattle.proxy_run.specs.LookEvents.{counted_up, find_line}
use Rattle.proxy_run.specs.LookSoFar.{LookOwn}
use Rattle.proxy_run.specs.LookSteps.{PrintsFor}
use Rattle.proxy_run.proofs.Lines.{prints_for}
use Rattle.proxy_run.proofs.telling.tell_find.Goals as goal

pub returns-in-Err-clause-prints : goal.returns-in-Err-clause-prints
returns-in-Err-clause-prints g c =
    prints_for (Err c.in-Err.stop) (find_line (counted_up c.args.held.now.finds) c.args.ended.now.at c.args.ended.now.prefixes c.args.ended.now.answer)
    c.args.held.now.stop c.note.new.self.stop (g.O.Sink.contents c.args.out.now) (g.O.Sink.contents c.print_find.new.out) (g.O.Sink.faults c.args.out.now) (g.O.Sink.faults c.print_find.new.out)
    (subst (λ (n : ℕ). PrintsFor (Err c.in-Err.stop) (find_line n c.args.ended.now.at c.args.ended.now.prefixes c.args.ended.now.answer) (g.O.Sink.contents c.args.out.now) (g.O.Sink.contents c.print_find.new.out) (g.O.Sink.faults c.args.out.now) (g.O.Sink.faults c.print_find.new.out))
    (c.saturating_add-number.ensures ∙ ap (λ (o : LookOwn). counted_up o.finds) c.held.view_is) c.in-Err.ensures.prints)
    (ap (λ (o : LookOwn). o.stop) c.note.ensures)
