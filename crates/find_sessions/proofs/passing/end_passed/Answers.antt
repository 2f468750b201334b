use Rattle.std.proofs.Common.{Option, subst}
use Rattle.sb_model.specs.declared.time.Duration.{Duration}
use Rattle.timed_sessions.specs.Waiting.{HasSettled}
use Rattle.find_sessions.specs.Passing.{find_to_pass}
use Rattle.find_sessions.proofs.PassingFacts.{passed_for}
use Rattle.find_sessions.proofs.passing.end_passed.Goals as goal

pub returns-clause-passes : goal.returns-clause-passes
returns-clause-passes g c = λ states target now asked start opens.
    passed_for (find_to_pass states target c.args.need_digest now asked) c.args.waits.now c.settle.new.waits
    start (g.N.Line.view c.end_find_session.new.line) (g.N.Line.view c.settle.new.line) c.in_ok-closed.field-0
    (c.in_ok-closed.ensures.asked c.args.waits.now now target _ start.told opens.opened)
    (subst (λ (bids : Option Duration). HasSettled c.args.waits.now c.settle.new.waits c.in_ok-closed.field-0.closed bids (g.N.Line.view c.end_find_session.new.line) (g.N.Line.view c.settle.new.line)) c.bids.ensures c.settle.ensures)
    (c.in_ok-closed.ensures.failed start.told.faults opens.counts) (c.in_ok-closed.ensures.kept start.told.faults opens.counts)
