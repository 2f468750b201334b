use Rattle.std.proofs.Common.{Option, refl, subst}
use Rattle.sb_model.specs.declared.time.Duration.{Duration}
use Rattle.timed_sessions.specs.Waiting.{HasSettled}
use Rattle.url_checker.specs.Several.{asked_find}
use Rattle.url_checker.proofs.FindFacts.{made_for, asked_for, on_err, stops_after}
use Rattle.url_checker.proofs.several.end_find_for.Goals as goal

pub returns-clause-made : goal.returns-clause-made
returns-clause-made g c = λ states target now start opens.
    made_for (asked_find states target c.args.need_digest now c.args.asked.now) c.args.finds.now (record { cache = c.keep_answer.new.cache; waits = c.settle.new.waits })
    start (g.N.Line.view c.end_find_session.new.line) (g.N.Line.view c.settle.new.line)
    c.args.find.request c.in_ok-answered.answered c.in_ok-answered.answered.answer opens.request refl
    (asked_for states target c.args.need_digest now c.args.asked.now c.args.finds.now.waits start.told _ c.args.find.request c.in_ok-answered.answered opens.request
    (c.in_ok-answered.ensures.asked c.args.finds.now.waits now target _ start.told opens.opened))
    (subst (λ (bids : Option Duration). HasSettled c.args.finds.now.waits c.settle.new.waits c.in_ok-answered.answered.closed bids (g.N.Line.view c.end_find_session.new.line) (g.N.Line.view c.settle.new.line)) c.bids.ensures c.settle.ensures)
    c.in_ok-keep_answer.ensures.pairs
    (c.in_ok-answered.ensures.failed start.told.faults opens.counts) (c.in_ok-answered.ensures.kept start.told.faults opens.counts)

pub returns-in_err-keep_answer-clause-stopped : goal.returns-in_err-keep_answer-clause-stopped
returns-in_err-keep_answer-clause-stopped g c = λ states target now start opens.
    on_err _ c.from_residual-in_err-keep_answer.result
    (stops_after states target c.args.need_digest now c.args.asked.now c.args.finds.now.waits start.told _
    c.args.find.request c.in_ok-answered.answered opens.request
    (asked_for states target c.args.need_digest now c.args.asked.now c.args.finds.now.waits start.told _ c.args.find.request c.in_ok-answered.answered opens.request
    (c.in_ok-answered.ensures.asked c.args.finds.now.waits now target _ start.told opens.opened)))
