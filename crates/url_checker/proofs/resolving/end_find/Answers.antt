use Rattle.url_checker.proofs.FindFacts.{made_if, stopped_after, asked_for}
use Rattle.url_checker.specs.Several.{asked_find}
use Rattle.url_checker.proofs.resolving.end_find.Goals as goal

pub returns-clause-made : goal.returns-clause-made
returns-clause-made g c = λ states target now start opens.
    made_if (asked_find states target c.args.need_digest now c.args.looks.asked) c.args.finds.now _ start _ _
    c.args.looks c.args.find.request c.in_ok-answered.answered c.conclude.result opens.request
    (asked_for states target c.args.need_digest now c.args.looks.asked c.args.finds.now.waits _ _ c.args.find.request c.in_ok-answered.answered opens.request
    (c.in_ok-answered.ensures.asked c.args.finds.now.waits now target _ start.told opens.opened))
    c.conclude.ensures.settled c.conclude.ensures.pairs c.conclude.ensures.verdict
    (c.in_ok-answered.ensures.failed start.told.faults opens.counts) (c.in_ok-answered.ensures.kept start.told.faults opens.counts)

pub returns-clause-stopped : goal.returns-clause-stopped
returns-clause-stopped g c = λ states target now start opens.
    stopped_after states target c.args.need_digest now c.args.looks.asked c.args.finds.now.waits start.told _ _
    c.args.find.request c.in_ok-answered.answered c.conclude.result opens.request
    (asked_for states target c.args.need_digest now c.args.looks.asked c.args.finds.now.waits _ _ c.args.find.request c.in_ok-answered.answered opens.request
    (c.in_ok-answered.ensures.asked c.args.finds.now.waits now target _ start.told opens.opened))
    c.conclude.ensures.untouched
