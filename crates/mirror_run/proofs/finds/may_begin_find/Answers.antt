use Rattle.std.proofs.Common.{ap, subst, ◌∙◌}
use Rattle.mirror_run.specs.SoFar.{MirrorOwn}
use Rattle.mirror_run.specs.Steps.{MayBegin, MayNotBegin}
use Rattle.mirror_run.specs.State.{waited_long}
use Rattle.mirror_run.proofs.RunFacts.{find_may_begin, find_may_not, none_may_not}
use Rattle.mirror_run.proofs.Views.{own_of}
use Rattle.mirror_run.proofs.finds.may_begin_find.Goals as goal

pub returns-in-Some-clause-may : goal.returns-in-Some-clause-may
returns-in-Some-clause-may g c e =
    let own : MirrorOwn = own_of c.run.inside.rounds c.run.inside.finds c.run.inside.connections c.run.inside.wait c.run.inside.answered c.run.inside.no_more c.run.inside.stop in
    let first = c.in-Some.ensures.some in
    subst (MayBegin c.args.now) c.run.view_is (find_may_begin c.args.now own first.0 first.1 first.2 c.has_waited_long.result c.is_open.result c.may_send.result c.may_begin.result
    (c.has_waited_long.ensures ∙ ap (waited_long c.args.now) first.3) c.is_open.ensures c.may_send.ensures c.may_begin.ensures e)

pub returns-in-Some-clause-held : goal.returns-in-Some-clause-held
returns-in-Some-clause-held g c e =
    let own : MirrorOwn = own_of c.run.inside.rounds c.run.inside.finds c.run.inside.connections c.run.inside.wait c.run.inside.answered c.run.inside.no_more c.run.inside.stop in
    let first = c.in-Some.ensures.some in
    subst (MayNotBegin c.args.now) c.run.view_is (find_may_not c.args.now own first.0 first.1 first.2 c.has_waited_long.result c.is_open.result c.may_send.result c.may_begin.result
    (c.has_waited_long.ensures ∙ ap (waited_long c.args.now) first.3) c.is_open.ensures c.may_send.ensures c.may_begin.ensures e)

pub returns-in-None-clause-held : goal.returns-in-None-clause-held
returns-in-None-clause-held g c e =
    let own : MirrorOwn = own_of c.run.inside.rounds c.run.inside.finds c.run.inside.connections c.run.inside.wait c.run.inside.answered c.run.inside.no_more c.run.inside.stop in
    subst (MayNotBegin c.args.now) c.run.view_is (none_may_not c.args.now own c.in-None.ensures.none)
