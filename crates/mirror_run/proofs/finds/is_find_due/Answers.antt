use Rattle.std.proofs.Common.{sym, ap, subst, ◌∙◌}
use Rattle.mirror_run.specs.SoFar.{MirrorOwn}
use Rattle.mirror_run.specs.Steps.{FindIsDue, NoFindIsDue}
use Rattle.mirror_run.specs.State.{waited_long}
use Rattle.mirror_run.proofs.RunFacts.{find_due, find_not_due, no_find_due}
use Rattle.mirror_run.proofs.Views.{own_of}
use Rattle.mirror_run.proofs.finds.is_find_due.Goals as goal

pub returns-in-Some-clause-due : goal.returns-in-Some-clause-due
returns-in-Some-clause-due g c e =
    let own : MirrorOwn = own_of c.run.inside.rounds c.run.inside.finds c.run.inside.connections c.run.inside.wait c.run.inside.answered c.run.inside.no_more c.run.inside.stop in
    let first = c.in-Some.ensures.some in
    subst (FindIsDue c.args.now) c.run.view_is (find_due c.args.now own first.0 first.1 first.2 c.has_waited_long.result c.is_open.result
    (c.has_waited_long.ensures ∙ ap (waited_long c.args.now) first.3) c.is_open.ensures (sym c.is_due.ensures ∙ e))

pub returns-in-Some-clause-none : goal.returns-in-Some-clause-none
returns-in-Some-clause-none g c e =
    let own : MirrorOwn = own_of c.run.inside.rounds c.run.inside.finds c.run.inside.connections c.run.inside.wait c.run.inside.answered c.run.inside.no_more c.run.inside.stop in
    let first = c.in-Some.ensures.some in
    subst (NoFindIsDue c.args.now) c.run.view_is (find_not_due c.args.now own first.0 first.1 first.2 c.has_waited_long.result c.is_open.result
    (c.has_waited_long.ensures ∙ ap (waited_long c.args.now) first.3) c.is_open.ensures (sym c.is_due.ensures ∙ e))

pub returns-in-None-clause-none : goal.returns-in-None-clause-none
returns-in-None-clause-none g c e =
    let own : MirrorOwn = own_of c.run.inside.rounds c.run.inside.finds c.run.inside.connections c.run.inside.wait c.run.inside.answered c.run.inside.no_more c.run.inside.stop in
    subst (NoFindIsDue c.args.now) c.run.view_is (no_find_due c.args.now own c.in-None.ensures.none)
