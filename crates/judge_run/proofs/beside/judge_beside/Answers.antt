use Rattle.std.proofs.Common.{ap, sym, subst, ◌∙◌}
use Rattle.input_lines.specs.Lines.{lines_of}
use Rattle.parallel_checks.specs.Checks.{AreSeatsOf}
use Rattle.update_run.specs.Saved.{keeping}
use Rattle.judge_run.proofs.Endings.{ended, stopped}
use Rattle.judge_run.proofs.Openings.{same_seen}
use Rattle.judge_run.proofs.beside.judge_beside.Goals as goal

pub report_checked-requires-clause-ours : goal.report_checked-requires-clause-ours
report_checked-requires-clause-ours g c =
    let checked = c.in-Ok-check_beside.ensures.checked in
    subst (λ boxes. AreSeatsOf boxes c.in-Ok-check_beside.checked.run.seats) (sym c.check_beside.ensures.boxes) (c.seats_remain.ensures _ _ _ c.in-Ok-start_with.ensures.ours checked.go_on)

pub returns-in-Ok-check_beside-clause-ends : goal.returns-in-Ok-check_beside-clause-ends
returns-in-Ok-check_beside-clause-ends g c =
    let begun = c.args.begun in
    let at = c.in-Ok-start_with.updater in
    let then = c.check_beside.new.updater in
    let checked = c.in-Ok-check_beside.ensures.checked in
    ended c.args.plan.now begun.client at.client then.client at.publisher.list then.publisher.list _ _ _ c.in-Ok-check_beside.checked.refused c.report_checked.result begun.finds
    c.in-Ok-check_beside.checked.urls (lines_of begun.text) c.in-Ok-start_with.ensures.client c.in-Ok-start_with.ensures.list
    (checked.urls ∙ c.in-Ok-start_with.ensures.urls ∙ c.in-Ok.ensures ∙ ap lines_of c.as_slice.ensures) checked.publishes c.check_beside.ensures.link_counted
    (λ none. let same = c.check_beside.ensures.idle none in
    same_seen _ _ _ _ _ _ (ap (λ line. (g.N.Line.view line).told) same.0) (ap (λ keep. keeping (g.K.Keeper.handed keep) (g.K.Keeper.kept keep)) same.1) (ap (λ out. g.O.Sink.contents out) same.2))
    (c.report_checked.ensures.ends _) c.report_checked.ensures.refused

pub returns-clause-ends : goal.returns-clause-ends
returns-clause-ends g c =
    let begun = c.args.begun in
    let at = c.in-Ok-start_with.updater in
    let then = c.check_beside.new.updater in
    stopped c.in-Err.stop c.from.result c.args.plan.now begun.client at.client then.client at.publisher.list then.publisher.list begun.finds (lines_of begun.text) _ _ c.from.ensures
    c.in-Ok-start_with.ensures.client c.in-Ok-start_with.ensures.list c.check_beside.ensures.link_counted
    (λ none. let same = c.check_beside.ensures.idle none in
    same_seen _ _ _ _ _ _ (ap (λ line. (g.N.Line.view line).told) same.0) (ap (λ keep. keeping (g.K.Keeper.handed keep) (g.K.Keeper.kept keep)) same.1) (ap (λ out. g.O.Sink.contents out) same.2))
    c.in-Err.ensures.stopped
