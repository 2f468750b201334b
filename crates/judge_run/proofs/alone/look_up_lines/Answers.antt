use Rattle.std.proofs.Common.{[], ◌∷◌, ◌++◌, refl, ◌∙◌, arith, length-append}
use Rattle.input_lines.specs.Lines.{lines_of}
use Rattle.input_lines.specs.Ways.{on_any}
use Rattle.judge_run.proofs.Cases.{judges_nothing, judges_next, left_after, stops_after, stops_at_once, stops_within}
use Rattle.judge_run.proofs.alone.look_up_lines.Goals as goal

pub loop-rest-init : goal.loop-rest-init
loop-rest-init g c = ([], [], refl, c.in_ok-report.ensures, judges_nothing c.args.plan.now (c.args.lists.now ∷ []) _ _ [] refl, omega arith, omega arith, refl)

pub returns-in_err-add-in-Ok-clause-stopped : goal.returns-in_err-add-in-Ok-clause-stopped
returns-in_err-add-in-Ok-clause-stopped g c =
    let inv = c.loop-rest.invariant in
    let line = c.first_line.result.0.now in
    let rest = lines_of c.first_line.result.1.now in
    let more = judges_next c.args.plan.now (c.args.lists.now ∷ []) _ _ _ _ _ _ inv.0 inv.1 _ line c.in-Ok.one
    c.traces_go_on.ensures.one_more inv.5 c.in-Ok.ensures.counted refl inv.4 c.in-Ok.ensures.judged in
    on_any c.from_residual-in_err-add-in-Ok.result
    (stops_after c.args.plan.now (c.args.lists.now ∷ []) _ _ _ _ (lines_of c.args.input.now) (inv.0 ++ line ∷ []) rest _
    (left_after inv.0 (lines_of c.loop-rest.rest.now) (lines_of c.args.input.now) line rest c.first_line.ensures.lines inv.2) more)

pub returns-in-Err-clause-stopped : goal.returns-in-Err-clause-stopped
returns-in-Err-clause-stopped g c =
    let inv = c.loop-rest.invariant in
    let line = c.first_line.result.0.now in
    let rest = lines_of c.first_line.result.1.now in
    stops_within c.args.plan.now (c.args.lists.now ∷ []) _ _ _ _ _ (lines_of c.args.input.now) inv.0 (lines_of c.loop-rest.rest.now) line rest inv.1
    c.first_line.ensures.lines inv.2 c.in-Err.ensures.unmoved inv.4 (c.in-Err.ensures.stopped rest)

pub loop-rest-preserved : goal.loop-rest-preserved
loop-rest-preserved g c =
    let inv = c.loop-rest.invariant in
    let line = c.first_line.result.0.now in
    let rest = lines_of c.first_line.result.1.now in (
      inv.0 ++ line ∷ [],
      inv.1 ++ c.in-Ok.one ∷ [],
      left_after inv.0 (lines_of c.loop-rest.rest.now) (lines_of c.args.input.now) line rest c.first_line.ensures.lines inv.2,
      c.in_ok-add-in-Ok.ensures inv.1 inv.3,
      judges_next c.args.plan.now (c.args.lists.now ∷ []) _ _ _ _ _ _ inv.0 inv.1 _ line c.in-Ok.one
          c.traces_go_on.ensures.one_more inv.5 c.in-Ok.ensures.counted refl inv.4 c.in-Ok.ensures.judged,
      omega (arith, inv.5, c.in-Ok.ensures.counted),
      omega (arith, inv.6, length-append inv.1 (c.in-Ok.one ∷ []), c.first_line.ensures.shorter),
      c.look_up.ensures.same ∙ inv.7,
    )

pub returns-in_err-report-clause-stopped : goal.returns-in_err-report-clause-stopped
returns-in_err-report-clause-stopped g c = on_any _ (stops_at_once _ _ _ _ _)
