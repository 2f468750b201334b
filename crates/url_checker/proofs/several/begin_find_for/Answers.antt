use Rattle.std.proofs.Common.{refl, inl}
use Rattle.url_checker.proofs.FindFacts.{opened_if, stopped_for, on_err}
use Rattle.url_checker.proofs.several.begin_find_for.Goals as goal

pub returns-clause-opened : goal.returns-clause-opened
returns-clause-opened g c =
    opened_if c.args.states.now c.args.target.now c.args.now c.args.asked.now c.args.waits _ _ c.in_ok-request.request c.in_ok-opening.opening
    (c.in_ok-request.ensures)
    c.in_ok-opening.ensures.opened c.in_ok-opening.ensures.last c.in_ok-opening.ensures.faults

pub returns-in_err-opening-clause-stopped : goal.returns-in_err-opening-clause-stopped
returns-in_err-opening-clause-stopped g c =
    on_err _ c.from_residual-in_err-opening.result
    (stopped_for c.args.states.now c.args.target.now c.args.now c.args.asked.now c.args.waits _ _
    c.in_ok-request.request (c.in_ok-request.ensures) c.in_err-opening.ensures.refused)

pub returns-in_err-request-clause-stopped : goal.returns-in_err-request-clause-stopped
returns-in_err-request-clause-stopped g c = on_err _ c.from_residual.result (inl refl)
