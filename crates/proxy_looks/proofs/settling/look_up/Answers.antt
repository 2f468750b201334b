use Rattle.std.proofs.Common.{◌∷◌, [], ◌++◌, inl, inr, refl, sym, ◌∙◌}
use Rattle.std.proofs.lemmas.Bool.{true≢false}
use Rattle.find_desk.specs.Desk.{looked_up}
use Rattle.find_desk.specs.Events.{Forgot}
use Rattle.proxy_looks.proofs.OneMore.{goes_once}
use Rattle.proxy_looks.proofs.OneUrl.{decided_by_look, err_says, left_open}
use Rattle.proxy_looks.proofs.settling.look_up.Goals as goal

pub returns-in_err-look-clause-stopped : goal.returns-in_err-look-clause-stopped
returns-in_err-look-clause-stopped c target need start events line has =
    err_says c.from_residual.result _
    (goes_once target need start events c.args.now Forgot c.look.new.self line (inr refl) (c.in_err-look.ensures.forgot target need start events line has))

pub returns-in_err-verdict_at_once-clause-stopped : goal.returns-in_err-verdict_at_once-clause-stopped
returns-in_err-verdict_at_once-clause-stopped c target need start events line has =
    err_says c.from_residual-in_err-verdict_at_once.result _
    (goes_once target need start events c.args.now (looked_up c.args.now c.args.hits.now) c.look.new.self line (inl (c.args.hits.now, refl))
    (c.in_ok-look.ensures.looked target need start events line has).0)

pub returns-then-is_empty-clause-settled : goal.returns-then-is_empty-clause-settled
returns-then-is_empty-clause-settled c target need start events line has =
    let looked = c.in_ok-look.ensures.looked target need start events line has in
    decided_by_look target need start events c.args.now c.args.hits.now c.in_ok-look.look c.in_ok-verdict_at_once.field-0 c.args.looks.now c.look.new.self line
    looked.0 looked.1 (c.is_empty.ensures.0 c.if-is_empty.true)
    (c.in_ok-verdict_at_once.ensures.by_look start (events ++ looked_up c.args.now c.args.hits.now ∷ []) c.args.hits.now looked.1)

pub returns-in_err-push-clause-stopped : goal.returns-in_err-push-clause-stopped
returns-in_err-push-clause-stopped c target need start events line has =
    err_says c.from_residual-in_err-push.result _
    (goes_once target need start events c.args.now (looked_up c.args.now c.args.hits.now) c.look.new.self line (inl (c.args.hits.now, refl))
    (c.in_ok-look.ensures.looked target need start events line has).0)

pub returns-clause-settled : goal.returns-clause-settled
returns-clause-settled c target need start events line has =
    let looked = c.in_ok-look.ensures.looked target need start events line has in
    left_open target need start events c.args.now c.args.hits.now c.in_ok-look.look c.args.looks.now c.push.new.self c.look.new.self line
    looked.0 looked.1 (λ none. true≢false (sym (c.is_empty.ensures.1 none) ∙ c.if-is_empty.false)) c.in_ok-push.ensures.ok
