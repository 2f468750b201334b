use Rattle.std.proofs.Common.{◌≡◌, ℕ, List, ◌++◌, ◌∙◌, ap}
use Rattle.http_edge.specs.Exchanges.{request_text}
use Rattle.http_edge.proofs.SessionSteps.{err_says}
use Rattle.http_edge.proofs.TalkFacts.{open_refused, open_sent, open_unsent, talk_begun}
use Rattle.http_edge.proofs.exchanging.open.Goals as goal

pub returns-in-Ok-send_request-clause-opened : goal.returns-in-Ok-send_request-clause-opened
returns-in-Ok-send_request-clause-opened g c =
    let text : c.as_slice.result.now ++ c.args.body.now ≡ request_text c.args.target.now c.args.kind c.args.body.now =
    ap (λ (head : List ℕ). head ++ c.args.body.now) (c.as_slice.ensures ∙ c.in_ok-head.ensures) in
    open_sent c.args.target.now c.args.kind c.args.body.now c.args.at _ _ _ _ text c.in-Ok.ensures.ok c.in-Ok-send_request.ensures.ok

pub returns-in-Err-clause-opened : goal.returns-in-Err-clause-opened
returns-in-Err-clause-opened g c = open_refused c.args.target.now c.args.kind c.args.body.now c.args.at _ _ c.in-Err.ensures.err

pub returns-in_err-head-clause-refused : goal.returns-in_err-head-clause-refused
returns-in_err-head-clause-refused g c =
    err_says c.from_residual.result _ (λ need. talk_begun c.args.target.now c.args.kind c.args.body.now c.args.at need _ _ c.in-Ok.ensures.ok)

pub returns-clause-opened : goal.returns-clause-opened
returns-clause-opened g c =
    let text : c.as_slice.result.now ++ c.args.body.now ≡ request_text c.args.target.now c.args.kind c.args.body.now =
    ap (λ (head : List ℕ). head ++ c.args.body.now) (c.as_slice.ensures ∙ c.in_ok-head.ensures) in
    open_unsent c.args.target.now c.args.kind c.args.body.now c.args.at _ _ _ _ text c.in-Ok.ensures.ok c.in-Err-send_request.ensures.err
