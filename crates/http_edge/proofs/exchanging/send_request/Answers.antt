use Rattle.std.proofs.lemmas.Result.{on_ok_weaker, on_err_weaker}
use Rattle.http_edge.proofs.SessionSteps.{err_says, sends_both, sends_front, sends_front_of_second}
use Rattle.http_edge.proofs.exchanging.send_request.Goals as goal

pub returns-clause-ok : goal.returns-clause-ok
returns-clause-ok g c =
    on_ok_weaker c.send-2.result (λ last. sends_both c.args.head.now c.args.body.now _ _ _ c.in_ok-send.ensures.ok last) c.send-2.ensures.ok

pub returns-clause-err : goal.returns-clause-err
returns-clause-err g c =
    on_err_weaker c.send-2.result
    (λ fault. sends_front_of_second c.args.head.now c.args.body.now fault.0 _ _ _ c.in_ok-send.ensures.ok fault.2) c.send-2.ensures.err

pub returns-in_err-send-clause-err : goal.returns-in_err-send-clause-err
returns-in_err-send-clause-err g c =
    err_says c.from_residual.result _ (sends_front c.args.head.now c.args.body.now c.in_err-send.ensures.err.0 _ _ c.in_err-send.ensures.err.2)
