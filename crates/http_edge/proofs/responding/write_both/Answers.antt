use Rattle.std.proofs.lemmas.Result.{on_err_weaker}
use Rattle.http_edge.proofs.Fronts.{front_of_first, front_of_second}
use Rattle.http_edge.proofs.SessionSteps.{err_says}
use Rattle.http_edge.proofs.responding.write_both.Goals as goal

pub returns-clause-err : goal.returns-clause-err
returns-clause-err g c =
    on_err_weaker c.write_all-2.result
    (λ fault. front_of_second _ _ _ c.args.first.now c.args.second.now fault.0 fault.1 c.in_ok-write_all.ensures.ok fault.2) c.write_all-2.ensures.err

pub returns-in_err-write_all-clause-err : goal.returns-in_err-write_all-clause-err
returns-in_err-write_all-clause-err g c =
    let fault = c.in_err-write_all.ensures.err in
    err_says c.from_residual.result _ (front_of_first _ _ c.args.first.now c.args.second.now fault.0 fault.1 fault.2)
