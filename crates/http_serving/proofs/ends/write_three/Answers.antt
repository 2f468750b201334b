use Rattle.std.proofs.lemmas.Result.{on_err_weaker}
use Rattle.http_serving.proofs.Fronts.{front_of_first, front_of_second, front_of_third}
use Rattle.http_serving.proofs.ends.write_three.Goals as goal

pub returns-in_default-clause-err : goal.returns-in_default-clause-err
returns-in_default-clause-err g c =
    let cut = c.in_default.ensures.err in front_of_first _ _ cut.0 c.args.first.now c.args.second.now c.args.third.now cut.1 cut.2

pub returns-in_default-write_all-clause-err : goal.returns-in_default-write_all-clause-err
returns-in_default-write_all-clause-err g c =
    let cut = c.in_default-write_all.ensures.err in
    front_of_second _ _ _ cut.0 c.args.first.now c.args.second.now c.args.third.now c.in-Ok.ensures.ok cut.1 cut.2

pub returns-clause-err : goal.returns-clause-err
returns-clause-err g c =
    on_err_weaker c.write_all-3.result
    (λ cut. front_of_third _ _ _ _ cut.0 c.args.first.now c.args.second.now c.args.third.now c.in-Ok.ensures.ok c.in-Ok-write_all.ensures.ok cut.1 cut.2)
    c.write_all-3.ensures.err
