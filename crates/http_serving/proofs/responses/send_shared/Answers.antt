use Rattle.std.proofs.Common.{refl}
use Rattle.http_serving.proofs.Fronts.{front_of}
use Rattle.http_serving.proofs.responses.send_shared.Goals as goal

pub returns-in-Err-clause-sent : goal.returns-in-Err-clause-sent
returns-in-Err-clause-sent g c =
    let cut = c.in-Err.ensures.err in
    front_of _ _ cut.0 _ _ refl cut.1 cut.2
