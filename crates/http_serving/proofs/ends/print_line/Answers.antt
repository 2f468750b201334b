use Rattle.std.proofs.Common.{◌∙◌}
use Rattle.http_serving.proofs.Fronts.{front_of}
use Rattle.http_serving.proofs.ends.print_line.Goals as goal

pub returns-clause-cut : goal.returns-clause-cut
returns-clause-cut g c = λ _.
    let cut = c.in-Err.ensures.err in
    front_of _ _ cut.0 _ _ (c.as_slice.ensures ∙ c.in-Ok.ensures) cut.1 cut.2
