use Rattle.std.proofs.Common.{◌==◌, sym, ◌∙◌}
use Rattle.http_serving.proofs.Parts.{cut_first, cut_nowhere}
use Rattle.http_serving.proofs.queries.first_part.Goals as goal

pub returns-in-Some : goal.returns-in-Some
returns-in-Some c = cut_first (λ byte. byte == 38) c.args.query.now c.in-Some.at (sym c.place_of.ensures ∙ c.in-Some.is)

pub returns-in-None : goal.returns-in-None
returns-in-None c = cut_nowhere (λ byte. byte == 38) c.args.query.now (sym c.place_of.ensures ∙ c.in-None.is)
