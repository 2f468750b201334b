use Rattle.std.proofs.Common.{◌∙◌, ◌==◌}
use Rattle.url_canon.proofs.Places.{first_place}
use Rattle.url_canon.proofs.split.place_of.Goals as goal

pub returns : goal.returns
returns c = c.unwrap_or.ensures ∙ first_place (λ b. b == c.args.byte) c.args.text.now c.memchr.result c.memchr.ensures
