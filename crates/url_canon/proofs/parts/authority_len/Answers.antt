use Rattle.std.proofs.Common.{◌∙◌}
use Rattle.url_canon.specs.Parts.{ends_authority}
use Rattle.url_canon.proofs.Places.{first_place}
use Rattle.url_canon.proofs.parts.authority_len.Goals as goal

pub returns : goal.returns
returns c = c.unwrap_or.ensures ∙ first_place ends_authority c.args.text.now c.memchr2.result c.memchr2.ensures
