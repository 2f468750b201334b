use Rattle.std.proofs.Common.{◌∙◌}
use Rattle.memchr.specs.Find.{is_byte3}
use Rattle.url_canon.proofs.Places.{found_any, line_byte_any}
use Rattle.url_canon.proofs.strip.has_line_byte.Goals as goal

pub returns : goal.returns
returns c = c.is_some.ensures ∙ (found_any (is_byte3 9 10 13) c.args.text.now c.memchr3.result c.memchr3.ensures ∙ line_byte_any c.args.text.now)
