use Rattle.url_canon.proofs.Unescapes.{unescaped_is, unescaped_only}
use Rattle.url_canon.proofs.unescape.unescaping_has_one_end.Goals as goal

pub returns-clause-there : goal.returns-clause-there
returns-clause-there c = unescaped_is

pub returns-clause-only : goal.returns-clause-only
returns-clause-only c = unescaped_only
