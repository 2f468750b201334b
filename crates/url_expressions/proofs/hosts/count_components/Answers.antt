use Rattle.std.proofs.Common.{rules}
use Rattle.url_expressions.proofs.Components.{length-components}
use Rattle.url_expressions.proofs.hosts.count_components.Goals as goal

pub returns : goal.returns
returns c = search (rules, length-components)
