use Rattle.std.proofs.Common.{◌∙◌, sym}
use Rattle.list_versions.proofs.Words.{added_alone}
use Rattle.list_versions.proofs.lines.added_of_text.Goals as goal

pub returns-in-Some-clause-value : goal.returns-in-Some-clause-value
returns-in-Some-clause-value c = added_alone c.args.sized c.args.declared c.args.text.now c.in-Some.hash (sym c.in-Some.is ∙ c.read_hash.ensures.value)
