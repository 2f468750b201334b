use Rattle.list_versions.proofs.Cuts.{cut_journal}
use Rattle.list_versions.proofs.laws.cuts_make_no_difference.Goals as goal

pub returns : goal.returns
returns c = cut_journal
