use Rattle.std.proofs.Common.{sym}
use Rattle.list_versions.proofs.Ranks.{first_count}
use Rattle.list_versions.proofs.leading.rank_in.Goals as goal

pub returns-clause-count : goal.returns-clause-count
returns-clause-count c = sym (first_count c.args.set.now c.args.prefix.now c.first_at.result c.len.ensures.rising c.first_at.ensures)
