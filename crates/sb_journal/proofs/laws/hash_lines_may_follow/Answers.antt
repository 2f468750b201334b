use Rattle.sb_journal.proofs.Followed.{records_follow, records_sizes}
use Rattle.sb_journal.proofs.laws.hash_lines_may_follow.Goals as goal

pub returns-clause-follow : goal.returns-clause-follow
returns-clause-follow c = λ history list lines declared hashes sizes. records_follow history list lines declared hashes sizes

pub returns-clause-sizes : goal.returns-clause-sizes
returns-clause-sizes c = λ history list size lines declared sizes. records_sizes history list size lines declared sizes
