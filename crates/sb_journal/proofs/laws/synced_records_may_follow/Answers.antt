use Rattle.sb_journal.proofs.Followed.{synced_follow, synced_sizes}
use Rattle.sb_journal.proofs.laws.synced_records_may_follow.Goals as goal

pub returns-clause-follow : goal.returns-clause-follow
returns-clause-follow c = λ history list size wanted formed declared hashes. synced_follow history list size wanted formed declared hashes

pub returns-clause-sizes : goal.returns-clause-sizes
returns-clause-sizes c = λ history list size wanted declared. synced_sizes history list size wanted declared
