use Rattle.list_versions.proofs.Followed.{plain_records_follow, sized_records_follow}
use Rattle.list_versions.proofs.laws.records_are_read_as_their_changes.Goals as goal

pub returns-clause-sized : goal.returns-clause-sized
returns-clause-sized c = sized_records_follow

pub returns-clause-plain : goal.returns-clause-plain
returns-clause-plain c = plain_records_follow
