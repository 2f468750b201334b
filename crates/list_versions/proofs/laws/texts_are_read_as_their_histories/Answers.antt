use Rattle.list_versions.proofs.Followed.{journal_follows}
use Rattle.list_versions.proofs.laws.texts_are_read_as_their_histories.Goals as goal

pub returns : goal.returns
returns c = journal_follows
