use Rattle.list_versions.proofs.Distinct.{once_at}
use Rattle.list_versions.proofs.laws.full_hashes_stand_once.Goals as goal

pub returns : goal.returns
returns c = λ history list version. once_at history list version
