use Rattle.url_canon.proofs.Paths.{normal-path_of}
use Rattle.url_canon.proofs.path.canonical_paths_are_normal.Goals as goal

pub returns : goal.returns
returns c = normal-path_of
