-- A version as a walk keeps it.
use Rattle.std.specs.Prelude.{List}
use Rattle.sb_model.specs.declared.history.Added.{Added}
use Rattle.delta_server.specs.Counts.{Counts, Knows}
use Rattle.delta_server.specs.declared.version.Version.{Version}

-- These are its full hashes.
pub record Stands (now : Version) (entries : List Added) : Type 0 where
  pub knows : Knows now.hashes entries
  pub counts : Counts now.holders entries
