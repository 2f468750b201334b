-- A declared list of a history, as it stands ready to be answered.
use Rattle.std.specs.Prelude.{◌≡◌, ℕ, true}
use Rattle.sha2.specs.Sha256.{sha256}
use Rattle.sb_model.specs.declared.names.ListName.{ListName}
use Rattle.prefix_set.specs.declared.difference.Delta.{Delta}
use Rattle.sb_model.specs.Difference.{removed_places, added_members}
use Rattle.sb_model.specs.Prefixes.{concatenation}
use Rattle.sb_model.specs.History.{History, declares, version_count, prefixes_at}
use Rattle.list_versions.specs.Numbers.{AreNumbersOf}
use Rattle.update_messages.specs.Answer.{declared_size}
use Rattle.delta_server.specs.declared.served.Served.{Served}

-- its declared size, and its newest prefixes with their digest and their numbers
pub record IsServedList (served : Served) (versions : History) (list : ListName) : Type 0 where
  pub declared : declares versions list ≡ true
  pub size : served.size ≡ declared_size versions list
  pub set : served.set.now ≡ prefixes_at versions list (version_count versions)
  pub digest : served.digest ≡ sha256 (concatenation served.set.now)
  pub numbers : AreNumbersOf served.set.now served.numbers.now

-- what leads from the set of a version to that of another
pub record LeadsTo (versions : History) (list : ListName) (held version : ℕ) (delta : Delta) : Type 0 where
  pub removals : delta.removals ≡ removed_places (prefixes_at versions list held) (prefixes_at versions list version)
  pub additions : delta.additions ≡ added_members (prefixes_at versions list held) (prefixes_at versions list version)

-- what leads from the set of a version to the newest
abbrev pub LeadsToNewest : History → ListName → ℕ → Delta → Type 0
LeadsToNewest versions list held delta = LeadsTo versions list held (version_count versions) delta
