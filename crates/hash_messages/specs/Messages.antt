-- The find messages as contracts see them: plain values, and the ranges that they keep.
use Rattle.std.specs.Prelude.{ℕ, ◌≤◌, List, length}
use Rattle.sb_model.specs.declared.names.ThreatType.{ThreatType}
use Rattle.sb_model.specs.declared.names.PlatformType.{PlatformType}
use Rattle.sb_model.specs.declared.names.EntryType.{EntryType}
use Rattle.update_messages.specs.declared.client.ClientInfo.{ClientInfo}

-- the most prefixes of a request
abbrev pub most_prefixes : ℕ
most_prefixes = 1024

-- A request for full hashes: of the lists whose three types are asked, those that begin with an asked
-- prefix. The states are those of the client's lists.
pub record AskedHashes : Type 0 where
  pub client : ClientInfo
  pub states : List (List ℕ)
  pub threats : List ThreatType
  pub platforms : List PlatformType
  pub entries : List EntryType
  pub prefixes : List (List ℕ)

-- what each request keeps to
pub record IsAskedHashes (asked : AskedHashes) : Type 0 where
  pub few : length asked.prefixes ≤ most_prefixes
