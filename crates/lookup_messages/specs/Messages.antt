-- The request of a look-up as contracts see it: a plain value, and the range that it keeps.
use Rattle.std.specs.Prelude.{ℕ, ◌≤◌, List, length}
use Rattle.sb_model.specs.declared.names.ThreatType.{ThreatType}
use Rattle.sb_model.specs.declared.names.PlatformType.{PlatformType}
use Rattle.sb_model.specs.declared.names.EntryType.{EntryType}
use Rattle.update_messages.specs.declared.client.ClientInfo.{ClientInfo}

-- the most URLs of a request
abbrev pub most_urls : ℕ
most_urls = 500

-- A request to look up URLs in the lists whose three types are asked. Each URL is a text, told by its characters.
pub record AskedUrls : Type 0 where
  pub client : ClientInfo
  pub threats : List ThreatType
  pub platforms : List PlatformType
  pub entries : List EntryType
  pub urls : List (List ℕ)

-- what each request keeps to
pub record IsAskedUrls (asked : AskedUrls) : Type 0 where
  pub few : length asked.urls ≤ most_urls
