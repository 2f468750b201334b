-- What every message of the types keeps: bytes below 256, the limits of each part, and durations that
-- their texts spell.
use Rattle.std.specs.Prelude.{◌≡◌, ℕ, ◌≤◌, List, length, All}
use Rattle.base64.specs.GeneralPurpose.{IsBytes}
use Rattle.sb_members.specs.Ranges.{IsDuration}
use Rattle.update_messages.specs.Ranges.{IsClientInRange}
use Rattle.hash_messages.specs.Messages.{AskedHashes, IsAskedHashes}
use Rattle.hash_messages.specs.declared.response.Match.{Match}
use Rattle.hash_messages.specs.declared.response.FindResponse.{FindResponse}

-- 4 to 32 bytes
pub record IsPrefix (prefix : List ℕ) : Type 0 where
  pub low : 4 ≤ length prefix
  pub high : length prefix ≤ 32
  pub bytes : IsBytes prefix

pub record IsFindRequestInRange (message : AskedHashes) : Type 0 where
  pub limits : IsAskedHashes message
  pub client : IsClientInRange message.client
  pub states : All IsBytes message.states
  pub prefixes : All IsPrefix message.prefixes

pub record IsMatchInRange (found : Match) : Type 0 where
  pub size : length found.hash.bytes ≡ 32
  pub bytes : IsBytes found.hash.bytes
  pub cache : IsDuration found.cache

pub record IsFindResponseInRange (message : FindResponse) : Type 0 where
  pub matches : All IsMatchInRange message.matches
  pub wait : IsDuration message.wait
  pub negative : IsDuration message.negative
