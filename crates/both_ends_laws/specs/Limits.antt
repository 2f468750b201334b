-- Which find requests a client makes.
use Rattle.std.specs.Prelude.{◌≤◌, length}
use Rattle.hash_messages.specs.Messages.{AskedHashes}

-- at most 1,024 prefixes, and at most 1,024 states and types of each kind
pub record HasFewOfEach (asked : AskedHashes) : Type 0 where
  pub states : length asked.states ≤ 1024
  pub threats : length asked.threats ≤ 1024
  pub platforms : length asked.platforms ≤ 1024
  pub entries : length asked.entries ≤ 1024
  pub prefixes : length asked.prefixes ≤ 1024
