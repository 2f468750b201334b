-- Which message a JSON value is: each field of the message is what its row is read as.
use Rattle.std.specs.Prelude.{◌≡◌, ◌≤◌, List, length, Option, Result, Ok}
use Rattle.serde_json.specs.Data.{Data, Items}
use Rattle.sb_json.specs.declared.faults.FieldFault.{FieldFault}
use Rattle.sb_members.specs.Lists.{ReadsList}
use Rattle.sb_members.specs.Somes.{ReadsSome}
use Rattle.sb_members.specs.Rows.{threat_row, platform_row, entry_row}
use Rattle.update_messages.specs.RequestRows.{root_row, client_row}
use Rattle.update_messages.specs.Reading.{ReadsClient}
use Rattle.hash_messages.specs.Messages.{AskedHashes, most_prefixes}
use Rattle.hash_messages.specs.RequestRows as request
use Rattle.hash_messages.specs.ResponseRows as response
use Rattle.hash_messages.specs.declared.response.Match.{Match}
use Rattle.hash_messages.specs.declared.response.FindResponse.{FindResponse}
use Rattle.update_messages.specs.ResponseRows.{wait_row}

-- what a row reads a value as
abbrev pub ReadsAs : {A : Type 0} → (Data → Result A FieldFault) → Data → A → Type 0
ReadsAs row value a = row value ≡ Ok a

-- a list whose items a row reads
abbrev pub ReadsEach : {A : Type 0} → (Data → Result A FieldFault) → Result Items FieldFault → List A → Type 0
ReadsEach row items values = ReadsList (ReadsAs row) items values

-- a list whose items a row reads, each as something or as nothing, and what is something
abbrev pub ReadsSomeBy : {A : Type 0} → (Data → Result (Option A) FieldFault) → Result Items FieldFault → List A → Type 0
ReadsSomeBy row items values = ReadsSome (ReadsAs row) items values

-- ---- the request

-- what a request has outside its items
pub record ReadsOutsideItems (value : Data) (message : AskedHashes) : Type 0 where
  pub object : root_row value ≡ Ok value
  pub client : ReadsClient (client_row value) message.client
  pub states : ReadsSomeBy request.asked_state_row (request.states_row value) message.states
  pub threats : ReadsSomeBy request.asked_threat_row (request.in_info request.threats_row value) message.threats
  pub platforms : ReadsSomeBy request.asked_platform_row (request.in_info request.platforms_row value) message.platforms
  pub entries : ReadsSomeBy request.asked_entry_row (request.in_info request.entries_row value) message.entries

pub record ReadsFindRequest (value : Data) (message : AskedHashes) : Type 0 where
  pub outside : ReadsOutsideItems value message
  pub few : length message.prefixes ≤ most_prefixes
  pub prefixes : ReadsEach request.prefix_row (request.in_info request.prefixes_row value) message.prefixes

-- ---- the response

pub record ReadsMatch (value : Data) (found : Match) : Type 0 where
  pub object : response.match_row value ≡ Ok value
  pub threat : threat_row value ≡ Ok found.name.threat
  pub platform : platform_row value ≡ Ok found.name.platform
  pub entry : entry_row value ≡ Ok found.name.entry
  pub hash : response.hash_row value ≡ Ok found.hash.bytes
  pub cache : response.cache_row value ≡ Ok found.cache

pub record ReadsFindResponse (value : Data) (message : FindResponse) : Type 0 where
  pub object : root_row value ≡ Ok value
  pub matches : ReadsList ReadsMatch (response.matches_row value) message.matches
  pub wait : wait_row value ≡ Ok message.wait
  pub negative : response.negative_row value ≡ Ok message.negative
