-- Which message a JSON value is: each field of the message is what its row is read as.
use Rattle.std.specs.Prelude.{◌≡◌, ℕ, ◌≤◌, Bool, List, length, Option, Result, Ok, codes}
use Rattle.serde_json.specs.Data.{Data, Items}
use Rattle.sb_json.specs.Values.{◌>>=◌, value_of}
use Rattle.sb_json.specs.declared.faults.FieldFault.{FieldFault}
use Rattle.sb_members.specs.Rows.{threat_row, platform_row, entry_row}
use Rattle.sb_members.specs.Lists.{ReadsList}
use Rattle.sb_members.specs.Somes.{ReadsSome}
use Rattle.rice_coding.specs.declared.record.RiceRecord.{RiceRecord}
use Rattle.update_messages.specs.declared.sets.Compression.TheVariants as compression
use Rattle.update_messages.specs.declared.sets.Additions.{Additions}
use Rattle.update_messages.specs.declared.sets.Additions.TheVariants as added
use Rattle.update_messages.specs.declared.sets.Removals.{Removals}
use Rattle.update_messages.specs.declared.sets.Removals.TheVariants as removed
use Rattle.update_messages.specs.declared.response.FetchResponse.{FetchResponse}
use Rattle.update_messages.specs.declared.client.ClientInfo.{ClientInfo}
use Rattle.update_messages.specs.Messages.{AskedList, AskedItem, list_of_item, Request, UpdatedList, most_items}
use Rattle.update_messages.specs.RequestRows as request
use Rattle.update_messages.specs.ResponseRows as response

-- ---- the request

abbrev pub ReadsName : Data → List ℕ → Type 0
ReadsName value name = request.compression_name_row value ≡ Ok name

-- Which compressions a list of names has. Names of others are skipped.
pub record TakesCompressions (items : Result Items FieldFault) (raw rice : Bool) : Type 0 where
  pub names : List (List ℕ)
  pub names_read : ReadsList ReadsName items names
  pub raw_taken : raw ≡ request.is_among names (codes "RAW")
  pub rice_taken : rice ≡ request.is_among names (codes "RICE")

pub record ReadsAskedItem (value : Data) (item : AskedItem) : Type 0 where
  pub object : request.request_row value ≡ Ok value
  pub name : request.asked_name_row value ≡ Ok item.name
  pub state : request.state_row value ≡ Ok item.state
  pub max_update : (request.in_constraints request.max_update_row value) ≡ Ok item.max_update
  pub max_database : (request.in_constraints request.max_database_row value) ≡ Ok item.max_database
  pub compressions : TakesCompressions (request.in_constraints request.compressions_row value) item.raw item.rice

-- the list that an item asks for, or nothing
pub record ReadsAsked (value : Data) (asked : Option AskedList) : Type 0 where
  pub item : AskedItem
  pub item_read : ReadsAskedItem value item
  pub kept : asked ≡ list_of_item item

-- who asks
pub record ReadsClient (holder : Result Data FieldFault) (client : ClientInfo) : Type 0 where
  pub id : (holder >>= request.client_id_row) ≡ Ok client.id
  pub version : (holder >>= request.client_version_row) ≡ Ok client.version

pub record ReadsRequest (value : Data) (message : Request) : Type 0 where
  pub object : request.root_row value ≡ Ok value
  pub client : ReadsClient (request.client_row value) message.client
  pub few : length message.items ≤ most_items
  pub items : ReadsSome ReadsAsked (request.requests_row value) message.items

-- ---- the response

-- an object that is the record of a Rice coded set
pub record ReadsRice (holder : Result Data FieldFault) (rice : RiceRecord) : Type 0 where
  pub first : (holder >>= response.first_value_row) ≡ Ok rice.first
  pub parameter : (holder >>= response.rice_parameter_row) ≡ Ok rice.parameter
  pub count : (holder >>= response.entry_count_row) ≡ Ok rice.count
  pub coded : (holder >>= response.encoded_row) ≡ Ok rice.coded

-- an object that has prefixes of one size, one after the other
pub record ReadsRaw (holder : Result Data FieldFault) (size : ℕ) (bytes : List ℕ) : Type 0 where
  pub size_read : (holder >>= response.prefix_size_row) ≡ Ok size
  pub bytes_read : (holder >>= response.raw_bytes_row size) ≡ Ok bytes

-- a set of additions that is not compressed
pub record ReadsRawHashes (set : Data) (size : ℕ) (bytes : List ℕ) : Type 0 where
  pub compression : response.compression_row set ≡ Ok compression.Raw
  pub raw_read : ReadsRaw (response.raw_hashes_row set) size bytes

-- a set of additions that is Rice coded
pub record ReadsRiceHashes (set : Data) (rice : RiceRecord) : Type 0 where
  pub compression : response.compression_row set ≡ Ok compression.Rice
  pub rice_read : ReadsRice (response.rice_hashes_row set) rice

abbrev pub ReadsIndex : Data → ℕ → Type 0
ReadsIndex value index = response.index_row value ≡ Ok index

-- a set of removals that is not compressed
pub record ReadsRawIndices (set : Data) (indices : List ℕ) : Type 0 where
  pub compression : response.compression_row set ≡ Ok compression.Raw
  pub indices_read : ReadsList ReadsIndex (response.raw_indices_row set >>= response.indices_row) indices

-- a set of removals that is Rice coded
pub record ReadsRiceIndices (set : Data) (rice : RiceRecord) : Type 0 where
  pub compression : response.compression_row set ≡ Ok compression.Rice
  pub rice_read : ReadsRice (response.rice_indices_row set) rice

-- an entry set: an object of either kind
abbrev pub ReadsAddition : Data → Additions → Type 0
ReadsAddition set (added.Raw size bytes) = (response.addition_row set ≡ Ok set) × ReadsRawHashes set size bytes
ReadsAddition set (added.Rice rice) = (response.addition_row set ≡ Ok set) × ReadsRiceHashes set rice

abbrev pub ReadsRemoval : Data → Removals → Type 0
ReadsRemoval set (removed.Raw indices) = (response.removal_row set ≡ Ok set) × ReadsRawIndices set indices
ReadsRemoval set (removed.Rice rice) = (response.removal_row set ≡ Ok set) × ReadsRiceIndices set rice

pub record ReadsUpdatedList (value : Data) (update : UpdatedList) : Type 0 where
  pub object : response.update_row value ≡ Ok value
  pub threat : threat_row value ≡ Ok update.name.threat
  pub platform : platform_row value ≡ Ok update.name.platform
  pub entry : entry_row value ≡ Ok update.name.entry
  pub full : response.response_type_row value ≡ Ok update.full
  pub additions : ReadsList ReadsAddition (response.additions_row value) update.additions
  pub removals : ReadsList ReadsRemoval (response.removals_row value) update.removals
  pub new_state : response.new_state_row value ≡ Ok update.new_state
  pub base : response.base_state_row value ≡ Ok update.base
  pub checksum : response.digest_row value ≡ Ok update.checksum

pub record ReadsResponse (value : Data) (message : FetchResponse) : Type 0 where
  pub object : request.root_row value ≡ Ok value
  pub items : ReadsList ReadsUpdatedList (response.updates_row value) message.items
  pub wait : response.wait_row value ≡ Ok message.wait

-- ---- texts

-- a text whose value is the message
abbrev pub IsTextOf : {A : Type 0} → (Data → A → Type 0) → List ℕ → A → Type 0
IsTextOf Reads text message = (value : Data) × (value_of text ≡ Ok value) × Reads value message
