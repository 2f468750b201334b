-- How an answer to a fetch is read. No program of this project reads one: this says what the bytes tell those who do.
use Rattle.std.specs.Prelude.{ℕ, ◌^◌, ◌<◌, ◌≤◌, ◌≡◌, nat_eq, if◌then◌else◌, Bool, true, false, List, [], ◌∷◌, length, All, Result, Ok, Err}
use Rattle.proto_wire.specs.Wire.{WireField}
use Rattle.sb_json.specs.Values.{◌>>=◌}
use Rattle.sb_json.specs.declared.fields.Field.TheVariants as field
use Rattle.sb_json.specs.declared.faults.FieldFault.TheVariants.{Name}
use Rattle.sb_model.specs.Names.{platform_code, entry_code}
use Rattle.sb_model.specs.Time.{most_nanos}
use Rattle.rice_coding.specs.declared.record.RiceRecord.{RiceRecord}
use Rattle.update_messages.specs.declared.sets.Additions.{Additions}
use Rattle.update_messages.specs.declared.sets.Additions.TheVariants as added
use Rattle.update_messages.specs.declared.sets.Removals.{Removals}
use Rattle.update_messages.specs.declared.sets.Removals.TheVariants as removed
use Rattle.update_messages.specs.declared.response.FetchResponse.{FetchResponse}
use Rattle.update_messages.specs.Messages.{UpdatedList, IsUpdatedList}
use Rattle.proto_messages.specs.declared.fault.PartFault.{PartFault}
use Rattle.proto_messages.specs.declared.fault.PartFault.TheVariants as part
use Rattle.proto_messages.specs.Fields.{field_values_at, each, fields_of, message_of, number_row, bytes_row, numbers_row, message_row}
use Rattle.proto_messages.specs.Numbers.{raw_number, rice_number}
use Rattle.proto_messages.specs.Writing.{first_number, numbers_after_first, fetch_answer_bytes}
use Rattle.proto_messages.specs.Answers.{duration_row}

-- The update of a list, as its bytes tell it: its types are numbers.
pub record ToldUpdate : Type 0 where
  pub threat : ℕ
  pub platform : ℕ
  pub entry : ℕ
  pub full : Bool
  pub additions : List Additions
  pub removals : List Removals
  pub new_state : List ℕ
  pub checksum : List ℕ

-- an answer to a fetch, as its bytes tell it; the wait is nanoseconds
pub record ToldFetch : Type 0 where
  pub items : List ToldUpdate
  pub wait : ℕ

-- ---- sets: `ThreatEntrySet`

-- the numbers of a Rice record, fields 1 to 3, and its codes, field 4
unfoldable pub rice_told : List WireField → Result RiceRecord PartFault
rice_told fields = do
  first ← number_row field.FirstValue 1 fields
  parameter ← number_row field.RiceParameter 2 fields
  count ← number_row field.NumEntries 3 fields
  coded ← bytes_row field.EncodedData 4 fields
  Ok (record { first = first; parameter = parameter; count = count; coded = coded })

-- prefixes of one size: the size, field 1, and their bytes, field 2
unfoldable pub raw_told : List WireField → Result Additions PartFault
raw_told fields = do
  size ← number_row field.PrefixSize 1 fields
  bytes ← bytes_row field.RawHashBytes 2 fields
  Ok (added.Raw size bytes)

-- what a set is by the number of its compression; one that has no name is refused
abbrev pub by_compression : {A : Type 0} → Result A PartFault → Result A PartFault → ℕ → Result A PartFault
by_compression raw rice number =
    if nat_eq number raw_number then raw
    else (if nat_eq number rice_number then rice else Err (part.Field (Name field.CompressionType)))

-- a set of additions: `compression_type`, field 1, tells whether it is `raw_hashes`, field 2, or `rice_hashes`, field 4
unfoldable pub addition_told : List WireField → Result Additions PartFault
addition_told fields =
    number_row field.CompressionType 1 fields
    >>= by_compression (message_row field.RawHashes 2 fields >>= raw_told)
    (message_row field.RiceHashes 4 fields >>= rice_told >>= λ rice. Ok (added.Rice rice))

-- a set of removals: likewise `raw_indices`, field 3, whose places are its field 1, packed or not, or `rice_indices`, field 5
unfoldable pub removal_told : List WireField → Result Removals PartFault
removal_told fields =
    number_row field.CompressionType 1 fields
    >>= by_compression (message_row field.RawIndices 3 fields >>= numbers_row field.Indices 1 >>= λ places. Ok (removed.Raw places))
    (message_row field.RiceIndices 5 fields >>= rice_told >>= λ rice. Ok (removed.Rice rice))

-- ---- an update: `ListUpdateResponse`

-- whether an update is a full one: `response_type` is 2, and 1 for a partial one; another number is refused
abbrev pub full_by_number : ℕ → Result Bool PartFault
full_by_number number =
    if nat_eq number 1 then Ok false
    else (if nat_eq number 2 then Ok true else Err (part.Field (Name field.ResponseType)))

-- The fields of an update: its three types, fields 1 to 3, `response_type`, field 4, its sets, fields 5 and 6, `new_client_state`, field 7, and
-- `checksum`, field 8, whose field 1 is its bytes.
unfoldable pub update_told : List WireField → Result ToldUpdate PartFault
update_told fields = do
  threat ← number_row field.ThreatType 1 fields
  entry ← number_row field.ThreatEntryType 2 fields
  platform ← number_row field.PlatformType 3 fields
  full ← number_row field.ResponseType 4 fields >>= full_by_number
  additions ← each (λ value. message_of field.Additions value >>= addition_told) (field_values_at 5 fields)
  removals ← each (λ value. message_of field.Removals value >>= removal_told) (field_values_at 6 fields)
  new_state ← bytes_row field.NewClientState 7 fields
  checksum ← message_row field.Checksum 8 fields >>= bytes_row field.Sha256 1
  Ok (record {
    threat = threat;
    platform = platform;
    entry = entry;
    full = full;
    additions = additions;
    removals = removals;
    new_state = new_state;
    checksum = checksum;
  })

-- ---- an answer: `FetchThreatListUpdatesResponse`

-- the updates, field 1, and the wait, field 2
unfoldable pub fetch_told : List WireField → Result ToldFetch PartFault
fetch_told fields = do
  items ← each (λ value. message_of field.ListUpdateResponses value >>= update_told) (field_values_at 1 fields)
  wait ← duration_row field.MinimumWaitDuration 2 fields
  Ok (record { items = items; wait = wait })

-- bytes that are an answer to a fetch
abbrev pub TellsFetch : List ℕ → ToldFetch → Type 0
TellsFetch text told = (fields_of field.Root text >>= fetch_told) ≡ Ok told

-- ---- what an answer tells

-- Its sets of additions as they are. A full update without any tells one raw set of the size 4 without hashes: a browser keeps the list that
-- it had if there is no set.
abbrev pub told_additions : Bool → List Additions → List Additions
told_additions true [] = added.Raw 4 [] ∷ []
told_additions full sets = sets

-- An update whose threat is asked by this number. The state that it was made for is not told: this form has no field for it.
abbrev pub told_update : ℕ → UpdatedList → ToldUpdate
told_update threat update = record {
  threat = threat;
  platform = platform_code update.name.platform;
  entry = entry_code update.name.entry;
  full = update.full;
  additions = told_additions update.full update.additions;
  removals = update.removals;
  new_state = update.new_state;
  checksum = update.checksum;
}

-- updates whose threats are asked by these numbers, in order; one beyond them tells its threat's own code
abbrev pub told_updates : List ℕ → List UpdatedList → List ToldUpdate
told_updates threats [] = []
told_updates threats (update ∷ updates) = told_update (first_number threats update) update ∷ told_updates (numbers_after_first threats) updates

abbrev pub told_fetch : List ℕ → FetchResponse → ToldFetch
told_fetch threats message = record { items = told_updates threats message.items; wait = message.wait }

-- The numbers and the updates of an answer are those that it can have, as its types hold them, and the bytes fit in memory.
pub record CanBeToldWith (threats : List ℕ) (message : FetchResponse) : Type 0 where
  pub threats_fit : All (λ threat. threat < 2 ^ 64) threats
  pub updates : All IsUpdatedList message.items
  pub wait : message.wait ≤ most_nanos
  pub size : length (fetch_answer_bytes threats message) < 2 ^ 64

-- what is written of an answer is read as what it tells
abbrev pub WrittenFetchesAreRead : Type 0
WrittenFetchesAreRead = (threats : List ℕ) (message : FetchResponse) → CanBeToldWith threats message → TellsFetch (fetch_answer_bytes threats message) (told_fetch threats message)
