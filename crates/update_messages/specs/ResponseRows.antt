-- The rows of the fetch response (`threatListUpdates.fetch` of the Safe Browsing Update API, version 4), in the order in which they are looked at.
use Rattle.std.specs.Prelude.{ℕ, ◌==◌, ◌%◌, Bool, true, false, nat_le, if◌then◌else◌, List, length, Option, Some, None, Result, Ok, Err, codes}
use Rattle.std.specs.Str.{bytes_eq}
use Rattle.serde_json.specs.Data.{Data, Items}
use Rattle.sb_json.specs.Values.{◌>>=◌, or_field_fault, whole_in, whole_of, string_of, object_in, object_of, bytes_of}
use Rattle.sb_json.specs.declared.fields.Field.TheVariants as field
use Rattle.sb_json.specs.declared.faults.FieldFault.{FieldFault}
use Rattle.sb_json.specs.declared.faults.FieldFault.TheVariants.{Name, Number, Size}
use Rattle.sb_members.specs.Rows.{items_or_none, bytes_or_empty, whole_or_zero, duration_or_zero}
use Rattle.update_messages.specs.declared.sets.Compression.{Compression}
use Rattle.update_messages.specs.declared.sets.Compression.TheVariants as compression
use Rattle.update_messages.specs.Messages.{most_i32, most_i64}
use Rattle.update_messages.specs.Rows.{state_or_empty}

-- `listUpdateResponses`: the items, none where it is absent
abbrev pub updates_row : Data → Result Items FieldFault
updates_row message = items_or_none field.ListUpdateResponses message

-- an item: an object
abbrev pub update_row : Data → Result Data FieldFault
update_row update = object_in field.ListUpdateResponses update

-- whether a word says that an update is full
abbrev pub fullness_of : List ℕ → Option Bool
fullness_of word =
    if bytes_eq word (codes "FULL_UPDATE") then Some true
    else if bytes_eq word (codes "PARTIAL_UPDATE") then Some false
    else None

-- `responseType`: FULL_UPDATE, which is true, or PARTIAL_UPDATE
abbrev pub response_type_row : Data → Result Bool FieldFault
response_type_row update = string_of field.ResponseType update >>= λ word. or_field_fault (Name field.ResponseType) (fullness_of word)

-- `additions`: entry sets, none where it is absent
abbrev pub additions_row : Data → Result Items FieldFault
additions_row update = items_or_none field.Additions update

-- `removals`, likewise
abbrev pub removals_row : Data → Result Items FieldFault
removals_row update = items_or_none field.Removals update

-- an entry set: an object
abbrev pub addition_row : Data → Result Data FieldFault
addition_row set = object_in field.Additions set

abbrev pub removal_row : Data → Result Data FieldFault
removal_row set = object_in field.Removals set

-- the compression that a word names
abbrev pub compression_of : List ℕ → Option Compression
compression_of word =
    if bytes_eq word (codes "RAW") then Some compression.Raw
    else if bytes_eq word (codes "RICE") then Some compression.Rice
    else None

-- `compressionType` of a set: RAW or RICE
abbrev pub compression_row : Data → Result Compression FieldFault
compression_row set = string_of field.CompressionType set >>= λ word. or_field_fault (Name field.CompressionType) (compression_of word)

-- `rawHashes` of a RAW addition: an object
abbrev pub raw_hashes_row : Data → Result Data FieldFault
raw_hashes_row set = object_of field.RawHashes set

-- a number that is a prefix's size
abbrev pub prefix_size : ℕ → Result ℕ FieldFault
prefix_size size = if nat_le 4 size then Ok size else Err (Number field.PrefixSize)

-- its `prefixSize`: 4 to 32
abbrev pub prefix_size_row : Data → Result ℕ FieldFault
prefix_size_row hashes = whole_of field.PrefixSize 32 hashes >>= prefix_size

-- bytes that are whole prefixes of a size
abbrev pub whole_prefixes : ℕ → List ℕ → Result (List ℕ) FieldFault
whole_prefixes size bytes = if length bytes % size == 0 then Ok bytes else Err (Size field.RawHashBytes (length bytes))

-- its `rawHashes`: bytes, none where it is absent, whose number is a multiple of the size
abbrev pub raw_bytes_row : ℕ → Data → Result (List ℕ) FieldFault
raw_bytes_row size hashes = bytes_or_empty field.RawHashBytes hashes >>= whole_prefixes size

-- `rawIndices` of a RAW removal: an object
abbrev pub raw_indices_row : Data → Result Data FieldFault
raw_indices_row set = object_of field.RawIndices set

-- its `indices`: the items, none where it is absent
abbrev pub indices_row : Data → Result Items FieldFault
indices_row raw = items_or_none field.Indices raw

-- one of them: 0 to 2,147,483,647
abbrev pub index_row : Data → Result ℕ FieldFault
index_row index = whole_in field.Indices most_i32 index

-- `riceHashes` of a RICE addition: an object
abbrev pub rice_hashes_row : Data → Result Data FieldFault
rice_hashes_row set = object_of field.RiceHashes set

-- `riceIndices` of a RICE removal: an object
abbrev pub rice_indices_row : Data → Result Data FieldFault
rice_indices_row set = object_of field.RiceIndices set

-- `firstValue` of a Rice record: 0 to 9,223,372,036,854,775,807, and 0 where it is absent
abbrev pub first_value_row : Data → Result ℕ FieldFault
first_value_row rice = whole_or_zero field.FirstValue most_i64 rice

-- its `riceParameter`: 0 to 2,147,483,647, and 0 where it is absent
abbrev pub rice_parameter_row : Data → Result ℕ FieldFault
rice_parameter_row rice = whole_or_zero field.RiceParameter most_i32 rice

-- its `numEntries`, likewise
abbrev pub entry_count_row : Data → Result ℕ FieldFault
entry_count_row rice = whole_or_zero field.NumEntries most_i32 rice

-- its `encodedData`: bytes, none where it is absent
abbrev pub encoded_row : Data → Result (List ℕ) FieldFault
encoded_row rice = bytes_or_empty field.EncodedData rice

-- `newClientState`: bytes, none where it is absent, at most 4,096
abbrev pub new_state_row : Data → Result (List ℕ) FieldFault
new_state_row update = state_or_empty field.NewClientState update

-- `baseState`, likewise: a field of this project's own, which other clients skip
abbrev pub base_state_row : Data → Result (List ℕ) FieldFault
base_state_row update = state_or_empty field.BaseState update

-- `checksum`: an object
abbrev pub checksum_row : Data → Result Data FieldFault
checksum_row update = object_of field.Checksum update

-- bytes that are a digest
abbrev pub digest : List ℕ → Result (List ℕ) FieldFault
digest bytes = if length bytes == 32 then Ok bytes else Err (Size field.Sha256 (length bytes))

-- its `sha256`: 32 bytes
abbrev pub sha256_row : Data → Result (List ℕ) FieldFault
sha256_row checksum = bytes_of field.Sha256 checksum >>= digest

-- both are needed
abbrev pub digest_row : Data → Result (List ℕ) FieldFault
digest_row update = checksum_row update >>= sha256_row

-- `minimumWaitDuration`, after the items: a duration, zero where it is absent
abbrev pub wait_row : Data → Result ℕ FieldFault
wait_row message = duration_or_zero field.MinimumWaitDuration message
