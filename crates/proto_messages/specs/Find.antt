-- The find request: `FindFullHashesRequest` of the Safe Browsing Update API, version 4.
use Rattle.std.specs.Prelude.{ℕ, ◌&&◌, nat_le, if◌then◌else◌, List, length, filter_map, Result, Ok, Err}
use Rattle.proto_wire.specs.Wire.{WireValue, WireField}
use Rattle.sb_json.specs.Values.{◌>>=◌}
use Rattle.sb_json.specs.declared.fields.Field.TheVariants as field
use Rattle.sb_json.specs.declared.faults.FieldFault.TheVariants.{Size}
use Rattle.sb_model.specs.Names.{platform_with_code, entry_with_code}
use Rattle.hash_messages.specs.Messages.{most_prefixes}
use Rattle.proto_messages.specs.declared.fault.PartFault.{PartFault}
use Rattle.proto_messages.specs.declared.fault.PartFault.TheVariants as part
use Rattle.proto_messages.specs.declared.fault.ProtoFault.{ProtoFault}
use Rattle.proto_messages.specs.declared.fault.ProtoFault.TheVariants.{TooManyItems}
use Rattle.proto_messages.specs.declared.find_types.NumberedTypes.{NumberedTypes}
use Rattle.proto_messages.specs.declared.find_request.NumberedFind.{NumberedFind}
use Rattle.proto_messages.specs.declared.find_request.Outside.{Outside}
use Rattle.proto_messages.specs.Fields.{field_values_at, each, fields_of, bytes_in_field, message_of, bytes_row, numbers_row, message_row}
use Rattle.proto_messages.specs.Numbers.{threat_numbered, social_among}
use Rattle.proto_messages.specs.Rows.{client_in, in_numbered_item, items_numbered_from}

-- the types that some numbers name, without the numbers that name none
abbrev pub types_numbered : List ℕ → List ℕ → List ℕ → NumberedTypes
types_numbered threats platforms entries = record {
  threats = filter_map threat_numbered threats;
  platforms = filter_map platform_with_code platforms;
  entries = filter_map entry_with_code entries;
  social = social_among threats;
}

-- `threat_types`, `platform_types` and `threat_entry_types`, fields 1, 2 and 4 of `threat_info`
unfoldable pub types_of : List WireField → Result NumberedTypes PartFault
types_of info = do
  threats ← numbers_row field.ThreatTypes 1 info
  platforms ← numbers_row field.PlatformTypes 2 info
  entries ← numbers_row field.ThreatEntryTypes 4 info
  Ok (types_numbered threats platforms entries)

-- bytes that are a prefix
abbrev pub prefix_in_bytes : List ℕ → Result (List ℕ) PartFault
prefix_in_bytes bytes = if nat_le 4 (length bytes) && nat_le (length bytes) 32 then Ok bytes else Err (part.Field (Size field.Hash (length bytes)))

-- an entry: `hash`, field 1 of `ThreatEntry`, is a prefix
unfoldable pub entry_prefix_of : WireValue → Result (List ℕ) PartFault
entry_prefix_of value = message_of field.ThreatEntries value >>= bytes_row field.Hash 1 >>= prefix_in_bytes

-- the prefixes, if there are no more than a request may have
unfoldable pub entry_prefixes_of : List WireValue → Result (List (List ℕ)) ProtoFault
entry_prefixes_of values = if nat_le (length values) most_prefixes then items_numbered_from entry_prefix_of 1 values else Err (TooManyItems (length values))

-- `client_states`, field 2
unfoldable pub client_states_row : List WireField → Result (List (List ℕ)) PartFault
client_states_row fields = each (bytes_in_field field.ClientStates) (field_values_at 2 fields)

-- `threat_info`, field 3
abbrev pub threat_info_row : List WireField → Result (List WireField) PartFault
threat_info_row fields = message_row field.ThreatInfo 3 fields

-- what a request has outside its entries: `client`, field 1, the states, and the types
unfoldable pub outside_of : List ℕ → Result Outside PartFault
outside_of text = do
  client ← client_in text
  fields ← fields_of field.Root text
  states ← client_states_row fields
  types ← threat_info_row fields >>= types_of
  Ok (record { client = client; states = states; types = types })

-- the prefixes of `threat_entries`, field 3 of `threat_info`
unfoldable pub prefixes_in : List WireField → Result (List (List ℕ)) ProtoFault
prefixes_in fields = in_numbered_item 0 (threat_info_row fields) >>= λ info. entry_prefixes_of (field_values_at 3 info)

abbrev pub with_prefixes : Outside → List (List ℕ) → NumberedFind
with_prefixes outside prefixes = record {
  request = record {
    client = outside.client;
    states = outside.states;
    threats = outside.types.threats;
    platforms = outside.types.platforms;
    entries = outside.types.entries;
    prefixes = prefixes;
  };
  social = outside.types.social;
}

-- a request: what it has outside its entries, and then its prefixes
unfoldable pub find_of : List ℕ → Result NumberedFind ProtoFault
find_of text = do
  outside ← in_numbered_item 0 (outside_of text)
  fields ← in_numbered_item 0 (fields_of field.Root text)
  prefixes ← prefixes_in fields
  Ok (with_prefixes outside prefixes)
