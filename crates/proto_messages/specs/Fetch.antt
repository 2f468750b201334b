-- The fetch request: `FetchThreatListUpdatesRequest` of the Safe Browsing Update API, version 4.
use Rattle.std.specs.Prelude.{ℕ, ◌==◌, nat_le, if◌then◌else◌, Bool, false, List, [], ◌∷◌, ◌++◌, length, filter, Option, Some, None, option_map, is_some, Result, Ok, Err}
use Rattle.std.specs.List.{list_any}
use Rattle.proto_wire.specs.Wire.{WireValue, WireField}
use Rattle.sb_json.specs.Values.{◌>>=◌}
use Rattle.sb_json.specs.declared.fields.Field.TheVariants as field
use Rattle.update_messages.specs.Messages.{AskedList, most_items}
use Rattle.proto_messages.specs.declared.fault.PartFault.{PartFault}
use Rattle.proto_messages.specs.declared.fault.ProtoFault.{ProtoFault}
use Rattle.proto_messages.specs.declared.fault.ProtoFault.TheVariants.{TooManyItems}
use Rattle.proto_messages.specs.declared.fetch_items.ItemName.{ItemName}
use Rattle.proto_messages.specs.declared.fetch_items.Constraints.{Constraints}
use Rattle.proto_messages.specs.declared.fetch_items.NumberedList.{NumberedList}
use Rattle.proto_messages.specs.declared.fetch_request.AskedLists.{AskedLists}
use Rattle.proto_messages.specs.declared.fetch_request.NumberedFetch.{NumberedFetch}
use Rattle.proto_messages.specs.Fields.{field_values_at, fields_of, message_of, number_row, numbers_row, message_row}
use Rattle.proto_messages.specs.Numbers.{name_numbered, raw_number, rice_number}
use Rattle.proto_messages.specs.Rows.{whole_row, state_token_row, client_message_row, in_numbered_item, items_numbered_from}

-- ---- an item: `ListUpdateRequest`

-- `threat_type`, `platform_type` and `threat_entry_type`, fields 1, 2 and 5: the number of the threat, and the name that they are
unfoldable pub item_name_of : List WireField → Result ItemName PartFault
item_name_of fields = do
  threat ← number_row field.ThreatType 1 fields
  platform ← number_row field.PlatformType 2 fields
  entry ← number_row field.ThreatEntryType 5 fields
  Ok (record { threat = threat; name = name_numbered threat platform entry })

-- whether a number is among others
abbrev pub is_number_among : List ℕ → ℕ → Bool
is_number_among numbers number = list_any (λ other. other == number) numbers

-- `max_update_entries`, `max_database_entries` and `supported_compressions`, fields 1, 2 and 4 of `constraints`
unfoldable pub constraints_of : List WireField → Result Constraints PartFault
constraints_of fields = do
  max_update ← whole_row field.MaxUpdateEntries 1 fields
  max_database ← whole_row field.MaxDatabaseEntries 2 fields
  numbers ← numbers_row field.SupportedCompressions 4 fields
  Ok (record {
    max_update = max_update;
    max_database = max_database;
    raw = is_number_among numbers raw_number;
    rice = is_number_among numbers rice_number;
  })

-- `constraints`, field 4 of an item
abbrev pub constraints_message_row : List WireField → Result Constraints PartFault
constraints_message_row fields = message_row field.Constraints 4 fields >>= constraints_of

-- what an item asks for, if its name is one
abbrev pub list_asked : ItemName → List ℕ → Constraints → Option NumberedList
list_asked item state constraints =
    option_map (λ name. record {
      list = record {
        name = name;
        state = state;
        max_update = constraints.max_update;
        max_database = constraints.max_database;
        raw = constraints.raw;
        rice = constraints.rice;
      };
      threat = item.threat;
    }) item.name

-- an item: its name, then `state`, field 3, and its constraints
unfoldable pub item_of : List WireField → Result (Option NumberedList) PartFault
item_of fields = do
  item ← item_name_of fields
  state ← state_token_row field.State 3 fields
  constraints ← constraints_message_row fields
  Ok (list_asked item state constraints)

abbrev pub asked_of : WireValue → Result (Option NumberedList) PartFault
asked_of value = message_of field.ListUpdateRequests value >>= item_of

-- ---- the request

-- the name of the item that a value is
abbrev pub item_name_in : WireValue → Result ItemName PartFault
item_name_in value = message_of field.ListUpdateRequests value >>= item_name_of

-- whether the name of an item is read, as that of a list
abbrev pub is_named : Result ItemName PartFault → Bool
is_named (Ok item) = is_some item.name
is_named (Err fault) = false

-- whether a value is an item that has the name of a list
abbrev pub has_name : WireValue → Bool
has_name value = is_named (item_name_in value)

-- how many items have names of lists
abbrev pub named_items_count : List WireValue → ℕ
named_items_count values = length (filter has_name values)

-- the lists that are asked for, and the numbers of their threats
abbrev pub lists_of : List (Option NumberedList) → List AskedList
lists_of [] = []
lists_of (None ∷ more) = lists_of more
lists_of (Some item ∷ more) = item.list ∷ lists_of more

abbrev pub threats_of : List (Option NumberedList) → List ℕ
threats_of [] = []
threats_of (None ∷ more) = threats_of more
threats_of (Some item ∷ more) = item.threat ∷ threats_of more

abbrev pub lists_and_threats : List (Option NumberedList) → AskedLists
lists_and_threats items = record { lists = lists_of items; threats = threats_of items }

-- these, and what an item asks for; and what several do
abbrev pub with_asked_item : AskedLists → Option NumberedList → AskedLists
with_asked_item asked item = record { lists = asked.lists ++ lists_of (item ∷ []); threats = asked.threats ++ threats_of (item ∷ []) }

abbrev pub more_asked : AskedLists → List (Option NumberedList) → AskedLists
more_asked asked items = record { lists = asked.lists ++ lists_of items; threats = asked.threats ++ threats_of items }

-- what the items ask for, in order
unfoldable pub read_items : List WireValue → Result AskedLists ProtoFault
read_items values = items_numbered_from asked_of 1 values >>= λ items. Ok (lists_and_threats items)

-- the items, if no more of them have names than a request may have
unfoldable pub asked_items_of : List WireValue → Result AskedLists ProtoFault
asked_items_of values =
    if nat_le (named_items_count values) most_items then read_items values
    else Err (TooManyItems (named_items_count values))

-- a request: `client`, field 1, and `list_update_requests`, field 3
unfoldable pub fetch_of : List ℕ → Result NumberedFetch ProtoFault
fetch_of text = do
  fields ← in_numbered_item 0 (fields_of field.Root text)
  client ← in_numbered_item 0 (client_message_row fields)
  items ← asked_items_of (field_values_at 3 fields)
  Ok (record { request = record { client = client; items = items.lists }; threats = items.threats })
