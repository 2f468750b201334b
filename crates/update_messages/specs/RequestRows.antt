-- The rows of the fetch request (`threatListUpdates.fetch` of the Safe Browsing Update API, version 4), in the order in which they are looked at.
use Rattle.std.specs.Prelude.{ℕ, Bool, List, Option, Some, None, Result, Ok}
use Rattle.std.specs.Str.{bytes_eq}
use Rattle.std.specs.List.{list_any}
use Rattle.serde_json.specs.Data.{Data, Items}
use Rattle.sb_json.specs.Values.{◌>>=◌, string_in, string_of, object_in}
use Rattle.sb_json.specs.declared.fields.Field.TheVariants as field
use Rattle.sb_json.specs.declared.faults.FieldFault.{FieldFault}
use Rattle.sb_model.specs.declared.names.ThreatType.{ThreatType}
use Rattle.sb_model.specs.declared.names.PlatformType.{PlatformType}
use Rattle.sb_model.specs.declared.names.EntryType.{EntryType}
use Rattle.sb_model.specs.declared.names.ListName.{ListName}
use Rattle.sb_model.specs.Names.{threat_of, platform_of, entry_of}
use Rattle.sb_members.specs.Rows.{object_or_null, items_or_none, whole_or_zero, text_or_empty}
use Rattle.update_messages.specs.Messages.{most_i32}
use Rattle.update_messages.specs.Rows.{state_or_empty}

-- the message itself: an object
abbrev pub root_row : Data → Result Data FieldFault
root_row message = object_in field.Root message

-- `client`: an object, without fields where it is absent
abbrev pub client_row : Data → Result Data FieldFault
client_row message = object_or_null field.Client message

-- `clientId` of `client`
abbrev pub client_id_row : Data → Result (List ℕ) FieldFault
client_id_row client = text_or_empty field.ClientId client

-- `clientVersion` of `client`
abbrev pub client_version_row : Data → Result (List ℕ) FieldFault
client_version_row client = text_or_empty field.ClientVersion client

-- `listUpdateRequests`: the items, none where it is absent
abbrev pub requests_row : Data → Result Items FieldFault
requests_row message = items_or_none field.ListUpdateRequests message

-- an item: an object
abbrev pub request_row : Data → Result Data FieldFault
request_row request = object_in field.ListUpdateRequests request

-- the name of a list, where each of its three types is there
abbrev pub name_of_types : Option ThreatType → Option PlatformType → Option EntryType → Option ListName
name_of_types (Some threat) (Some platform) (Some entry) = Some (record { threat = threat; platform = platform; entry = entry })
name_of_types threat platform entry = None

-- `threatType`, `platformType` and `threatEntryType`: strings. They are the name of a list where the tables have all three, and no name of
-- a list that the server has where they do not.
abbrev pub asked_name_row : Data → Result (Option ListName) FieldFault
asked_name_row request =
    string_of field.ThreatType request >>= λ threat. string_of field.PlatformType request >>= λ platform. string_of field.ThreatEntryType request
    >>= λ entry. Ok (name_of_types (threat_of threat) (platform_of platform) (entry_of entry))

-- `state`: bytes, none where it is absent, at most 4,096
abbrev pub state_row : Data → Result (List ℕ) FieldFault
state_row request = state_or_empty field.State request

-- `constraints`: an object, without fields where it is absent
abbrev pub constraints_row : Data → Result Data FieldFault
constraints_row request = object_or_null field.Constraints request

-- what a row of `constraints` reads
abbrev pub in_constraints : {A : Type 0} → (Data → Result A FieldFault) → Data → Result A FieldFault
in_constraints row request = constraints_row request >>= row

-- `maxUpdateEntries` of `constraints`: 0 to 2,147,483,647, and 0 where it is absent
abbrev pub max_update_row : Data → Result ℕ FieldFault
max_update_row constraints = whole_or_zero field.MaxUpdateEntries most_i32 constraints

-- `maxDatabaseEntries` of `constraints`, likewise
abbrev pub max_database_row : Data → Result ℕ FieldFault
max_database_row constraints = whole_or_zero field.MaxDatabaseEntries most_i32 constraints

-- `supportedCompressions` of `constraints`: the items, none where it is absent
abbrev pub compressions_row : Data → Result Items FieldFault
compressions_row constraints = items_or_none field.SupportedCompressions constraints

-- one of them: a string
abbrev pub compression_name_row : Data → Result (List ℕ) FieldFault
compression_name_row name = string_in field.SupportedCompressions name

-- whether a word is among others
abbrev pub is_among : List (List ℕ) → List ℕ → Bool
is_among words word = list_any (bytes_eq word) words
