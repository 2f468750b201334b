-- The rows of the find request (`fullHashes.find` of the Safe Browsing Update API, version 4), in the
-- order in which they are looked at. The message itself and `client` come before them, and are read as
-- in a fetch request.
use Rattle.std.specs.Prelude.{ℕ, ◌&&◌, nat_le, if◌then◌else◌, List, length, Option, Some, None, Result, Ok, Err}
use Rattle.serde_json.specs.Data.{Data, Items}
use Rattle.sb_json.specs.Values.{◌>>=◌, if_there, string_in, object_in, object_of, bytes_in, bytes_of}
use Rattle.sb_json.specs.declared.fields.Field.TheVariants as field
use Rattle.sb_json.specs.declared.faults.FieldFault.{FieldFault}
use Rattle.sb_json.specs.declared.faults.FieldFault.TheVariants.{Size}
use Rattle.sb_model.specs.declared.names.ThreatType.{ThreatType}
use Rattle.sb_model.specs.declared.names.PlatformType.{PlatformType}
use Rattle.sb_model.specs.declared.names.EntryType.{EntryType}
use Rattle.sb_model.specs.Names.{threat_of, platform_of, entry_of}
use Rattle.sb_members.specs.Rows.{or_absent, items_or_none}

-- `clientStates`: the items, none where it is absent
abbrev pub states_row : Data → Result Items FieldFault
states_row message = items_or_none field.ClientStates message

-- one of them: bytes, or nothing where it is null
abbrev pub asked_state_row : Data → Result (Option (List ℕ)) FieldFault
asked_state_row state = or_absent None (λ value. bytes_in field.ClientStates value >>= λ bytes. Ok (Some bytes)) (if_there state)

-- `threatInfo`: an object
abbrev pub info_row : Data → Result Data FieldFault
info_row message = object_of field.ThreatInfo message

-- what a row of `threatInfo` reads
abbrev pub in_info : {A : Type 0} → (Data → Result A FieldFault) → Data → Result A FieldFault
in_info row message = info_row message >>= row

-- `threatTypes` of `threatInfo`: the items, none where it is absent
abbrev pub threats_row : Data → Result Items FieldFault
threats_row info = items_or_none field.ThreatTypes info

-- one of them: a string, which is a threat type where the table has it, and nothing where it has not
abbrev pub asked_threat_row : Data → Result (Option ThreatType) FieldFault
asked_threat_row name = string_in field.ThreatTypes name >>= λ word. Ok (threat_of word)

-- `platformTypes` of `threatInfo`, likewise
abbrev pub platforms_row : Data → Result Items FieldFault
platforms_row info = items_or_none field.PlatformTypes info

abbrev pub asked_platform_row : Data → Result (Option PlatformType) FieldFault
asked_platform_row name = string_in field.PlatformTypes name >>= λ word. Ok (platform_of word)

-- `threatEntryTypes` of `threatInfo`, likewise
abbrev pub entries_row : Data → Result Items FieldFault
entries_row info = items_or_none field.ThreatEntryTypes info

abbrev pub asked_entry_row : Data → Result (Option EntryType) FieldFault
asked_entry_row name = string_in field.ThreatEntryTypes name >>= λ word. Ok (entry_of word)

-- `threatEntries` of `threatInfo`: the items, none where it is absent
abbrev pub prefixes_row : Data → Result Items FieldFault
prefixes_row info = items_or_none field.ThreatEntries info

-- bytes that are a prefix
abbrev pub prefix : List ℕ → Result (List ℕ) FieldFault
prefix bytes = if nat_le 4 (length bytes) && nat_le (length bytes) 32 then Ok bytes else Err (Size field.Hash (length bytes))

-- one of them: an object, whose `hash` is 4 to 32 bytes
abbrev pub prefix_row : Data → Result (List ℕ) FieldFault
prefix_row entry = object_in field.ThreatEntries entry >>= bytes_of field.Hash >>= prefix
