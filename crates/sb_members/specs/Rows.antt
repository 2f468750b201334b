-- The kinds of fields that the rows of messages have. A row says what a field of an object is read as, or its fault.
use Rattle.std.specs.Prelude.{ℕ, List, [], Option, Some, None, Result, Ok}
use Rattle.std.specs.Str.{chars}
use Rattle.serde_json.specs.Data.{Data, null, Items, no_items}
use Rattle.sb_json.specs.Values.{◌>>=◌, field_of, or_field_fault, whole_in, string_in, items_in, object_in, bytes_in, duration_in, string_of}
use Rattle.sb_json.specs.declared.fields.Field.{Field}
use Rattle.sb_json.specs.declared.fields.Field.TheVariants as field
use Rattle.sb_json.specs.declared.faults.FieldFault.{FieldFault}
use Rattle.sb_json.specs.declared.faults.FieldFault.TheVariants.{Name}
use Rattle.sb_model.specs.declared.names.ThreatType.{ThreatType}
use Rattle.sb_model.specs.declared.names.PlatformType.{PlatformType}
use Rattle.sb_model.specs.declared.names.EntryType.{EntryType}
use Rattle.sb_model.specs.Names.{threat_of, platform_of, entry_of}

-- a field that may be absent, and then has a default
abbrev pub or_absent : {A : Type 0} → A → (Data → Result A FieldFault) → Option Data → Result A FieldFault
or_absent default read None = Ok default
or_absent default read (Some value) = read value

-- an object; where it is absent, a value without fields
abbrev pub object_or_null : Field → Data → Result Data FieldFault
object_or_null field holder = or_absent null (object_in field) (field_of field holder)

-- the items of a list, of which there are none where it is absent
abbrev pub items_or_none : Field → Data → Result Items FieldFault
items_or_none field holder = or_absent no_items (items_in field) (field_of field holder)

-- bytes, of which there are none where the field is absent
abbrev pub bytes_or_empty : Field → Data → Result (List ℕ) FieldFault
bytes_or_empty field holder = or_absent [] (bytes_in field) (field_of field holder)

-- a whole number, which is 0 where it is absent
abbrev pub whole_or_zero : Field → ℕ → Data → Result ℕ FieldFault
whole_or_zero field most holder = or_absent 0 (whole_in field most) (field_of field holder)

-- a text, empty where the field is absent
abbrev pub text_or_empty : Field → Data → Result (List ℕ) FieldFault
text_or_empty field holder = or_absent [] (λ value. string_in field value >>= λ s. Ok (chars s)) (field_of field holder)

-- a duration, zero where the field is absent
abbrev pub duration_or_zero : Field → Data → Result ℕ FieldFault
duration_or_zero field holder = or_absent 0 (duration_in field) (field_of field holder)

-- ---- the three rows of a list's name

-- `threatType`: a name that the table of threat types has
abbrev pub threat_row : Data → Result ThreatType FieldFault
threat_row holder = string_of field.ThreatType holder >>= λ word. or_field_fault (Name field.ThreatType) (threat_of word)

-- `platformType`
abbrev pub platform_row : Data → Result PlatformType FieldFault
platform_row holder = string_of field.PlatformType holder >>= λ word. or_field_fault (Name field.PlatformType) (platform_of word)

-- `threatEntryType`
abbrev pub entry_row : Data → Result EntryType FieldFault
entry_row holder = string_of field.ThreatEntryType holder >>= λ word. or_field_fault (Name field.ThreatEntryType) (entry_of word)
