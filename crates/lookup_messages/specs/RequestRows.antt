-- The rows of the look-up request (`threatMatches.find` of the Safe Browsing Lookup API, version 4), in the order in
-- which they are looked at. The message itself and `client` come before them, and are read as in a fetch request. The
-- three lists of types come next, and are read as in a find request.
use Rattle.std.specs.Prelude.{ℕ, List, Result}
use Rattle.serde_json.specs.Data.{Data, Items}
use Rattle.sb_json.specs.Values.{◌>>=◌, object_in, text_chars_of}
use Rattle.sb_json.specs.declared.fields.Field.TheVariants as field
use Rattle.sb_json.specs.declared.faults.FieldFault.{FieldFault}
use Rattle.sb_members.specs.Rows.{items_or_none}

-- `threatEntries` of `threatInfo`: the items, none if it is absent
abbrev pub urls_row : Data → Result Items FieldFault
urls_row info = items_or_none field.ThreatEntries info

-- one of them: an object, whose `url` is a string, which may be empty
abbrev pub url_row : Data → Result (List ℕ) FieldFault
url_row entry = object_in field.ThreatEntries entry >>= text_chars_of field.Url
