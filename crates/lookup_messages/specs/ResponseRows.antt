-- The rows of the look-up response (`threatMatches.find` of the Safe Browsing Lookup API, version 4), in the order in
-- which they are looked at. The items and the times of keeping are read as in a find response. The three rows of a
-- list's name stand between an item itself and its `threat`.
use Rattle.std.specs.Prelude.{ℕ, List, Result}
use Rattle.serde_json.specs.Data.{Data}
use Rattle.sb_json.specs.Values.{◌>>=◌, object_of, text_chars_of}
use Rattle.sb_json.specs.declared.fields.Field.TheVariants as field
use Rattle.sb_json.specs.declared.faults.FieldFault.{FieldFault}

-- `url` of `threat`, a string, which may be empty: both are needed
abbrev pub found_url_row : Data → Result (List ℕ) FieldFault
found_url_row found = object_of field.Threat found >>= text_chars_of field.Url
