-- The rows of the find response (`fullHashes.find` of the Safe Browsing Update API, version 4), in the
-- order in which they are looked at. Of an item, the three rows of a list's name stand between the
-- first and `threat`.
use Rattle.std.specs.Prelude.{ℕ, ◌==◌, if◌then◌else◌, List, length, Result, Ok, Err}
use Rattle.serde_json.specs.Data.{Data, Items}
use Rattle.sb_json.specs.Values.{◌>>=◌, object_in, object_of, bytes_of}
use Rattle.sb_json.specs.declared.fields.Field.TheVariants as field
use Rattle.sb_json.specs.declared.faults.FieldFault.{FieldFault}
use Rattle.sb_json.specs.declared.faults.FieldFault.TheVariants.{Size}
use Rattle.sb_members.specs.Rows.{items_or_none, duration_or_zero}

-- `matches`: the items, none where it is absent
abbrev pub matches_row : Data → Result Items FieldFault
matches_row message = items_or_none field.Matches message

-- an item: an object
abbrev pub match_row : Data → Result Data FieldFault
match_row found = object_in field.Matches found

-- bytes that are a full hash
abbrev pub full_hash : List ℕ → Result (List ℕ) FieldFault
full_hash bytes = if length bytes == 32 then Ok bytes else Err (Size field.ThreatHash (length bytes))

-- `hash` of `threat`, 32 bytes: both are needed
abbrev pub hash_row : Data → Result (List ℕ) FieldFault
hash_row found = object_of field.Threat found >>= bytes_of field.ThreatHash >>= full_hash

-- `cacheDuration`: a duration, zero where it is absent
abbrev pub cache_row : Data → Result ℕ FieldFault
cache_row found = duration_or_zero field.CacheDuration found

-- `negativeCacheDuration`, likewise
abbrev pub negative_row : Data → Result ℕ FieldFault
negative_row message = duration_or_zero field.NegativeCacheDuration message
