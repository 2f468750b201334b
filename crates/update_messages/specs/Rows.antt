-- The kind of field that a state token is. The kinds that messages share stand in `sb_members`.
use Rattle.std.specs.Prelude.{ℕ, nat_le, if◌then◌else◌, List, length, Result, Ok, Err}
use Rattle.serde_json.specs.Data.{Data}
use Rattle.sb_json.specs.Values.{◌>>=◌}
use Rattle.sb_json.specs.declared.fields.Field.{Field}
use Rattle.sb_json.specs.declared.faults.FieldFault.{FieldFault}
use Rattle.sb_json.specs.declared.faults.FieldFault.TheVariants.{Size}
use Rattle.sb_members.specs.Rows.{bytes_or_empty}
use Rattle.update_messages.specs.Messages.{most_state}

-- bytes that are no more than a state token may have
abbrev pub within_state : Field → List ℕ → Result (List ℕ) FieldFault
within_state field bytes = if nat_le (length bytes) most_state then Ok bytes else Err (Size field (length bytes))

-- a state token, which is empty where it is absent
abbrev pub state_or_empty : Field → Data → Result (List ℕ) FieldFault
state_or_empty field holder = bytes_or_empty field holder >>= within_state field
