-- Members as they are written: fields, each with what is written of it.
use Rattle.std.specs.Prelude.{◌≡◌, ℕ, ◌≤◌, false, if◌then◌else◌, List, [], ◌∷◌, Option, Some, None}
use Rattle.std.specs.Str.{bytes_eq}
use Rattle.serde_json.specs.Data.{Data, null, object, Members, no_members, member, depth}
use Rattle.serde_json.specs.Written.{has_float}
use Rattle.sb_json.specs.Fields.{key_of}
use Rattle.sb_json.specs.declared.fields.Field.{Field}
use Rattle.sb_members.specs.Writing.{with_member_if_any}

abbrev pub Parts : Type 0
Parts = List (Field × Option Data)

-- the members of such fields
abbrev pub made : Parts → Members
made [] = no_members
made (part ∷ parts) = with_member_if_any part.0 part.1 (made parts)

-- the first of two values, and the other where the first is absent
abbrev pub or_later : Option Data → Option Data → Option Data
or_later now None = now
or_later None (Some later) = Some later
or_later (Some now) (Some later) = Some now

-- what is written of a field
abbrev pub found : Field → Parts → Option Data
found field [] = None
found field (part ∷ parts) = if bytes_eq (key_of field) (key_of part.0) then or_later part.1 (found field parts) else found field parts

-- what an object is read as that is left out where it is bare
abbrev pub or_null : Members → Data
or_null no_members = null
or_null (member key value members) = object (member key value members)

-- ---- how deep the values nest, and whether one is a float

-- whether a value that may be absent nests no deeper
abbrev pub NestsWithin : ℕ → Option Data → Type 0
NestsWithin n None = Unit {0}
NestsWithin n (Some value) = depth value ≤ n

abbrev pub AllWithin : ℕ → Parts → Type 0
AllWithin n [] = Unit {0}
AllWithin n (part ∷ parts) = NestsWithin n part.1 × AllWithin n parts

-- whether a value that may be absent has no float
abbrev pub HasNoFloat : Option Data → Type 0
HasNoFloat None = Unit {0}
HasNoFloat (Some value) = has_float value ≡ false

abbrev pub AllHaveNoFloat : Parts → Type 0
AllHaveNoFloat [] = Unit {0}
AllHaveNoFloat (part ∷ parts) = HasNoFloat part.1 × AllHaveNoFloat parts
