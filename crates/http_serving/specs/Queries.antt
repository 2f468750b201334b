-- The query of a target, its members, and the value of one (RFC 3986, sections 2.1 and 3.4).
use Rattle.std.specs.Prelude.{ℕ, ◌+◌, ◌==◌, List, [], drop, map, Bool, Option, Some, None, option_map, position}
use Rattle.std.specs.List.{after_first, before_first, find, slice_split}
use Rattle.std.specs.Str.{bytes_eq}
use Rattle.percent_encoding.specs.Percent.{percent_decode}

-- A name or a value, decoded: each `%` with two hexadecimal digits behind it is the byte of that number. Any other `%` stays, and
-- so does `+`.
abbrev pub percent_decoded : List ℕ → List ℕ
percent_decoded text = percent_decode text

-- the query of a target: what follows its first `?`, if it has one
abbrev pub query_in : List ℕ → Option (List ℕ)
query_in target = option_map (λ mark. drop (mark + 1) target) (position (λ byte. byte == 63) target)

-- the member that a part of a query writes: the name before its first `=`, and the value behind that, which is empty without one
abbrev pub member_of : List ℕ → List ℕ × List ℕ
member_of part = (before_first (λ byte. byte == 61) part, after_first (λ byte. byte == 61) part)

-- the members of a query, between which `&` stands
abbrev pub listed_members : List ℕ → List (List ℕ × List ℕ)
listed_members query = map member_of (slice_split (λ byte. byte == 38) query)

abbrev pub members_if_any : Option (List ℕ) → List (List ℕ × List ℕ)
members_if_any None = []
members_if_any (Some query) = listed_members query

-- the members of the query of a target, as they are written there, in their order
abbrev pub query_members : List ℕ → List (List ℕ × List ℕ)
query_members target = members_if_any (query_in target)

-- whether the name of a member, decoded, is this one
abbrev pub bears_name : List ℕ → List ℕ × List ℕ → Bool
bears_name name member = bytes_eq (percent_decoded member.0) name

-- the value of the first of these members that bears a name, as it is written there
abbrev pub value_named : List ℕ → List (List ℕ × List ℕ) → Option (List ℕ)
value_named name members = option_map (λ member. member.1) (find (bears_name name) members)

-- the same of the query of a target
abbrev pub raw_value : List ℕ → List ℕ → Option (List ℕ)
raw_value name target = value_named name (query_members target)

-- the value of the first member of the query of a target whose decoded name is this one, decoded
abbrev pub query_value : List ℕ → List ℕ → Option (List ℕ)
query_value name target = option_map percent_decoded (raw_value name target)
