-- How dense a text may be: how many lists and objects it may open, and how many values it may have, for its length. What
-- stands in a string does not count.
use Rattle.std.specs.Prelude.{ℕ, ◌+◌, ◌/◌, ◌==◌, ◌||◌, Bool, nat_lt, if◌then◌else◌, List, [], ◌∷◌, ◌++◌, length, filter, Option, Some, None}

-- where a byte of a text stands: outside of strings, inside of one, or there behind a backslash
pub data Place : Type 0 where
  Outside : Place
  Inside : Place
  Escaped : Place

-- Where the byte behind a byte stands. A quote (34) begins and ends a string, and a backslash (92) in one takes the next
-- byte for what it is.
abbrev pub place_after : Place → ℕ → Place
place_after Outside byte = if byte == 34 then Inside else Outside
place_after Inside byte = if byte == 34 then Outside else if byte == 92 then Escaped else Inside
place_after Escaped byte = Inside

-- where the byte behind a text stands, whose first byte stands at a place
abbrev pub place_behind : Place → List ℕ → Place
place_behind place [] = place
place_behind place (byte ∷ text) = place_behind (place_after place byte) text

-- the bytes that stand outside of strings, where the first of all stands at a place
abbrev pub outside_from : Place → List ℕ → List ℕ
outside_from place [] = []
outside_from Outside (byte ∷ text) = byte ∷ outside_from (place_after Outside byte) text
outside_from Inside (byte ∷ text) = outside_from (place_after Inside byte) text
outside_from Escaped (byte ∷ text) = outside_from (place_after Escaped byte) text

-- `[` and `{`
abbrev pub is_opening : ℕ → Bool
is_opening byte = byte == 91 || byte == 123

-- `,` and `:`, behind which a value stands, and what opens one
abbrev pub is_value_sign : ℕ → Bool
is_value_sign byte = byte == 44 || byte == 58 || is_opening byte

-- how many lists and objects a text opens, and how many values it has
abbrev pub openings_of : List ℕ → ℕ
openings_of text = length (filter is_opening (outside_from Outside text))

abbrev pub values_of : List ℕ → ℕ
values_of text = length (filter is_value_sign (outside_from Outside text))

-- how many a text of so many bytes may have
abbrev pub most_openings : ℕ → ℕ
most_openings size = 8192 + size / 48

abbrev pub most_values : ℕ → ℕ
most_values size = 65536 + size / 6

-- whether a text has more than one of so many bytes may have
abbrev pub has_more : ℕ → List ℕ → Bool
has_more size text = nat_lt (most_openings size) (openings_of text) || nat_lt (most_values size) (values_of text)

-- the place, from 0, of the first byte of a rest with which it and all before it have more
abbrev pub first_past_size : ℕ → List ℕ → List ℕ → Option ℕ
first_past_size size front [] = None
first_past_size size front (byte ∷ rest) = if has_more size (front ++ byte ∷ []) then Some (length front) else first_past_size size (front ++ byte ∷ []) rest

-- the first byte at which a count passes what the text's length allows
abbrev pub too_dense : List ℕ → Option ℕ
too_dense text = first_past_size (length text) [] text
