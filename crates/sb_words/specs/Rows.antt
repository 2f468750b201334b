-- What the rows of a parse by `clap` give.
use Rattle.std.specs.Prelude.{◌≡◌, Bool, true, false, not, ◌&&◌, if◌then◌else◌, List, [], find, slice_get, Option, Some, None, option_and_then, unwrap_or, codes}
use Rattle.std.specs.List.{filter_map}
use Rattle.std.specs.Option.{option_map_or}
use Rattle.std.specs.Str.{bytes_eq}
use Rattle.clap.specs.Words.{Row}
use Rattle.clap.specs.declared.parser.matches.ValueSource.{ValueSource}
use Rattle.clap.specs.declared.parser.matches.ValueSource.TheVariants.{CommandLine}
use Rattle.sb_words.specs.CommandLine.{Given, Text, value_among}

-- the id of the positional words, which is no option's name
abbrev pub positional_id : Text
positional_id = codes "--"

-- the words gave it, and no default did
abbrev pub by_words : Option ValueSource → Bool
by_words (Some CommandLine) = true
by_words source = false

-- a row that the words made of an option or a flag
abbrev pub row_named : Row → Option (Text × Text)
row_named r =
    if by_words r.source && not (bytes_eq r.id positional_id) then Some (r.id, unwrap_or (slice_get r.values 0) []) else None

abbrev pub given_in : List Row → Given
given_in rows = record {
  named = filter_map row_named rows;
  positionals = option_map_or (λ r. r.values) (find (λ r. bytes_eq r.id positional_id) rows) [];
}

-- the value that the words gave a name
abbrev pub value_in_rows : Text → List Row → Option Text
value_in_rows name rows =
    option_and_then (λ r. if by_words r.source then slice_get r.values 0 else None) (find (λ r. bytes_eq r.id name) rows)

-- a look-up by a name finds what the rows give it
abbrev pub FindsValues : List Row → Type 0
FindsValues rows =
    (name : Text) → bytes_eq name positional_id ≡ false → value_in_rows name rows ≡ value_among name (given_in rows).named
