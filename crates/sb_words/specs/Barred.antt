-- The words, before `--`, that `clap` may take and that no command line has.
use Rattle.std.specs.Prelude.{Bool, true, false, List, Option, Some, None, is_some, codes}
use Rattle.std.specs.List.{list_any, before_first}
use Rattle.std.specs.Option.{option_map_or}
use Rattle.std.specs.Str.{bytes_eq}
use Rattle.sb_words.specs.CommandLine.{Text, after_dash, value_in}

-- `name=value` where the value begins with a dash
abbrev pub has_dashed_value : Text → Bool
has_dashed_value text = option_map_or (λ value. is_some (after_dash value)) (value_in text) false

-- by what follows a second dash: a word with a single dash is barred
abbrev pub is_barred_after : Option Text → Bool
is_barred_after None = true
is_barred_after (Some text) = has_dashed_value text

abbrev pub is_barred : Text → Bool
is_barred word = option_map_or (λ rest. is_barred_after (after_dash rest)) (after_dash word) false

abbrev pub ends_options : Text → Bool
ends_options word = bytes_eq word (codes "--")

-- a word before the first `--` is barred
abbrev pub has_barred : List Text → Bool
has_barred words = list_any is_barred (before_first ends_options words)
