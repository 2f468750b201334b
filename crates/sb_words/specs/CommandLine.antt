-- What the words of a command line say, by the shape of its command.
use Rattle.std.specs.Prelude.{ℕ, Bool, true, false, not, ◌&&◌, ◌||◌, ◌==◌, if◌then◌else◌, List, [], ◌∷◌, map, find, Option, Some, None, is_some, option_map, option_and_then, codes}
use Rattle.std.specs.List.{list_any, list_all, before_first, after_first}
use Rattle.std.specs.Str.{bytes_eq}
use Rattle.sb_words.specs.declared.shape.OptionKind.{OptionKind}
use Rattle.sb_words.specs.declared.shape.OptionKind.TheVariants.{Needed, Flag}

abbrev pub Text : Type 0
Text = List ℕ

-- An option of a command: its name without the two dashes, and how it stands.
pub record CommandOption : Type 0 where
  pub name : Text
  pub kind : OptionKind

-- What a command takes after its name: options, and positional words or none.
pub record CommandShape : Type 0 where
  pub options : List CommandOption
  pub takes_positionals : Bool

-- what follows a first dash
abbrev pub after_dash : Text → Option Text
after_dash [] = None
after_dash (byte ∷ bytes) = if byte == 45 then Some bytes else None

-- A value is not empty and does not begin with a dash.
abbrev pub is_value : Text → Bool
is_value [] = false
is_value (byte ∷ bytes) = not (byte == 45)

abbrev pub is_equals : ℕ → Bool
is_equals byte = byte == 61

-- of `name` or `name=value`, the name
abbrev pub name_in : Text → Text
name_in text = before_first is_equals text

-- of `name=value`, the value
abbrev pub value_in : Text → Option Text
value_in text = if list_any is_equals text then Some (after_first is_equals text) else None

-- One thing that words say: an option's name and its value, a flag's name, or a positional word.
pub data Piece : Type 0 where
  option : Text → Text → Piece
  flag : Text → Piece
  positional : Text → Piece

-- What one word is, where no option awaits its value: it says something, it is an option that awaits its value,
-- it is `--`, or it is refused.
pub data Meaning : Type 0 where
  says : Piece → Meaning
  awaits : Text → Meaning
  ends : Meaning
  refused : Meaning

-- `--name` or `--name=value` of an option of this kind
abbrev pub kind_meaning : OptionKind → Text → Option Text → Meaning
kind_meaning Flag name None = says (flag name)
kind_meaning Flag name (Some value) = refused
kind_meaning kind name None = awaits name
kind_meaning kind name (Some value) = if is_value value then says (option name value) else refused

-- the same of an option that the command may not have
abbrev pub found_meaning : Option CommandOption → Text → Option Text → Meaning
found_meaning None name value = refused
found_meaning (Some o) name value = kind_meaning o.kind name value

-- the option with this name
abbrev pub option_named : List CommandOption → Text → Option CommandOption
option_named options name = find (λ o. bytes_eq o.name name) options

-- by what follows two dashes
abbrev pub option_meaning : List CommandOption → Text → Meaning
option_meaning options [] = ends
option_meaning options (byte ∷ bytes) =
    found_meaning (option_named options (name_in (byte ∷ bytes))) (name_in (byte ∷ bytes)) (value_in (byte ∷ bytes))

-- by what follows a second dash: one dash alone is refused
abbrev pub dashed_meaning : List CommandOption → Option Text → Meaning
dashed_meaning options None = refused
dashed_meaning options (Some text) = option_meaning options text

-- by what follows a first dash: a word without one is positional
abbrev pub word_meaning : List CommandOption → Text → Option Text → Meaning
word_meaning options word None = says (positional word)
word_meaning options word (Some rest) = dashed_meaning options (after_dash rest)

abbrev pub meaning_of_word : List CommandOption → Text → Meaning
meaning_of_word options word = word_meaning options word (after_dash word)

abbrev pub first_piece : Piece → Option (List Piece) → Option (List Piece)
first_piece piece = option_map (λ pieces. piece ∷ pieces)

-- a word with this meaning and the words after it, where `next` says what those say
abbrev pub pieces_from : Meaning → List Text → (Option Text → Option (List Piece)) → Option (List Piece)
pieces_from (says piece) words next = first_piece piece (next None)
pieces_from (awaits name) words next = next (Some name)
pieces_from ends words next = Some (map positional words)
pieces_from refused words next = None

-- What the words say, one thing after the other, after the name of an option that awaits its value, or after none.
unfoldable pub pieces_after : List CommandOption → Option Text → List Text → Option (List Piece)
pieces_after options (Some name) [] = None
pieces_after options (Some name) (word ∷ words) =
    if is_value word then first_piece (option name word) (pieces_after options None words) else None
pieces_after options None [] = Some []
pieces_after options None (word ∷ words) =
    pieces_from (meaning_of_word options word) words (λ awaited. pieces_after options awaited words)

-- the names that are given, each with its value; a flag that stands there has the value `true`
abbrev pub named_of : List Piece → List (Text × Text)
named_of [] = []
named_of (option name value ∷ pieces) = (name, value) ∷ named_of pieces
named_of (flag name ∷ pieces) = (name, codes "true") ∷ named_of pieces
named_of (positional word ∷ pieces) = named_of pieces

-- the positional words
abbrev pub positionals_of : List Piece → List Text
positionals_of [] = []
positionals_of (positional word ∷ pieces) = word ∷ positionals_of pieces
positionals_of (piece ∷ pieces) = positionals_of pieces

-- the value of a name
abbrev pub value_among : Text → List (Text × Text) → Option Text
value_among name named = option_map (λ p. p.1) (find (λ p. bytes_eq p.0 name) named)

-- each name stands at most once
abbrev pub has_no_repeat : List (Text × Text) → Bool
has_no_repeat [] = true
has_no_repeat (first ∷ named) = not (is_some (value_among first.0 named)) && has_no_repeat named

abbrev pub is_needed : OptionKind → Bool
is_needed Needed = true
is_needed kind = false

-- the option is given, or need not be
abbrev pub is_supplied : List (Text × Text) → CommandOption → Bool
is_supplied named o = not (is_needed o.kind) || is_some (value_among o.name named)

abbrev pub has_none : List Text → Bool
has_none [] = true
has_none (word ∷ words) = false

-- What a command line gives its command.
pub record Given : Type 0 where
  pub named : List (Text × Text)
  pub positionals : List Text

-- no name stands twice, what is needed is there, and positional words only where the command takes them
abbrev pub fits : CommandShape → List Piece → Bool
fits shape pieces =
    has_no_repeat (named_of pieces)
    && (list_all (is_supplied (named_of pieces)) shape.options
    && (shape.takes_positionals || has_none (positionals_of pieces)))

abbrev pub given_by : CommandShape → List Piece → Option Given
given_by shape pieces =
    if fits shape pieces then Some (record { named = named_of pieces; positionals = positionals_of pieces }) else None

-- What the words after a command's name give it, where they are a command line of this shape.
unfoldable pub given_of : CommandShape → List Text → Option Given
given_of shape words = option_and_then (given_by shape) (pieces_after shape.options None words)

-- the names of a shape are such as may follow two dashes
abbrev pub has_plain_names : CommandShape → Bool
has_plain_names shape = list_all (λ o. is_value o.name) shape.options
