-- The command lines that the program takes.
use Rattle.std.specs.Prelude.{ℕ, Bool, true, false, if◌then◌else◌, List, [], ◌∷◌, Option, Some, None, is_some, option_map, option_and_then, unwrap_or, codes}
use Rattle.std.specs.Option.{option_or}
use Rattle.std.specs.Result.{result_ok}
use Rattle.std.specs.Str.{bytes_eq, chars}
use Rattle.sb_model.specs.declared.names.ListName.{ListName}
use Rattle.sb_model.specs.Names.{name_of}
use Rattle.sb_words.specs.declared.shape.OptionKind.TheVariants.{Needed, Optional, Flag}
use Rattle.sb_words.specs.CommandLine.{Text, CommandOption, CommandShape, Given, given_of, value_among}
use Rattle.sb_words.specs.Values.{lists_named, number_of}
use Rattle.sb_words.specs.About.{about_of}
use Rattle.sb_words.specs.declared.asking.About.{About}
use Rattle.journal_run.specs.declared.command.Call.{Call}
use Rattle.journal_run.specs.declared.command.Command.{Command}
use Rattle.journal_run.specs.declared.command.Command.TheVariants.{New, Sync, Change, Check, Has, Compact, Tell}

abbrev pub needed : Text → CommandOption
needed name = record { name = name; kind = Needed }

abbrev pub optional : Text → CommandOption
optional name = record { name = name; kind = Optional }

abbrev pub flag : Text → CommandOption
flag name = record { name = name; kind = Flag }

-- Each command but `check` and `compact` takes positional words: the names of lists.
abbrev pub new_shape : CommandShape
new_shape = record { options = optional (codes "size") ∷ []; takes_positionals = true }

abbrev pub sync_shape : CommandShape
sync_shape = record {
  options = needed (codes "journal") ∷ flag (codes "skip") ∷ flag (codes "empty") ∷ [];
  takes_positionals = true;
}

abbrev pub change_shape : CommandShape
change_shape = record { options = optional (codes "size") ∷ flag (codes "skip") ∷ []; takes_positionals = true }

abbrev pub has_shape : CommandShape
has_shape = record { options = needed (codes "journal") ∷ []; takes_positionals = true }

abbrev pub plain_shape : CommandShape
plain_shape = record { options = []; takes_positionals = false }

-- What a command line says is the command, and the characters of the path of a journal if it needs one.
abbrev pub plain_call : Command → Call
plain_call command = record { command = command; journal = None }

abbrev pub call_with_journal : Text → Command → Call
call_with_journal path command = record { command = command; journal = Some (chars path) }

-- a size of prefixes in bytes, which may be left out
abbrev pub size_if_given : Option Text → Option (Option ℕ)
size_if_given None = Some None
size_if_given (Some text) = option_map Some (number_of 4 32 text)

abbrev pub size_given : List (Text × Text) → Option (Option ℕ)
size_given named = size_if_given (value_among (codes "size") named)

abbrev pub has_flag : Text → List (Text × Text) → Bool
has_flag name named = is_some (value_among name named)

-- the list that the one positional word names
abbrev pub list_given : List Text → Option ListName
list_given (text ∷ []) = result_ok (name_of text)
list_given words = None

-- `new [--size N] LIST..`: 1 to 8 lists, each once, with the size 4 if none is given
abbrev pub new_given : Given → Option Call
new_given given =
    option_and_then (λ size. option_map
    (λ lists. plain_call (New (record { size = unwrap_or size 4; lists = lists })))
    (lists_named given.positionals)) (size_given given.named)

-- `sync LIST --journal PATH [--skip] [--empty]`
abbrev pub sync_given : Given → Option Call
sync_given given =
    option_and_then (λ path. option_map
    (λ list. call_with_journal path (Sync (record { list = list; skip = has_flag (codes "skip") given.named; empty = has_flag (codes "empty") given.named })))
    (list_given given.positionals)) (value_among (codes "journal") given.named)

-- `change LIST [--size N] [--skip]`
abbrev pub change_given : Given → Option Call
change_given given =
    option_and_then (λ size. option_map
    (λ list. plain_call (Change (record { list = list; size = size; skip = has_flag (codes "skip") given.named })))
    (list_given given.positionals)) (size_given given.named)

-- `has LIST --journal PATH`
abbrev pub has_given : Given → Option Call
has_given given =
    option_and_then (λ path. option_map (λ list. call_with_journal path (Has list))
    (list_given given.positionals)) (value_among (codes "journal") given.named)

-- what the words after the name of a command say
abbrev pub call_named : Text → List Text → Option Call
call_named name words =
    if bytes_eq name (codes "new") then option_and_then new_given (given_of new_shape words)
    else if bytes_eq name (codes "sync") then option_and_then sync_given (given_of sync_shape words)
    else if bytes_eq name (codes "change") then option_and_then change_given (given_of change_shape words)
    else if bytes_eq name (codes "has") then option_and_then has_given (given_of has_shape words)
    else if bytes_eq name (codes "check") then option_map (λ _. plain_call Check) (given_of plain_shape words)
    else if bytes_eq name (codes "compact") then option_map (λ _. plain_call Compact) (given_of plain_shape words)
    else None

-- what words say behind the program's name and the name of a command
abbrev pub call_behind : List Text → Option Call
call_behind (program ∷ name ∷ words) = if bytes_eq program (codes "sbjournal") then call_named name words else None
call_behind words = None

-- what the words `sbjournal --help`, `sbjournal -h` or `sbjournal --version` ask about the program
abbrev pub asks_of_maker : List Text → Option About
asks_of_maker words = about_of (codes "sbjournal") words

-- what the words of a command line say, of which the first is the program's name
unfoldable pub call_of : List Text → Option Call
call_of words = option_or (option_map (λ about. plain_call (Tell about)) (asks_of_maker words)) (call_behind words)

-- the command that the words are, and the path of the journal that it needs
abbrev pub command_of : List Text → Option Command
command_of words = option_map (λ (call : Call). call.command) (call_of words)

abbrev pub journal_of : List Text → Option (List ℕ)
journal_of words = option_and_then (λ (call : Call). call.journal) (call_of words)

-- whether a command draws an epoch
abbrev pub draws_epoch : Command → Bool
draws_epoch (New line) = true
draws_epoch Compact = true
draws_epoch command = false

-- whether a command reads the journal that the words name, and whether it reads the input
abbrev pub reads_journal : Command → Bool
reads_journal (Sync line) = true
reads_journal (Has list) = true
reads_journal command = false

abbrev pub reads_input : Command → Bool
reads_input (New line) = false
reads_input (Tell about) = false
reads_input command = true
