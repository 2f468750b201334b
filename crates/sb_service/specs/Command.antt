-- The command lines that the server takes.
use Rattle.std.specs.Prelude.{◌≡◌, ⊤, ℕ, true, false, ◌&&◌, if◌then◌else◌, List, [], ◌∷◌, Option, Some, None, is_some, option_map, option_and_then, codes}
use Rattle.std.specs.Str.{bytes_eq}
use Rattle.sb_words.specs.declared.shape.OptionKind.TheVariants.{Needed, Optional, Flag}
use Rattle.sb_words.specs.CommandLine.{Text, CommandOption, CommandShape, Given, given_of, value_among}
use Rattle.sb_words.specs.Values.{number_of, listen_address_of}
use Rattle.sb_words.specs.About.{about_of}
use Rattle.sb_words.specs.declared.asking.About.{About}
use Rattle.delta_server.specs.declared.answering.Settings.{Settings}
use Rattle.sb_service.specs.declared.command.Command.{Command}
use Rattle.sb_service.specs.declared.command.Command.TheVariants.{Answer, Serve, Generate, Exercise, Tell}
use Rattle.sb_service.specs.declared.command.DoorRoom.{DoorRoom}
use Rattle.sb_service.specs.declared.command.GenerateLine.{GenerateLine}
use Rattle.sb_service.specs.declared.command.Load.{Load}
use Rattle.sb_service.specs.declared.command.MessageKind.{MessageKind}
use Rattle.sb_service.specs.declared.serve.ServePlan.{ServePlan}
use Rattle.sb_service.specs.declared.command.MessageKind.TheVariants.{Fetch, Find, Lookup}

abbrev pub needed : Text → CommandOption
needed name = record { name = name; kind = Needed }

abbrev pub optional : Text → CommandOption
optional name = record { name = name; kind = Optional }

abbrev pub flag : Text → CommandOption
flag name = record { name = name; kind = Flag }

-- `answer` needs a journal and a kind of message, may have four durations, and takes no positional words.
abbrev pub answer_shape : CommandShape
answer_shape = record {
  options =
      needed (codes "journal") ∷ needed (codes "kind")
      ∷ optional (codes "wait") ∷ optional (codes "find-wait") ∷ optional (codes "cache") ∷ optional (codes "negative") ∷ [];
  takes_positionals = false;
}

-- `serve` needs a journal and an address, and may have a number of connections, the room of its door, two flags and the same durations.
abbrev pub serve_shape : CommandShape
serve_shape = record {
  options =
      needed (codes "journal") ∷ needed (codes "listen") ∷ optional (codes "connections")
      ∷ optional (codes "peers") ∷ optional (codes "answers") ∷ flag (codes "hold") ∷ flag (codes "quiet")
      ∷ optional (codes "wait") ∷ optional (codes "find-wait") ∷ optional (codes "cache") ∷ optional (codes "negative") ∷ [];
  takes_positionals = false;
}

-- `generate` takes positional words, and may have a flag. `exercise` takes positional words alone.
abbrev pub generate_shape : CommandShape
generate_shape = record { options = flag (codes "urls") ∷ []; takes_positionals = true }

abbrev pub exercise_shape : CommandShape
exercise_shape = record { options = []; takes_positionals = true }

-- what the words after a command give, where the first words are the program's name and the command's
abbrev pub given_to_command : Text → CommandShape → List Text → Option Given
given_to_command command shape (first ∷ second ∷ words) =
    if bytes_eq first (codes "sblistd") && bytes_eq second command then given_of shape words else None
given_to_command command shape words = None

-- a duration in seconds, at most a day, which has a default
abbrev pub seconds_of : ℕ → Option Text → Option ℕ
seconds_of default None = Some default
seconds_of default (Some text) = number_of 0 86400 text

abbrev pub seconds_given : Text → ℕ → List (Text × Text) → Option ℕ
seconds_given name default named = seconds_of default (value_among name named)

-- what a server says of times: the minimum wait of fetch answers, that of find answers, and how long a match and its absence may be kept;
-- 1,800, 0, 300 and 300 seconds where the words do not say
abbrev pub settings_given : List (Text × Text) → Option Settings
settings_given named =
    option_and_then (λ wait. option_and_then (λ find_wait. option_and_then (λ cache. option_map
    (λ negative. record { wait = wait; find_wait = find_wait; cache = cache; negative = negative })
    (seconds_given (codes "negative") 300 named))
    (seconds_given (codes "cache") 300 named))
    (seconds_given (codes "find-wait") 0 named))
    (seconds_given (codes "wait") 1800 named)

-- the kind of the message: `fetch` for updates, `find` for full hashes, or `lookup` for URLs
abbrev pub kind_of : Text → Option MessageKind
kind_of text =
    if bytes_eq text (codes "fetch") then Some Fetch
    else if bytes_eq text (codes "find") then Some Find
    else if bytes_eq text (codes "lookup") then Some Lookup
    else None

abbrev pub kind_given : List (Text × Text) → Option MessageKind
kind_given named = option_and_then kind_of (value_among (codes "kind") named)

-- What a command line of `answer` says: the path of the journal, the kind of the message, and times.
pub record AnswerWords : Type 0 where
  pub journal : Text
  pub kind : MessageKind
  pub settings : Settings

abbrev pub answer_with : Option Text → Option MessageKind → Option Settings → Option AnswerWords
answer_with journal kind settings =
    option_and_then (λ path. option_and_then (λ asked. option_map
    (λ times. record { journal = path; kind = asked; settings = times })
    settings) kind) journal

abbrev pub answer_given : Given → Option AnswerWords
answer_given given =
    answer_with (value_among (codes "journal") given.named) (kind_given given.named) (settings_given given.named)

-- what the words of `sblistd answer --journal PATH --kind fetch ..` say, where they are such words
abbrev pub answer_of : List Text → Option AnswerWords
answer_of words = option_and_then answer_given (given_to_command (codes "answer") answer_shape words)

-- What a command line of `serve` says: the path of the journal, the address, the room of the door, and the plan: times, how many
-- connections, whether a bad line of the journal holds the lists as they are, and whether connections have no lines.
pub record ServeWords : Type 0 where
  pub journal : Text
  pub listen : Text
  pub room : DoorRoom
  pub plan : ServePlan

-- the address, where it is one
abbrev pub listen_given : List (Text × Text) → Option Text
listen_given named =
    option_and_then (λ text. option_map (λ _. text) (listen_address_of text)) (value_among (codes "listen") named)

-- how many connections: 1 to 1,000,000, and 4,294,967,295 where the words do not say
abbrev pub connections_of : Option Text → Option ℕ
connections_of None = Some 4294967295
connections_of (Some text) = number_of 1 1000000 text

abbrev pub connections_given : List (Text × Text) → Option ℕ
connections_given named = connections_of (value_among (codes "connections") named)

-- a number from 1 to 4,096, which has a default
abbrev pub amount_of : ℕ → Option Text → Option ℕ
amount_of default None = Some default
amount_of default (Some text) = number_of 1 4096 text

abbrev pub amount_given : Text → ℕ → List (Text × Text) → Option ℕ
amount_given name default named = amount_of default (value_among name named)

-- the room of a door: how many connections are open at once, 1,024 where the words do not say, and how many MiB of answers wait to
-- be taken, 512 where they do not say
abbrev pub room_given : List (Text × Text) → Option DoorRoom
room_given named =
    option_and_then (λ peers. option_map (λ answers. record { peers = peers; answers = answers })
    (amount_given (codes "answers") 512 named))
    (amount_given (codes "peers") 1024 named)

abbrev pub plan_given : List (Text × Text) → Option ServePlan
plan_given named =
    option_and_then (λ count. option_map
    (λ times. record {
      settings = times;
      connections = count;
      hold = is_some (value_among (codes "hold") named);
      quiet = is_some (value_among (codes "quiet") named);
    })
    (settings_given named)) (connections_given named)

abbrev pub serve_with : Option Text → Option Text → Option DoorRoom → Option ServePlan → Option ServeWords
serve_with journal listen room plan =
    option_and_then (λ path. option_and_then (λ address. option_and_then (λ most. option_map
    (λ asked. record { journal = path; listen = address; room = most; plan = asked })
    plan) room) listen) journal

abbrev pub serve_given : Given → Option ServeWords
serve_given given =
    serve_with (value_among (codes "journal") given.named) (listen_given given.named) (room_given given.named) (plan_given given.named)

-- what the words of `sblistd serve --journal PATH --listen ADDRESS ..` say, where they are such words
abbrev pub serve_of : List Text → Option ServeWords
serve_of words = option_and_then serve_given (given_to_command (codes "serve") serve_shape words)

-- the load that two positional words say: how many changes or URLs, 1 to 65,536, and a seed of 64 bits
abbrev pub load_given : List Text → Option Load
load_given (count ∷ seed ∷ []) =
    option_and_then (λ many. option_map (λ number. record { count = many; seed = number }) (number_of 0 18446744073709551615 seed))
    (number_of 1 65536 count)
load_given words = None

-- whether URLs are asked for, or a journal
abbrev pub generate_given : Given → Option GenerateLine
generate_given given =
    option_map (λ load. record { urls = is_some (value_among (codes "urls") given.named); load = load }) (load_given given.positionals)

abbrev pub exercise_given : Given → Option Load
exercise_given given = load_given given.positionals

-- what the words of `sblistd generate [--urls] N SEED` say, where they are such words
abbrev pub generate_of : List Text → Option GenerateLine
generate_of words = option_and_then generate_given (given_to_command (codes "generate") generate_shape words)

-- and what those of `sblistd exercise N SEED` say
abbrev pub exercise_of : List Text → Option Load
exercise_of words = option_and_then exercise_given (given_to_command (codes "exercise") exercise_shape words)

-- what the words `sblistd --help`, `sblistd -h` or `sblistd --version` ask about the program
abbrev pub tell_of : List Text → Option About
tell_of words = about_of (codes "sblistd") words

-- where the words have a journal: those of `answer`, or else those of `serve`
abbrev pub journal_path_of : Option AnswerWords → Option ServeWords → Option Text
journal_path_of (Some answer) serve = Some answer.journal
journal_path_of None serve = option_map (λ (serve : ServeWords). serve.journal) serve

abbrev pub journal_of_words : List Text → Option Text
journal_of_words words = journal_path_of (answer_of words) (serve_of words)

-- and where connections come in, and the room of the door there
abbrev pub listen_of : List Text → Option Text
listen_of words = option_map (λ (serve : ServeWords). serve.listen) (serve_of words)

abbrev pub room_of : List Text → Option DoorRoom
room_of words = option_map (λ (serve : ServeWords). serve.room) (serve_of words)

-- The words are no command line.
pub record IsNoServerCommand (words : List Text) : Type 0 where
  pub answer : answer_of words ≡ None
  pub serve : serve_of words ≡ None
  pub generate : generate_of words ≡ None
  pub exercise : exercise_of words ≡ None
  pub tell : tell_of words ≡ None

-- The words are those of `answer`, for a message of this kind, with these settings.
pub record AsksAnswer (words : List Text) (kind : MessageKind) (settings : Settings) : Type 0 where
  pub line : AnswerWords
  pub answer : answer_of words ≡ Some line
  pub asked : line.kind ≡ kind
  pub times : line.settings ≡ settings

-- The words are those of `serve`, with this plan.
pub record AsksServe (words : List Text) (plan : ServePlan) : Type 0 where
  pub line : ServeWords
  pub serve : serve_of words ≡ Some line
  pub asked : line.plan ≡ plan

-- What the code makes of the words: the command that they are.
abbrev pub IsServerCommandOf : List Text → Option Command → Type 0
IsServerCommandOf words None = IsNoServerCommand words
IsServerCommandOf words (Some (Answer kind settings)) = AsksAnswer words kind settings
IsServerCommandOf words (Some (Serve plan)) = AsksServe words plan
IsServerCommandOf words (Some (Generate urls load)) = generate_of words ≡ Some (record { urls = urls; load = load })
IsServerCommandOf words (Some (Exercise load)) = exercise_of words ≡ Some load
IsServerCommandOf words (Some (Tell about)) = tell_of words ≡ Some about

-- a command that serves no connection, and one that makes what it prints from its words alone
abbrev pub IsNoService : Command → Type 0
IsNoService (Serve plan) = ⊥
IsNoService command = ⊤

abbrev pub IsMade : Command → Type 0
IsMade (Generate urls load) = ⊤
IsMade (Exercise load) = ⊤
IsMade (Tell about) = ⊤
IsMade command = ⊥
