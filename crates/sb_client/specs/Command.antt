-- The command lines that the client takes.
use Rattle.std.specs.Prelude.{ℕ, ◌*◌, ◌||◌, ◌≡◌, ◌<◌, ◌≤◌, nat_lt, length, Bool, true, false, is_some, List, [], ◌∷◌, Option, Some, None, option_map, option_and_then, codes}
use Rattle.std.specs.Option.{option_or}
use Rattle.sb_model.specs.declared.names.ListName.{ListName}
use Rattle.sb_words.specs.CommandLine.{Text, CommandShape, Given, value_among}
use Rattle.sb_words.specs.Values.{number_of}
use Rattle.client_words.specs.Asking.{needed, optional, flag, given_to, lists_given, number_given, Asking, asking_given, target_of}
use Rattle.sb_words.specs.About.{about_of, about_text}
use Rattle.sb_client.specs.declared.texts.TheConstants.{CHECK_USAGE, UPDATE_USAGE}
use Rattle.http_edge.specs.Exchanges.{IsTarget}
use Rattle.update_run.specs.declared.plan.Plan.{Plan}
use Rattle.judge_run.specs.declared.plan.JudgePlan.{JudgePlan}
use Rattle.sb_client.specs.declared.command.Command.{Command}
use Rattle.sb_client.specs.declared.command.Command.TheVariants.{Replay, Run, Judge, Show, Vectors, Tell}

-- `replay` has no options, and takes positional words.
abbrev pub replay_shape : CommandShape
replay_shape = record { options = []; takes_positionals = true }

-- `show` and `vectors` take no words.
abbrev pub bare_shape : CommandShape
bare_shape = record { options = []; takes_positionals = false }

-- the lists of `sbupdate replay LIST..`, in the order of the words
abbrev pub replay_of : List (List ℕ) → Option (List ListName)
replay_of words = option_and_then lists_given (given_to (codes "sbupdate") (codes "replay") replay_shape words)

-- ---- `sbupdate run`

-- `run` needs a store and a server, may have a number of rounds, a key, two limits and two flags, and takes positional words.
abbrev pub run_shape : CommandShape
run_shape = record {
  options =
      needed (codes "store") ∷ needed (codes "server") ∷ optional (codes "rounds")
      ∷ optional (codes "key") ∷ optional (codes "max-update") ∷ optional (codes "max-database")
      ∷ flag (codes "raw-only") ∷ flag (codes "no-digest") ∷ [];
  takes_positionals = true;
}

-- how many rounds: 1 to 1,024, and 4,294,967,295 where the words do not say
abbrev pub rounds_of : Option Text → Option ℕ
rounds_of None = Some 4294967295
rounds_of (Some text) = number_of 1 1024 text

abbrev pub rounds_given : List (Text × Text) → Option ℕ
rounds_given named = rounds_of (value_among (codes "rounds") named)

-- What a command line of `run` says: the path of the store, the address of the server, and what is to be done.
pub record RunWords : Type 0 where
  pub store : Text
  pub server : Text
  pub plan : Plan

abbrev pub run_words : Asking → List ListName → ℕ → RunWords
run_words asking names rounds = record {
  store = asking.store;
  server = asking.server;
  plan = record {
    names = names;
    rounds = rounds;
    options = asking.options;
    target = target_of asking;
    need_digest = asking.need_digest;
  };
}

-- what the options say, for these lists
abbrev pub run_with : List ListName → List (Text × Text) → Option RunWords
run_with names named =
    option_and_then (λ asking. option_map (λ rounds. run_words asking names rounds) (rounds_given named)) (asking_given named)

abbrev pub run_given : Given → Option RunWords
run_given given = option_and_then (λ names. run_with names given.named) (lists_given given)

-- what the words of `sbupdate run --store PATH --server HOST:PORT .. LIST..` say, where they are such words
abbrev pub run_of : List Text → Option RunWords
run_of words = option_and_then run_given (given_to (codes "sbupdate") (codes "run") run_shape words)

-- ---- `sbcheck judge`

-- `judge` needs a store and a server, may have a number of updates and of workers, a patience, a key, two limits and two flags, and takes
-- positional words.
abbrev pub judge_shape : CommandShape
judge_shape = record {
  options =
      needed (codes "store") ∷ needed (codes "server") ∷ optional (codes "update") ∷ optional (codes "workers")
      ∷ optional (codes "patience") ∷ optional (codes "key") ∷ optional (codes "max-update")
      ∷ optional (codes "max-database") ∷ flag (codes "raw-only") ∷ flag (codes "no-digest") ∷ [];
  takes_positionals = true;
}

-- how many rounds of updates are made beside the checks: up to 16, and none where the words do not say
abbrev pub updates_given : List (Text × Text) → Option ℕ
updates_given named = number_given (codes "update") 0 16 0 named

-- on how many threads URLs are checked: 1 to 16, and one where the words do not say
abbrev pub workers_given : List (Text × Text) → Option ℕ
workers_given named = number_given (codes "workers") 1 16 1 named

-- how many seconds a find is waited for at most: up to a day, and a minute where the words do not say
abbrev pub patience_given : List (Text × Text) → Option ℕ
patience_given named = number_given (codes "patience") 0 86400 60 named

-- What a command line of `judge` says: the path of the store, the address of the server, and what is to be done.
pub record JudgeWords : Type 0 where
  pub store : Text
  pub server : Text
  pub plan : JudgePlan

-- The patience of a plan is in milliseconds.
abbrev pub judge_words : Asking → List ListName → (rounds workers seconds : ℕ) → JudgeWords
judge_words asking names rounds workers seconds = record {
  store = asking.store;
  server = asking.server;
  plan = record {
    updates = record {
      names = names;
      rounds = rounds;
      options = asking.options;
      target = target_of asking;
      need_digest = asking.need_digest;
    };
    workers = workers;
    patience = 1000 * seconds;
  };
}

-- what the options say, for these lists
abbrev pub judge_with : List ListName → List (Text × Text) → Option JudgeWords
judge_with names named =
    option_and_then (λ asking. option_and_then (λ rounds. option_and_then (λ workers. option_map
    (λ seconds. judge_words asking names rounds workers seconds)
    (patience_given named))
    (workers_given named))
    (updates_given named))
    (asking_given named)

abbrev pub judge_given : Given → Option JudgeWords
judge_given given = option_and_then (λ names. judge_with names given.named) (lists_given given)

-- what the words of `sbcheck judge --store PATH --server HOST:PORT .. LIST..` say, where they are such words
abbrev pub judge_of : List Text → Option JudgeWords
judge_of words = option_and_then judge_given (given_to (codes "sbcheck") (codes "judge") judge_shape words)

-- ---- where a command has its objects

-- Words of `run` and of `judge` have a store and a server.
abbrev pub store_of : List Text → Option Text
store_of words = option_or (option_map (λ (line : RunWords). line.store) (run_of words)) (option_map (λ (line : JudgeWords). line.store) (judge_of words))

abbrev pub server_of : List Text → Option Text
server_of words = option_or (option_map (λ (line : RunWords). line.server) (run_of words)) (option_map (λ (line : JudgeWords). line.server) (judge_of words))

-- whether a command line of `judge` has updates
abbrev pub has_updates : Option JudgeWords → Bool
has_updates None = false
has_updates (Some line) = nat_lt 0 line.plan.updates.rounds

-- Words of `run` replace the store, and words of `judge` that have updates.
abbrev pub replaces_store : List Text → Bool
replaces_store words = is_some (run_of words) || has_updates (judge_of words)

-- ---- the other commands of `sbcheck`, and other words

-- whether the words are `sbcheck show`, and whether they are `sbcheck vectors`
abbrev pub asks_show : List (List ℕ) → Bool
asks_show words = is_some (given_to (codes "sbcheck") (codes "show") bare_shape words)

abbrev pub asks_vectors : List (List ℕ) → Bool
asks_vectors words = is_some (given_to (codes "sbcheck") (codes "vectors") bare_shape words)

-- what the words ask about a program of this name, with this usage text, is to be printed
abbrev pub asked_text_by : (name usage : Text) → List Text → Option Text
asked_text_by name usage words = option_map (λ about. about_text about name usage) (about_of name words)

-- what is printed of `sbupdate` or of `sbcheck`, if the words ask about it
abbrev pub asked_text_of : List Text → Option Text
asked_text_of words =
    option_or (asked_text_by (codes "sbupdate") UPDATE_USAGE.now words) (asked_text_by (codes "sbcheck") CHECK_USAGE.now words)

-- The words are none of these.
pub record IsNoCommand (words : List (List ℕ)) : Type 0 where
  pub replay : replay_of words ≡ None
  pub run : run_of words ≡ None
  pub judge : judge_of words ≡ None
  pub show : asks_show words ≡ false
  pub vectors : asks_vectors words ≡ false
  pub told : asked_text_of words ≡ None

-- What the code makes of the words: the command that they are.
abbrev pub IsCommandOf : List (List ℕ) → Option Command → Type 0
IsCommandOf words None = IsNoCommand words
IsCommandOf words (Some (Replay names)) = replay_of words ≡ Some names
IsCommandOf words (Some (Run plan)) = option_map (λ (line : RunWords). line.plan) (run_of words) ≡ Some plan
IsCommandOf words (Some (Judge plan)) = option_map (λ (line : JudgeWords). line.plan) (judge_of words) ≡ Some plan
IsCommandOf words (Some Show) = asks_show words ≡ true
IsCommandOf words (Some Vectors) = asks_vectors words ≡ true
IsCommandOf words (Some (Tell text)) = asked_text_of words ≡ Some text

abbrev pub AreFewNames : List ListName → Type 0
AreFewNames names = (0 < length names) × (length names ≤ 8)

abbrev pub AreWorkers : ℕ → Type 0
AreWorkers workers = (1 ≤ workers) × (workers ≤ 16)

-- What a command keeps to: its lists are 1 to 8, the host and the key that it asks with stand each in one line, and its workers are 1 to 16.
abbrev pub IsSound : Command → Type 0
IsSound (Replay names) = AreFewNames names
IsSound (Run plan) = AreFewNames plan.names × IsTarget plan.target
IsSound (Judge plan) = AreFewNames plan.updates.names × IsTarget plan.updates.target × AreWorkers plan.workers
IsSound Show = Unit {0}
IsSound Vectors = Unit {0}
IsSound (Tell text) = Unit {0}

-- A command that makes its text before it writes any of it, and nothing else.
abbrev pub MakesItsText : Command → Type 0
MakesItsText Vectors = Unit {0}
MakesItsText (Tell text) = Unit {0}
MakesItsText command = ⊥
