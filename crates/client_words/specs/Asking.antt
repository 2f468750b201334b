-- The words that the commands of clients share: the store, the server, the key, what is asked for beside the lists, and the lists.
use Rattle.std.proofs.Common.{refl, leb-true}
use Rattle.std.specs.Prelude.{ℕ, ◌&&◌, not, ◌≡◌, nat_le, Bool, true, is_some, if◌then◌else◌, List, [], ◌∷◌, Option, Some, None, option_map, option_and_then, codes}
use Rattle.std.specs.Str.{bytes_eq, chars}
use Rattle.sb_model.specs.declared.names.ListName.{ListName}
use Rattle.sb_words.specs.declared.shape.OptionKind.TheVariants.{Needed, Optional, Flag}
use Rattle.sb_words.specs.CommandLine.{Text, CommandOption, CommandShape, Given, given_of, value_among}
use Rattle.sb_words.specs.Values.{number_of, lists_named, is_key, host_port_of}
use Rattle.http_edge.specs.declared.messages.Target.{Target}
use Rattle.update_client.specs.declared.options.FetchOptions.{FetchOptions}

-- ---- command lines

abbrev pub needed : Text → CommandOption
needed name = record { name = name; kind = Needed }

abbrev pub optional : Text → CommandOption
optional name = record { name = name; kind = Optional }

abbrev pub flag : Text → CommandOption
flag name = record { name = name; kind = Flag }

-- what the words after a program and its command give, where the first two words are these
abbrev pub given_to : List ℕ → List ℕ → CommandShape → List (List ℕ) → Option Given
given_to program command shape (first ∷ second ∷ words) =
    if bytes_eq first program && bytes_eq second command then given_of shape words else None
given_to program command shape words = None

-- The positional words name 1 to 8 lists, each once.
abbrev pub lists_given : Given → Option (List ListName)
lists_given given = lists_named given.positionals

-- ---- what is asked for, and whom

-- the server, where it is a host and a port
abbrev pub server_given : List (Text × Text) → Option Text
server_given named =
    option_and_then (λ text. option_map (λ _. text) (host_port_of text)) (value_among (codes "server") named)

-- the key, which is empty where there is none
abbrev pub key_or_empty : Option Text → Option Text
key_or_empty None = Some []
key_or_empty (Some text) = if is_key text then Some text else None

abbrev pub key_given : List (Text × Text) → Option Text
key_given named = key_or_empty (value_among (codes "key") named)

-- a number in a range, which has a default
abbrev pub number_or : (low high default : ℕ) → Option Text → Option ℕ
number_or low high default None = Some default
number_or low high default (Some text) = number_of low high text

abbrev pub number_given : Text → (low high default : ℕ) → List (Text × Text) → Option ℕ
number_given name low high default named = number_or low high default (value_among name named)

-- a limit of entries, at most 2,147,483,647, which has a default
abbrev pub limit_given : Text → ℕ → List (Text × Text) → Option ℕ
limit_given name default named = number_given name 0 2147483647 default named

abbrev pub has_flag : Text → List (Text × Text) → Bool
has_flag name named = is_some (value_among name named)

-- what is asked for beside the lists, where the limits are at most 2,147,483,647
abbrev pub options_by : (update database : ℕ) → Bool → (a b : Bool) → nat_le update 2147483647 ≡ a → nat_le database 2147483647 ≡ b → Option FetchOptions
options_by update database raw true true small few = Some (record {
  max_update = update;
  max_database = database;
  raw_only = raw;
  update_limit = leb-true update 2147483647 small;
  database_limit = leb-true database 2147483647 few;
})
options_by update database raw a b small few = None

abbrev pub options_of : ℕ → ℕ → Bool → Option FetchOptions
options_of update database raw =
    options_by update database raw (nat_le update 2147483647) (nat_le database 2147483647) refl refl

abbrev pub options_given : List (Text × Text) → Option FetchOptions
options_given named =
    option_and_then (λ update. option_and_then (λ database.
    options_of update database (has_flag (codes "raw-only") named))
    (limit_given (codes "max-database") 1048576 named))
    (limit_given (codes "max-update") 0 named)

-- What the words say of the store and of the server, and what is asked for.
pub record Asking : Type 0 where
  pub store : Text
  pub server : Text
  pub key : Text
  pub options : FetchOptions
  pub need_digest : Bool

abbrev pub asking_of : (store server key : Text) → FetchOptions → Bool → Asking
asking_of store server key options need_digest = record { store = store; server = server; key = key; options = options; need_digest = need_digest }

abbrev pub asking_given : List (Text × Text) → Option Asking
asking_given named =
    option_and_then (λ store. option_and_then (λ server. option_and_then (λ key. option_map
    (λ options. asking_of store server key options (not (has_flag (codes "no-digest") named)))
    (options_given named))
    (key_given named))
    (server_given named))
    (value_among (codes "store") named)

-- The server's whole text is the host that is asked.
abbrev pub target_of : Asking → Target
target_of asking = record { host = chars asking.server; key = chars asking.key }
