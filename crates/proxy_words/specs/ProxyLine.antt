-- The command line of a proxy: `sbproxy serve`.
use Rattle.std.specs.Prelude.{◌≡◌, true, List, [], ◌∷◌, Option, Some, option_map, option_and_then, codes}
use Rattle.http_edge.specs.Exchanges.{IsTarget}
use Rattle.sb_model.specs.declared.names.ListName.{ListName}
use Rattle.sb_words.specs.CommandLine.{Text, CommandShape, Given, value_among}
use Rattle.sb_words.specs.Values.{listen_address_of}
use Rattle.client_words.specs.Asking.{needed, optional, flag, given_to, lists_given, number_given, asking_given, target_of, Asking}
use Rattle.proxy_words.specs.declared.line.ProxyNumbers.{ProxyNumbers}

-- `serve` needs a store, a server and an address, may have five numbers, a key, two limits and two flags, and takes positional words.
abbrev pub proxy_shape : CommandShape
proxy_shape = record {
  options =
      needed (codes "store") ∷ needed (codes "server") ∷ needed (codes "listen") ∷ optional (codes "connections")
      ∷ optional (codes "rounds") ∷ optional (codes "patience") ∷ optional (codes "peers") ∷ optional (codes "answers")
      ∷ optional (codes "key") ∷ optional (codes "max-update") ∷ optional (codes "max-database")
      ∷ flag (codes "raw-only") ∷ flag (codes "no-digest") ∷ [];
  takes_positionals = true;
}

-- the address at which connections come in, where it is one
abbrev pub proxy_listen_given : List (Text × Text) → Option Text
proxy_listen_given named =
    option_and_then (λ text. option_map (λ _. text) (listen_address_of text)) (value_among (codes "listen") named)

-- The numbers: up to 1,000,000 connections and 65,536 rounds, and 4,294,967,295 of each where the words do not say; a patience of up to a
-- day, and 60 seconds where they do not say; 1 to 4,096 connections at once, and 1,024 where they do not say; and 1 to 4,096 MiB of answers
-- that wait to be taken, and 512 where they do not say.
abbrev pub proxy_numbers_given : List (Text × Text) → Option ProxyNumbers
proxy_numbers_given named =
    option_and_then (λ connections. option_and_then (λ rounds. option_and_then (λ patience. option_and_then (λ peers. option_map
    (λ answers. record { connections = connections; rounds = rounds; patience = patience; peers = peers; answers = answers })
    (number_given (codes "answers") 1 4096 512 named))
    (number_given (codes "peers") 1 4096 1024 named))
    (number_given (codes "patience") 0 86400 60 named))
    (number_given (codes "rounds") 0 65536 4294967295 named))
    (number_given (codes "connections") 0 1000000 4294967295 named)

-- What a command line of a proxy says: the store, the server and what it is asked for, the address at which connections come in, the lists,
-- and the numbers.
pub record ProxyWords : Type 0 where
  pub asking : Asking
  pub listen : Text
  pub names : List ListName
  pub numbers : ProxyNumbers

-- what the options say, for these lists
abbrev pub proxy_with : List ListName → List (Text × Text) → Option ProxyWords
proxy_with names named =
    option_and_then (λ asking. option_and_then (λ listen. option_map
    (λ numbers. record { asking = asking; listen = listen; names = names; numbers = numbers })
    (proxy_numbers_given named))
    (proxy_listen_given named))
    (asking_given named)

abbrev pub proxy_given : Given → Option ProxyWords
proxy_given given = option_and_then (λ names. proxy_with names given.named) (lists_given given)

-- what the words of `sbproxy serve --store PATH --server HOST:PORT --listen HOST:PORT .. LIST..` say, where they are such words
abbrev pub proxy_of : List Text → Option ProxyWords
proxy_of words = option_and_then proxy_given (given_to (codes "sbproxy") (codes "serve") proxy_shape words)

-- Whom the words have a proxy ask has a host and a key that stand each in one line.
abbrev pub AsksSoundServer : List Text → Type 0
AsksSoundServer words = (line : ProxyWords) → proxy_of words ≡ Some line → IsTarget (target_of line.asking)
