-- A small chain that meets every premise of its law: a list server with one list and one change, a mirror beside it, a second mirror below
-- that, and a client of the second one. Each fetched the list once.
use Rattle.std.specs.Prelude.{ℕ, true, false, List, [], ◌∷◌, replicate, Option, Ok, Err}
use Rattle.sb_model.specs.declared.history.Change.{Change}
use Rattle.sb_model.specs.declared.names.ThreatType.TheVariants as threat
use Rattle.sb_model.specs.declared.names.PlatformType.TheVariants as platform
use Rattle.sb_model.specs.declared.names.EntryType.TheVariants as entry
use Rattle.sb_model.specs.declared.names.ListName.{ListName}
use Rattle.sb_model.specs.History.{History}
use Rattle.sb_model.specs.Naming.{Naming}
use Rattle.http_edge.specs.declared.faults.ExchangeFault.TheVariants.{Link}
use Rattle.update_messages.specs.Messages.{AskedList}
use Rattle.timed_sessions.specs.Timed.{TimedSession}
use Rattle.update_client.specs.Held.{Held, nothing_held}
use Rattle.sb_round.specs.Round.{Round}
use Rattle.sb_round.specs.declared.rounds.RoundFault.TheVariants.{Exchange}
use Rattle.delta_server.specs.Tokens.{server_naming}
use Rattle.mirror_places.specs.Answer.{mirror_update}
use Rattle.mirror_places.specs.Places.{Places}
use Rattle.mirror_places.specs.Tokens.{mirror_token}
use Rattle.mirror_laws.specs.Mirrors.{MirrorHistory}

-- ---- the server

-- the list MALWARE/ANY_PLATFORM/URL
abbrev pub chain_list : ListName
chain_list = record { threat = threat.Malware; platform = platform.AnyPlatform; entry = entry.Url }

-- One hash is added, and published by its first four bytes.
abbrev pub chain_change : Change
chain_change = record { list = chain_list; adds = record { hash = replicate 32 7; size = 4 } ∷ []; removes = [] }

abbrev pub chain_history : History
chain_history = record { epoch = 1; declared = (chain_list, 4) ∷ []; changes = chain_change ∷ [] }

abbrev pub chain_naming : Naming
chain_naming = server_naming chain_history

-- ---- below it

-- the list with this prefix, under a token
abbrev pub fetched_under : List ℕ → Held
fetched_under token = record { name = chain_list; token = token; set = replicate 4 7 ∷ []; resync = false }

-- a mirror that began with nothing, and then fetched the list as it is held here
abbrev pub mirror_that_fetched : ℕ → Held → MirrorHistory
mirror_that_fetched epoch held = record { epoch = epoch; places = (nothing_held chain_list ∷ []) ∷ (held ∷ []) ∷ [] }

-- the list as the mirror beside the server held it, as the second mirror held it, and as the client holds it
abbrev pub held_beside_server : Held
held_beside_server = fetched_under (chain_naming chain_list 1)

abbrev pub held_below_mirror : Held
held_below_mirror = fetched_under (mirror_token 2 chain_list 1)

abbrev pub held_by_client : Held
held_by_client = fetched_under (mirror_token 3 chain_list 1)

-- what both mirrors came to
abbrev pub first_mirror : MirrorHistory
first_mirror = mirror_that_fetched 2 held_beside_server

abbrev pub second_mirror : MirrorHistory
second_mirror = mirror_that_fetched 3 held_below_mirror

-- the mirrors, the nearest to the client first
abbrev pub chain_of_two : List MirrorHistory
chain_of_two = second_mirror ∷ first_mirror ∷ []

-- ---- rounds

-- the lists that who fetches begins with
abbrev pub nothing_yet : List Held
nothing_yet = nothing_held chain_list ∷ []

-- what is asked for them, if sets are taken as they are
abbrev pub asked_for_all : AskedList
asked_for_all = record { name = chain_list; state = []; max_update = 0; max_database = 0; raw = true; rice = false }

-- a mirror that came to this, and keeps all its places
abbrev pub mirror_keeping : MirrorHistory → Places
mirror_keeping mirror = record { epoch = mirror.epoch; gone = 0; kept = mirror.places }

-- Of two rounds the first is lost, and the second brings what the mirror answers. They have any sessions, and any words were drawn.
abbrev pub rounds_below : MirrorHistory → TimedSession → Option ℕ → List Round
rounds_below mirror session word =
    record { session = session; answer = Err (Exchange Link); word = word }
    ∷ record { session = session; answer = Ok (record { items = mirror_update (mirror_keeping mirror) asked_for_all ∷ []; wait = 0 }); word = word }
    ∷ []
