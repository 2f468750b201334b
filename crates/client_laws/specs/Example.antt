-- A small server and a URL that meet every premise of the law of verdicts.
use Rattle.std.specs.Prelude.{ℕ, true, false, List, [], ◌∷◌, ◌++◌, codes, replicate, Option, Some, None, Ok}
use Rattle.sb_model.specs.declared.history.Change.{Change}
use Rattle.sb_model.specs.declared.names.ThreatType.TheVariants as threat
use Rattle.sb_model.specs.declared.names.PlatformType.TheVariants as platform
use Rattle.sb_model.specs.declared.names.EntryType.TheVariants as entry
use Rattle.sb_model.specs.declared.names.ListName.{ListName}
use Rattle.sb_model.specs.declared.time.Moment.{Moment}
use Rattle.sb_model.specs.History.{History, IsWellFormed, up_to_version}
use Rattle.sb_model.specs.Naming.{Naming}
use Rattle.hash_messages.specs.Messages.{AskedHashes}
use Rattle.hash_messages.specs.Matches.{find_answer}
use Rattle.hash_messages.specs.declared.response.FindResponse.{FindResponse}
use Rattle.url_canon.specs.Url.{Url}
use Rattle.update_client.specs.Held.{Held}
use Rattle.update_client.specs.Replica.{AreReplicas}
use Rattle.full_hash_cache.specs.Law.{Step}
use Rattle.full_hash_cache.specs.Law.Step.{Takes}
use Rattle.wait_rules.specs.declared.waits.WaitState.{WaitState}
use Rattle.timed_sessions.specs.Timed.{TimedSession}
use Rattle.url_checker.specs.declared.findings.Hit.{Hit}
use Rattle.url_checker.specs.Hits.{hits_of}
use Rattle.url_checker.specs.Resolving.{Resolution, find_asked}
use Rattle.client_laws.specs.Rulings.{IsNoneOpen}
use Rattle.client_laws.specs.Resolved.{IsDecidedFaithfully, said_in}

-- ---- the premises

-- what the law asks of a server, of the lists that were checked, and of a resolution
pub record MeetsPremises (history : History) (token_at : Naming) (lists : List Held) (url : Url) (steps : List Step) (waits : WaitState) (r : Resolution) : Type 0 where
  pub formed : IsWellFormed history
  pub replicas : AreReplicas history token_at lists
  pub decided : IsDecidedFaithfully history token_at lists steps waits (hits_of lists url) r
  pub none_open : IsNoneOpen (hits_of lists url) (said_in steps waits r)

-- ---- the URL

-- `http://1.2.3.4/`, which has one expression, `1.2.3.4/`
abbrev pub example_url : Url
example_url = record { scheme = codes "http"; host = codes "1.2.3.4"; path = [] ∷ []; query = None; is_address = true }

-- SHA-256 of the expression, by its first four bytes and the others
abbrev pub front : List ℕ
front = 0x3f ∷ 0x00 ∷ 0x8b ∷ 0x86 ∷ []

abbrev pub expression_hash : List ℕ
expression_hash = front ++ (
    0x3c ∷ 0xa6 ∷ 0xe9 ∷ 0x54 ∷ 0xc3 ∷ 0x18 ∷ 0x59 ∷ 0x66 ∷ 0x54 ∷ 0x54 ∷ 0xf9 ∷ 0xcb ∷ 0xcb ∷ 0x10 ∷ 0x76 ∷ 0x0a ∷
    0xcb ∷ 0x7e ∷ 0xbc ∷ 0x53 ∷ 0x6d ∷ 0x6d ∷ 0xa1 ∷ 0xcc ∷ 0xac ∷ 0x94 ∷ 0x61 ∷ 0x8d ∷ [])

-- a hash that has only the first four bytes of it
abbrev pub other_hash : List ℕ
other_hash = front ++ replicate 28 0

-- ---- the server

-- the list MALWARE/ANY_PLATFORM/URL
abbrev pub example_name : ListName
example_name = record { threat = threat.Malware; platform = platform.AnyPlatform; entry = entry.Url }

-- Both hashes are published by their first four bytes. The server adds that of the expression, and then has the other in its place.
abbrev pub url_first_change : Change
url_first_change = record { list = example_name; adds = record { hash = expression_hash; size = 4 } ∷ []; removes = [] }

abbrev pub url_second_change : Change
url_second_change = record { list = example_name; adds = record { hash = other_hash; size = 4 } ∷ []; removes = expression_hash ∷ [] }

abbrev pub example_url_history : History
example_url_history = record { epoch = 1; declared = (example_name, 4) ∷ []; changes = url_first_change ∷ url_second_change ∷ [] }

-- The token of a version is one byte, its number.
abbrev pub example_tokens : Naming
example_tokens list version = version ∷ []

-- ---- the client

-- The list after either change: both times it has the same prefix.
abbrev pub held_at : ℕ → Held
held_at version = record { name = example_name; token = version ∷ []; set = front ∷ []; resync = false }

abbrev pub example_hit : Hit
example_hit = record { list = example_name; prefix = front; hash = record { bytes = expression_hash } }

abbrev pub example_asked : AskedHashes
example_asked = find_asked [] (example_hit ∷ [])

-- what the server answers when it is at a version, to be kept for five minutes
abbrev pub answer_at : ℕ → FindResponse
answer_at version = find_answer (up_to_version version example_url_history) 0 300 300 example_asked

-- a resolution that got this answer
abbrev pub got_at : ℕ → Moment → TimedSession → Option ℕ → Resolution
got_at version now session word = record { now = now; talk = Some (record { session = session; answer = Ok (answer_at version); word = word }) }

-- one that got none, a second after the answer that is kept was received
abbrev pub second_later : Resolution
second_later = record { now = record { 0 = 1000 }; talk = None }

abbrev pub steps_at : ℕ → List Step
steps_at version = Takes (record { 0 = 0 }) (example_name ∷ []) example_asked (answer_at version) ∷ []
