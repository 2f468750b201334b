-- Rounds whose messages are answers of a server, and the versions of lists before and after them.
use Rattle.std.specs.Prelude.{◌≡◌, ◌⊎◌, ℕ, ◌≤◌, List, [], ◌∷◌, map, Ok, Err}
use Rattle.sb_model.specs.History.{History, up_to_version, version_count}
use Rattle.sb_model.specs.Naming.{Naming}
use Rattle.update_messages.specs.Answer.{fetch_answer}
use Rattle.update_client.specs.Asked.{request_asked}
use Rattle.update_client.specs.Genuine.{IsWithinLimitsAlways}
use Rattle.update_client.specs.Held.{Held}
use Rattle.update_client.specs.declared.options.FetchOptions.{FetchOptions}
use Rattle.sb_round.specs.Round.{Round, lists_after_round}
use Rattle.sb_round.specs.Rounds.{round_updates}
use Rattle.sb_round.specs.Run.{lists_after}
use Rattle.sb_round.specs.declared.rounds.RoundFault.{RoundFault}

-- ---- what the server answers

-- No limit that is asked for binds: there is none for an update, and none for a list or one that no list passes.
pub record HasNoLimits (options : FetchOptions) : Type 0 where
  pub update : options.max_update ≡ 0
  pub database : (options.max_database ≡ 0) ⊎ (1048576 ≤ options.max_database)

-- A round brought what the server answered at a version to the request of a client with these lists.
pub record IsAnsweredRound (history : History) (token_at : Naming) (options : FetchOptions) (lists : List Held) (round : Round) (version : ℕ) : Type 0 where
  pub within : version ≤ version_count history
  pub wait : ℕ
  pub message : round.answer ≡ Ok (fetch_answer (up_to_version version history) token_at wait (request_asked lists options))

-- It brought no message.
pub record IsLostRound (round : Round) : Type 0 where
  pub fault : RoundFault
  pub none : round.answer ≡ Err fault

-- Each of these rounds brought no message, or what the server answered to its own request. The versions at which it answered
-- are not below this one, and do not fall.
abbrev pub AreAnsweredFrom : History → Naming → FetchOptions → ℕ → List Held → List Round → Type 0
AreAnsweredFrom history token_at options least lists [] = Unit {0}
AreAnsweredFrom history token_at options least lists (round ∷ rounds) =
    (IsLostRound round × AreAnsweredFrom history token_at options least (lists_after_round lists round) rounds)
    ⊎ ((version : ℕ) × (least ≤ version) × IsAnsweredRound history token_at options lists round version
    × AreAnsweredFrom history token_at options version (lists_after_round lists round) rounds)

-- ---- versions of lists

-- A held list is at a version of the server's: its token names it.
pub record HoldsVersion (history : History) (token_at : Naming) (held : Held) (version : ℕ) : Type 0 where
  pub within : version ≤ version_count history
  pub token : held.token ≡ token_at held.name version

-- A list that is at a version up to this one is later at that version or at one after it, and keeps its name.
pub record StaysOrRises (history : History) (token_at : Naming) (most : ℕ) (held held' : Held) : Type 0 where
  pub named : held'.name ≡ held.name
  pub version : (from : ℕ) → HoldsVersion history token_at held from → from ≤ most
      → (to : ℕ) × (from ≤ to) × HoldsVersion history token_at held' to

-- each of several lists does
abbrev pub StayOrRise : History → Naming → ℕ → List Held → List Held → Type 0
StayOrRise history token_at most [] [] = Unit {0}
StayOrRise history token_at most [] (held' ∷ lists') = ⊥
StayOrRise history token_at most (held ∷ lists) [] = ⊥
StayOrRise history token_at most (held ∷ lists) (held' ∷ lists') = StaysOrRises history token_at most held held' × StayOrRise history token_at most lists lists'

-- Lists that are at versions up to the one from which on the server answers do not go back.
abbrev pub KeepsVersions : History → Naming → FetchOptions → ℕ → List Held → List Round → Type 0
KeepsVersions history token_at options least lists rounds =
    HasNoLimits options
    → IsWithinLimitsAlways history
    → AreAnsweredFrom history token_at options least lists rounds
    → StayOrRise history token_at least lists (lists_after lists (map round_updates rounds))
