-- Sessions of a link's log in which a client was answered by a server, or not at all.
use Rattle.std.specs.Prelude.{◌≡◌, ◌⊎◌, ℕ, ◌≤◌, Bool, List, [], ◌∷◌, ◌++◌, length, map, All, Result, Err, IsFalse, IsTrue}
use Rattle.base64.specs.GeneralPurpose.{IsBytes}
use Rattle.sb_model.specs.declared.names.ListName.{ListName}
use Rattle.sb_model.specs.History.{History, declares, up_to_version, version_count}
use Rattle.sb_model.specs.Naming.{Naming, IsNaming}
use Rattle.sb_outside.specs.declared.links.Kind.TheVariants.{Update}
use Rattle.sb_outside.specs.declared.links.Session.{Session}
use Rattle.http_edge.specs.Exchanges.{request_text}
use Rattle.http_edge.specs.Outcomes.{SessionOutcome}
use Rattle.http_edge.specs.Responses.{response_text}
use Rattle.http_edge.specs.declared.faults.ExchangeFault.{ExchangeFault}
use Rattle.http_edge.specs.declared.messages.ResponseFields.{ResponseFields}
use Rattle.http_edge.specs.declared.messages.Status.TheVariants.{Success}
use Rattle.http_edge.specs.declared.messages.Target.{Target}
use Rattle.update_messages.specs.Answer.{fetch_answer}
use Rattle.update_messages.specs.Messages.{Request, most_items, most_state}
use Rattle.update_messages.specs.Ranges.{IsResponseInRange}
use Rattle.update_messages.specs.Reading.{IsTextOf, ReadsRequest, ReadsResponse}
use Rattle.update_messages.specs.Writing.{spelling_of_response}
use Rattle.update_client.specs.Held.{Held, most_lists}
use Rattle.update_client.specs.declared.options.FetchOptions.{FetchOptions}
use Rattle.wait_rules.specs.declared.waits.WaitState.{WaitState}
use Rattle.sb_round.specs.Round.{Round, IsRoundAnswerOf}
use Rattle.sb_round.specs.Rounds.{AreRounds, round_entry}
use Rattle.sb_round.specs.declared.rounds.RoundFault.{RoundFault}
use Rattle.both_ends_laws.specs.Versions.{AreAnsweredFrom}

-- ---- one session

-- A session was sent a request for updates, and received what a server of this history answers to it at a version: the
-- response of status 200 with a body that reads as that answer, and perhaps more bytes after it. The body is no longer than
-- one that a client takes, and no call of the session failed.
pub record IsAnsweredAt (history : History) (token_at : Naming) (target : Target) (session : Session) (version : ℕ) : Type 0 where
  pub asked : List ℕ
  pub request : Request
  pub sent : session.sent ≡ request_text target Update asked
  pub reads : IsTextOf ReadsRequest asked request
  pub within : version ≤ version_count history
  pub wait : ℕ
  pub body : List ℕ
  pub answers : IsTextOf ReadsResponse body (fetch_answer (up_to_version version history) token_at wait request)
  pub short : length body ≤ 201326592
  pub fields : ResponseFields
  pub rest : List ℕ
  pub received : session.received ≡ response_text Success fields body ++ rest
  pub whole : IsFalse session.failed

-- at some version
abbrev pub IsAnsweredIn : History → Naming → Target → Session → Type 0
IsAnsweredIn history token_at target session = (version : ℕ) × IsAnsweredAt history token_at target session version

-- It brought no message: its outcome is a fault, or a body that is none.
pub record IsLost (need : Bool) (session : Session) : Type 0 where
  pub outcome : Result (List ℕ) ExchangeFault
  pub decides : SessionOutcome need session outcome
  pub fault : RoundFault
  pub none : IsRoundAnswerOf outcome (Err fault)

-- What a server writes of its answer to a request of at most 8 items is a body that reads as this answer, where the answer keeps to the
-- ranges of messages.
abbrev pub WrittenAnswersReadAgain : Type 0
WrittenAnswersReadAgain =
    (history : History) (token_at : Naming) (wait : ℕ) (request : Request)
    → length request.items ≤ most_items
    → IsResponseInRange (fetch_answer history token_at wait request)
    → IsTextOf ReadsResponse (spelling_of_response (fetch_answer history token_at wait request)) (fetch_answer history token_at wait request)

-- ---- the sessions of a log

-- Each was answered at some version, or lost.
abbrev pub AreAnsweredOrLost : History → Naming → Target → Bool → List Session → Type 0
AreAnsweredOrLost history token_at target need sessions =
    All (λ session. IsLost need session ⊎ IsAnsweredIn history token_at target session) sessions

-- Each was answered, or lost. The versions at which they were answered are not below this one, and do not fall.
abbrev pub AreAnsweredInOrder : History → Naming → Target → Bool → ℕ → List Session → Type 0
AreAnsweredInOrder history token_at target need least [] = Unit {0}
AreAnsweredInOrder history token_at target need least (session ∷ sessions) =
    (IsLost need session × AreAnsweredInOrder history token_at target need least sessions)
    ⊎ ((version : ℕ) × (least ≤ version) × IsAnsweredAt history token_at target session version
    × AreAnsweredInOrder history token_at target need version sessions)

-- ---- what can be asked

-- The tokens of declared lists are strings of bytes.
pub record HasByteTokens (history : History) (token_at : Naming) : Type 0 where
  pub bytes : (list : ListName) (version : ℕ) → IsTrue (declares history list) → version ≤ version_count history → IsBytes (token_at list version)

-- a token that a request may have: a string of at most 4,096 bytes
pub record IsToken (token : List ℕ) : Type 0 where
  pub bytes : IsBytes token
  pub short : length token ≤ most_state

-- At most 8 lists, whose tokens a request may have. A server need not declare them.
pub record CanBeAsked (lists : List Held) : Type 0 where
  pub few : length lists ≤ most_lists
  pub tokens : All (λ held. IsToken held.token) lists

-- ---- sessions and rounds

-- Where each session of rounds was answered or lost, in the order of the versions, so is each round: its message is what the server
-- answered to the round's own request.
abbrev pub AnsweredSessionsAreAnsweredRounds : Type 0
AnsweredSessionsAreAnsweredRounds =
    (history : History) (token_at : Naming) (lists : List Held) (waits : WaitState) (options : FetchOptions) (target : Target) (need : Bool) (rounds : List Round) (least : ℕ)
    → IsNaming history token_at
    → HasByteTokens history token_at
    → CanBeAsked lists
    → AreRounds lists waits options target need rounds
    → AreAnsweredInOrder history token_at target need least (map round_entry rounds)
    → AreAnsweredFrom history token_at options least lists rounds
