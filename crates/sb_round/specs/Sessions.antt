-- What the sessions of a link's log bring a client: each of them at most one body.
use Rattle.std.specs.Prelude.{◌≡◌, ℕ, Bool, List, [], ◌∷◌, Result}
use Rattle.sb_outside.specs.declared.links.Session.{Session}
use Rattle.http_edge.specs.Outcomes.{SessionOutcome}
use Rattle.http_edge.specs.declared.faults.ExchangeFault.{ExchangeFault}
use Rattle.update_messages.specs.Messages.{UpdatedList}
use Rattle.update_messages.specs.declared.response.FetchResponse.{FetchResponse}
use Rattle.sb_round.specs.Round.{IsRoundAnswerOf, updates_of}
use Rattle.sb_round.specs.declared.rounds.RoundFault.{RoundFault}

-- A session's outcome reads as an answer with these updates; one that brings no message has none.
pub record IsBodyOf (need : Bool) (session : Session) (updates : List UpdatedList) : Type 0 where
  pub outcome : Result (List ℕ) ExchangeFault
  pub decides : SessionOutcome need session outcome
  pub answer : Result FetchResponse RoundFault
  pub answers : IsRoundAnswerOf outcome answer
  pub is : updates ≡ updates_of answer

-- the same of each session
abbrev pub AreBodiesOf : Bool → List Session → List (List UpdatedList) → Type 0
AreBodiesOf need [] [] = Unit {0}
AreBodiesOf need [] (updates ∷ bodies) = ⊥
AreBodiesOf need (session ∷ sessions) [] = ⊥
AreBodiesOf need (session ∷ sessions) (updates ∷ bodies) = IsBodyOf need session updates × AreBodiesOf need sessions bodies

-- A log has one list of bodies.
abbrev pub HasOneListOfBodies : Type 0
HasOneListOfBodies = (need : Bool) (sessions : List Session) (first second : List (List UpdatedList))
    → AreBodiesOf need sessions first → AreBodiesOf need sessions second → first ≡ second
