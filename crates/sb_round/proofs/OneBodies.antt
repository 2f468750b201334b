-- A session brings at most one body, and a log one list of them.
use Rattle.std.proofs.Common.{◌≡◌, ℕ, List, [], ◌∷◌, Bool, refl, sym, ap, ◌∙◌, subst}
use Rattle.std.specs.Prelude.{Result, Ok, Err, None, Some, ◌↔◌}
use Rattle.serde_json.specs.Data.{Data}
use Rattle.sb_outside.specs.declared.links.Session.{Session}
use Rattle.sb_json.specs.declared.faults.MessageFault.{MessageFault}
use Rattle.sb_json.specs.Values.{value_of}
use Rattle.http_edge.specs.Outcomes.{SessionOutcome}
use Rattle.http_edge.specs.declared.faults.ExchangeFault.{ExchangeFault}
use Rattle.update_messages.specs.Faults.{fault_of_response, fault_of_text}
use Rattle.update_messages.specs.Messages.{UpdatedList}
use Rattle.update_messages.specs.Reading.{IsTextOf, ReadsResponse}
use Rattle.update_messages.specs.declared.response.FetchResponse.{FetchResponse}
use Rattle.sb_round.specs.Round.{IsRoundAnswerOf, updates_of}
use Rattle.sb_round.specs.Sessions.{IsBodyOf, AreBodiesOf, HasOneListOfBodies}
use Rattle.sb_round.specs.declared.rounds.RoundFault.{RoundFault}
use Rattle.sb_round.specs.declared.rounds.RoundFault.TheVariants.{Exchange, Message}

-- what the crates below say: a session passes with one body, and a value reads as one message or has a fault
abbrev pub PassesOnce : Type 0
PassesOnce = (need : Bool) (session : Session) (body : List ℕ) (answer : Result (List ℕ) ExchangeFault)
    → SessionOutcome need session (Ok body) → SessionOutcome need session answer → answer ≡ Ok body

abbrev pub ReadsOneWay : Type 0
ReadsOneWay = (value : Data) (a b : FetchResponse) → ReadsResponse value a → ReadsResponse value b → a ≡ b

abbrev pub ReadsOrFails : Type 0
ReadsOrFails = (value : Data) → ((message : FetchResponse) × ReadsResponse value message) ↔ (fault_of_response value ≡ None)

-- a text that is a message has no fault
no_fault : ReadsOrFails → (body : List ℕ) (message : FetchResponse) (fault : MessageFault)
    → IsTextOf ReadsResponse body message → fault_of_text fault_of_response (value_of body) ≡ Some fault → ⊥
no_fault or_fails body message fault (value, is, reads) fails =
    let has : fault_of_response value ≡ Some fault = rw is at fails in
    let none : fault_of_response value ≡ None = (or_fails value).0 (message, reads) in
    cc

same_message : ReadsOneWay → (body : List ℕ) (a b : FetchResponse) → IsTextOf ReadsResponse body a → IsTextOf ReadsResponse body b → a ≡ b
same_message once body a b (value, is, reads) (other, other_is, other_reads) =
    let same : other ≡ value = cc in
    once value a b reads (subst (λ (read : Data). ReadsResponse read b) same other_reads)

same_updates : ReadsOneWay → ReadsOrFails → (body : List ℕ) (a b : Result FetchResponse RoundFault)
    → IsRoundAnswerOf (Ok body) a → IsRoundAnswerOf (Ok body) b → updates_of a ≡ updates_of b
same_updates once or_fails body (Ok first) (Ok second) one two = ap (λ (message : FetchResponse). message.items) (same_message once body first second one two)
same_updates once or_fails body (Ok first) (Err (Message fault)) one two = absurd (no_fault or_fails body first fault one two)
same_updates once or_fails body (Ok first) (Err (Exchange fault)) one two = absurd two
same_updates once or_fails body (Err (Message fault)) (Ok second) one two = absurd (no_fault or_fails body second fault two one)
same_updates once or_fails body (Err (Exchange fault)) (Ok second) one two = absurd one
same_updates once or_fails body (Err first) (Err second) one two = refl

module _ (passes : PassesOnce) (once : ReadsOneWay) (or_fails : ReadsOrFails) (need : Bool) where
  -- two readings of one session
  same_of : (session : Session) (o p : Result (List ℕ) ExchangeFault) (a b : Result FetchResponse RoundFault)
      → SessionOutcome need session o → SessionOutcome need session p → IsRoundAnswerOf o a → IsRoundAnswerOf p b → updates_of a ≡ updates_of b
  same_of session (Ok body) (Ok other) a b first second one two =
      let passed : Ok other ≡ Ok body = passes need session body (Ok other) first second in
      let same : other ≡ body = cc in
      same_updates once or_fails body a b one (subst (λ (text : List ℕ). IsRoundAnswerOf (Ok text) b) same two)
  same_of session (Ok body) (Err fault) a b first second one two =
      let passed : Err fault ≡ Ok body = passes need session body (Err fault) first second in absurd (cc)
  same_of session (Err fault) (Ok body) a b first second one two =
      let passed : Err fault ≡ Ok body = passes need session body (Err fault) second first in absurd (cc)
  same_of session (Err fault) (Err other) a b first second one two = ap updates_of one ∙ sym (ap updates_of two)

  pub one_body : (session : Session) (a b : List UpdatedList) → IsBodyOf need session a → IsBodyOf need session b → a ≡ b
  one_body session a b first second =
      first.is
      ∙ same_of session first.outcome second.outcome first.answer second.answer first.decides second.decides first.answers second.answers
      ∙ sym second.is

  pub one_list : (sessions : List Session) (first second : List (List UpdatedList)) → AreBodiesOf need sessions first → AreBodiesOf need sessions second → first ≡ second
  one_list [] [] [] one two = refl
  one_list [] [] (updates ∷ bodies) one two = absurd two
  one_list [] (updates ∷ bodies) second one two = absurd one
  one_list (session ∷ sessions) [] second one two = absurd one
  one_list (session ∷ sessions) (updates ∷ bodies) [] one two = absurd two
  one_list (session ∷ sessions) (updates ∷ bodies) (others ∷ rest) (is, are) (other_is, other_are) =
      let head : updates ≡ others = one_body session updates others is other_is in
      let tail : bodies ≡ rest = one_list sessions bodies rest are other_are in
      cc

pub logs_have_one : PassesOnce → ReadsOneWay → ReadsOrFails → HasOneListOfBodies
logs_have_one passes once or_fails need sessions first second one two = one_list passes once or_fails need sessions first second one two
