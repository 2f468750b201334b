-- A round whose session was answered, and one whose session was lost.
use Rattle.std.proofs.Common.{◌≡◌, ◌≤◌, ℕ, List, ◌++◌, Bool, true, false, length, refl, sym, ap, ◌∙◌, subst, Some, None, Result, Ok, Err}
use Rattle.std.specs.Prelude.{IsFalse, MatchBool}
use Rattle.serde_json.specs.Data.{Data}
use Rattle.sb_model.specs.History.{History, up_to_version}
use Rattle.sb_model.specs.Naming.{Naming}
use Rattle.sb_outside.specs.declared.links.Session.{Session}
use Rattle.sb_outside.specs.declared.links.Kind.TheVariants.{Update}
use Rattle.sb_json.specs.Values.{value_of}
use Rattle.sb_json.specs.declared.faults.MessageFault.{MessageFault}
use Rattle.http_edge.specs.Outcomes.{BytesOutcome, SessionOutcome}
use Rattle.http_edge.specs.Responses.{response_text}
use Rattle.http_edge.specs.declared.faults.ExchangeFault.{ExchangeFault}
use Rattle.http_edge.specs.declared.messages.ResponseFields.{ResponseFields}
use Rattle.http_edge.specs.declared.messages.Status.TheVariants.{Success}
use Rattle.http_edge.specs.declared.messages.Target.{Target}
use Rattle.update_messages.specs.Answer.{fetch_answer}
use Rattle.update_messages.specs.Faults.{fault_of_text, fault_of_response}
use Rattle.update_messages.specs.Messages.{Request}
use Rattle.update_messages.specs.Ranges.{IsRequestInRange}
use Rattle.update_messages.specs.Reading.{IsTextOf, ReadsRequest, ReadsResponse}
use Rattle.update_messages.specs.Writing.{spelling_of_request}
use Rattle.update_messages.specs.declared.response.FetchResponse.{FetchResponse}
use Rattle.update_client.specs.Asked.{request_asked}
use Rattle.update_client.specs.Held.{Held}
use Rattle.update_client.specs.declared.options.FetchOptions.{FetchOptions}
use Rattle.wait_rules.specs.declared.waits.WaitState.{WaitState}
use Rattle.sb_round.specs.Round.{Round, IsRound, IsRoundAnswerOf, round_body_asked}
use Rattle.sb_round.specs.Rounds.{round_entry}
use Rattle.sb_round.specs.declared.rounds.RoundFault.{RoundFault}
use Rattle.sb_round.specs.declared.rounds.RoundFault.TheVariants.{Exchange, Message}
use Rattle.both_ends_laws.specs.Answered.{IsAnsweredAt, IsLost}
use Rattle.both_ends_laws.specs.Versions.{IsAnsweredRound, IsLostRound}
use Rattle.both_ends_laws.proofs.Sent.{one_asked}

-- ---- what the crates below say

-- A whole response passes, whatever follows it.
abbrev pub Passes : Type 0
Passes = (body : List ℕ) → length body ≤ 201326592 → (fields : ResponseFields) (rest : List ℕ) (need ended : Bool) → BytesOutcome need (response_text Success fields body ++ rest) ended (Ok body)

-- A session that brings a body comes to nothing else.
abbrev pub HasOneBody : Type 0
HasOneBody = (need : Bool) (session : Session) (body : List ℕ) (outcome : Result (List ℕ) ExchangeFault)
    → SessionOutcome need session (Ok body) → SessionOutcome need session outcome → outcome ≡ Ok body

-- A value reads one way.
abbrev pub RequestsReadOneWay : Type 0
RequestsReadOneWay = (value : Data) (a b : Request) → ReadsRequest value a → ReadsRequest value b → a ≡ b

abbrev pub ResponsesReadOneWay : Type 0
ResponsesReadOneWay = (value : Data) (a b : FetchResponse) → ReadsResponse value a → ReadsResponse value b → a ≡ b

-- A value that reads as a response has no fault.
abbrev pub ResponsesHaveNoFault : Type 0
ResponsesHaveNoFault = (value : Data) (message : FetchResponse) → ReadsResponse value message → fault_of_response value ≡ None

-- What a client writes of its request reads as it.
abbrev pub RequestsReadAgain : Type 0
RequestsReadAgain = (lists : List Held) (options : FetchOptions) → IsRequestInRange (request_asked lists options)
    → IsTextOf ReadsRequest (spelling_of_request (request_asked lists options)) (request_asked lists options)

pub record Below : Type 0 where
  pub passes : Passes
  pub one_body : HasOneBody
  pub one_request : RequestsReadOneWay
  pub one_response : ResponsesReadOneWay
  pub no_fault : ResponsesHaveNoFault
  pub again : RequestsReadAgain

-- ---- texts

one_reading : {A : Type 0} (Reads : Data → A → Type 0) → ((value : Data) (a b : A) → Reads value a → Reads value b → a ≡ b) → (text : List ℕ) (a b : A)
    → IsTextOf Reads text a → IsTextOf Reads text b → a ≡ b
one_reading Reads one text a b h k =
    let same : h.0 ≡ k.0 = cc (h.1, k.1) in
    one k.0 a b (subst (λ (value : Data). Reads value a) same h.2) k.2

not_a_fault : Below → (text : List ℕ) (message : FetchResponse) (fault : MessageFault) → IsTextOf ReadsResponse text message
    → fault_of_text fault_of_response (value_of text) ≡ Some fault → ⊥
not_a_fault under text message fault h told =
    let at : fault_of_response h.0 ≡ Some fault = rw h.1 at told in
    let clean = under.no_fault h.0 message h.2 in
    cc (at, clean)

-- a body that reads as a message is read as it
taken_as : Below → (body : List ℕ) (message : FetchResponse) (answer : Result FetchResponse RoundFault) → IsTextOf ReadsResponse body message → IsRoundAnswerOf (Ok body) answer → answer ≡ Ok message
taken_as under body message (Ok other) h k = ap (λ (m : FetchResponse). Ok m) (one_reading ReadsResponse under.one_response body other message k h)
taken_as under body message (Err (Message fault)) h k = absurd (not_a_fault under body message fault h k)
taken_as under body message (Err (Exchange fault)) h k = absurd k

-- ---- sessions

unfailed : (failed : Bool) (A B : Type 0) → IsFalse failed → B → MatchBool failed A B
unfailed true A B h b = absurd (cc h)
unfailed false A B h b = b

brings : Below → (need : Bool) (history : History) (token_at : Naming) (target : Target) (session : Session) (version : ℕ) → (answered : IsAnsweredAt history token_at target session version)
    → SessionOutcome need session (Ok answered.body)
brings under need history token_at target session version answered =
    unfailed session.failed _ _ answered.whole
    (subst (λ (bytes : List ℕ). BytesOutcome need bytes session.ended (Ok answered.body)) (sym answered.received)
    (under.passes answered.body answered.short answered.fields answered.rest need session.ended))

-- ---- rounds

module _ (under : Below) (history : History) (token_at : Naming) (lists : List Held) (waits : WaitState) (options : FetchOptions) (target : Target) (need : Bool) (round : Round)
    (is : IsRound lists waits options target need round)
  where
    asks_it : IsRequestInRange (request_asked lists options) → (version : ℕ) → (answered : IsAnsweredAt history token_at target (round_entry round) version) → answered.request ≡ request_asked lists options
    asks_it range version answered =
        let asked : answered.asked ≡ round_body_asked lists options = one_asked target Update answered.asked (round_body_asked lists options) (sym answered.sent ∙ is.held.sends answered.whole) in
        one_reading ReadsRequest under.one_request (round_body_asked lists options) answered.request (request_asked lists options)
        (subst (λ (text : List ℕ). IsTextOf ReadsRequest text answered.request) asked answered.reads) (under.again lists options range)

    pub answered_round : IsRequestInRange (request_asked lists options) → (version : ℕ) → IsAnsweredAt history token_at target (round_entry round) version → IsAnsweredRound history token_at options lists round version
    answered_round range version answered =
        let body : is.outcome ≡ Ok answered.body = under.one_body need (round_entry round) answered.body is.outcome (brings under need history token_at target (round_entry round) version answered) is.held.decides in
        let message = fetch_answer (up_to_version version history) token_at answered.wait answered.request in
        let taken : round.answer ≡ Ok message =
        taken_as under answered.body message round.answer answered.answers (subst (λ (outcome : Result (List ℕ) ExchangeFault). IsRoundAnswerOf outcome round.answer) body is.answers) in
        record {
          within = answered.within;
          wait = answered.wait;
          message = taken ∙ ap (λ (request : Request). Ok (fetch_answer (up_to_version version history) token_at answered.wait request)) (asks_it range version answered);
        }

    -- an outcome that is a message is no fault
    not_both : (outcome other : Result (List ℕ) ExchangeFault) (message : FetchResponse) (fault : RoundFault) → SessionOutcome need (round_entry round) outcome → SessionOutcome need (round_entry round) other
        → IsRoundAnswerOf outcome (Ok message) → IsRoundAnswerOf other (Err fault) → ⊥
    not_both (Err why) other message fault h k a b = cc a
    not_both (Ok body) other message fault h k a b =
        let same : other ≡ Ok body = under.one_body need (round_entry round) body other h k in
        let is_fault : IsRoundAnswerOf (Ok body) (Err fault) = subst (λ (outcome : Result (List ℕ) ExchangeFault). IsRoundAnswerOf outcome (Err fault)) same b in
        none_there (taken_as under body message (Err fault) a is_fault)
      where
        none_there : Err fault ≡ Ok message → ⊥
        none_there e = cc e

    lost_answer : IsLost need (round_entry round) → (answer : Result FetchResponse RoundFault) → IsRoundAnswerOf is.outcome answer → (fault : RoundFault) × (answer ≡ Err fault)
    lost_answer lost (Err fault) h = (fault, refl)
    lost_answer lost (Ok message) h = absurd (not_both is.outcome lost.outcome message lost.fault is.held.decides lost.decides h lost.none)

    pub lost_round : IsLost need (round_entry round) → IsLostRound round
    lost_round lost = let none = lost_answer lost round.answer is.answers in record { fault = none.0; none = none.1 }
