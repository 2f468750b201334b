-- A round of updates: a client asks in one session for updates of all its lists, and takes the answer.
use Rattle.std.specs.Prelude.{◌≡◌, ℕ, ◌⊎◌, Bool, List, [], ◌∷◌, Option, Some, None, Result, Ok, Err}
use Rattle.sb_model.specs.declared.time.Duration.{Duration}
use Rattle.sb_model.specs.declared.time.Moment.{Moment}
use Rattle.sb_outside.specs.declared.links.Kind.TheVariants.{Update}
use Rattle.sb_json.specs.Values.{value_of}
use Rattle.update_messages.specs.Messages.{UpdatedList}
use Rattle.update_messages.specs.Reading.{IsTextOf, ReadsResponse}
use Rattle.update_messages.specs.Faults.{fault_of_text, fault_of_response}
use Rattle.update_messages.specs.Writing.{spelling_of_request}
use Rattle.update_messages.specs.declared.response.FetchResponse.{FetchResponse}
use Rattle.update_client.specs.Held.{Held}
use Rattle.update_client.specs.Asked.{request_asked}
use Rattle.update_client.specs.Step.{after_updates, results_of}
use Rattle.update_client.specs.declared.options.FetchOptions.{FetchOptions}
use Rattle.update_client.specs.declared.fault.ListResult.{ListResult}
use Rattle.http_edge.specs.declared.faults.ExchangeFault.{ExchangeFault}
use Rattle.http_edge.specs.declared.messages.Target.{Target}
use Rattle.wait_rules.specs.declared.waits.WaitState.{WaitState}
use Rattle.timed_sessions.specs.Told.{Outside, Trace, Grows}
use Rattle.client_line.specs.Lines.{LineView, ReadsClock}
use Rattle.timed_sessions.specs.Timed.{TimedSession, IsTimedSession, IsTimedOpening, IsHeldToEnd, trace_of}
use Rattle.timed_sessions.specs.declared.timing.Opening.{Opening}
use Rattle.timed_sessions.specs.Waiting.{ClosedSession, IsDrawnFor, drawn_of, waits_after}
use Rattle.sb_round.specs.declared.rounds.RoundEnd.{RoundEnd}
use Rattle.sb_round.specs.declared.rounds.RoundFault.{RoundFault}
use Rattle.sb_round.specs.declared.rounds.RoundFault.TheVariants.{Exchange, Message}
use Rattle.sb_round.specs.declared.rounds.Taken.{Taken}

-- A round: its session, the message that it brought, or why it brought none, and the word that was drawn.
pub record Round : Type 0 where
  pub session : TimedSession
  pub answer : Result FetchResponse RoundFault
  pub word : Option ℕ

-- What a client has between two rounds: its lists, and when it may ask next.
pub record RoundState : Type 0 where
  pub lists : List Held
  pub waits : WaitState

abbrev pub round_state : List Held → WaitState → RoundState
round_state lists waits = record { lists = lists; waits = waits }

-- what is asked for these lists
abbrev pub round_body_asked : List Held → FetchOptions → List ℕ
round_body_asked lists options = spelling_of_request (request_asked lists options)

-- ---- what a round comes to

-- What a session's outcome comes to: its fault, or the message that its body is, or the first fault of that body.
abbrev pub IsRoundAnswerOf : Result (List ℕ) ExchangeFault → Result FetchResponse RoundFault → Type 0
IsRoundAnswerOf (Err fault) answer = answer ≡ Err (Exchange fault)
IsRoundAnswerOf (Ok body) (Ok message) = IsTextOf ReadsResponse body message
IsRoundAnswerOf (Ok body) (Err (Message fault)) = fault_of_text fault_of_response (value_of body) ≡ Some fault
IsRoundAnswerOf (Ok body) (Err (Exchange fault)) = ⊥

-- how long a message bids to wait
abbrev pub round_bids : Result FetchResponse RoundFault → Option Duration
round_bids (Ok message) = Some message.wait
round_bids (Err fault) = None

-- A round of a client with these lists and this state of waiting: its session asks for these lists, is read no further than its
-- answer, and that answer is read.
pub record IsRound (lists : List Held) (waits : WaitState) (options : FetchOptions) (target : Target) (need : Bool) (round : Round) : Type 0 where
  pub session : IsTimedSession waits target Update (round_body_asked lists options) round.session
  pub outcome : Result (List ℕ) ExchangeFault
  pub held : IsHeldToEnd target Update (round_body_asked lists options) need round.session.entry outcome
  pub answers : IsRoundAnswerOf outcome round.answer
  pub drawn : IsDrawnFor (round_bids round.answer) round.word

-- the updates of a message, and none where there is none
abbrev pub updates_of : Result FetchResponse RoundFault → List UpdatedList
updates_of (Ok message) = message.items
updates_of (Err fault) = []

-- the lists after a round
abbrev pub lists_after_round : List Held → Round → List Held
lists_after_round lists round = after_updates lists (updates_of round.answer)

-- a round as a session that was closed
abbrev pub closed_round : Round → ClosedSession
closed_round round = record { session = round.session; bids = round_bids round.answer; word = round.word }

-- the state of waiting after a round
abbrev pub waits_after_round : WaitState → Round → WaitState
waits_after_round waits round = waits_after waits (closed_round round)

-- what is told more of a round
abbrev pub trace_of_round : WaitState → Round → Trace
trace_of_round waits round = trace_of waits round.session (drawn_of round.word)

-- each update's name with its result
abbrev pub named_results : List UpdatedList → List ListResult → List Taken
named_results [] results = []
named_results (update ∷ updates) [] = []
named_results (update ∷ updates) (result ∷ results) = record { name = update.name; result = result } ∷ named_results updates results

-- what was taken from an answer
abbrev pub taken_from : List Held → Result FetchResponse RoundFault → Result (List Taken) RoundFault
taken_from lists (Ok message) = Ok (named_results message.items (results_of lists message.items))
taken_from lists (Err fault) = Err fault

-- ---- what the objects outside a client tell of a round

-- A client with this state made one round. This is the state that it left, and this is told more of it.
pub record MakesRound (state state' : RoundState) (options : FetchOptions) (target : Target) (need : Bool) (before after : Outside) (end : RoundEnd) : Type 0 where
  pub round : Round
  pub is : IsRound state.lists state.waits options target need round
  pub told : Grows before after (trace_of_round state.waits round)
  pub lists_after : state'.lists ≡ lists_after_round state.lists round
  pub waits_after : state'.waits ≡ waits_after_round state.waits round
  pub begun : end.begun ≡ round.session.begun
  pub taken : end.taken ≡ taken_from state.lists round.answer

-- The session of a round is open: after the clock was read, it begins when it may, it asks for this body, and nothing was received in
-- it yet.
pub record IsOpenRound (waits : WaitState) (target : Target) (body : List ℕ) (before after : LineView) (opening : Opening) : Type 0 where
  pub read : Moment
  pub between : LineView
  pub reads : ReadsClock read before between
  pub opened : IsTimedOpening waits read target Update body between.told after.told opening
  pub last : after.last ≡ opening.begun.0

-- A session for this body was held and closed, if it was not held to its end.
pub record HoldsRoundSession (waits : WaitState) (target : Target) (body : List ℕ) (before after : Outside) : Type 0 where
  pub session : TimedSession
  pub is : IsTimedSession waits target Update body session
  pub told : Grows before after (trace_of waits session [])

-- A round was broken off for want of memory: before the clock was read, or after its session was closed.
abbrev pub BreaksOff : List Held → WaitState → FetchOptions → Target → Outside → Outside → Type 0
BreaksOff lists waits options target before after =
    (after ≡ before) ⊎ HoldsRoundSession waits target (round_body_asked lists options) before after
