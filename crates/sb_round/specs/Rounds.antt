-- A run of rounds, from any lists and any state of waiting.
use Rattle.std.specs.Prelude.{◌≡◌, Bool, List, [], ◌∷◌, ◌++◌, map, fold}
use Rattle.sb_outside.specs.declared.links.Session.{Session}
use Rattle.http_edge.specs.declared.messages.Target.{Target}
use Rattle.update_client.specs.Held.{Held}
use Rattle.update_client.specs.declared.options.FetchOptions.{FetchOptions}
use Rattle.update_messages.specs.Messages.{UpdatedList}
use Rattle.wait_rules.specs.declared.waits.WaitState.{WaitState}
use Rattle.sb_round.specs.declared.rounds.RoundEnd.{RoundEnd}
use Rattle.sb_round.specs.Run.{lists_after}
use Rattle.sb_round.specs.Round.{Round, RoundState, IsRound, MakesRound, updates_of, lists_after_round, waits_after_round, closed_round, trace_of_round}
use Rattle.sb_round.specs.Sessions.{AreBodiesOf}
use Rattle.timed_sessions.specs.Told.{Outside, Trace, no_trace, then_trace, Grows}
use Rattle.timed_sessions.specs.Waiting.{KeepToWaits}

-- the body of a round, as its updates
abbrev pub round_updates : Round → List UpdatedList
round_updates round = updates_of round.answer

abbrev pub round_entry : Round → Session
round_entry round = round.session.entry

-- the state of waiting after any number of rounds
abbrev pub waits_after_rounds : WaitState → List Round → WaitState
waits_after_rounds waits rounds = fold waits_after_round waits rounds

-- what is told more of any number of rounds
abbrev pub trace_of_rounds : WaitState → List Round → Trace
trace_of_rounds waits [] = no_trace
trace_of_rounds waits (round ∷ rounds) =
    then_trace (trace_of_round waits round) (trace_of_rounds (waits_after_round waits round) rounds)

-- Each is a round of a client with the lists and the state of waiting that those before it left. So each session asks
-- for those lists, and begins at or after its allowed moment.
abbrev pub AreRounds : List Held → WaitState → FetchOptions → Target → Bool → List Round → Type 0
AreRounds lists waits options target need [] = Unit {0}
AreRounds lists waits options target need (round ∷ rounds) =
    IsRound lists waits options target need round × AreRounds (lists_after_round lists round) (waits_after_round waits round) options target need rounds

-- A client with this state made these rounds. This is the state that they left, and this is told more of them. The lists are those
-- after the bodies.
pub record MakesRounds (state state' : RoundState) (options : FetchOptions) (target : Target) (need : Bool) (before after : Outside) (rounds : List Round) : Type 0 where
  pub are : AreRounds state.lists state.waits options target need rounds
  pub told : Grows before after (trace_of_rounds state.waits rounds)
  pub lists_are : state'.lists ≡ lists_after state.lists (map round_updates rounds)
  pub waits_are : state'.waits ≡ waits_after_rounds state.waits rounds

-- Nothing is made with no round.
abbrev pub BeginsRounds : Type 0
BeginsRounds = (state : RoundState) (options : FetchOptions) (target : Target) (need : Bool) (before : Outside)
    → MakesRounds state state options target need before before []

-- Rounds and one more are rounds.
abbrev pub GoesOnWithRounds : Type 0
GoesOnWithRounds = (state state' state'' : RoundState) (options : FetchOptions) (target : Target) (need : Bool) (before between after : Outside) (rounds : List Round) (end : RoundEnd)
    → MakesRounds state state' options target need before between rounds
    → (made : MakesRound state' state'' options target need between after end)
    → MakesRounds state state'' options target need before after (rounds ++ made.round ∷ [])

-- No round's session precedes its allowed moment.
abbrev pub RoundsKeepToWaits : Type 0
RoundsKeepToWaits = (lists : List Held) (waits : WaitState) (options : FetchOptions) (target : Target) (need : Bool) (rounds : List Round)
    → AreRounds lists waits options target need rounds → KeepToWaits waits (map closed_round rounds)

-- The sessions of rounds are what the link's log has more of them, and the body of each is what its session's outcome reads as.
abbrev pub RoundsAreTheirSessions : Type 0
RoundsAreTheirSessions = (lists : List Held) (waits : WaitState) (options : FetchOptions) (target : Target) (need : Bool) (rounds : List Round)
    → AreRounds lists waits options target need rounds
    → ((trace_of_rounds waits rounds).sessions ≡ map round_entry rounds) × AreBodiesOf need (map round_entry rounds) (map round_updates rounds)
