-- When each step of a run of a mirror may come. What has to come first stands here too: so a step that is left out lets no further one come.
use Rattle.std.specs.Prelude.{◌≡◌, ◌≢◌, ◌⊎◌, ◌<◌, ◌≤◌, ◌+◌, ◌-◌, ◌^◌, ℕ, true, false, List, [], ◌∷◌, ◌++◌, length, Option, Some, None, Ok, Err, Result, ⊤, is_some, slice_get}
use Rattle.hash_messages.specs.Messages.{AskedHashes}
use Rattle.hash_messages.specs.declared.response.FindResponse.{FindResponse}
use Rattle.http_edge.specs.declared.faults.RequestFault.{RequestFault}
use Rattle.http_edge.specs.declared.messages.HttpRequest.{HttpRequest}
use Rattle.http_serving.specs.Hearing.{Hears}
use Rattle.http_serving.specs.Printed.{connection_line}
use Rattle.http_serving.specs.declared.ends.ConnectionEnd.{ConnectionEnd}
use Rattle.http_serving.specs.declared.ends.ConnectionEnd.TheVariants as end
use Rattle.mirror_connections.specs.Open.{WaitingSeen, IsFindWaiting, most_waiting}
use Rattle.mirror_connections.specs.Over.{OverConnection}
use Rattle.mirror_finds.specs.Finds.{FindInTurn}
use Rattle.mirror_finds.specs.Finds.FindInTurn.{Passed, Stopped}
use Rattle.mirror_run.specs.Events.{LineEnd, MirrorEvent, after_events, told_number}
use Rattle.mirror_run.specs.Events.LineEnd.{Whole, Cut}
use Rattle.mirror_run.specs.Events.MirrorEvent.{TurnBegun, RoundBegun, RoundOver, RoundsStopped, FindBegun, FindOver, AllBegun, ConnectionTaken, NothingCame, NoMoreCame, DoorFailed, FindPutOff, TakenOver, FindAnswered, FirstRefused, RunEnding}
use Rattle.mirror_run.specs.State.{FinishedFind, MirrorFirst, MirrorState, StartedFind, WaitingFind, find_waits, places_now, round_is_due, waited_long, wait_now}
use Rattle.mirror_run.specs.State.Phase.{Between, Beginning, Ending, Finishing}
use Rattle.mirror_run.specs.declared.plan.MirrorPlan.{MirrorPlan}
use Rattle.mirror_run.specs.declared.stop.MirrorStop.TheVariants as stop
use Rattle.mirror_serving.specs.HeardFind.{IsHeardFind}
use Rattle.mirror_serving.specs.declared.fate.FindFate.{FindFate}
use Rattle.mirror_serving.specs.declared.fate.FindFate.TheVariants.{NotSent, Failed, Brought}
use Rattle.sb_outside.specs.Outside.{IfTold}
use Rattle.wait_rules.specs.Waits.{may_send_at}

-- ---- what comes before all else

-- Nothing is left over of the step before: no connection was taken that is neither answered nor put off, and no find is over whose connection
-- was not answered. So a connection is answered in the turn in which it is taken, or put off.
pub record HasNothingLeft (state : MirrorState) : Type 0 where
  pub none_taken : state.in_hand ≡ false
  pub none_over : state.find_over ≡ None

-- All was begun that is due: no round is, no find waits while none is open, and none waits that waited too long.
pub record HasBegunAll (plan : MirrorPlan) (first : MirrorFirst) (state : MirrorState) : Type 0 where
  pub rounds : round_is_due plan.updates.rounds first state ≡ false
  pub finds : (state.waiting ≡ []) ⊎ ((waiting : WaitingFind) × (rest : List WaitingFind) × (state.waiting ≡ waiting ∷ rest)
      × (waited_long state.now waiting.heard ≡ false) × (is_some state.find_open ≡ true))

-- ---- what a connection is answered

-- The line of a connection is written whole; or the output fails in it, or memory is refused for it.
abbrev pub IsToldSo : OverConnection → LineEnd → Type 0
IsToldSo one Whole = ⊤
IsToldSo one (Cut why front) =
    ((why ≡ stop.WriteFault) × ((lost : List ℕ) × (front ++ lost ≡ connection_line (told_number one.number) one.how) × (lost ≢ [])))
    ⊎ ((why ≡ stop.OutOfMemory) × (front ≡ []) × (one.how ≢ end.OutOfMemory))

-- It is answered by the places of the mirror and by the wait as they are then, with this fate of its find.
abbrev pub IsByState : MirrorPlan → MirrorFirst → MirrorState → FindFate → OverConnection → Type 0
IsByState plan first state fate one = one.server ≡ record { places = places_now first state; wait = wait_now plan first state; fate = fate }

-- One that was taken is answered at once, since what was heard of it is no find, or as many finds wait as may, or memory was refused for it.
pub record IsAnsweredInItsTurn (plan : MirrorPlan) (first : MirrorFirst) (state : MirrorState) (one : OverConnection) : Type 0 where
  pub in_hand : state.in_hand ≡ true
  pub last : one.number + 1 ≡ length state.taken
  pub by_state : IsByState plan first state NotSent one
  pub pieces : List (List ℕ)
  pub gave : slice_get state.taken one.number ≡ Some pieces
  pub received : Result HttpRequest RequestFault
  pub left : Option (List (List ℕ))
  pub rest : Option (List (List ℕ))
  pub given : IfTold left (Some pieces)
  pub hears : Hears received left rest
  pub because : ((message : AskedHashes) → ¬ IsHeardFind received message) ⊎ (length state.waiting ≡ most_waiting) ⊎ (one.how ≡ end.OutOfMemory)

-- the fate of a find that was passed on: the message that it brought, or it failed
abbrev pub fate_of_answer : {C : Type 0} → Result FindResponse C → FindFate
fate_of_answer (Ok message) = Brought message
fate_of_answer (Err cause) = Failed

-- The connection of a find that is over is answered by what came of it. If memory was refused for it, so it is for the connection.
abbrev pub IsAnsweredByFind : MirrorPlan → MirrorFirst → MirrorState → FindInTurn → OverConnection → Type 0
IsAnsweredByFind plan first state (Passed passed) one = IsByState plan first state (fate_of_answer passed.passed.answer) one
IsAnsweredByFind plan first state (Stopped stopped) one = IsByState plan first state NotSent one × (one.how ≡ end.OutOfMemory)

pub record IsAnsweredByItsFind (plan : MirrorPlan) (first : MirrorFirst) (state : MirrorState) (one : OverConnection) : Type 0 where
  pub over : FinishedFind
  pub is : state.find_over ≡ Some over
  pub number : one.number ≡ over.number
  pub by_find : IsAnsweredByFind plan first state over.find one

-- Why the find that waited longest is not sent on: none is open and its session may not begin yet, it waited too long, the run ends, or memory
-- was refused for it.
abbrev pub MayNotBeSent : MirrorFirst → MirrorState → WaitingFind → ConnectionEnd → Type 0
MayNotBeSent first state waiting how =
    ((state.phase ≡ Beginning) × (state.find_open ≡ None) × (may_send_at (find_waits first state) state.now ≡ false))
    ⊎ (waited_long state.now waiting.heard ≡ true) ⊎ (state.phase ≡ Finishing) ⊎ (how ≡ end.OutOfMemory)

pub record IsNotSent (plan : MirrorPlan) (first : MirrorFirst) (state : MirrorState) (one : OverConnection) : Type 0 where
  pub left : HasNothingLeft state
  pub waiting : WaitingFind
  pub rest : List WaitingFind
  pub waits : state.waiting ≡ waiting ∷ rest
  pub number : one.number ≡ waiting.number
  pub by_state : IsByState plan first state NotSent one
  pub because : MayNotBeSent first state waiting one.how

-- ---- when a step may come

pub record MayBeginTurn (plan : MirrorPlan) (state : MirrorState) : Type 0 where
  pub left : HasNothingLeft state
  pub phase : state.phase ≡ Between
  pub goes_on : state.stop ≡ None
  pub more_come : state.no_more ≡ false
  pub more : length state.taken < plan.connections

pub record MayBeginFind (first : MirrorFirst) (state : MirrorState) : Type 0 where
  pub left : HasNothingLeft state
  pub phase : state.phase ≡ Beginning
  pub none_open : state.find_open ≡ None
  pub waiting : WaitingFind
  pub rest : List WaitingFind
  pub waits : state.waiting ≡ waiting ∷ rest
  pub in_time : waited_long state.now waiting.heard ≡ false
  pub may : may_send_at (find_waits first state) state.now ≡ true

-- what a find asked, and the states that it carried
abbrev pub asked_by_find : FindInTurn → AskedHashes
asked_by_find (Passed one) = one.asked
asked_by_find (Stopped one) = one.asked

abbrev pub states_in : FindInTurn → List (List ℕ)
states_in (Passed one) = one.states
states_in (Stopped one) = one.states

-- The find that is over is the one that was open: it asked what its connection asks, with the states that the lists had when it was begun.
pub record MayEndFind (state : MirrorState) (find : FindInTurn) : Type 0 where
  pub left : HasNothingLeft state
  pub one_open : StartedFind
  pub is : state.find_open ≡ Some one_open
  pub asks : asked_by_find find ≡ one_open.asked
  pub carries : states_in find ≡ one_open.states

-- The connection that was taken last asks this find, and fewer wait than may.
pub record MayPutOff (state : MirrorState) (asked : AskedHashes) : Type 0 where
  pub in_hand : state.in_hand ≡ true
  pub room : length state.waiting < most_waiting
  pub one : WaitingSeen
  pub asks : one.asked ≡ asked
  pub last : one.find.number + 1 ≡ length state.taken
  pub heard : IsFindWaiting state.taken one

-- Why no further turn comes: something ended the run, no more connections come, all were taken, or as many turns were taken as are counted.
abbrev pub IsLastTurn : MirrorPlan → MirrorState → Type 0
IsLastTurn plan state =
    (is_some state.stop ≡ true) ⊎ (state.no_more ≡ true) ⊎ (plan.connections ≤ length state.taken) ⊎ (state.turns ≡ 2 ^ 64 - 1)

abbrev pub MayCome : MirrorPlan → MirrorFirst → MirrorState → MirrorEvent → Type 0
MayCome plan first state (TurnBegun now) = MayBeginTurn plan state
MayCome plan first state RoundBegun = HasNothingLeft state × (state.phase ≡ Beginning) × (state.stop ≡ None) × (round_is_due plan.updates.rounds first state ≡ true)
MayCome plan first state (RoundOver round) = HasNothingLeft state × (state.round_open ≡ true)
MayCome plan first state (RoundsStopped why written) =
    HasNothingLeft state × ((state.round_open ≡ true) ⊎ ((state.phase ≡ Beginning) × (round_is_due plan.updates.rounds first state ≡ true)))
MayCome plan first state FindBegun = MayBeginFind first state
MayCome plan first state (FindOver find) = MayEndFind state find
MayCome plan first state AllBegun =
    HasNothingLeft state × (state.phase ≡ Beginning) × (HasBegunAll plan first state ⊎ (is_some state.stop ≡ true))
MayCome plan first state (ConnectionTaken pieces heard) =
    HasNothingLeft state × (state.phase ≡ Ending) × (state.stop ≡ None) × (length state.taken < plan.connections)
MayCome plan first state NothingCame = HasNothingLeft state × (state.phase ≡ Ending)
MayCome plan first state NoMoreCame = HasNothingLeft state × (state.phase ≡ Ending)
MayCome plan first state DoorFailed = HasNothingLeft state × (state.phase ≡ Ending)
MayCome plan first state (FindPutOff asked) = MayPutOff state asked
MayCome plan first state (TakenOver one told) = IsAnsweredInItsTurn plan first state one × IsToldSo one told
MayCome plan first state (FindAnswered one told) = IsAnsweredByItsFind plan first state one × IsToldSo one told
MayCome plan first state (FirstRefused one told) = IsNotSent plan first state one × IsToldSo one told
MayCome plan first state RunEnding = HasNothingLeft state × (state.phase ≡ Between) × IsLastTurn plan state

-- each of some events, of which the newest stands first, may come where those before it led
abbrev pub MayAllCome : MirrorPlan → MirrorFirst → MirrorState → List MirrorEvent → Type 0
MayAllCome plan first state [] = ⊤
MayAllCome plan first state (one ∷ earlier) = MayCome plan first (after_events first state earlier) one × MayAllCome plan first state earlier

-- A run has come to its end: nothing is open, and nobody waits.
pub record HasCome (state : MirrorState) : Type 0 where
  pub left : HasNothingLeft state
  pub ended : state.phase ≡ Finishing
  pub no_round : state.round_open ≡ false
  pub no_find : state.find_open ≡ None
  pub nobody : state.waiting ≡ []
