-- What the objects outside a mirror tell of a run so far.
use Rattle.std.specs.Prelude.{◌≡◌, ◌⊎◌, ◌<◌, ℕ, Bool, true, false, List, [], ◌++◌, length, map, Option, Some, None, is_some}
use Rattle.client_line.specs.Lines.{LineView}
use Rattle.mirror_connections.specs.Open.{ConnectionsSeen, FindSeen, HasConnections, WaitingSeen}
use Rattle.mirror_connections.specs.Over.{DoorSeen}
use Rattle.mirror_finds.specs.Finds.{FindsSeen, FindsStart, HasPassedFinds}
use Rattle.mirror_finds.specs.declared.finds.OpenFind.{OpenFind}
use Rattle.mirror_rounds.specs.Ended.{RoundView, StopsMirrorRound, round_view}
use Rattle.mirror_rounds.specs.Rounds.{HasMadeRounds, MirrorSeen, MirrorStart}
use Rattle.mirror_run.specs.Allowed.{MayAllCome}
use Rattle.mirror_run.specs.Events.{MirrorEvent, after_events}
use Rattle.mirror_run.specs.State.{MirrorFirst, MirrorState, StartedFind, StoppedRounds, WaitingFind, before_all, has_answer, places_now, wait_now}
use Rattle.mirror_run.specs.declared.plan.MirrorPlan.{MirrorPlan}
use Rattle.mirror_run.specs.declared.stop.MirrorStop.{MirrorStop}
use Rattle.mirror_run.specs.declared.stop.MirrorStop.TheVariants as stop
use Rattle.sb_model.specs.declared.time.Moment.{Moment}
use Rattle.sb_outside.specs.Outside.{IfTold, Rose, appended}
use Rattle.sb_round.specs.Round.{BreaksOff, Round}
use Rattle.timed_sessions.specs.Told.{with_more}
use Rattle.update_run.specs.Saved.{Keeping}
use Rattle.update_run.specs.declared.stop.RunStop.{RunStop}
use Rattle.update_run.specs.declared.stop.RunStop.TheVariants as run_stop

-- ---- the program's own values, and what is seen outside

-- A mirror's own values: its rounds, its finds and its connections, the wait that it tells, whether a round brought a message, whether no more
-- connections come, and what ended its run before its end.
pub record MirrorOwn : Type 0 where
  pub rounds : MirrorSeen
  pub finds : FindsSeen
  pub connections : ConnectionsSeen
  pub wait : ℕ
  pub answered : Bool
  pub no_more : Bool
  pub stop : Option MirrorStop

-- how often the output, the keeper and the door failed
pub record FaultsSeen : Type 0 where
  pub output : ℕ
  pub keeper : ℕ
  pub door : ℕ

-- What stands outside a mirror, as it is seen: the lines of its updates and of its finds, what its keeper tells, what was written, what its
-- clock read, its door, and how often they failed.
pub record MirrorOutside : Type 0 where
  pub updates : LineView
  pub finds : LineView
  pub keeper : Keeping
  pub output : Option (List ℕ)
  pub readings : Option (List Moment)
  pub door : DoorSeen
  pub faults : FaultsSeen

-- What a run began with: what the mirror began with, and what stood outside it then.
pub record RunStart : Type 0 where
  pub first : MirrorFirst
  pub outside : MirrorOutside

abbrev pub rounds_start : RunStart → MirrorStart
rounds_start start = record { state = start.first.client; epoch = start.first.epoch; line = start.outside.updates; keeper = start.outside.keeper }

abbrev pub passing_start : RunStart → FindsStart
passing_start start = record { waits = start.first.finds; line = start.outside.finds }

-- ---- the rounds

abbrev pub cause_of : RunStop → MirrorStop
cause_of run_stop.WriteFault = stop.WriteFault
cause_of run_stop.KeepFault = stop.KeepFault
cause_of run_stop.OutOfMemory = stop.OutOfMemory

-- The next round was not begun, since memory was refused.
pub record StopsBeforeRound (plan : MirrorPlan) (before : MirrorSeen) (stopped : StoppedRounds) (view view' : RoundView) : Type 0 where
  pub memory : stopped.why ≡ stop.OutOfMemory
  pub nothing : stopped.written ≡ []
  pub breaks : BreaksOff before.state.lists before.state.waits plan.updates.options plan.updates.target view.line.told view'.line.told
  pub keeper : view'.keeper ≡ view.keeper

-- The round that was open was ended, and the mirror stopped in it or when it told it.
pub record StopsInLastRound (plan : MirrorPlan) (start : RunStart) (rounds : List Round) (before : MirrorSeen) (stopped : StoppedRounds) (view view' : RoundView) : Type 0 where
  pub why : RunStop
  pub why_is : stopped.why ≡ cause_of why
  pub stops : StopsMirrorRound why plan.updates (rounds_start start) rounds before view view'

-- These rounds were made, and then no further one.
pub record HasStoppedRounds (plan : MirrorPlan) (start : RunStart) (rounds : List Round) (stopped : StoppedRounds) (line : LineView) (keeper : Keeping) : Type 0 where
  pub before : MirrorSeen
  pub line_then : LineView
  pub keeper_then : Keeping
  pub made : HasMadeRounds plan.updates (rounds_start start) rounds before line_then keeper_then
  pub stops :
      StopsInLastRound plan start rounds before stopped (round_view line_then keeper_then (appended start.outside.output stopped.before))
      (round_view line keeper (appended start.outside.output (stopped.before ++ stopped.written)))
      ⊎ StopsBeforeRound plan before stopped (round_view line_then keeper_then (appended start.outside.output stopped.before))
      (round_view line keeper (appended start.outside.output (stopped.before ++ stopped.written)))

-- The rounds that are over were made, and one may be open; or no further one is made.
abbrev pub AreRoundsSo : MirrorPlan → RunStart → List Round → Option StoppedRounds → MirrorSeen → LineView → Keeping → Type 0
AreRoundsSo plan start rounds None own line keeper = HasMadeRounds plan.updates (rounds_start start) rounds own line keeper
AreRoundsSo plan start rounds (Some stopped) own line keeper = HasStoppedRounds plan start rounds stopped line keeper

-- ---- the program's own values are those to which the steps led

abbrev pub waiting_of : WaitingSeen → WaitingFind
waiting_of one = record { number = one.find.number; asked = one.asked; heard = one.heard }

-- The find that is open is that of the connection whose find was begun.
abbrev pub IsOpenFindOf : Option FindSeen → Option OpenFind → Option StartedFind → Type 0
IsOpenFindOf None None one_open = one_open ≡ None
IsOpenFindOf (Some find) (Some session) one_open = one_open ≡ Some (record { number = find.number; asked = session.asked; states = session.states })
IsOpenFindOf None (Some session) one_open = ⊥
IsOpenFindOf (Some find) None one_open = ⊥

pub record IsStateOf (plan : MirrorPlan) (first : MirrorFirst) (state : MirrorState) (own : MirrorOwn) : Type 0 where
  pub places : own.rounds.places ≡ places_now first state
  pub round_open : is_some own.rounds.opened ≡ state.round_open
  pub more : state.round_open ≡ true → length state.rounds < plan.updates.rounds
  pub halts : is_some state.stopped ≡ true → (is_some state.stop ≡ true) × (state.round_open ≡ false)
  pub answered : own.answered ≡ has_answer state.rounds
  pub wait : own.wait ≡ wait_now plan first state
  pub find : IsOpenFindOf own.connections.begun own.finds.opened state.find_open
  pub waiting : map waiting_of own.connections.waiting ≡ state.waiting
  pub no_more : own.no_more ≡ state.no_more
  pub stop : own.stop ≡ state.stop

-- ---- how often an object failed

-- It failed since, or it did not.
abbrev pub HasFailedSo : Bool → ℕ → ℕ → Type 0
HasFailedSo true before now = Rose before now
HasFailedSo false before now = now ≡ before

pub record AreFaultsSo (state : MirrorState) (before now : FaultsSeen) : Type 0 where
  pub output : HasFailedSo state.output_failed before.output now.output
  pub keeper : HasFailedSo state.keeper_failed before.keeper now.keeper
  pub door : HasFailedSo state.door_failed before.door now.door

-- ---- the run

-- A run that began so has come to this state: each object tells its part of it.
pub record IsRunSo (plan : MirrorPlan) (start : RunStart) (state : MirrorState) (own : MirrorOwn) (seen : MirrorOutside) : Type 0 where
  pub is : IsStateOf plan start.first state own
  pub rounds : AreRoundsSo plan start state.rounds state.stopped own.rounds seen.updates seen.keeper
  pub finds : HasPassedFinds plan.updates.target plan.updates.need_digest (passing_start start) state.finds own.finds seen.finds
  pub connections : HasConnections start.outside.door state.taken state.over own.connections seen.door
  pub printed : seen.output ≡ appended start.outside.output state.printed
  pub readings : IfTold seen.readings (with_more start.outside.readings state.readings)
  pub none_come : state.no_more ≡ true → IfTold seen.door.coming (Some [])
  pub faults : AreFaultsSo state start.outside.faults seen.faults
  pub same_updates : seen.updates.objects ≡ start.outside.updates.objects
  pub same_finds : seen.finds.objects ≡ start.outside.finds.objects

-- These events happened since a run began, the newest of which stands first, each when it might.
pub record HasRunSo (plan : MirrorPlan) (start : RunStart) (events : List MirrorEvent) (own : MirrorOwn) (seen : MirrorOutside) : Type 0 where
  pub may : MayAllCome plan start.first before_all events
  pub so : IsRunSo plan start (after_events start.first before_all events) own seen
