-- What the objects outside a proxy tell of a run so far.
use Rattle.std.specs.Prelude.{◌≡◌, ◌⊎◌, ◌<◌, ℕ, Bool, true, false, List, [], ◌++◌, length, Option, Some, None, is_some}
use Rattle.client_line.specs.Lines.{LineView}
use Rattle.client_rounds.specs.Ended.{ClientRoundView, StopsClientRound, client_round_view}
use Rattle.client_rounds.specs.Rounds.{ClientSeen, ClientStart, HasKeptRounds}
use Rattle.proxy_run.specs.Allowed.{MayAllProxyEventsCome}
use Rattle.proxy_run.specs.Events.{ProxyEvent, after_proxy_events}
use Rattle.proxy_run.specs.LookSoFar.{HasOutputFailed, HoldLooksSo, LookOutside, LookOwn, LookStart}
use Rattle.proxy_run.specs.State.{ProxyFirst, ProxyState, StoppedUpdates, before_proxy}
use Rattle.proxy_run.specs.declared.plan.ProxyPlan.{ProxyPlan}
use Rattle.proxy_run.specs.declared.stop.ProxyStop.{ProxyStop}
use Rattle.proxy_run.specs.declared.stop.ProxyStop.TheVariants as stop
use Rattle.sb_model.specs.declared.time.Moment.{Moment}
use Rattle.sb_outside.specs.Outside.{IfTold, appended}
use Rattle.sb_round.specs.Round.{BreaksOff, Round}
use Rattle.timed_sessions.specs.Told.{with_more}
use Rattle.update_run.specs.Saved.{Keeping}
use Rattle.update_run.specs.declared.stop.RunStop.{RunStop}
use Rattle.update_run.specs.declared.stop.RunStop.TheVariants as run_stop

-- ---- the program's own values, and what is seen outside

-- A proxy's own values: its rounds, for each size whether a prefix on its lists has it, its look-ups, and whether no more connections come.
pub record ProxyOwn : Type 0 where
  pub rounds : ClientSeen
  pub marks : List Bool
  pub looks : LookOwn
  pub no_more : Bool

-- What stands outside a proxy, as it is seen: the line of its updates, what its keeper tells and how often it failed, what its clock read, and
-- what stands outside its look-ups.
pub record ProxyOutside : Type 0 where
  pub updates : LineView
  pub keeper : Keeping
  pub keeper_faults : ℕ
  pub readings : Option (List Moment)
  pub looks : LookOutside

-- What a run began with: what the proxy began with, and what stood outside it then.
pub record ProxyStart : Type 0 where
  pub first : ProxyFirst
  pub outside : ProxyOutside

abbrev pub updates_start : ProxyStart → ClientStart
updates_start start = record { state = start.first.client; line = start.outside.updates; keeper = start.outside.keeper }

abbrev pub proxy_looks_start : ProxyStart → LookStart
proxy_looks_start start = record { desk = start.first.desk; outside = start.outside.looks }

-- ---- the rounds

abbrev pub proxy_cause_of : RunStop → ProxyStop
proxy_cause_of run_stop.WriteFault = stop.WriteFault
proxy_cause_of run_stop.KeepFault = stop.KeepFault
proxy_cause_of run_stop.OutOfMemory = stop.OutOfMemory

-- The next round was not begun, since memory was refused.
pub record StopsBeforeUpdate (plan : ProxyPlan) (before : ClientSeen) (stopped : StoppedUpdates) (view view' : ClientRoundView) : Type 0 where
  pub memory : stopped.why ≡ stop.OutOfMemory
  pub nothing : stopped.written ≡ []
  pub breaks : BreaksOff before.state.lists before.state.waits plan.updates.options plan.updates.target view.line.told view'.line.told
  pub keeper : view'.keeper ≡ view.keeper

-- The round that was open was ended, and the proxy stopped in it or when it told it.
pub record StopsInLastUpdate (plan : ProxyPlan) (start : ProxyStart) (rounds : List Round) (before : ClientSeen) (stopped : StoppedUpdates) (view view' : ClientRoundView) : Type 0 where
  pub why : RunStop
  pub why_is : stopped.why ≡ proxy_cause_of why
  pub stops : StopsClientRound why plan.updates (updates_start start) rounds before view view'

-- These rounds were made, and then no further one.
pub record HasStoppedUpdates (plan : ProxyPlan) (start : ProxyStart) (rounds : List Round) (stopped : StoppedUpdates) (line : LineView) (keeper : Keeping) : Type 0 where
  pub before : ClientSeen
  pub line_then : LineView
  pub keeper_then : Keeping
  pub made : HasKeptRounds plan.updates (updates_start start) rounds before line_then keeper_then
  pub stops :
      StopsInLastUpdate plan start rounds before stopped (client_round_view line_then keeper_then (appended start.outside.looks.output stopped.before))
      (client_round_view line keeper (appended start.outside.looks.output (stopped.before ++ stopped.written)))
      ⊎ StopsBeforeUpdate plan before stopped (client_round_view line_then keeper_then (appended start.outside.looks.output stopped.before))
      (client_round_view line keeper (appended start.outside.looks.output (stopped.before ++ stopped.written)))

-- The rounds that are over were made, and one may be open; or no further one is made.
abbrev pub AreUpdatesSo : ProxyPlan → ProxyStart → List Round → Option StoppedUpdates → ClientSeen → LineView → Keeping → Type 0
AreUpdatesSo plan start rounds None own line keeper = HasKeptRounds plan.updates (updates_start start) rounds own line keeper
AreUpdatesSo plan start rounds (Some stopped) own line keeper = HasStoppedUpdates plan start rounds stopped line keeper

-- ---- the run

-- A run that began so has come to this state: each object tells its part of it.
pub record IsProxySo (plan : ProxyPlan) (start : ProxyStart) (state : ProxyState) (own : ProxyOwn) (seen : ProxyOutside) : Type 0 where
  pub round_open : is_some own.rounds.opened ≡ state.round_open
  pub more : state.round_open ≡ true → length state.rounds < plan.updates.rounds
  pub halts : is_some state.stopped ≡ true → (is_some state.looks.stop ≡ true) × (state.round_open ≡ false)
  pub no_more : own.no_more ≡ state.no_more
  pub rounds : AreUpdatesSo plan start state.rounds state.stopped own.rounds seen.updates seen.keeper
  pub looks : HoldLooksSo plan (proxy_looks_start start) state.looks own.looks seen.looks
  pub readings : IfTold seen.readings (with_more start.outside.readings state.readings)
  pub none_come : state.no_more ≡ true → IfTold seen.looks.door.coming (Some [])
  pub keeper_faults : HasOutputFailed state.keeper_failed start.outside.keeper_faults seen.keeper_faults
  pub door_faults : HasOutputFailed state.door_failed start.outside.looks.door_faults seen.looks.door_faults
  pub same_updates : seen.updates.objects ≡ start.outside.updates.objects

-- These events happened since a run began, the newest of which stands first, each when it might.
pub record HasProxyRun (plan : ProxyPlan) (start : ProxyStart) (events : List ProxyEvent) (own : ProxyOwn) (seen : ProxyOutside) : Type 0 where
  pub may : MayAllProxyEventsCome plan start.first before_proxy events
  pub so : IsProxySo plan start (after_proxy_events start.first before_proxy events) own seen
