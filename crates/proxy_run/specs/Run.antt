-- A whole run of a proxy: how it begins, and how it ends.
use Rattle.std.specs.Prelude.{◌≡◌, ◌⊎◌, ℕ, List, [], ◌∷◌, Option, Some}
use Rattle.client_line.specs.Lines.{Draws, LineView, ReadsClock}
use Rattle.proxy_run.specs.Allowed.{HasProxyCome}
use Rattle.proxy_run.specs.Events.{ProxyEvent, after_proxy_events}
use Rattle.proxy_run.specs.SoFar.{HasProxyRun, ProxyOutside, ProxyOwn, ProxyStart}
use Rattle.proxy_run.specs.State.{before_proxy}
use Rattle.proxy_run.specs.Steps.{ProxyBeginsSo}
use Rattle.proxy_run.specs.declared.plan.ProxyPlan.{ProxyPlan}
use Rattle.proxy_run.specs.declared.stop.ProxyStop.{ProxyStop}
use Rattle.proxy_run.specs.declared.stop.ProxyStop.TheVariants as stop
use Rattle.sb_model.specs.declared.time.Moment.{Moment}
use Rattle.sb_outside.specs.Outside.{Rose, appended}
use Rattle.update_client.specs.Held.{Held}
use Rattle.update_run.specs.Opening.{HasLoaded}
use Rattle.wait_rules.specs.Waits.{first_state}
use Rattle.wait_rules.specs.declared.waits.WaitState.{WaitState}

-- ---- how it begins

-- A clock was read and a word was drawn, which say when the first session of the line may begin.
pub record DrawsFirstWait (waits : WaitState) (before after : LineView) : Type 0 where
  pub between : LineView
  pub start : Moment
  pub word : ℕ
  pub reads : ReadsClock start before between
  pub draws : Draws (word ∷ []) between after
  pub is : waits ≡ first_state start word

-- A proxy loaded the lists that its keeper keeps, told of a store that is ignored, and drew when its first round and its first find may begin.
-- It keeps no answer yet. Nothing else was done outside it.
pub record OpensProxy (plan : ProxyPlan) (start : ProxyStart) (before : ProxyOutside) : Type 0 where
  pub text : List ℕ
  pub loaded : HasLoaded plan.updates.names before.keeper.kept start.first.client.lists [] text
  pub printed : start.outside.looks.output ≡ appended before.looks.output text
  pub round : DrawsFirstWait start.first.client.waits before.updates start.outside.updates
  pub find : DrawsFirstWait start.first.desk.waits before.looks.finds start.outside.looks.finds
  pub kept : start.first.desk.kept ≡ []
  pub line : start.first.desk.line ≡ start.outside.looks.finds
  pub keeper : start.outside.keeper ≡ before.keeper
  pub keeper_faults : start.outside.keeper_faults ≡ before.keeper_faults
  pub readings : start.outside.readings ≡ before.readings
  pub door : start.outside.looks.door ≡ before.looks.door
  pub output_faults : start.outside.looks.output_faults ≡ before.looks.output_faults
  pub door_faults : start.outside.looks.door_faults ≡ before.looks.door_faults

-- A proxy with these lists drew when its first round and its first find may begin, and a run begins with it.
pub record DrawsProxyBeginning (plan : ProxyPlan) (lists : List Held) (own : ProxyOwn) (before after : ProxyOutside) : Type 0 where
  pub start : ProxyStart
  pub outside : start.outside ≡ after
  pub lists_are : start.first.client.lists ≡ lists
  pub round : DrawsFirstWait start.first.client.waits before.updates after.updates
  pub find : DrawsFirstWait start.first.desk.waits before.looks.finds after.looks.finds
  pub kept : start.first.desk.kept ≡ []
  pub line : start.first.desk.line ≡ after.looks.finds
  pub others : after ≡ record before { updates = after.updates; looks = record before.looks { finds = after.looks.finds } }
  pub begins : ProxyBeginsSo plan start own after

-- ---- if it did not begin

-- which object failed, and no other
abbrev pub FailedAtProxyOpening : ProxyStop → (before after : ProxyOutside) → Type 0
FailedAtProxyOpening stop.WriteFault before after =
    Rose before.looks.output_faults after.looks.output_faults × (after.keeper_faults ≡ before.keeper_faults) × (after.looks.door_faults ≡ before.looks.door_faults)
FailedAtProxyOpening stop.KeepFault before after =
    Rose before.keeper_faults after.keeper_faults × (after.looks.output_faults ≡ before.looks.output_faults) × (after.looks.door_faults ≡ before.looks.door_faults)
FailedAtProxyOpening stop.OutOfMemory before after =
    (after.looks.output_faults ≡ before.looks.output_faults) × (after.keeper_faults ≡ before.keeper_faults) × (after.looks.door_faults ≡ before.looks.door_faults)
FailedAtProxyOpening stop.DoorFault before after = ⊥

-- The store could not be loaded or told, or memory was refused. No session was begun, no connection was taken, and nothing was saved.
pub record StopsProxyOpening (why : ProxyStop) (before after : ProxyOutside) : Type 0 where
  pub failed : FailedAtProxyOpening why before after
  pub keeper : after.keeper ≡ before.keeper
  pub readings : after.readings ≡ before.readings
  pub door : after.looks.door ≡ before.looks.door
  pub updates : after.updates.told.log ≡ before.updates.told.log
  pub finds : after.looks.finds.told.log ≡ before.looks.finds.told.log

-- ---- how it ends

-- These events happened in a run that began so, and it has come to its end: nothing is open, each connection that was taken was answered and
-- given back, the counts were told, and what ended it before its end, if something did, is told.
pub record EndsProxy (plan : ProxyPlan) (start : ProxyStart) (ended : Option ProxyStop) (after : ProxyOutside) : Type 0 where
  pub events : List ProxyEvent
  pub own : ProxyOwn
  pub has : HasProxyRun plan start events own after
  pub come : HasProxyCome (after_proxy_events start.first before_proxy events)
  pub ending : ended ≡ (after_proxy_events start.first before_proxy events).looks.stop

-- A run of a proxy: it began and came to its end, or it stopped before it began.
abbrev pub RunsProxy : ProxyPlan → Option ProxyStop → (before after : ProxyOutside) → Type 0
RunsProxy plan ended before after =
    ((start : ProxyStart) × OpensProxy plan start before × EndsProxy plan start ended after)
    ⊎ ((why : ProxyStop) × (ended ≡ Some why) × StopsProxyOpening why before after)
