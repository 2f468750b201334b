-- A whole run of a mirror: how it begins, and how it ends.
use Rattle.std.specs.Prelude.{◌≡◌, ◌⊎◌, ◌+◌, ◌*◌, ◌^◌, ℕ, List, [], ◌∷◌, Option, Some}
use Rattle.client_line.specs.Lines.{Draws, LineView, ReadsClock}
use Rattle.mirror_run.specs.Allowed.{HasCome}
use Rattle.mirror_run.specs.Events.{MirrorEvent, after_events}
use Rattle.mirror_run.specs.SoFar.{HasRunSo, MirrorOutside, MirrorOwn, RunStart}
use Rattle.mirror_run.specs.State.{before_all}
use Rattle.mirror_run.specs.declared.plan.MirrorPlan.{MirrorPlan}
use Rattle.mirror_run.specs.declared.stop.MirrorStop.{MirrorStop}
use Rattle.mirror_run.specs.declared.stop.MirrorStop.TheVariants as stop
use Rattle.sb_model.specs.declared.time.Moment.{Moment}
use Rattle.sb_outside.specs.Outside.{Rose, appended}
use Rattle.mirror_run.specs.Steps.{BeginsSo}
use Rattle.update_client.specs.Held.{Held}
use Rattle.update_run.specs.Opening.{HasLoaded}
use Rattle.wait_rules.specs.Waits.{first_state}
use Rattle.wait_rules.specs.declared.waits.WaitState.{WaitState}

-- ---- how it begins

-- Two words were drawn, which are the high and the low half of the epoch.
pub record DrawsMirrorEpoch (epoch : ℕ) (before after : LineView) : Type 0 where
  pub between : LineView
  pub high : ℕ
  pub low : ℕ
  pub first : Draws (high ∷ []) before between
  pub second : Draws (low ∷ []) between after
  pub is : epoch ≡ high * 2 ^ 32 + low

-- A clock was read and a word was drawn, which say when the first session of the line may begin.
pub record BeginsWaiting (waits : WaitState) (before after : LineView) : Type 0 where
  pub between : LineView
  pub start : Moment
  pub word : ℕ
  pub reads : ReadsClock start before between
  pub draws : Draws (word ∷ []) between after
  pub is : waits ≡ first_state start word

-- A mirror loaded the lists that its keeper keeps, told of a store that is ignored, and drew its epoch and when its first round and its first
-- find may begin. Nothing else was done outside it.
pub record OpensMirror (plan : MirrorPlan) (start : RunStart) (before : MirrorOutside) : Type 0 where
  pub text : List ℕ
  pub loaded : HasLoaded plan.updates.names before.keeper.kept start.first.client.lists [] text
  pub printed : start.outside.output ≡ appended before.output text
  pub between : LineView
  pub epoch : DrawsMirrorEpoch start.first.epoch before.updates between
  pub round : BeginsWaiting start.first.client.waits between start.outside.updates
  pub find : BeginsWaiting start.first.finds before.finds start.outside.finds
  pub keeper : start.outside.keeper ≡ before.keeper
  pub readings : start.outside.readings ≡ before.readings
  pub door : start.outside.door ≡ before.door
  pub faults : start.outside.faults ≡ before.faults

-- A mirror with these lists drew its epoch and when its first round and its first find may begin, and a run begins with it.
pub record DrawsBeginning (plan : MirrorPlan) (lists : List Held) (own : MirrorOwn) (before after : MirrorOutside) : Type 0 where
  pub start : RunStart
  pub outside : start.outside ≡ after
  pub lists_are : start.first.client.lists ≡ lists
  pub between : LineView
  pub epoch : DrawsMirrorEpoch start.first.epoch before.updates between
  pub round : BeginsWaiting start.first.client.waits between after.updates
  pub find : BeginsWaiting start.first.finds before.finds after.finds
  pub others : after ≡ record before { updates = after.updates; finds = after.finds }
  pub begins : BeginsSo plan start own after

-- ---- where it did not begin

-- which object failed, and no other
abbrev pub FailedAtOpening : MirrorStop → (before after : MirrorOutside) → Type 0
FailedAtOpening stop.WriteFault before after =
    Rose before.faults.output after.faults.output × (after.faults.keeper ≡ before.faults.keeper) × (after.faults.door ≡ before.faults.door)
FailedAtOpening stop.KeepFault before after =
    Rose before.faults.keeper after.faults.keeper × (after.faults.output ≡ before.faults.output) × (after.faults.door ≡ before.faults.door)
FailedAtOpening stop.OutOfMemory before after = after.faults ≡ before.faults
FailedAtOpening stop.DoorFault before after = ⊥

-- The store could not be loaded or told, or memory was refused. No session was begun, no connection was taken, and nothing was saved.
pub record StopsOpening (why : MirrorStop) (before after : MirrorOutside) : Type 0 where
  pub failed : FailedAtOpening why before after
  pub keeper : after.keeper ≡ before.keeper
  pub readings : after.readings ≡ before.readings
  pub door : after.door ≡ before.door
  pub updates : after.updates.told.log ≡ before.updates.told.log
  pub finds : after.finds.told.log ≡ before.finds.told.log

-- ---- how it ends

-- Of a run that began so these events happened, and it has come to its end: nothing is open, each connection that was taken was answered and
-- given back, and what ended it before its end, if something did, is told.
pub record EndsMirror (plan : MirrorPlan) (start : RunStart) (ended : Option MirrorStop) (after : MirrorOutside) : Type 0 where
  pub events : List MirrorEvent
  pub own : MirrorOwn
  pub has : HasRunSo plan start events own after
  pub come : HasCome (after_events start.first before_all events)
  pub ending : ended ≡ (after_events start.first before_all events).stop

-- A run of a mirror: it began and came to its end, or it stopped before it began.
abbrev pub RunsMirror : MirrorPlan → Option MirrorStop → (before after : MirrorOutside) → Type 0
RunsMirror plan ended before after =
    ((start : RunStart) × OpensMirror plan start before × EndsMirror plan start ended after)
    ⊎ ((why : MirrorStop) × (ended ≡ Some why) × StopsOpening why before after)
