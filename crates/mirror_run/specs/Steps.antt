-- What the steps of a run of a mirror keep to.
use Rattle.std.specs.Prelude.{◌≡◌, ◌≤◌, ◌⊎◌, ℕ, Bool, true, false, nat_le, List, [], ◌∷◌, ◌++◌, Option, None, Some, is_some, ⊤}
use Rattle.http_serving.specs.declared.ends.ConnectionEnd.{ConnectionEnd}
use Rattle.http_serving.specs.declared.ends.ConnectionEnd.TheVariants as end
use Rattle.mirror_connections.specs.Open.{ConnectionsSeen, FindSeen, HasConnections, WaitingSeen}
use Rattle.mirror_connections.specs.Over.{DoorSeen, OverConnection}
use Rattle.mirror_rounds.specs.Rounds.{next_round_at}
use Rattle.mirror_run.specs.Allowed.{HasNothingLeft, IsToldSo}
use Rattle.mirror_run.specs.Events.{LineEnd, MirrorEvent, after_events, stop_after_line, is_cut_by_output, line_written}
use Rattle.mirror_run.specs.SoFar.{HasFailedSo, HasRunSo, MirrorOutside, MirrorOwn, RunStart}
use Rattle.mirror_run.specs.State.{MirrorState, Phase, before_all, waited_long}
use Rattle.mirror_run.specs.State.Phase.{Between, Finishing}
use Rattle.mirror_run.specs.declared.plan.MirrorPlan.{MirrorPlan}
use Rattle.mirror_run.specs.declared.stop.MirrorStop.{MirrorStop}
use Rattle.mirror_serving.specs.Response.{MirrorServed}
use Rattle.mirror_serving.specs.declared.fate.FindFate.{FindFate}
use Rattle.sb_model.specs.declared.time.Moment.{Moment}
use Rattle.sb_outside.specs.Outside.{appended}
use Rattle.wait_rules.specs.Waits.{may_send_at}

-- whether a moment has come, if there is one
abbrev pub is_due_at : Option Moment → Moment → Bool
is_due_at None now = false
is_due_at (Some at) now = nat_le at.0 now.0

-- Where a run stands between two steps: what its turn does, what its clock read last, and how many turns were begun.
pub record RunAt : Type 0 where
  pub phase : Phase
  pub now : Moment
  pub turns : ℕ

abbrev pub run_at : Phase → Moment → ℕ → RunAt
run_at phase now turns = record { phase = phase; now = now; turns = turns }

pub record StandsAt (at : RunAt) (state : MirrorState) : Type 0 where
  pub left : HasNothingLeft state
  pub phase : state.phase ≡ at.phase
  pub now : state.now ≡ at.now
  pub turns : state.turns ≡ at.turns

-- A run that began so stands there.
pub record RunsSo (at : RunAt) (plan : MirrorPlan) (start : RunStart) (own : MirrorOwn) (seen : MirrorOutside) : Type 0 where
  pub events : List MirrorEvent
  pub has : HasRunSo plan start events own seen
  pub stands : StandsAt at (after_events start.first before_all events)

-- Some run stands there.
abbrev pub IsRunning : RunAt → MirrorPlan → MirrorOwn → MirrorOutside → Type 0
IsRunning at plan own seen = (start : RunStart) × RunsSo at plan start own seen

-- The run goes on: it stood there, and now it stands here.
abbrev pub RunGoesOn : (before after : RunAt) → MirrorPlan → (own own' : MirrorOwn) → (seen seen' : MirrorOutside) → Type 0
RunGoesOn before after plan own own' seen seen' = (start : RunStart) → RunsSo before plan start own seen → RunsSo after plan start own' seen'

-- ---- one connection

-- A line was printed, or a front of it: this is what it ends, and the output failed so.
pub record PrintsLine (one : OverConnection) (told : LineEnd) (stop stop' : Option MirrorStop) (output output' : Option (List ℕ)) (faults faults' : ℕ) : Type 0 where
  pub is_told : IsToldSo one told
  pub written : output' ≡ appended output (line_written one told)
  pub ends : stop' ≡ stop_after_line stop told
  pub failed : HasFailedSo (is_cut_by_output told) faults faults'

-- the mirror that answers with a fate
abbrev pub served_now : MirrorOwn → FindFate → MirrorServed
served_now own fate = record { places = own.rounds.places; wait = own.wait; fate = fate }

-- What is known of a mirror's connections: what its door told at first, what those that were taken had to give, and those that are over.
pub record ConnectionsGiven : Type 0 where
  pub start : DoorSeen
  pub taken : List (List (List ℕ))
  pub over : List OverConnection

abbrev pub given_so : DoorSeen → List (List (List ℕ)) → List OverConnection → ConnectionsGiven
given_so start taken over = record { start = start; taken = taken; over = over }

-- The connection of this number was answered by this server, ended so, and was given back and told; these connections are left. Nothing else of
-- the mirror changed, and nothing else outside.
pub record GivesOne (number : ℕ) (server : MirrorServed) (Ends : ConnectionEnd → Type 0) (left : ConnectionsSeen) (given : ConnectionsGiven)
    (own own' : MirrorOwn) (seen seen' : MirrorOutside) : Type 0 where
  pub one : OverConnection
  pub told : LineEnd
  pub number_is : one.number ≡ number
  pub server_is : one.server ≡ server
  pub ends : Ends one.how
  pub has : HasConnections given.start given.taken (given.over ++ one ∷ []) left seen'.door
  pub prints : PrintsLine one told own.stop own'.stop seen.output seen'.output seen.faults.output seen'.faults.output
  pub own_is : own' ≡ record own { connections = left; stop = own'.stop }
  pub seen_is : seen' ≡ record seen { output = seen'.output; door = seen'.door; faults = record seen.faults { output = seen'.faults.output } }
  pub coming : seen'.door.coming ≡ seen.door.coming

-- the same of the one whose find was begun
abbrev pub GivesBegun : MirrorServed → (ConnectionEnd → Type 0) → DoorSeen → List (List (List ℕ)) → List OverConnection → (own own' : MirrorOwn) → (seen seen' : MirrorOutside) → Type 0
GivesBegun server Ends start taken over own own' seen seen' =
    (find : FindSeen) × (own.connections.begun ≡ Some find)
    × GivesOne find.number server Ends (record own.connections { begun = None }) (given_so start taken over) own own' seen seen'

-- the same of the one that waited longest
abbrev pub GivesFirst : MirrorServed → (ConnectionEnd → Type 0) → DoorSeen → List (List (List ℕ)) → List OverConnection → (own own' : MirrorOwn) → (seen seen' : MirrorOutside) → Type 0
GivesFirst server Ends start taken over own own' seen seen' =
    (first : WaitingSeen) × (rest : List WaitingSeen) × (own.connections.waiting ≡ first ∷ rest)
    × GivesOne first.find.number server Ends (record own.connections { waiting = rest }) (given_so start taken over) own own' seen seen'

-- however it ends
abbrev pub Anyhow : ConnectionEnd → Type 0
Anyhow how = ⊤

abbrev pub WithoutMemory : ConnectionEnd → Type 0
WithoutMemory how = how ≡ end.OutOfMemory

-- ---- what is due

-- whether a round is due, of so many
abbrev pub own_round_is_due : ℕ → MirrorOwn → Moment → Bool
own_round_is_due most own now = is_due_at (next_round_at most own.rounds) now

-- What is to be done with the find that waits longest, if one waits: it waited too long, or no find is open.
abbrev pub FindIsDue : Moment → MirrorOwn → Type 0
FindIsDue now own =
    (first : WaitingSeen) × (rest : List WaitingSeen) × (own.connections.waiting ≡ first ∷ rest)
    × ((waited_long now first.heard ≡ true) ⊎ (own.finds.opened ≡ None))

abbrev pub NoFindIsDue : Moment → MirrorOwn → Type 0
NoFindIsDue now own =
    (own.connections.waiting ≡ []) ⊎ ((first : WaitingSeen) × (rest : List WaitingSeen) × (own.connections.waiting ≡ first ∷ rest)
    × (waited_long now first.heard ≡ false) × (is_some own.finds.opened ≡ true))

-- The find that waits longest may be sent on: none is open, it did not wait too long, and its session may begin.
pub record MayBegin (now : Moment) (own : MirrorOwn) : Type 0 where
  pub first : WaitingSeen
  pub rest : List WaitingSeen
  pub waits : own.connections.waiting ≡ first ∷ rest
  pub in_time : waited_long now first.heard ≡ false
  pub none_open : own.finds.opened ≡ None
  pub may : may_send_at own.finds.waits now ≡ true

-- Why it may not: it waited too long, a find is open, or its session may not begin yet.
abbrev pub MayNotBegin : Moment → MirrorOwn → Type 0
MayNotBegin now own = (first : WaitingSeen) (rest : List WaitingSeen) → own.connections.waiting ≡ first ∷ rest
    → (waited_long now first.heard ≡ true) ⊎ (is_some own.finds.opened ≡ true) ⊎ (may_send_at own.finds.waits now ≡ false)

-- ---- how it begins

-- A run that began so did nothing yet.
abbrev pub BeginsSo : MirrorPlan → RunStart → MirrorOwn → MirrorOutside → Type 0
BeginsSo plan start own seen = (now : Moment) × RunsSo (run_at Between now 0) plan start own seen

-- ---- how its turns end

-- Why no further turn comes: something ended the run, no more connections come, or all were taken.
abbrev pub IsLast : MirrorPlan → MirrorOwn → Type 0
IsLast plan own = (is_some own.stop ≡ true) ⊎ (own.no_more ≡ true) ⊎ (plan.connections ≤ own.connections.taken)

-- Turns were taken until no further one comes, and the run comes to its end.
abbrev pub EndsTurns : MirrorPlan → (own own' : MirrorOwn) → (seen seen' : MirrorOutside) → Type 0
EndsTurns plan own own' seen seen' =
    (start : RunStart) → BeginsSo plan start own seen → (now : Moment) × (turns : ℕ) × RunsSo (run_at Finishing now turns) plan start own' seen'
