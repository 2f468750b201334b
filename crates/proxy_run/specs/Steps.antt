-- What the steps of a run of a proxy keep to.
use Rattle.std.specs.Prelude.{◌≡◌, ◌≤◌, ◌⊎◌, ℕ, Bool, true, false, nat_le, List, Option, None, Some, is_some}
use Rattle.client_rounds.specs.Rounds.{next_client_round_at}
use Rattle.proxy_run.specs.Events.{ProxyEvent, after_proxy_events}
use Rattle.proxy_run.specs.LookAllowed.{HasNoLookLeft}
use Rattle.proxy_run.specs.SoFar.{HasProxyRun, ProxyOutside, ProxyOwn, ProxyStart}
use Rattle.proxy_run.specs.State.{ProxyPhase, ProxyState, before_proxy}
use Rattle.proxy_run.specs.State.ProxyPhase.{Between, Finishing}
use Rattle.proxy_run.specs.declared.plan.ProxyPlan.{ProxyPlan}
use Rattle.sb_model.specs.declared.time.Moment.{Moment}

-- whether a moment has come, if there is one
abbrev pub has_moment_come : Option Moment → Moment → Bool
has_moment_come None now = false
has_moment_come (Some at) now = nat_le at.0 now.0

-- Where a run stands between two steps: what its turn does, what its clock read last, and how many turns were begun.
pub record ProxyAt : Type 0 where
  pub phase : ProxyPhase
  pub now : Moment
  pub turns : ℕ

abbrev pub proxy_at : ProxyPhase → Moment → ℕ → ProxyAt
proxy_at phase now turns = record { phase = phase; now = now; turns = turns }

pub record ProxyStandsAt (at : ProxyAt) (state : ProxyState) : Type 0 where
  pub left : HasNoLookLeft state.looks
  pub uncounted : state.looks.counted ≡ false
  pub phase : state.phase ≡ at.phase
  pub now : state.now ≡ at.now
  pub turns : state.turns ≡ at.turns

-- A run that began so stands there, and no find is over by which somebody is to be settled.
pub record RunsProxySo (at : ProxyAt) (plan : ProxyPlan) (start : ProxyStart) (own : ProxyOwn) (seen : ProxyOutside) : Type 0 where
  pub events : List ProxyEvent
  pub has : HasProxyRun plan start events own seen
  pub stands : ProxyStandsAt at (after_proxy_events start.first before_proxy events)
  pub none_over : own.looks.ended ≡ None

-- Some run stands there.
abbrev pub IsProxyRunning : ProxyAt → ProxyPlan → ProxyOwn → ProxyOutside → Type 0
IsProxyRunning at plan own seen = (start : ProxyStart) × RunsProxySo at plan start own seen

-- The run goes on: it stood there, and now it stands here.
abbrev pub ProxyGoesOn : (before after : ProxyAt) → ProxyPlan → (own own' : ProxyOwn) → (seen seen' : ProxyOutside) → Type 0
ProxyGoesOn before after plan own own' seen seen' = (start : ProxyStart) → RunsProxySo before plan start own seen → RunsProxySo after plan start own' seen'

-- The same, but the clock may have been read, after what it read last.
abbrev pub ProxyGoesLater : ProxyPhase → ℕ → ProxyPlan → (own own' : ProxyOwn) → (seen seen' : ProxyOutside) → Type 0
ProxyGoesLater phase turns plan own own' seen seen' =
    (now : Moment) → (later : Moment) × ProxyGoesOn (proxy_at phase now turns) (proxy_at phase later turns) plan own own' seen seen'

-- ---- what is due

-- whether a round is due, of so many
abbrev pub own_update_is_due : ℕ → ProxyOwn → Moment → Bool
own_update_is_due most own now = has_moment_come (next_client_round_at most own.rounds) now

-- ---- how it begins

-- A run that began so did nothing yet.
abbrev pub ProxyBeginsSo : ProxyPlan → ProxyStart → ProxyOwn → ProxyOutside → Type 0
ProxyBeginsSo plan start own seen = (now : Moment) × RunsProxySo (proxy_at Between now 0) plan start own seen

-- ---- how its turns end

-- Why no further turn comes: something ended the run, no more connections come, or all were taken.
abbrev pub IsLastOfProxy : ProxyPlan → ProxyOwn → Type 0
IsLastOfProxy plan own = (is_some own.looks.stop ≡ true) ⊎ (own.no_more ≡ true) ⊎ (plan.connections ≤ own.looks.connections.taken)

-- Turns were taken until no further one comes, and the run comes to its end.
abbrev pub EndsProxyTurns : ProxyPlan → (own own' : ProxyOwn) → (seen seen' : ProxyOutside) → Type 0
EndsProxyTurns plan own own' seen seen' =
    (start : ProxyStart) → ProxyBeginsSo plan start own seen → (now : Moment) × (turns : ℕ) × RunsProxySo (proxy_at Finishing now turns) plan start own' seen'
