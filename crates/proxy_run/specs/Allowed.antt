-- When each step of a run of a proxy may come. What has to come first stands here too: so a step that is left out lets no further one come.
use Rattle.std.specs.Prelude.{◌≡◌, ◌⊎◌, ◌<◌, ◌≤◌, ◌-◌, ◌^◌, true, false, List, [], ◌∷◌, length, None, ⊤, is_some}
use Rattle.proxy_run.specs.Events.{ProxyEvent, after_proxy_events}
use Rattle.proxy_run.specs.Events.ProxyEvent.{TurnBegun, RoundBegun, RoundOver, RoundsStopped, AllBegun, ClockRead, LookDone, NothingCame, NoMoreCame, DoorFailed, RunEnding}
use Rattle.proxy_run.specs.LookAllowed.{HasNoLookLeft, LookAt, MayLookEventCome, look_at, next_find_waits}
use Rattle.proxy_run.specs.LookEvents.{LookEvent}
use Rattle.proxy_run.specs.LookEvents.LookEvent.{FindBegan, Taken}
use Rattle.proxy_run.specs.LookSteps.{IsToSettle}
use Rattle.proxy_run.specs.State.{ProxyFirst, ProxyState, is_finishing, proxy_lists, proxy_round_is_due}
use Rattle.proxy_run.specs.State.ProxyPhase.{Between, Beginning, Ending, Finishing}
use Rattle.proxy_run.specs.declared.plan.ProxyPlan.{ProxyPlan}
use Rattle.wait_rules.specs.Waits.{may_send_at}

-- the place at which a step of the look-ups comes
abbrev pub proxy_look_at : ProxyPlan → ProxyFirst → ProxyState → LookAt
proxy_look_at plan first state = look_at plan first.desk (proxy_lists first state) state.now (is_finishing state.phase)

-- ---- what comes before all else

-- All was begun that is due: no round is, and nobody waits, a find is open, or the next may not begin yet.
pub record HasBegunAllDue (plan : ProxyPlan) (first : ProxyFirst) (state : ProxyState) : Type 0 where
  pub rounds : proxy_round_is_due plan.updates.rounds first state ≡ false
  pub finds :
      (state.looks.waiting ≡ []) ⊎ (is_some state.looks.find_open ≡ true)
      ⊎ (may_send_at (next_find_waits (proxy_look_at plan first state) state.looks) state.now ≡ false)

-- ---- when a step may come

pub record MayBeginProxyTurn (plan : ProxyPlan) (state : ProxyState) : Type 0 where
  pub left : HasNoLookLeft state.looks
  pub phase : state.phase ≡ Between
  pub goes_on : state.looks.stop ≡ None
  pub more_come : state.no_more ≡ false
  pub more : length state.looks.taken < plan.connections

-- The clock is read if a connection came, or if a find is over, before those who waited for it are settled.
abbrev pub MayReadClock : ProxyState → Type 0
MayReadClock state =
    (HasNoLookLeft state.looks × (state.phase ≡ Ending))
    ⊎ (IsToSettle state.looks × (state.looks.find_open ≡ None))

-- A connection is taken at the end of a turn, if the run goes on and more are to be taken; and a find is begun at the beginning of a turn.
abbrev pub MayLookInTurn : ProxyPlan → ProxyState → LookEvent → Type 0
MayLookInTurn plan state (Taken pieces received) = (state.phase ≡ Ending) × (state.looks.stop ≡ None) × (length state.looks.taken < plan.connections)
MayLookInTurn plan state (FindBegan find) = state.phase ≡ Beginning
MayLookInTurn plan state other = ⊤

-- Why no further turn comes: something ended the run, no more connections come, all were taken, or as many turns were taken as are counted.
abbrev pub IsLastProxyTurn : ProxyPlan → ProxyState → Type 0
IsLastProxyTurn plan state =
    (is_some state.looks.stop ≡ true) ⊎ (state.no_more ≡ true) ⊎ (plan.connections ≤ length state.looks.taken) ⊎ (state.turns ≡ 2 ^ 64 - 1)

abbrev pub MayProxyEventCome : ProxyPlan → ProxyFirst → ProxyState → ProxyEvent → Type 0
MayProxyEventCome plan first state (TurnBegun now) = MayBeginProxyTurn plan state
MayProxyEventCome plan first state RoundBegun =
    HasNoLookLeft state.looks × (state.phase ≡ Beginning) × (state.looks.stop ≡ None) × (proxy_round_is_due plan.updates.rounds first state ≡ true)
MayProxyEventCome plan first state (RoundOver round) = HasNoLookLeft state.looks × (state.round_open ≡ true)
MayProxyEventCome plan first state (RoundsStopped why written) =
    HasNoLookLeft state.looks × ((state.round_open ≡ true) ⊎ ((state.phase ≡ Beginning) × (proxy_round_is_due plan.updates.rounds first state ≡ true)))
MayProxyEventCome plan first state AllBegun =
    HasNoLookLeft state.looks × (state.phase ≡ Beginning) × (HasBegunAllDue plan first state ⊎ (is_some state.looks.stop ≡ true))
MayProxyEventCome plan first state (ClockRead now) = MayReadClock state
MayProxyEventCome plan first state (LookDone one) = MayLookEventCome (proxy_look_at plan first state) state.looks one × MayLookInTurn plan state one
MayProxyEventCome plan first state NothingCame = HasNoLookLeft state.looks × (state.phase ≡ Ending)
MayProxyEventCome plan first state NoMoreCame = HasNoLookLeft state.looks × (state.phase ≡ Ending)
MayProxyEventCome plan first state DoorFailed = HasNoLookLeft state.looks × (state.phase ≡ Ending)
MayProxyEventCome plan first state RunEnding = HasNoLookLeft state.looks × (state.phase ≡ Between) × IsLastProxyTurn plan state

-- each of some events, of which the newest stands first, may come after those before it
abbrev pub MayAllProxyEventsCome : ProxyPlan → ProxyFirst → ProxyState → List ProxyEvent → Type 0
MayAllProxyEventsCome plan first state [] = ⊤
MayAllProxyEventsCome plan first state (one ∷ earlier) =
    MayProxyEventCome plan first (after_proxy_events first state earlier) one × MayAllProxyEventsCome plan first state earlier

-- A run has come to its end: nothing is open, nobody waits, and the counts were told.
pub record HasProxyCome (state : ProxyState) : Type 0 where
  pub left : HasNoLookLeft state.looks
  pub ended : state.phase ≡ Finishing
  pub no_round : state.round_open ≡ false
  pub no_find : state.looks.find_open ≡ None
  pub nobody : state.looks.waiting ≡ []
  pub counted : state.looks.counted ≡ true
