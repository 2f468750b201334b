-- A proxy at one moment of its run, as what happened so far tells it.
use Rattle.std.specs.Prelude.{ℕ, Bool, true, false, nat_le, not, ◌&&◌, List, [], map, length, Option, None}
use Rattle.find_desk.specs.Desk.{DeskStart}
use Rattle.proxy_run.specs.LookState.{LookState, no_looks}
use Rattle.proxy_run.specs.declared.stop.ProxyStop.{ProxyStop}
use Rattle.sb_model.specs.declared.time.Moment.{Moment}
use Rattle.sb_round.specs.Round.{Round, RoundState}
use Rattle.sb_round.specs.Rounds.{round_updates, waits_after_rounds}
use Rattle.sb_round.specs.Run.{lists_after}
use Rattle.update_client.specs.Held.{Held}
use Rattle.wait_rules.specs.declared.waits.WaitState.{WaitState}

-- What a proxy began with: its lists and when its first round may begin, and its desk.
pub record ProxyFirst : Type 0 where
  pub client : RoundState
  pub desk : DeskStart

-- What a turn does: it begins what is due, and then ends what is answered and takes a connection. Between two turns nothing is done, and at the
-- end of the run what is open is ended.
pub data ProxyPhase : Type 0 where
  Between : ProxyPhase
  Beginning : ProxyPhase
  Ending : ProxyPhase
  Finishing : ProxyPhase

-- No further round is made: why, what was printed before, and how much of the last round's lines was written.
pub record StoppedUpdates : Type 0 where
  pub why : ProxyStop
  pub before : List ℕ
  pub written : List ℕ

pub record ProxyState : Type 0 where
  -- the rounds that are over, whether one is open, and why no further one is made
  pub rounds : List Round
  pub round_open : Bool
  pub stopped : Option StoppedUpdates
  -- the look-ups that it holds, what was printed, and what ended the run before its end
  pub looks : LookState
  -- how many turns were begun, what the clock of the run read, the last of it, and what the turn does
  pub turns : ℕ
  pub readings : List Moment
  pub now : Moment
  pub phase : ProxyPhase
  -- whether no more connections come, and whether the keeper and the door failed
  pub no_more : Bool
  pub keeper_failed : Bool
  pub door_failed : Bool

-- what it begins with
abbrev pub before_proxy : ProxyState
before_proxy = record {
  rounds = [];
  round_open = false;
  stopped = None;
  looks = no_looks;
  turns = 0;
  readings = [];
  now = record { 0 = 0 };
  phase = Between;
  no_more = false;
  keeper_failed = false;
  door_failed = false;
}

-- whether the run comes to its end
abbrev pub is_finishing : ProxyPhase → Bool
is_finishing Finishing = true
is_finishing other = false

-- ---- what it holds

abbrev pub proxy_lists : ProxyFirst → ProxyState → List Held
proxy_lists first state = lists_after first.client.lists (map round_updates state.rounds)

-- ---- what is due

-- when the next round may begin
abbrev pub proxy_round_waits : ProxyFirst → ProxyState → WaitState
proxy_round_waits first state = waits_after_rounds first.client.waits state.rounds

-- whether a round is due, of so many: none is open, some are left, and its allowed moment has come
abbrev pub proxy_round_is_due : ℕ → ProxyFirst → ProxyState → Bool
proxy_round_is_due most first state =
    not state.round_open && not (nat_le most (length state.rounds)) && nat_le (proxy_round_waits first state).allowed_at.0 state.now.0
