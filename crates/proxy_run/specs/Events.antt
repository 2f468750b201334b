-- What happens in a run of a proxy, step by step, and what it leaves.
use Rattle.std.specs.Prelude.{◌+◌, ◌||◌, ℕ, Bool, true, false, List, [], ◌∷◌, ◌++◌, length, map, Some}
use Rattle.proxy_run.specs.LookEvents.{LookEvent, after_look_event, first_stop, is_output_fault}
use Rattle.proxy_run.specs.LookEvents.LookEvent.{Taken}
use Rattle.proxy_run.specs.State.{ProxyFirst, ProxyPhase, ProxyState}
use Rattle.proxy_run.specs.State.ProxyPhase.{Between, Beginning, Ending, Finishing}
use Rattle.proxy_run.specs.declared.stop.ProxyStop.{ProxyStop}
use Rattle.proxy_run.specs.declared.stop.ProxyStop.TheVariants as stop
use Rattle.sb_model.specs.declared.time.Moment.{Moment}
use Rattle.sb_round.specs.Round.{Round}
use Rattle.sb_round.specs.Rounds.{round_updates}
use Rattle.sb_round.specs.Run.{lists_after}
use Rattle.update_client.specs.Held.{Held}
use Rattle.update_run.specs.Printed.{round_end, told_end}

pub data ProxyEvent : Type 0 where
  -- the clock was read at the beginning of a turn
  TurnBegun : Moment → ProxyEvent
  -- a round was begun; one was ended, told and saved; or no further one is made, for this cause, and so much of the lines of the last one was
  -- written
  RoundBegun : ProxyEvent
  RoundOver : Round → ProxyEvent
  RoundsStopped : ProxyStop → List ℕ → ProxyEvent
  -- all was begun that was due
  AllBegun : ProxyEvent
  -- the clock was read, since a connection came or a find is over
  ClockRead : Moment → ProxyEvent
  -- a step of the look-ups
  LookDone : LookEvent → ProxyEvent
  -- no connection came in its time; no more come; or the door failed
  NothingCame : ProxyEvent
  NoMoreCame : ProxyEvent
  DoorFailed : ProxyEvent
  -- no further turn comes
  RunEnding : ProxyEvent

-- ---- what it leaves

-- whether the keeper failed
abbrev pub is_keeper_fault : ProxyStop → Bool
is_keeper_fault stop.KeepFault = true
is_keeper_fault other = false

-- the lines of a round after these
abbrev pub proxy_round_text : List Held → List Round → Round → List ℕ
proxy_round_text lists rounds round =
    told_end (length rounds + 1) (lists_after lists (map round_updates (rounds ++ round ∷ []))) (round_end (lists_after lists (map round_updates rounds)) round)

-- A turn takes at most one connection.
abbrev pub phase_after : LookEvent → ProxyPhase → ProxyPhase
phase_after (Taken pieces received) phase = Between
phase_after other phase = phase

abbrev pub after_proxy_event : ProxyFirst → ProxyState → ProxyEvent → ProxyState
after_proxy_event first state (TurnBegun now) = record state { turns = state.turns + 1; readings = state.readings ++ now ∷ []; now = now; phase = Beginning }
after_proxy_event first state RoundBegun = record state { round_open = true }
after_proxy_event first state (RoundOver round) = record state {
  rounds = state.rounds ++ round ∷ [];
  round_open = false;
  looks = record state.looks { printed = state.looks.printed ++ proxy_round_text first.client.lists state.rounds round };
}
after_proxy_event first state (RoundsStopped why written) = record state {
  round_open = false;
  stopped = Some (record { why = why; before = state.looks.printed; written = written });
  looks = record state.looks {
    printed = state.looks.printed ++ written;
    stop = first_stop state.looks.stop why;
    output_failed = state.looks.output_failed || is_output_fault why;
  };
  keeper_failed = state.keeper_failed || is_keeper_fault why;
}
after_proxy_event first state AllBegun = record state { phase = Ending }
after_proxy_event first state (ClockRead now) = record state { readings = state.readings ++ now ∷ []; now = now }
after_proxy_event first state (LookDone one) = record state { looks = after_look_event state.looks one; phase = phase_after one state.phase }
after_proxy_event first state NothingCame = record state { phase = Between }
after_proxy_event first state NoMoreCame = record state { no_more = true; phase = Between }
after_proxy_event first state DoorFailed =
    record state { looks = record state.looks { stop = first_stop state.looks.stop stop.DoorFault }; phase = Between; door_failed = true }
after_proxy_event first state RunEnding = record state { phase = Finishing }

-- what some events leave, of which the newest stands first
abbrev pub after_proxy_events : ProxyFirst → ProxyState → List ProxyEvent → ProxyState
after_proxy_events first state [] = state
after_proxy_events first state (one ∷ earlier) = after_proxy_event first (after_proxy_events first state earlier) one
