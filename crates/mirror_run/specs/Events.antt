-- What happens in a run of a mirror, step by step, and what it leaves.
use Rattle.std.specs.Prelude.{◌+◌, ◌-◌, ◌^◌, ◌||◌, ℕ, min, Bool, true, false, List, [], ◌∷◌, ◌++◌, length, map, Option, Some, None}
use Rattle.hash_messages.specs.Messages.{AskedHashes}
use Rattle.http_serving.specs.Printed.{connection_line}
use Rattle.mirror_connections.specs.Over.{OverConnection}
use Rattle.mirror_finds.specs.Finds.{FindInTurn}
use Rattle.mirror_run.specs.State.{FinishedFind, MirrorFirst, MirrorState, StartedFind, WaitingFind, lists_now}
use Rattle.mirror_run.specs.State.Phase.{Between, Beginning, Ending, Finishing}
use Rattle.mirror_run.specs.declared.stop.MirrorStop.{MirrorStop}
use Rattle.mirror_run.specs.declared.stop.MirrorStop.TheVariants as stop
use Rattle.sb_model.specs.declared.time.Moment.{Moment}
use Rattle.sb_round.specs.Round.{Round}
use Rattle.sb_round.specs.Rounds.{round_updates}
use Rattle.sb_round.specs.Run.{lists_after}
use Rattle.update_client.specs.Held.{Held, tokens_of}
use Rattle.update_run.specs.Printed.{round_end, told_end}

-- What became of the line of a connection: it was written, or this front of it alone, for this cause.
pub data LineEnd : Type 0 where
  Whole : LineEnd
  Cut : MirrorStop → List ℕ → LineEnd

pub data MirrorEvent : Type 0 where
  -- the clock was read at the beginning of a turn
  TurnBegun : Moment → MirrorEvent
  -- a round was begun; one was ended, told, saved, and held as a place if it installed a list; or no further one is made, for this cause,
  -- and so much of the lines of the last one was written
  RoundBegun : MirrorEvent
  RoundOver : Round → MirrorEvent
  RoundsStopped : MirrorStop → List ℕ → MirrorEvent
  -- the find that waited longest was begun; the one that is open was ended
  FindBegun : MirrorEvent
  FindOver : FindInTurn → MirrorEvent
  -- all was begun that was due
  AllBegun : MirrorEvent
  -- a connection was taken that had these pieces to give, and the clock was read; none came in its time; no more come; or the door failed
  ConnectionTaken : List (List ℕ) → Moment → MirrorEvent
  NothingCame : MirrorEvent
  NoMoreCame : MirrorEvent
  DoorFailed : MirrorEvent
  -- the connection that was taken asks this find, and was put off
  FindPutOff : AskedHashes → MirrorEvent
  -- the connection that was taken, that of the find that is over, or that of the find that waited longest was answered, given back and told
  TakenOver : OverConnection → LineEnd → MirrorEvent
  FindAnswered : OverConnection → LineEnd → MirrorEvent
  FirstRefused : OverConnection → LineEnd → MirrorEvent
  -- no further turn comes
  RunEnding : MirrorEvent

-- ---- what it leaves

-- the find that waited longest, begun with these states
abbrev pub started_first : List (List ℕ) → List WaitingFind → Option StartedFind
started_first states [] = None
started_first states (first ∷ rest) = Some (record { number = first.number; asked = first.asked; states = states })

abbrev pub without_first : List WaitingFind → List WaitingFind
without_first [] = []
without_first (first ∷ rest) = rest

abbrev pub finished_find : Option StartedFind → FindInTurn → Option FinishedFind
finished_find None find = None
finished_find (Some one_open) find = Some (record { number = one_open.number; find = find })

-- the first cause stays
abbrev pub first_cause : Option MirrorStop → MirrorStop → Option MirrorStop
first_cause (Some why) later = Some why
first_cause None later = Some later

-- the number by which a connection is told, counted from 1; the greatest of 32 bits stays
abbrev pub told_number : ℕ → ℕ
told_number number = min (number + 1) (2 ^ 32 - 1)

-- what was written of the line of a connection, and what that ends
abbrev pub line_written : OverConnection → LineEnd → List ℕ
line_written one Whole = connection_line (told_number one.number) one.how
line_written one (Cut why front) = front

abbrev pub stop_after_line : Option MirrorStop → LineEnd → Option MirrorStop
stop_after_line before Whole = before
stop_after_line before (Cut why front) = first_cause before why

-- whether this is that fault
abbrev pub is_write_fault : MirrorStop → Bool
is_write_fault stop.WriteFault = true
is_write_fault other = false

abbrev pub is_keep_fault : MirrorStop → Bool
is_keep_fault stop.KeepFault = true
is_keep_fault other = false

abbrev pub is_cut_by_output : LineEnd → Bool
is_cut_by_output Whole = false
is_cut_by_output (Cut why front) = is_write_fault why

-- the lines of a round after these
abbrev pub round_text : List Held → List Round → Round → List ℕ
round_text lists rounds round =
    told_end (length rounds + 1) (lists_after lists (map round_updates (rounds ++ round ∷ []))) (round_end (lists_after lists (map round_updates rounds)) round)

-- a connection is over, and this became of its line
abbrev pub after_over : MirrorState → OverConnection → LineEnd → MirrorState
after_over state one told = record state {
  over = state.over ++ one ∷ [];
  printed = state.printed ++ line_written one told;
  stop = stop_after_line state.stop told;
  output_failed = state.output_failed || is_cut_by_output told;
}

abbrev pub after_event : MirrorFirst → MirrorState → MirrorEvent → MirrorState
after_event first state (TurnBegun now) = record state { turns = state.turns + 1; readings = state.readings ++ now ∷ []; now = now; phase = Beginning }
after_event first state RoundBegun = record state { round_open = true }
after_event first state (RoundOver round) = record state {
  rounds = state.rounds ++ round ∷ [];
  round_open = false;
  printed = state.printed ++ round_text first.client.lists state.rounds round;
}
after_event first state (RoundsStopped why written) = record state {
  round_open = false;
  stopped = Some (record { why = why; before = state.printed; written = written });
  printed = state.printed ++ written;
  stop = first_cause state.stop why;
  output_failed = state.output_failed || is_write_fault why;
  keeper_failed = state.keeper_failed || is_keep_fault why;
}
after_event first state FindBegun =
    record state { find_open = started_first (tokens_of (lists_now first state)) state.waiting; waiting = without_first state.waiting }
after_event first state (FindOver find) =
    record state { finds = state.finds ++ find ∷ []; find_open = None; find_over = finished_find state.find_open find }
after_event first state AllBegun = record state { phase = Ending }
after_event first state (ConnectionTaken pieces heard) = record state {
  taken = state.taken ++ pieces ∷ [];
  in_hand = true;
  readings = state.readings ++ heard ∷ [];
  now = heard;
  phase = Between;
}
after_event first state NothingCame = record state { phase = Between }
after_event first state NoMoreCame = record state { no_more = true; phase = Between }
after_event first state DoorFailed = record state { phase = Between; stop = first_cause state.stop stop.DoorFault; door_failed = true }
after_event first state (FindPutOff asked) = record state {
  in_hand = false;
  waiting = state.waiting ++ record { number = length state.taken - 1; asked = asked; heard = state.now } ∷ [];
}
after_event first state (TakenOver one told) = record (after_over state one told) { in_hand = false }
after_event first state (FindAnswered one told) = record (after_over state one told) { find_over = None }
after_event first state (FirstRefused one told) = record (after_over state one told) { waiting = without_first state.waiting }
after_event first state RunEnding = record state { phase = Finishing }

-- what some events leave, of which the newest stands first
abbrev pub after_events : MirrorFirst → MirrorState → List MirrorEvent → MirrorState
after_events first state [] = state
after_events first state (one ∷ earlier) = after_event first (after_events first state earlier) one
