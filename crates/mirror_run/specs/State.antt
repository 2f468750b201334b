-- A mirror at one moment of its run, as what happened so far tells it.
use Rattle.std.specs.Prelude.{◌-◌, ℕ, Bool, false, min, nat_le, not, ◌&&◌, ◌||◌, if◌then◌else◌, List, [], map, length, drop, Option, None, is_ok}
use Rattle.std.specs.List.{list_all, list_any}
use Rattle.hash_messages.specs.Messages.{AskedHashes}
use Rattle.mirror_connections.specs.Over.{OverConnection}
use Rattle.mirror_finds.specs.Finds.{FindInTurn, waits_after_finds}
use Rattle.mirror_places.specs.Places.{Places, most_kept_places}
use Rattle.mirror_rounds.specs.Rounds.{lists_at_places}
use Rattle.mirror_run.specs.declared.plan.MirrorPlan.{MirrorPlan}
use Rattle.mirror_run.specs.declared.stop.MirrorStop.{MirrorStop}
use Rattle.sb_model.specs.declared.time.Moment.{Moment}
use Rattle.sb_round.specs.Round.{Round, RoundState}
use Rattle.sb_round.specs.Rounds.{round_updates, waits_after_rounds}
use Rattle.sb_round.specs.Run.{lists_after}
use Rattle.update_client.specs.Held.{Held, has_token}
use Rattle.wait_rules.specs.declared.waits.WaitState.{WaitState}

-- What a mirror began with: its lists and when its first round may begin, when its first find may, and its epoch.
pub record MirrorFirst : Type 0 where
  pub client : RoundState
  pub finds : WaitState
  pub epoch : ℕ

-- What a turn does: it begins what is due, and then ends what is answered and takes a connection. Between two turns nothing is done, and at the
-- end of the run what is open is ended.
pub data Phase : Type 0 where
  Between : Phase
  Beginning : Phase
  Ending : Phase
  Finishing : Phase

-- A find that waits for its turn: the number of its connection, counted from 0, what it asks, and when it was heard.
pub record WaitingFind : Type 0 where
  pub number : ℕ
  pub asked : AskedHashes
  pub heard : Moment

-- A find whose session is open: the number of its connection, what it asks, and the states that it carries.
pub record StartedFind : Type 0 where
  pub number : ℕ
  pub asked : AskedHashes
  pub states : List (List ℕ)

-- A find that is over, and whose connection was not answered yet.
pub record FinishedFind : Type 0 where
  pub number : ℕ
  pub find : FindInTurn

-- No further round is made: why, what was printed before, and how much of the last round's lines was written.
pub record StoppedRounds : Type 0 where
  pub why : MirrorStop
  pub before : List ℕ
  pub written : List ℕ

pub record MirrorState : Type 0 where
  -- the rounds that are over, whether one is open, and why no further one is made
  pub rounds : List Round
  pub round_open : Bool
  pub stopped : Option StoppedRounds
  -- the finds that were passed on, the one that is open, the one that is over and those that wait
  pub finds : List FindInTurn
  pub find_open : Option StartedFind
  pub find_over : Option FinishedFind
  pub waiting : List WaitingFind
  -- what each connection that was taken had to give, whether nothing became of the last one yet, and those that are over
  pub taken : List (List (List ℕ))
  pub in_hand : Bool
  pub over : List OverConnection
  -- what was printed
  pub printed : List ℕ
  -- how many turns were begun, what the clock of the run read, the last of it, and what the turn does
  pub turns : ℕ
  pub readings : List Moment
  pub now : Moment
  pub phase : Phase
  -- whether no more connections come, what ended the run before its end, and which objects failed
  pub no_more : Bool
  pub stop : Option MirrorStop
  pub output_failed : Bool
  pub keeper_failed : Bool
  pub door_failed : Bool

-- what it begins with
abbrev pub before_all : MirrorState
before_all = record {
  rounds = [];
  round_open = false;
  stopped = None;
  finds = [];
  find_open = None;
  find_over = None;
  waiting = [];
  taken = [];
  in_hand = false;
  over = [];
  printed = [];
  turns = 0;
  readings = [];
  now = record { 0 = 0 };
  phase = Between;
  no_more = false;
  stop = None;
  output_failed = false;
  keeper_failed = false;
  door_failed = false;
}

-- ---- what it holds

abbrev pub lists_now : MirrorFirst → MirrorState → List Held
lists_now first state = lists_after first.client.lists (map round_updates state.rounds)

-- the mirror of an epoch that stands for these lists at its places
abbrev pub mirror_of_places : ℕ → List (List Held) → Places
mirror_of_places epoch places =
    record { epoch = epoch; gone = length places - min most_kept_places (length places); kept = drop (length places - min most_kept_places (length places)) places }

abbrev pub places_now : MirrorFirst → MirrorState → Places
places_now first state = mirror_of_places first.epoch (lists_at_places first.client.lists state.rounds)

-- whether a round of this run brought a message
abbrev pub has_answer : List Round → Bool
has_answer rounds = list_any (λ (round : Round). is_ok round.answer) rounds

-- The wait that it tells, in seconds: the plan's, but at most a minute while a list has no token and no round of this run brought a message.
abbrev pub told_wait : ℕ → Bool → List Held → ℕ
told_wait wait answered lists = if answered || list_all has_token lists then wait else min wait 60

abbrev pub wait_now : MirrorPlan → MirrorFirst → MirrorState → ℕ
wait_now plan first state = told_wait plan.wait (has_answer state.rounds) (lists_now first state)

-- ---- what is due

-- when the next round, and the next find, may begin
abbrev pub round_waits : MirrorFirst → MirrorState → WaitState
round_waits first state = waits_after_rounds first.client.waits state.rounds

abbrev pub find_waits : MirrorFirst → MirrorState → WaitState
find_waits first state = waits_after_finds first.finds state.finds

-- whether a round is due, of so many: none is open, some are left, and its allowed moment has come
abbrev pub round_is_due : ℕ → MirrorFirst → MirrorState → Bool
round_is_due most first state =
    not state.round_open && not (nat_le most (length state.rounds)) && nat_le (round_waits first state).allowed_at.0 state.now.0

-- how long a find waits for its turn, in milliseconds
abbrev pub longest_wait : ℕ
longest_wait = 5000

-- whether a find that was heard then has waited too long
abbrev pub waited_long : Moment → Moment → Bool
waited_long now heard = nat_le longest_wait (now.0 - heard.0)
