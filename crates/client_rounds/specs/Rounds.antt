-- The rounds by which a client keeps its lists current: each is begun and ended in two parts, told, and saved if it installed a list.
use Rattle.std.specs.Prelude.{◌≡◌, ◌||◌, ℕ, nat_le, if◌then◌else◌, List, length, Option, Some, None, is_some}
use Rattle.sb_model.specs.declared.time.Moment.{Moment}
use Rattle.client_line.specs.Lines.{LineView}
use Rattle.sb_round.specs.Round.{Round, RoundState, IsOpenRound, round_body_asked}
use Rattle.sb_round.specs.Rounds.{MakesRounds}
use Rattle.timed_sessions.specs.declared.timing.Opening.{Opening}
use Rattle.update_run.specs.Saved.{Keeping, HasSaved, saved_lists}
use Rattle.update_run.specs.declared.plan.Plan.{Plan}

-- A client between two things that it does: its lists and its state of waiting, how many of its rounds are over, and the session of the
-- round that is open, if one is.
pub record ClientSeen : Type 0 where
  pub state : RoundState
  pub over : ℕ
  pub opened : Option Opening

-- Where a client's rounds begin: its lists and its state of waiting, and what its line and its keeper had told by then.
pub record ClientStart : Type 0 where
  pub state : RoundState
  pub line : LineView
  pub keeper : Keeping

-- Between two moments a line was left alone if no round is open. If one is, its beginning is all that was done there.
abbrev pub IsClientOpenSince : Plan → RoundState → (before after : LineView) → Option Opening → Type 0
IsClientOpenSince plan state before after None = after ≡ before
IsClientOpenSince plan state before after (Some opening) =
    IsOpenRound state.waits plan.target (round_body_asked state.lists plan.options) before after opening

-- These are the rounds that a client has ended since it began. One more may be open. The keeper has the lists of each round that installed
-- one.
pub record HasKeptRounds (plan : Plan) (start : ClientStart) (rounds : List Round) (now : ClientSeen) (line : LineView) (keeper : Keeping) : Type 0 where
  pub between : LineView
  pub made : MakesRounds start.state now.state plan.options plan.target plan.need_digest start.line.told between.told rounds
  pub session : IsClientOpenSince plan now.state between line now.opened
  pub count : now.over ≡ length rounds
  pub saved : HasSaved (saved_lists start.state.lists rounds) start.keeper keeper

-- the beginning of a client that is now as it then was
abbrev pub client_start_at : ClientSeen → LineView → Keeping → ClientStart
client_start_at now line keeper = record { state = now.state; line = line; keeper = keeper }

-- ---- what a round needs before it is ended

-- A round is open, and from some moment on its beginning is all that was done on the line.
abbrev pub HasClientRoundOpen : Plan → ClientSeen → LineView → Type 0
HasClientRoundOpen plan now line = (before : LineView) × (opening : Opening) × (now.opened ≡ Some opening) × IsClientOpenSince plan now.state before line (Some opening)

-- From some moment on the beginning of this session is all that was done on the line, and it is a round of these lists.
abbrev pub HasClientRoundBegun : Plan → RoundState → LineView → Opening → Type 0
HasClientRoundBegun plan state line opening = (before : LineView) × IsClientOpenSince plan state before line (Some opening)

-- ---- when a round is due

-- the moment from which a client that makes so many rounds may begin its next one: none while one is open, and none after the last
abbrev pub next_client_round_at : ℕ → ClientSeen → Option Moment
next_client_round_at most now = if is_some now.opened || nat_le most now.over then None else Some now.state.waits.allowed_at
