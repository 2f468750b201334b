-- The rounds of a mirror: each is begun and ended in two parts, told and saved, and what it installed is held as a place.
use Rattle.std.specs.Prelude.{◌≡◌, ◌≤◌, ◌+◌, ◌||◌, ℕ, Bool, nat_le, if◌then◌else◌, List, ◌∷◌, ◌++◌, [], length, Option, Some, None, is_some}
use Rattle.sb_model.specs.declared.time.Moment.{Moment}
use Rattle.client_line.specs.Lines.{LineView}
use Rattle.mirror_places.specs.Places.{Places, StandsForPlaces, names_of_lists}
use Rattle.sb_round.specs.Round.{Round, RoundState, IsOpenRound, round_body_asked}
use Rattle.sb_round.specs.Rounds.{MakesRounds}
use Rattle.timed_sessions.specs.declared.timing.Opening.{Opening}
use Rattle.update_client.specs.Held.{Held}
use Rattle.update_run.specs.Saved.{Keeping, HasSaved, saved_lists}
use Rattle.update_run.specs.declared.plan.Plan.{Plan}

-- The rounds of a mirror at one moment: its lists and its state of waiting, the places that it holds, how many rounds are over, and the session
-- of one that is open.
pub record MirrorSeen : Type 0 where
  pub state : RoundState
  pub places : Places
  pub over : ℕ
  pub opened : Option Opening

-- What a mirror began with: its lists and its state of waiting, its epoch, and what its line and its keeper told then.
pub record MirrorStart : Type 0 where
  pub state : RoundState
  pub epoch : ℕ
  pub line : LineView
  pub keeper : Keeping

-- the lists at the places of a mirror after some rounds: those that it began with, and those after each round that installed one
abbrev pub lists_at_places : List Held → List Round → List (List Held)
lists_at_places lists rounds = lists ∷ saved_lists lists rounds

-- Since a moment nothing was done on a line but that a round was begun, if one is open.
abbrev pub IsOpenSince : Plan → RoundState → (before after : LineView) → Option Opening → Type 0
IsOpenSince plan state before after None = after ≡ before
IsOpenSince plan state before after (Some opening) =
    IsOpenRound state.waits plan.target (round_body_asked state.lists plan.options) before after opening

-- A mirror made these rounds since it began, and a further one may be open. What they installed is saved, and held as its places.
pub record HasMadeRounds (plan : Plan) (start : MirrorStart) (rounds : List Round) (now : MirrorSeen) (line : LineView) (keeper : Keeping) : Type 0 where
  pub between : LineView
  pub made : MakesRounds start.state now.state plan.options plan.target plan.need_digest start.line.told between.told rounds
  pub session : IsOpenSince plan now.state between line now.opened
  pub count : now.over ≡ length rounds
  pub saved : HasSaved (saved_lists start.state.lists rounds) start.keeper keeper
  pub places : StandsForPlaces now.places (lists_at_places start.state.lists rounds)
  pub epoch : now.places.epoch ≡ start.epoch

-- what it began with, if its rounds were seen so
abbrev pub start_at : MirrorSeen → LineView → Keeping → MirrorStart
start_at now line keeper = record { state = now.state; epoch = now.places.epoch; line = line; keeper = keeper }

-- ---- what a mirror keeps to

-- Its places have the names of its lists, and it has no more of them behind its first one than rounds are over.
pub record HasItsPlaces (lists : List Held) (places : Places) (over : ℕ) : Type 0 where
  pub all : List (List Held)
  pub stands : StandsForPlaces places all
  pub few : length all ≤ over + 1
  pub named : stands.names ≡ names_of_lists lists

-- Since some moment nothing was done on its line but that the round was begun that is open.
abbrev pub HasRoundOpen : Plan → MirrorSeen → LineView → Type 0
HasRoundOpen plan now line = (before : LineView) × (opening : Opening) × (now.opened ≡ Some opening) × IsOpenSince plan now.state before line (Some opening)

-- ---- a place

-- the lists that a place is to have: these if one was installed
abbrev pub IsNextPlace : Bool → List Held → Option (List Held) → Type 0
IsNextPlace installed lists place = place ≡ (if installed then Some lists else None)

-- A mirror holds lists as its newest place, if there are some, and else it is as it was.
abbrev pub HoldsPlace : Option (List Held) → (before after : Places) → Type 0
HoldsPlace None before after = after ≡ before
HoldsPlace (Some lists) before after =
    (after.epoch ≡ before.epoch)
    × ((places : List (List Held)) → StandsForPlaces before places → StandsForPlaces after (places ++ lists ∷ []))

-- ---- what is due

-- when the next round may begin, of so many: never while one is open, and once so many are over
abbrev pub next_round_at : ℕ → MirrorSeen → Option Moment
next_round_at most now = if is_some now.opened || nat_le most now.over then None else Some now.state.waits.allowed_at

-- Since some moment nothing was done on a line but that this session of a round was begun.
abbrev pub HasRoundBegun : Plan → RoundState → LineView → Opening → Type 0
HasRoundBegun plan state line opening = (before : LineView) × IsOpenSince plan state before line (Some opening)
