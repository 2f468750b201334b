-- A round of a mirror that is ended: it is told, what it installed is saved, and then held as a place.
use Rattle.std.specs.Prelude.{◌≡◌, ◌+◌, ◌⊎◌, ℕ, List, [], ◌∷◌, ◌++◌, length, Option, None, is_ok}
use Rattle.sb_outside.specs.Outside.{appended}
use Rattle.sb_outside.specs.Writing.{HasFront}
use Rattle.client_line.specs.Lines.{LineView}
use Rattle.mirror_rounds.specs.Rounds.{MirrorSeen, MirrorStart, HasMadeRounds}
use Rattle.mirror_rounds.specs.declared.rounds.MirrorRoundTold.{MirrorRoundTold}
use Rattle.sb_round.specs.Round.{Round, RoundState, HoldsRoundSession, round_body_asked}
use Rattle.sb_round.specs.Rounds.{MakesRounds}
use Rattle.update_client.specs.Held.{Held}
use Rattle.update_run.specs.Printed.{has_refusal, round_end, told_end}
use Rattle.update_run.specs.Saved.{Keeping, HasSaved, has_installed, saved_after}
use Rattle.update_run.specs.Steps.{StopsTelling}
use Rattle.update_run.specs.declared.plan.Plan.{Plan}
use Rattle.update_run.specs.declared.stop.RunStop.{RunStop}
use Rattle.update_run.specs.declared.stop.RunStop.TheVariants as stop
use Rattle.sb_round.specs.declared.rounds.RoundEnd.{RoundEnd}

-- What is told of a round is what came of it.
pub record IsToldOf (end : RoundEnd) (told : MirrorRoundTold) : Type 0 where
  pub refused : told.refused ≡ has_refusal end.taken
  pub installed : told.installed ≡ has_installed end.taken
  pub answered : told.answered ≡ is_ok end.taken

-- What is seen of a mirror's rounds at one moment: its line, what its keeper tells, and what was written.
pub record RoundView : Type 0 where
  pub line : LineView
  pub keeper : Keeping
  pub output : Option (List ℕ)

abbrev pub round_view : LineView → Keeping → Option (List ℕ) → RoundView
round_view line keeper output = record { line = line; keeper = keeper; output = output }

-- The open round was ended and is one more of those that were made, and its lines were written.
pub record EndsMirrorRound (plan : Plan) (start : MirrorStart) (rounds : List Round) (before after : MirrorSeen) (view view' : RoundView)
    (told : MirrorRoundTold) : Type 0 where
  pub round : Round
  pub has : HasMadeRounds plan start (rounds ++ round ∷ []) after view'.line view'.keeper
  pub closed : after.opened ≡ None
  pub text : view'.output ≡ appended view.output (told_end (length rounds + 1) after.state.lists (round_end before.state.lists round))
  pub told_is : IsToldOf (round_end before.state.lists round) told

-- What is saved and written of a round that was made and came to these lists, if the mirror stopped then: as a client that stops when it
-- tells a round, or the lists are saved and the last of the lines could not be written.
abbrev pub StopsMirrorTelling : RunStop → ℕ → RoundEnd → List Held → (before after : Keeping) → (output output' : Option (List ℕ)) → Type 0
StopsMirrorTelling why number end lists before after output output' =
    StopsTelling why number end lists before after output output'
    ⊎ ((why ≡ stop.WriteFault) × HasSaved (saved_after end.taken lists) before after × HasFront output output' (told_end number lists end))

-- The open round was ended, and the mirror stopped when it told it.
pub record StopsAtMirrorRound (why : RunStop) (plan : Plan) (start : MirrorStart) (rounds : List Round) (before : MirrorSeen) (view view' : RoundView) : Type 0 where
  pub round : Round
  pub state : RoundState
  pub made : MakesRounds start.state state plan.options plan.target plan.need_digest start.line.told view'.line.told (rounds ++ round ∷ [])
  pub stops : StopsMirrorTelling why (length rounds + 1) (round_end before.state.lists round) state.lists view.keeper view'.keeper view.output view'.output

-- Memory was refused when the open round was ended. Its session was closed, and nothing is saved or written of it.
pub record StopsInMirrorRound (why : RunStop) (plan : Plan) (start : MirrorStart) (rounds : List Round) (before : MirrorSeen) (view view' : RoundView) : Type 0 where
  pub memory : why ≡ stop.OutOfMemory
  pub between : LineView
  pub made : MakesRounds start.state before.state plan.options plan.target plan.need_digest start.line.told between.told rounds
  pub session : HoldsRoundSession before.state.waits plan.target (round_body_asked before.state.lists plan.options) between.told view'.line.told
  pub keeper_kept : view'.keeper ≡ view.keeper
  pub output_kept : view'.output ≡ view.output

abbrev pub StopsMirrorRound : RunStop → Plan → MirrorStart → List Round → MirrorSeen → (view view' : RoundView) → Type 0
StopsMirrorRound why plan start rounds before view view' =
    StopsAtMirrorRound why plan start rounds before view view' ⊎ StopsInMirrorRound why plan start rounds before view view'
