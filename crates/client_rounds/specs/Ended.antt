-- How the open round of a client ends: it is one more that was made, told and saved, or the client stops in it.
use Rattle.std.specs.Prelude.{◌≡◌, ◌+◌, ◌⊎◌, ℕ, List, [], ◌∷◌, ◌++◌, length, Option, None, is_ok}
use Rattle.sb_outside.specs.Outside.{appended}
use Rattle.sb_outside.specs.Writing.{HasFront}
use Rattle.client_line.specs.Lines.{LineView}
use Rattle.client_rounds.specs.Rounds.{ClientSeen, ClientStart, HasKeptRounds}
use Rattle.client_rounds.specs.declared.rounds.ClientRoundTold.{ClientRoundTold}
use Rattle.sb_round.specs.Round.{Round, RoundState, HoldsRoundSession, round_body_asked}
use Rattle.sb_round.specs.Rounds.{MakesRounds}
use Rattle.sb_round.specs.declared.rounds.RoundEnd.{RoundEnd}
use Rattle.update_client.specs.Held.{Held}
use Rattle.update_run.specs.Printed.{has_refusal, round_end, told_end}
use Rattle.update_run.specs.Saved.{Keeping, HasSaved, has_installed, saved_after}
use Rattle.update_run.specs.Steps.{StopsTelling}
use Rattle.update_run.specs.declared.plan.Plan.{Plan}
use Rattle.update_run.specs.declared.stop.RunStop.{RunStop}
use Rattle.update_run.specs.declared.stop.RunStop.TheVariants as stop

-- A caller is told the truth of a round: whether it brought a message, whether an update of it was installed, and whether one was refused
-- or no message came.
pub record IsClientToldOf (end : RoundEnd) (told : ClientRoundTold) : Type 0 where
  pub refused : told.refused ≡ has_refusal end.taken
  pub installed : told.installed ≡ has_installed end.taken
  pub answered : told.answered ≡ is_ok end.taken

-- What the objects outside tell while a client makes its rounds: its line, its keeper, and its output.
pub record ClientRoundView : Type 0 where
  pub line : LineView
  pub keeper : Keeping
  pub output : Option (List ℕ)

abbrev pub client_round_view : LineView → Keeping → Option (List ℕ) → ClientRoundView
client_round_view line keeper output = record { line = line; keeper = keeper; output = output }

-- The round that was open is the last of those that are made now, no further one is open, and all of its lines are written.
pub record EndsClientRound (plan : Plan) (start : ClientStart) (rounds : List Round) (before after : ClientSeen) (view view' : ClientRoundView)
    (told : ClientRoundTold) : Type 0 where
  pub round : Round
  pub has : HasKeptRounds plan start (rounds ++ round ∷ []) after view'.line view'.keeper
  pub closed : after.opened ≡ None
  pub text : view'.output ≡ appended view.output (told_end (length rounds + 1) after.state.lists (round_end before.state.lists round))
  pub told_is : IsClientToldOf (round_end before.state.lists round) told

-- What the keeper and the output have of a round that came to these lists, where the client stopped in telling it. A client's run stops so
-- too, but for the last case: all was saved, and the output failed at the lines that were left.
abbrev pub StopsClientTelling : RunStop → ℕ → RoundEnd → List Held → (before after : Keeping) → (output output' : Option (List ℕ)) → Type 0
StopsClientTelling why number end lists before after output output' =
    StopsTelling why number end lists before after output output'
    ⊎ ((why ≡ stop.WriteFault) × HasSaved (saved_after end.taken lists) before after × HasFront output output' (told_end number lists end))

-- The session of the open round was ended and its answer taken, and then the client stopped in telling it.
pub record StopsAtClientRound (why : RunStop) (plan : Plan) (start : ClientStart) (rounds : List Round) (before : ClientSeen) (view view' : ClientRoundView) : Type 0 where
  pub round : Round
  pub state : RoundState
  pub made : MakesRounds start.state state plan.options plan.target plan.need_digest start.line.told view'.line.told (rounds ++ round ∷ [])
  pub stops : StopsClientTelling why (length rounds + 1) (round_end before.state.lists round) state.lists view.keeper view'.keeper view.output view'.output

-- The session of the open round was ended, and memory for its answer was refused. Neither the keeper nor the output has anything of it.
pub record StopsInClientRound (why : RunStop) (plan : Plan) (start : ClientStart) (rounds : List Round) (before : ClientSeen) (view view' : ClientRoundView) : Type 0 where
  pub memory : why ≡ stop.OutOfMemory
  pub between : LineView
  pub made : MakesRounds start.state before.state plan.options plan.target plan.need_digest start.line.told between.told rounds
  pub session : HoldsRoundSession before.state.waits plan.target (round_body_asked before.state.lists plan.options) between.told view'.line.told
  pub keeper_kept : view'.keeper ≡ view.keeper
  pub output_kept : view'.output ≡ view.output

-- The client stopped in its open round, before its answer was taken or after that.
abbrev pub StopsClientRound : RunStop → Plan → ClientStart → List Round → ClientSeen → (view view' : ClientRoundView) → Type 0
StopsClientRound why plan start rounds before view view' =
    StopsAtClientRound why plan start rounds before view view' ⊎ StopsInClientRound why plan start rounds before view view'
