-- What a run that judges beside updates hands to its keeper, and what is kept, wherever the run ends.
use Rattle.std.specs.Prelude.{◌≤◌, ℕ, List, ◌++◌, length, map, Option}
use Rattle.sb_model.specs.History.{History, IsWellFormed}
use Rattle.sb_model.specs.Naming.{Naming}
use Rattle.sb_outside.specs.Outside.{IfTold}
use Rattle.sb_outside.specs.declared.links.Session.{Session}
use Rattle.timed_sessions.specs.Told.{with_more}
use Rattle.sb_round.specs.Round.{Round}
use Rattle.sb_round.specs.Rounds.{round_updates, round_entry}
use Rattle.sb_round.specs.Sessions.{AreBodiesOf}
use Rattle.update_run.specs.Opening.{first_lists}
use Rattle.update_run.specs.Run.{IsLoaded}
use Rattle.client_laws.specs.Met.{AreHonestRounds}
use Rattle.client_laws.specs.Replicas.{HandsReplicas, IsKeptSafely, KeepsSafely}
use Rattle.judge_run.specs.Run.{Judging, JudgeEnding, EndsJudging}
use Rattle.judge_run.specs.declared.plan.JudgePlan.{JudgePlan}

-- The updates that a run made, whose sessions are the first that the link's log has more, with the bodies that these brought. Where what was
-- kept begins a run with replicas, and these updates met an honest server, each text that the keeper was handed is the store of replicas, and
-- what it keeps is what it kept, or no store, or reads as replicas.
pub record UpdatesHold (plan : JudgePlan) (before after : Judging) : Type 0 where
  pub kept : Option (List ℕ)
  pub loaded : IsLoaded kept before.seen.keeper.kept
  pub rounds : List Round
  pub few : length rounds ≤ plan.updates.rounds
  pub later : List Session
  pub log : IfTold after.seen.outside.log (with_more before.seen.outside.log (map round_entry rounds ++ later))
  pub bodies : AreBodiesOf plan.updates.need_digest (map round_entry rounds) (map round_updates rounds)
  pub holds : (history : History) (token_at : Naming)
      → IsWellFormed history → IsKeptSafely history token_at kept → AreHonestRounds history token_at (first_lists plan.updates.names kept) rounds
      → HandsReplicas history token_at plan.updates before.seen after.seen × KeepsSafely history token_at before.seen after.seen

-- So it is of every run, wherever it ends.
abbrev pub JudgingsSaveReplicas : Type 0
JudgingsSaveReplicas = (plan : JudgePlan) (ending : JudgeEnding) (before after : Judging) → EndsJudging plan ending before after → UpdatesHold plan before after
