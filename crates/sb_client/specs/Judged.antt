-- What the report of a run that judges URLs says of a server's lists.
use Rattle.std.specs.Prelude.{◌≡◌, ℕ, map, Ok}
use Rattle.sb_model.specs.History.{History}
use Rattle.sb_model.specs.Naming.{Naming}
use Rattle.update_run.specs.Opening.{first_lists}
use Rattle.client_laws.specs.Met.{AreHonestRounds}
use Rattle.client_laws.specs.Replicas.{IsKeptSafely}
use Rattle.timed_sessions.specs.Waiting.{KeepToWaits}
use Rattle.sb_round.specs.Round.{closed_round}
use Rattle.judge_run.specs.Judging.{first_finds}
use Rattle.judge_run.specs.Law.{KeepToTheirWaits}
use Rattle.judge_run.specs.Run.{Judging, EndsOpened}
use Rattle.judge_run.specs.declared.judgement.Judgement.{Judgement}
use Rattle.judge_run.specs.declared.plan.JudgePlan.{JudgePlan}
use Rattle.client_laws.specs.Complete.{AreComplete}
use Rattle.client_laws.specs.Reports.{ReportHolds, publications_in}
use Rattle.sb_client.specs.Ending.{judge_status_of}

-- A run came to its end with this status. Its updates kept to their waits, and what the log of its link has more than their sessions are its
-- finds, each at or after its allowed moment. Each URL is decided where its finding was answered, and else names why not. Where the run
-- began with replicas of the server's lists, and its updates met an honest server, its report holds: the lists of each publication are
-- replicas, and each verdict whose deciding answers were faithful to the publication that it names is right.
pub record ReportsRightly (history : History) (token_at : Naming) (plan : JudgePlan) (status : ℕ) (before after : Judging) : Type 0 where
  pub judgement : Judgement
  pub run : EndsOpened plan (Ok judgement) before after
  pub told : status ≡ judge_status_of (Ok judgement)
  pub update_waits : KeepToWaits run.begins.updates (map closed_round run.ends.updated.rounds)
  pub waits : KeepToTheirWaits (first_finds run.begins.finds) (publications_in run) run.ends.judges.judged.judges.cases
  pub complete : AreComplete plan (publications_in run) (first_finds run.begins.finds) run.ends.judges.judged.judges.cases run.ends.judges.all
  pub holds : IsKeptSafely history token_at run.begins.kept → AreHonestRounds history token_at (first_lists plan.updates.names run.begins.kept) run.ends.updated.rounds
      → ReportHolds history token_at plan judgement before after run
