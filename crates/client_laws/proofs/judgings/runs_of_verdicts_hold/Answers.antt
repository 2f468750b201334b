use Rattle.std.proofs.Common.{ℕ, List, ◌++◌, Option, ap, ◌∙◌}
use Rattle.sb_outside.specs.Outside.{appended}
use Rattle.update_run.specs.Printed.{told_rounds}
use Rattle.verdict_report.specs.Printed.{report_lines, summary_text}
use Rattle.update_run.specs.Opening.{first_lists}
use Rattle.update_run.specs.Saved.{saved_lists}
use Rattle.input_lines.specs.Lines.{lines_of}
use Rattle.client_laws.specs.Reports.{ArePublishedReplicas, publications_in}
use Rattle.client_laws.proofs.Published.{are_published}
use Rattle.client_laws.proofs.judgings.runs_of_verdicts_hold.Goals as goal

pub returns : goal.returns
returns c history token_at plan judgement before after run well safe honest =
    let judged = run.ends.judges.judged in
    let rounds = run.ends.updated.rounds in
    let first = first_lists plan.updates.names run.begins.kept in
    let replicas : ArePublishedReplicas history token_at (publications_in run) = (
      c.stores_begin_runs.ensures history token_at run.begins.kept plan.updates.names safe,
      are_published history token_at plan.updates.names (saved_lists first rounds) (c.rounds_save_replicas.ensures history token_at plan.updates.names run.begins.kept rounds well safe honest),
    ) in
    record {
      published = replicas;
      hold =
          c.rows_of_verdicts_hold.ensures.judged history token_at plan (publications_in run) run.begins.finds judged.finds
          run.ends.between.outside after.seen.outside (lines_of run.begins.input) run.ends.judges.all judged.judges well replicas;
      text = run.ends.judges.text ∙ ap (λ (known : Option (List ℕ)). appended known (told_rounds run.begins.kept first rounds ++ (report_lines 1 run.ends.judges.all ++ summary_text run.ends.judges.all))) run.ends.updated.waiting;
    }
