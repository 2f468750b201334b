use Rattle.std.proofs.Common.{[], ◌∷◌, false, Ok, Err, refl, ◌∙◌}
use Rattle.input_lines.specs.Lines.{lines_of}
use Rattle.judge_run.specs.declared.judgement.Judgement.{Judgement}
use Rattle.judge_run.specs.declared.stop.JudgeStop.TheVariants.{OutOfMemory, WriteFault}
use Rattle.judge_run.proofs.AloneFacts.{ends_alone, never_fall_on_one}
use Rattle.judge_run.proofs.Endings.{judges_all, stops_among, stops_at_waiting, stops_reporting}
use Rattle.judge_run.proofs.alone.judge_alone.Goals as goal

pub returns-in-Err-clause-ends : goal.returns-in-Err-clause-ends
returns-in-Err-clause-ends g c = λ keeper.
    let begun = c.args.begun in
    let client = begun.client in
    ends_alone c.rounds_go_on.ensures.none c.args.plan.now client begun.finds begun.text begun.text _ _ (Err WriteFault) c.requires.none refl
    (stops_at_waiting c.args.plan.now (client.lists ∷ []) begun.finds client.page (lines_of begun.text) keeper _ _ _ c.in-Err.ensures.err)
    tt

pub returns-in-Ok-print_report-clause-ends : goal.returns-in-Ok-print_report-clause-ends
returns-in-Ok-print_report-clause-ends g c = λ keeper.
    let begun = c.args.begun in
    let client = begun.client in
    let text = c.as_slice.result.now in
    let reported = c.in-Ok.ensures.judged in
    let judged = reported.judged in
    let judgement : Judgement = record { outcome = c.outcome_of.result; refused = false } in
    ends_alone c.rounds_go_on.ensures.none c.args.plan.now client begun.finds text begun.text _ _ (Ok judgement) c.requires.none c.as_slice.ensures
    (judges_all c.args.plan.now (client.lists ∷ []) begun.finds client.page (lines_of text) keeper _ _ _ _ _ reported.all judged c.in_default.ensures.ok judgement
    (never_fall_on_one c.args.plan.now.workers c.args.plan.now (client.lists ∷ []) _ _ judged.judges.cases refl judged.judges.are) (c.in-Ok-print_report.ensures.text reported.all reported.report_is)
    (c.outcome_of.ensures reported.all (c.print_report.ensures.counts ∙ reported.report_is.counts)))
    refl

pub returns-in-Ok-clause-ends : goal.returns-in-Ok-clause-ends
returns-in-Ok-clause-ends g c = λ keeper.
    let begun = c.args.begun in
    let client = begun.client in
    let text = c.as_slice.result.now in
    let reported = c.in-Ok.ensures.judged in
    ends_alone c.rounds_go_on.ensures.none c.args.plan.now client begun.finds text begun.text _ _ (Err c.in-Err-print_report.stop) c.requires.none c.as_slice.ensures
    (stops_reporting c.args.plan.now (client.lists ∷ []) begun.finds client.page (lines_of text) keeper _ _ _ _ _ reported.all reported.judged c.in_default.ensures.ok
    c.in-Err-print_report.stop _ _ c.in-Err-print_report.ensures.stopped (c.in-Err-print_report.ensures.front reported.all reported.report_is))
    tt

pub returns-clause-ends : goal.returns-clause-ends
returns-clause-ends g c = λ keeper.
    let begun = c.args.begun in
    let client = begun.client in
    let text = c.as_slice.result.now in
    ends_alone c.rounds_go_on.ensures.none c.args.plan.now client begun.finds text begun.text _ _ (Err OutOfMemory) c.requires.none c.as_slice.ensures
    (stops_among c.args.plan.now (client.lists ∷ []) begun.finds client.page (lines_of text) keeper _ _ _ _ c.in-Err-look_up_all.ensures.stopped c.in_default.ensures.ok)
    tt
