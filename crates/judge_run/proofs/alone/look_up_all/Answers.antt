use Rattle.std.proofs.Common.{[], ◌∷◌, subst}
use Rattle.input_lines.specs.Lines.{lines_of}
use Rattle.input_lines.specs.Ways.{on_any}
use Rattle.url_checker.specs.declared.finds.Finds.{Finds}
use Rattle.judge_run.specs.Judging.{JudgesLines, StopsJudging}
use Rattle.judge_run.proofs.Cases.{first_are, stops_at_once}
use Rattle.judge_run.proofs.alone.look_up_all.Goals as goal

pub returns-in_err-states-clause-stopped : goal.returns-in_err-states-clause-stopped
returns-in_err-states-clause-stopped g c = on_any _ (stops_at_once _ _ _ _ _)

pub returns-in_err-finds-clause-stopped : goal.returns-in_err-finds-clause-stopped
returns-in_err-finds-clause-stopped g c = on_any _ (stops_at_once _ _ _ _ _)

pub returns-in_err-report-clause-stopped : goal.returns-in_err-report-clause-stopped
returns-in_err-report-clause-stopped g c =
    let first = first_are c.in_ok-finds.finds c.args.first c.in_ok-finds.ensures.cache c.in_ok-finds.ensures.waits in
    on_any _
    (subst (λ (finds : Finds). StopsJudging c.args.plan.now (c.args.lists.now ∷ []) finds (g.N.Line.view c.args.line.now).told (g.N.Line.view c.look_up_lines.new.line).told (lines_of c.args.input.now))
    first c.in_err-report.ensures.stopped)

pub returns-clause-judged : goal.returns-clause-judged
returns-clause-judged g c =
    let first = first_are c.in_ok-finds.finds c.args.first c.in_ok-finds.ensures.cache c.in_ok-finds.ensures.waits in
    let reported = c.in_ok-report.ensures.judged in
    record {
      all = reported.all;
      report_is = reported.report_is;
      judged = record {
        finds = c.look_up_lines.new.finds;
        judges = subst (λ (finds : Finds). JudgesLines c.args.plan.now (c.args.lists.now ∷ []) finds c.look_up_lines.new.finds (g.N.Line.view c.args.line.now).told (g.N.Line.view c.look_up_lines.new.line).told
            (lines_of c.args.input.now) reported.all) first reported.judges;
      };
    }
