use Rattle.std.proofs.Common.{ℕ, List, ◌∙◌, ap, subst}
use Rattle.std.specs.List.{concat}
use Rattle.sb_outside.specs.Outside.{appended}
use Rattle.sb_outside.specs.Writing.{HasFront}
use Rattle.judge_run.proofs.ReportFacts.{front_of_report, front_of_lines}
use Rattle.judge_run.proofs.reporting.print_report.Goals as goal

pub returns-in-Err-write_last-clause-front : goal.returns-in-Err-write_last-clause-front
returns-in-Err-write_last-clause-front g c = λ all is.
    let pages = c.in-Ok.ensures.text ∙ ap (λ (ps : List (List ℕ)). appended (g.O.Sink.contents c.args.out.now) (concat ps)) c.as_slice.ensures in
    front_of_report _ _ _ c.args.report.now all is pages (c.in-Err-write_last.ensures.front all is.counts)

pub returns-in-Err-clause-front : goal.returns-in-Err-clause-front
returns-in-Err-clause-front g c = λ all is.
    front_of_lines _ _ c.args.report.now all is (subst (λ (ps : List (List ℕ)). HasFront (g.O.Sink.contents c.args.out.now) (g.O.Sink.contents c.write_pages.new.out) (concat ps)) c.as_slice.ensures c.in-Err.ensures.front)
