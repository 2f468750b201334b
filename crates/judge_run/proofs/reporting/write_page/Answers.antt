use Rattle.judge_run.proofs.ReportFacts.{front_of_page}
use Rattle.judge_run.proofs.reporting.write_page.Goals as goal

pub returns-in-Err-clause-front : goal.returns-in-Err-clause-front
returns-in-Err-clause-front g c =
    let err = c.in-Err.ensures.err in
    front_of_page _ _ c.args.page.now err.0 err.1 err.2
