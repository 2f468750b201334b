use Rattle.url_checker.proofs.RunOfFindings.{begins_findings, goes_on}
use Rattle.url_checker.proofs.laws.findings_go_on.Goals as goal

pub returns : goal.returns
returns c = record { none = begins_findings c.traces_go_on.ensures.none; one_more = goes_on c.traces_go_on.ensures.one_more }
