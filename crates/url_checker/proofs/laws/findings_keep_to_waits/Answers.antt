use Rattle.url_checker.proofs.RunOfFindings.{keep_to_waits}
use Rattle.url_checker.proofs.laws.findings_keep_to_waits.Goals as goal

pub returns : goal.returns
returns c = keep_to_waits
