use Rattle.proxy_laws.proofs.Rightness.{verdicts_hold}
use Rattle.proxy_laws.proofs.verdicts.proxy_verdicts_hold.Goals as goal

pub returns : goal.returns
returns c =
    let steps = c.looks_and_answers_are_steps.ensures in
    let shared = c.shared_verdicts_are_lookups.ensures in
    verdicts_hold steps.looked steps.answered shared.resolved shared.borne_out shared.open
