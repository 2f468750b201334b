use Rattle.std.proofs.Common.{◌∙◌}
use Rattle.http_edge.proofs.DecidingFacts.{stage_needs}
use Rattle.http_edge.proofs.deciding.RequestWatch.is_decided.Goals as goal

pub returns-in_default : goal.returns-in_default
returns-in_default c = record {
  decided = λ bytes stands yes. absurd (cc);
  undecided = λ bytes stands no. stage_needs bytes c.args.self.now.stage
      (λ is. c.in_default.not-Decided ((λ i. (c.self.view_is i).stage) ∙ is)) stands.stage;
}
