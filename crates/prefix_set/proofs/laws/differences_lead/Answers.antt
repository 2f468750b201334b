use Rattle.prefix_set.proofs.ApplyFacts.{removed_in_range}
use Rattle.prefix_set.proofs.DifferenceFacts.{leads_to_newer}
use Rattle.prefix_set.proofs.laws.differences_lead.Goals as goal

pub returns : goal.returns
returns c = record {
  leads = λ old newer held wanted. leads_to_newer old newer wanted;
  in_range = removed_in_range;
}
