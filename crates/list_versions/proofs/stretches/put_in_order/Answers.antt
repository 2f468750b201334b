use Rattle.list_versions.proofs.StretchOrder.{sorted_in_order}
use Rattle.list_versions.proofs.stretches.put_in_order.Goals as goal

pub returns-clause-order : goal.returns-clause-order
returns-clause-order c = sorted_in_order c.sort_unstable.new.self.items c.sort_unstable.ensures.sorted
