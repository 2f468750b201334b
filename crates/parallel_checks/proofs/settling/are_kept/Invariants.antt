use Rattle.std.proofs.Common.{◌-◌, length}
use Rattle.parallel_checks.proofs.SettleFacts.{KeptTo}
use Rattle.parallel_checks.proofs.settling.are_kept.Given as goal

abbrev pub invariant-loop-index : goal.invariant-loop-index
invariant-loop-index l = KeptTo l.publisher.list l.checks l.place l.step l.index

abbrev pub decreases-loop-index : goal.decreases-loop-index
decreases-loop-index l = length l.checks - l.index
