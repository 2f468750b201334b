use Rattle.std.proofs.Common.{◌-◌, length}
use Rattle.parallel_checks.proofs.SettleFacts.{AnewTo}
use Rattle.parallel_checks.proofs.settling.check_anew.Given as goal

abbrev pub invariant-loop-index : goal.invariant-loop-index
invariant-loop-index l = AnewTo l.shown.last l.urls l.fn.checks l.checks l.place l.step l.index

abbrev pub decreases-loop-index : goal.decreases-loop-index
decreases-loop-index l = length l.urls - l.index
