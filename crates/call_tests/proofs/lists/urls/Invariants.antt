use Rattle.std.proofs.Common.{◌≡◌, length}
use Rattle.call_tests.proofs.lists.urls.Given as goal

abbrev pub invariant-loop-number : goal.invariant-loop-number
invariant-loop-number l = length l.urls ≡ l.number
