use Rattle.std.proofs.Common.{◌≡◌, ◌+◌, length}
use Rattle.call_tests.proofs.halfway.publish.Given as goal

abbrev pub invariant-loop-made : goal.invariant-loop-made
invariant-loop-made g l = (l.publisher.boxes ≡ l.fn.publisher.boxes) × (length l.publisher.list ≡ length l.fn.publisher.list + l._made)
