use Rattle.std.proofs.Common.{◌≡◌, ◌+◌, length}
use Rattle.publication_looks.proofs.looks.publish_copies.Given as goal

abbrev pub invariant-loop-made : goal.invariant-loop-made
invariant-loop-made g l = length l.publisher.list ≡ length l.initial.publisher.list + l._made
