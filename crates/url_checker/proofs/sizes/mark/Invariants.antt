use Rattle.std.proofs.Common.{◌≡◌, length}
use Rattle.url_checker.proofs.SizeFacts.{AreMarked, AreLeft}
use Rattle.url_checker.proofs.sizes.mark.Given as goal

-- the sizes so far are marked
abbrev pub invariant-loop-size : goal.invariant-loop-size
invariant-loop-size l = record {
  marked : AreMarked l.own l.marks l.size;
  left : AreLeft l.fn.marks l.marks;
  long : length l.marks ≡ 33;
}
