use Rattle.std.proofs.Common.{◌≡◌, drop}
use Rattle.sb_words.specs.Values.{has_each_once}
use Rattle.sb_words.proofs.named_lists.are_different.Given as goal

abbrev pub invariant-loop-i : goal.invariant-loop-i
invariant-loop-i l = has_each_once l.names ≡ has_each_once (drop l.i l.names)
