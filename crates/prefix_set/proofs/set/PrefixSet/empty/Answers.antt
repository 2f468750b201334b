use Rattle.std.proofs.Common.{sym, subst}
use Rattle.prefix_set.specs.Limits.{IsPrefixSet}
use Rattle.prefix_set.proofs.ApplyFacts.{IsPrefixSet-nil}
use Rattle.prefix_set.proofs.set.PrefixSet.empty.Goals as goal

pub of-requires : goal.of-requires
of-requires c = subst IsPrefixSet (sym c.new.ensures) IsPrefixSet-nil
