use Rattle.std.proofs.Common.{sym, subst, ◌++◌}
use Rattle.sb_model.specs.Candidate.{without_places}
use Rattle.sb_model.specs.Prefixes.{IsRising}
use Rattle.prefix_set.proofs.SetFacts.{rising-set_of}
use Rattle.prefix_set.proofs.set.PrefixSet.changed.Goals as goal

pub of_rising-requires : goal.of_rising-requires
of_rising-requires g c = subst IsRising (sym c.in_ok-members.ensures.set) (rising-set_of (without_places c.packed.result.now c.args.removals.items ++ c.args.additions))
