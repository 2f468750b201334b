use Rattle.prefix_set.proofs.PackedList.{member_is, member_size}
use Rattle.prefix_set.proofs.packed.PackedPrefixes.at.Goals as goal

pub returns-clause-value : goal.returns-clause-value
returns-clause-value c = member_is c.args.i c.args.self.now c.part.result.now c.requires c.part.ensures.value

pub returns-clause-size : goal.returns-clause-size
returns-clause-size c = member_size c.args.i c.args.self.now c.part.result.now c.part.ensures.sizes c.requires c.part.ensures.value
