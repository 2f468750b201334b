use Rattle.set_updates.proofs.sets.whole_set.Goals as goal

pub addition_set-requires-clause-members : goal.addition_set-requires-clause-members
addition_set-requires-clause-members c = (c.args.set.now, c.in_ok-bytes.ensures, c.requires.some, c.len.ensures.count)
