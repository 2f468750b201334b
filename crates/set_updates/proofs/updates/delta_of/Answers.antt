use Rattle.set_updates.proofs.UpdateFacts.{may_be_sent}
use Rattle.set_updates.proofs.updates.delta_of.Goals as goal

pub returns-clause-sent : goal.returns-clause-sent
returns-clause-sent c =
    may_be_sent c.in_ok-delta.delta c.args.old.now c.args.newer.now (c.sent_numbers_rise.ensures.places c.args.old.now c.args.newer.now)
    c.in_ok-delta.ensures.removals c.in_ok-delta.ensures.additions c.len.ensures.count c.len-2.ensures.count
