use Rattle.delta_server.proofs.FindFacts.{sorted_without_repeats}
use Rattle.delta_server.proofs.finding.put_in_order.Goals as goal

pub returns : goal.returns
returns c =
    sorted_without_repeats c.args.hashes.now.items c.sort_unstable.new.self.items c.dedup.new.self.items
    c.sets_go_by_members.ensures.rising c.sets_go_by_members.ensures.members c.sets_go_by_members.ensures.only
    c.sort_unstable.ensures.permutation c.sort_unstable.ensures.sorted c.dedup.ensures.filtered
