use Rattle.sb_journal.proofs.RisingSets.{SetLaws, sorted_without_repeats}
use Rattle.sb_journal.proofs.sets.put_in_order.Goals as goal

pub returns : goal.returns
returns c =
    let laws : SetLaws = record { rising = c.sets_go_by_members.ensures.rising; members = c.sets_go_by_members.ensures.members; only = c.sets_go_by_members.ensures.only } in
    sorted_without_repeats laws c.args.hashes.now.items c.sort_unstable.new.self.items c.dedup.new.self.items
    c.sort_unstable.ensures.permutation c.sort_unstable.ensures.sorted c.dedup.ensures.filtered
