use Rattle.std.proofs.Common.{[], List, ℕ, not}
use Rattle.sb_model.specs.declared.history.Added.{Added}
use Rattle.sb_model.specs.Difference.{has_member}
use Rattle.list_versions.proofs.Leads.{filtered_after}
use Rattle.list_versions.proofs.leading.push_lost_of.Goals as goal

pub loop-entry-preserved : goal.loop-entry-preserved
loop-entry-preserved c =
    let d : Added = record { hash = []; size = 0 } in
    filtered_after (λ (prefix : List ℕ). not (has_member c.args.newest.now prefix)) c.args.went.now c.loop-entry.entry-index d c.args.lost.now.items c.loop-entry.lost.items c.push_lost.new.lost.items c.loop-entry-test.true
    c.loop-entry.invariant c.in_ok-push_lost.ensures
