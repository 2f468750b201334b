use Rattle.std.proofs.Common.{[], List, ℕ, not}
use Rattle.sb_model.specs.declared.history.Added.{Added}
use Rattle.list_versions.specs.Leading.{was_published}
use Rattle.list_versions.proofs.Leads.{filtered_more}
use Rattle.list_versions.proofs.leading.gained_by.Goals as goal

pub loop-entry-preserved : goal.loop-entry-preserved
loop-entry-preserved c =
    let d : Added = record { hash = []; size = 0 } in
    filtered_more (λ (prefix : List ℕ). not (was_published c.args.live.now.buckets.entries c.args.count c.args.gone.now prefix)) c.args.came.now c.loop-entry.entry-index d c.loop-entry.gained.items c.push_gained.new.gained.items
    c.loop-entry-test.true c.loop-entry.invariant c.in_ok-push_gained.ensures
