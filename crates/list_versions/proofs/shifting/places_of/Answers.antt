use Rattle.std.proofs.Common.{[]}
use Rattle.sb_model.specs.declared.history.Added.{Added}
use Rattle.list_versions.proofs.Shiftings.{going_next}
use Rattle.list_versions.proofs.shifting.places_of.Goals as goal

pub loop-entry-preserved : goal.loop-entry-preserved
loop-entry-preserved c =
    let d : Added = record { hash = []; size = 0 } in
    going_next c.args.set.now c.args.live.now.buckets.entries c.args.count c.args.leaving.now c.loop-entry.entry-index d c.loop-entry.places.items c.push_place.new.places.items c.loop-entry-test.true
    c.loop-entry.invariant c.in_ok-push_place.ensures
