use Rattle.list_versions.proofs.Begun.{begun_more}
use Rattle.list_versions.proofs.listing.begun_in.Goals as goal

pub loop-entry-preserved : goal.loop-entry-preserved
loop-entry-preserved c =
    begun_more c.args.prefix.now c.args.entries.now c.loop-entry.entry-index _ c.loop-entry.hashes.items c.push_begun.new.found.items c.loop-entry-test.true c.loop-entry.invariant c.in_ok-push_begun.ensures
