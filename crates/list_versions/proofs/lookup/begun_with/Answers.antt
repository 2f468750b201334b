use Rattle.std.proofs.Common.{[]}
use Rattle.list_versions.specs.declared.bucket.Standing.{Standing}
use Rattle.list_versions.proofs.Begun.{begun_lines, whole_lines}
use Rattle.list_versions.proofs.lookup.begun_with.Goals as goal

pub loop-line-preserved : goal.loop-line-preserved
loop-line-preserved c =
    let d : Standing = record { added = record { hash = []; size = 0 }; place = 0 } in record {
      value = begun_lines c.args.prefix.now c.args.bucket.now c.loop-line.line-index d c.loop-line.found.items c.push_begun.new.found.items c.loop-line-test.true c.loop-line.invariant.value c.in_ok-push_begun.ensures.value;
      whole = whole_lines c.args.bucket.now c.loop-line.line-index d c.loop-line-test.true c.loop-line.invariant.whole c.push_begun.ensures.whole;
    }
