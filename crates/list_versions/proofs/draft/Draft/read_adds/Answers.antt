use Rattle.std.proofs.Common.{◌*◌, length, arith}
use Rattle.list_versions.proofs.Reading.{moves_then, waits_then}
use Rattle.list_versions.proofs.draft.Draft.read_adds.Goals as goal

pub loop-adds-preserved : goal.loop-adds-preserved
loop-adds-preserved c =
    let moves = rw c.in-Ok-Some.field-0-is at c.in-Ok-Some.ensures.moves in
    let one = rw c.in-Ok-Some.field-0-is at c.in-Ok-Some.ensures.length in
    let count = rw c.in-Ok-Some.field-0-is at c.in-Ok-Some.ensures.count in
    record {
      moves = moves_then (129 * length c.take_add.new.adds) c.loop-adds.invariant.moves moves (omega (arith, one));
      most = omega (arith, one, c.loop-adds-test.true, c.len.ensures);
      count = count;
      sizes = c.in-Ok-Some.ensures.sizes c.loop-adds.invariant.sizes;
    }

pub returns-in-Ok-None-clause-waits : goal.returns-in-Ok-None-clause-waits
returns-in-Ok-None-clause-waits c = waits_then c.args.self.now c.loop-adds.invariant.moves (rw c.in-Ok-None.field-0-is at c.in-Ok-None.ensures.waits)
