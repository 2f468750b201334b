use Rattle.std.proofs.Common.{rules, length, ◌≡◌, ◌∷◌, ◌++◌, refl, arith, ◌∙◌, ap}
use Rattle.std.specs.Int.{w32, to_le_bytes}
use Rattle.update_client.proofs.Blocks.{gathered_more, still_whole}
use Rattle.update_client.proofs.feeding.gather.Goals as goal

pub loop-gathered-preserved : goal.loop-gathered-preserved
loop-gathered-preserved c =
    let so_far = c.loop-gathered.invariant in
    let taken : c.loop-gathered.reader.values ≡ c.in-Some.number ∷ c.next.new.self.values = rw c.in-Some.is at c.in_ok-number.ensures.value in
    let longer : c.append.new.self ≡ c.loop-gathered.block ++ to_le_bytes w32 c.in-Some.number = search rules in
    record {
      whole = still_whole c.loop-gathered.block c.append.new.self (to_le_bytes w32 c.in-Some.number) so_far.whole refl longer;
      numbers =
          gathered_more (to_le_bytes w32) c.args.block.now c.loop-gathered.block c.append.new.self c.in-Some.number c.args.reader.now.values c.loop-gathered.reader.values
          c.next.new.self.values so_far.whole refl so_far.numbers taken longer;
      fault = (rw c.in-Some.is at c.in_ok-number.ensures.value_fault) ∙ so_far.fault;
      count = omega (arith, ap length taken);
    }
