use Rattle.std.proofs.Common.{ap, ◌∙◌, arith, take, drop}
use Rattle.std.proofs.lemmas.List.{take_rest, length-drop}
use Rattle.sb_outside.specs.Outside.{appended}
use Rattle.sb_outside.proofs.Appended.{appended_more}
use Rattle.sb_outside.proofs.traits.write_all.Goals as goal

pub loop-taken-preserved : goal.loop-taken-preserved
loop-taken-preserved g c =
    let taken = rw take_rest at c.in_ok-taken.ensures.bytes in
    let within = rw (take_rest, length-drop) at c.in_ok-taken.ensures.within in
    record {
      within = omega (arith, within);
      kept = c.in_ok-taken.ensures.kept ∙ c.loop-taken.invariant.kept;
      took = taken
          ∙ ap (λ known. appended known (take c.in_ok-taken.field-0 (drop c.loop-taken.taken c.args.piece.now))) c.loop-taken.invariant.took
          ∙ appended_more (g.O.Sink.contents c.args.out.now) c.args.piece.now c.loop-taken.taken c.in_ok-taken.field-0;
      other = c.in_ok-taken.ensures.other ∙ c.loop-taken.invariant.other;
    }
