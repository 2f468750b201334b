use Rattle.std.proofs.Common.{take, sym, subst, ◌∙◌}
use Rattle.std.specs.Prelude.{fold}
use Rattle.std.proofs.lemmas.List.Sums.{fold_more}
use Rattle.sb_model.specs.History.{with_added}
use Rattle.delta_server.specs.Version.{Stands}
use Rattle.delta_server.proofs.version.Version.add_each.Goals as goal

pub loop-added-preserved : goal.loop-added-preserved
loop-added-preserved c = record {
  stands = λ entries before.
      subst (Stands c.add.new.self) (sym (fold_more with_added entries c.args.adds.now c.loop-added.added-index _ c.loop-added-test.true))
      (c.in_ok-add.ensures.ok (fold with_added entries (take c.loop-added.added-index c.args.adds.now)) (c.loop-added.invariant.stands entries before));
  held = c.in_ok-add.ensures.held ∙ c.loop-added.invariant.held;
}
