use Rattle.std.proofs.Common.{refl}
use Rattle.url_canon.proofs.Components.{written-turn}
use Rattle.url_canon.proofs.path.append_components.Goals as goal

pub loop-place-preserved : goal.loop-place-preserved
loop-place-preserved c =
    written-turn c.args.components.now c.loop-place.place _ _ c.loop-place.out _ _ c.loop-place-test.true refl c.in_ok-append_component.ensures c.loop-place.invariant
