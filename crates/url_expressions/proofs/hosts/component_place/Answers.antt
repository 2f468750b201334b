use Rattle.std.proofs.Common.{◌<◌, length, drop, ap, ◌∙◌, arith, length-drop}
use Rattle.std.proofs.lemmas.List.{drop-drop}
use Rattle.url_expressions.specs.Expressions.{components}
use Rattle.url_expressions.proofs.hosts.component_place.Goals as goal

pub loop-preserved : goal.loop-preserved
loop-preserved c =
    let cs = components c.args.host.now in
    let more : 1 < length (components (drop c.loop.place c.args.host.now)) = omega (arith, ap (λ ds. length ds) c.loop.invariant.value, length-drop c.loop.counter cs, c.requires, c.loop-test.true) in
    record {
      within = c.after_dot-place.ensures.within;
      value = c.after_dot-place.ensures.value more ∙ (ap (λ ds. drop 1 ds) c.loop.invariant.value ∙ drop-drop 1 c.loop.counter cs);
    }
