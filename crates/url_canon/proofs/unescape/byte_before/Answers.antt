use Rattle.std.proofs.Common.{◌∷◌, drop, sym, ap, ◌∙◌}
use Rattle.std.proofs.lemmas.Bool.{ne_eqb}
use Rattle.std.proofs.lemmas.List.{take_rest}
use Rattle.url_canon.specs.Unescaping.{with_byte}
use Rattle.url_canon.proofs.Unescapes.{with_byte-other}
use Rattle.url_canon.proofs.Inplace.{spelled_turn}
use Rattle.url_canon.proofs.unescape.byte_before.Goals as goal

pub loop-front-preserved : goal.loop-front-preserved
loop-front-preserved c =
    let step = c.in-Some.ensures in
    let turned = spelled_turn c.args.text.now c.args.byte c.loop-front.front c.loop-front.taken c.in-Some.value c.loop-front-test.true c.loop-front.invariant.within c.loop-front.invariant.value step.0 step.1 in
    record { within = turned.0; value = turned.1 }

pub returns-in_default-clause-value : goal.returns-in_default-clause-value
returns-in_default-clause-value c =
    let text = c.args.text.now in
    let rest = drop c.loop-front.taken text in
    let whole = take_rest text c.loop-front.taken in
    sym c.loop-front.invariant.value
    ∙ (ap (λ b. with_byte b rest) c.loop-front-test.true
    ∙ (ap (with_byte 37) (sym whole) ∙ (c.in_default.ensures ∙ (ap (λ r. 37 ∷ r) whole ∙ ap (λ b. b ∷ rest) (sym c.loop-front-test.true)))))

pub returns-clause-value : goal.returns-clause-value
returns-clause-value c =
    sym c.loop-front.invariant.value ∙ with_byte-other c.loop-front.front (drop c.loop-front.taken c.args.text.now) (ne_eqb c.loop-front.front 37 c.loop-front-test.false)
