use Rattle.std.proofs.Common.{◌≡◌, ◌∷◌, [], ◌++◌, List, ℕ, take, sym, ap, ◌∙◌, arith}
use Rattle.std.proofs.lemmas.List.{take_more}
use Rattle.prefix_set.specs.Pieces.{pieces_of}
use Rattle.prefix_set.proofs.PackedFacts.{pieces_of-itself}
use Rattle.prefix_set.proofs.packed.PackedPrefixes.from_prefixes.Goals as goal

pub loop-prefix-preserved : goal.loop-prefix-preserved
loop-prefix-preserved c =
    let piece : pieces_of c.size.result c.as_bytes.result.now ≡ c.prefix-item.result ∷ []
    = (λ j. pieces_of (c.size.ensures.value j) (c.as_bytes.ensures j)) ∙ pieces_of-itself c.prefix-item.result (omega (arith, c.size.ensures.at_least)) in
    c.in_ok-push_each.ensures.ok ∙ (λ j. c.loop-prefix.invariant j ++ piece j)
    ∙ ap (λ (m : List ℕ). take c.loop-prefix.prefix-index c.args.prefixes.now ++ m ∷ []) c.prefix-item.is
    ∙ sym (take_more c.args.prefixes.now c.loop-prefix.prefix-index c.prefix-item.result c.loop-prefix-test.true)
