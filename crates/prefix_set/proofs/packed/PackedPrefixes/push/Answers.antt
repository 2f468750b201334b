use Rattle.std.proofs.Common.{◌++◌, List, ℕ, arith, ap, ◌∙◌}
use Rattle.std.proofs.lemmas.Result.{on_ok_weaker}
use Rattle.prefix_set.proofs.PackedFacts.{pieces_of-itself}
use Rattle.prefix_set.proofs.packed.PackedPrefixes.push.Goals as goal

pub returns-clause-ok : goal.returns-clause-ok
returns-clause-ok c =
    on_ok_weaker c.push_each.result
    (λ is. is ∙ ap (λ (ms : List (List ℕ)). c.args.self.now ++ ms) (pieces_of-itself c.args.prefix.now (omega (arith, c.requires.low))))
    c.push_each.ensures.ok
