use Rattle.std.proofs.Common.{◌∷◌, [], ◌++◌, List, ℕ, ◌+◌, append_assoc, sym, ap, ◌∙◌, arith}
use Rattle.prefix_set.specs.Packing.{even_ends}
use Rattle.prefix_set.proofs.PackedFacts.{even_ends_more}
use Rattle.prefix_set.proofs.layout.push_even.Goals as goal

pub loop-i-preserved : goal.loop-i-preserved
loop-i-preserved c =
    let done : List ℕ = even_ends c.args.start c.args.size c.loop-i._i in
    let end : ℕ = c.loop-i.end + c.from-end.result in
    record {
      items = c.in_ok-push.ensures.items ∙ ap (λ (xs : List ℕ). xs ++ end ∷ []) c.loop-i.invariant.items
          ∙ append_assoc c.args.ends.now.items done (end ∷ [])
          ∙ ap (λ (xs : List ℕ). c.args.ends.now.items ++ xs)
          (sym (even_ends_more c.args.start c.args.size c.loop-i._i end (omega arith)));
      last = omega arith;
      room = omega arith;
    }
