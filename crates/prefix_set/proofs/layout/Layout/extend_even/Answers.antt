use Rattle.std.proofs.Common.{ℕ, ◌++◌, inl, inr, subst, sym}
use Rattle.std.proofs.lemmas.Result.{on_ok_weaker}
use Rattle.prefix_set.specs.declared.layout.Layout.{Layout}
use Rattle.prefix_set.specs.declared.layout.Layout.TheVariants.{Even}
use Rattle.prefix_set.specs.Packing.{LaysOut}
use Rattle.prefix_set.proofs.PackedFacts.{lay_even_more, lay_even_first, lay_mixed, lay_mixed_even}
use Rattle.prefix_set.proofs.layout.Layout.extend_even.Goals.{then-own-size-via-then-own-size, then-own-size-via-else-own-size+then-added-eq0}
use Rattle.prefix_set.proofs.layout.Layout.extend_even.Goals as goal

pub returns-then-own-size-clause-ok : goal.returns-then-own-size-clause-ok
returns-then-own-size-clause-ok c = λ ms more laid holds even adds.
    let own : ℕ = c.in-Even.own in
    let before : LaysOut (Even own) ms = subst (λ (l : Layout). LaysOut l ms) c.in-Even.is laid in
    elim c.then-own-size.branch [
      | then-own-size-via-then-own-size w ↦ subst (λ (l : Layout). LaysOut l (ms ++ more)) (sym w.self-is)
          (lay_even_more own c.args.size c.args.added ms more (inl w.if-own-size.true) c.requires.size before even adds)
      | then-own-size-via-else-own-size+then-added-eq0 w ↦ subst (λ (l : Layout). LaysOut l (ms ++ more)) (sym w.self-is)
          (lay_even_more own c.args.size c.args.added ms more (inr w.if-added-eq0.true) c.requires.size before even adds)
    ]

pub returns-then-held-eq0-clause-ok : goal.returns-then-held-eq0-clause-ok
returns-then-held-eq0-clause-ok c = λ ms more laid holds even adds.
    lay_even_first c.in-Even.own c.args.size c.args.held ms more c.if-held-eq0.true c.requires.size
    (subst (λ (l : Layout). LaysOut l ms) c.in-Even.is laid) holds even

pub returns-in-Mixed-clause-ok : goal.returns-in-Mixed-clause-ok
returns-in-Mixed-clause-ok c =
    on_ok_weaker c.push_even.result (λ is ms more laid holds even adds.
    lay_mixed_even c.args.held c.args.size c.args.added c.in-Mixed.ends.items c.push_even.new.ends.items ms more is c.requires.size
    (subst (λ (l : Layout). LaysOut l ms) c.in-Mixed.is laid) holds even adds) c.push_even.ensures.ok

pub returns-in_ok-push_even-in-Even-clause-ok : goal.returns-in_ok-push_even-in-Even-clause-ok
returns-in_ok-push_even-in-Even-clause-ok c = λ ms more laid holds even adds.
    lay_mixed_even c.args.held c.args.size c.args.added c.in_ok-ends-in-Even.ends.items c.push_even-in-Even.new.ends.items ms more
    c.in_ok-push_even-in-Even.ensures.ok c.requires.size
    (lay_mixed c.in-Even.own c.args.held c.in_ok-ends-in-Even.ends.items ms c.in_ok-ends-in-Even.ensures (subst (λ (l : Layout). LaysOut l ms) c.in-Even.is laid) holds)
    holds even adds
