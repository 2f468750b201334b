use Rattle.std.proofs.Common.{subst}
use Rattle.std.proofs.lemmas.Result.{on_ok_weaker}
use Rattle.prefix_set.specs.declared.layout.Layout.{Layout}
use Rattle.prefix_set.specs.Packing.{LaysOut}
use Rattle.prefix_set.proofs.PackedFacts.{lay_mixed, lay_mixed_cut}
use Rattle.prefix_set.proofs.layout.Layout.extend_cut.Goals as goal

pub returns-in-Mixed-clause-ok : goal.returns-in-Mixed-clause-ok
returns-in-Mixed-clause-ok c =
    on_ok_weaker c.push_moved.result (λ is ms more laid holds cut.
    lay_mixed_cut c.args.held c.args.from c.in-Mixed.ends.items c.push_moved.new.ends.items c.args.cuts.now ms more is
    (subst (λ (l : Layout). LaysOut l ms) c.in-Mixed.is laid) holds cut) c.push_moved.ensures.ok

pub returns-in_ok-push_moved-in-Even-clause-ok : goal.returns-in_ok-push_moved-in-Even-clause-ok
returns-in_ok-push_moved-in-Even-clause-ok c = λ ms more laid holds cut.
    lay_mixed_cut c.args.held c.args.from c.in_ok-ends-in-Even.ends.items c.push_moved-in-Even.new.ends.items c.args.cuts.now ms more
    c.in_ok-push_moved-in-Even.ensures.ok
    (lay_mixed c.in-Even.size c.args.held c.in_ok-ends-in-Even.ends.items ms c.in_ok-ends-in-Even.ensures (subst (λ (l : Layout). LaysOut l ms) c.in-Even.is laid) holds)
    holds cut
