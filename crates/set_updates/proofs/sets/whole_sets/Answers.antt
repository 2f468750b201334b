use Rattle.std.proofs.Common.{◌-◌, ap, subst, sym, ◌∙◌, ◌≡◌, arith}
use Rattle.std.specs.Prelude.{All}
use Rattle.std.proofs.lemmas.List.Elements.{All-push}
use Rattle.update_messages.specs.Messages.{IsAddition}
use Rattle.set_updates.proofs.SetFacts.{sets_up_to, sets_pushed, sets_kept}
use Rattle.set_updates.proofs.sets.whole_sets.Goals as goal
use Rattle.set_updates.proofs.sets.whole_sets.Goals.{then-sizes-size+in_ok-whole_set+in_ok-push, else-sizes-size}

pub whole_set-requires-clause-some : goal.whole_set-requires-clause-some
whole_set-requires-clause-some c = sym (c.sizes-sizes.ensures.occurs c.loop-size.size (omega arith)) ∙ c.if-sizes-size.true

pub loop-size-preserved : goal.loop-size-preserved
loop-size-preserved c =
    elim c.if-sizes-size.branch [
      | then-sizes-size+in_ok-whole_set+in_ok-push w ↦ (
        sets_pushed c.args.rice c.args.set.now c.loop-size.size c.loop-size.sets c.if-sizes-size.sets w.in_ok-whole_set.field-0 c.loop-size.auto.size
            (sym (c.sizes-sizes.ensures.occurs c.loop-size.size (omega arith)) ∙ w.if-sizes-size.true) c.loop-size.invariant.0
            w.in_ok-whole_set.ensures.set (w.sets-is ∙ w.in_ok-push.ensures.ok),
        subst (All IsAddition) (sym (w.sets-is ∙ w.in_ok-push.ensures.ok))
            (All-push IsAddition c.loop-size.sets w.in_ok-whole_set.field-0 c.loop-size.invariant.1 w.in_ok-whole_set.ensures.keeps),
      )
      | else-sizes-size w ↦ (
        w.sets-is ∙ sets_kept c.args.rice c.args.set.now c.loop-size.size c.loop-size.sets c.loop-size.auto.size (sym (c.sizes-sizes.ensures.occurs c.loop-size.size (omega arith)) ∙ w.if-sizes-size.false) c.loop-size.invariant.0,
        subst (All IsAddition) (sym w.sets-is) c.loop-size.invariant.1,
      )
    ]

pub returns-clause-sets : goal.returns-clause-sets
returns-clause-sets c =
    let all : c.loop-size.size ≡ 33 = omega arith in
    c.loop-size.invariant.0 ∙ ap (λ n. sets_up_to c.args.rice c.args.set.now (n - 4)) all
