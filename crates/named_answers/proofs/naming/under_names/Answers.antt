use Rattle.std.proofs.Common.{◌≡◌, [], ◌∷◌, ◌++◌, Some, ◌∙◌, ap, arith}
use Rattle.update_messages.specs.Messages.{UpdatedList}
use Rattle.named_answers.proofs.Items.{under_more}
use Rattle.named_answers.proofs.naming.under_names.Goals as goal

pub loop-name-preserved : goal.loop-name-preserved
loop-name-preserved c =
    let at = c.loop-name in
    let some : c.next.result ≡ Some c.unwrap-update.result = c.unwrap-update.ensures in
    let steps = rw some at c.next.ensures.cases in
    record {
      so_far =
          under_more c.args.names.now at.name-index _ c.unwrap-update.result at.named c.push.new.self _ _ _
          c.loop-name-test.true steps.0 (c.in_ok-push.ensures.ok ∙ ap (λ (u : UpdatedList). at.named ++ u ∷ []) c.under_name.ensures) at.invariant.so_far;
      each = omega (arith, at.invariant.each, steps.1);
    }
