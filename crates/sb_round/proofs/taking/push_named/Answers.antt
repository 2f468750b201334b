use Rattle.std.proofs.Common.{◌≡◌, [], ◌∷◌, ◌++◌, Some, ◌∙◌, ap, arith}
use Rattle.sb_model.specs.declared.names.ListName.{ListName}
use Rattle.update_messages.specs.Messages.{UpdatedList}
use Rattle.sb_round.specs.declared.rounds.Taken.{Taken}
use Rattle.sb_round.proofs.Results.{named_more}
use Rattle.sb_round.proofs.taking.push_named.Goals as goal

pub loop-update-preserved : goal.loop-update-preserved
loop-update-preserved c =
    let at = c.loop-update in
    let some : c.next.result ≡ Some c.unwrap-result.result = c.unwrap-result.ensures in
    let steps = rw some at c.next.ensures.cases in
    let name : c.update.inside.name ≡ c.update-item.result.name = ap (λ (u : UpdatedList). u.name) c.update.view_is in
    let one : ListName → Taken = λ n. record { name = n; result = c.unwrap-result.result } in
    record {
      so_far =
          named_more c.args.updates.now at.update-index c.update-item.result c.unwrap-result.result at.taken.items c.push_within.new.taken.items _ _ _
          c.loop-update-test.true c.update-item.is steps.0 (c.push_within.ensures.items ∙ ap (λ n. at.taken.items ++ one n ∷ []) name) at.invariant.so_far;
      each = omega (arith, at.invariant.each, steps.1);
      room = omega (arith, at.invariant.room, c.push_within.ensures.len, c.push_within.ensures.capacity);
    }
