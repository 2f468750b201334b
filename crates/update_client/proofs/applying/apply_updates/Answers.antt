use Rattle.update_client.specs.Step.{after_updates, results_of}
use Rattle.update_client.specs.Applying.{all_changed}
use Rattle.update_client.proofs.Runs.{lists_more, results_more}
use Rattle.update_client.proofs.applying.apply_updates.Goals as goal

pub loop-update-preserved : goal.loop-update-preserved
loop-update-preserved c =
    let so_far = c.loop-update.invariant in
    let now = all_changed c.args.lists.now c.loop-update.changes in
    let next = all_changed c.args.lists.now c.apply_to_named.new.changes in
    let start = all_changed c.args.lists.now c.args.changes.now in
    record {
      lists =
          lists_more c.args.updates.now c.loop-update.update-index c.update-item.result now next (after_updates start c.args.updates.now) c.loop-update-test.true c.update-item.is
          c.in_ok-apply_to_named.ensures.lists so_far.lists;
      results =
          results_more c.args.updates.now c.loop-update.update-index c.update-item.result now next c.loop-update.results c.push.new.self (results_of start c.args.updates.now) c.in_ok-apply_to_named.field-0
          c.loop-update-test.true c.update-item.is c.in_ok-apply_to_named.ensures.lists c.in_ok-apply_to_named.ensures.outcome c.in_ok-push.ensures.ok so_far.results;
    }
