use Rattle.std.proofs.Common.{refl, ◌∙◌}
use Rattle.std.proofs.lemmas.Result.{err_from_is_err_and}
use Rattle.update_client.specs.Step.{places_of, joined}
use Rattle.update_client.proofs.Joining.{read_none, read_more, read_fault, read_all, Removes-removals, Removes-additions, Removes-from}
use Rattle.update_client.proofs.feeding.remove_sets.Goals as goal

pub loop-set-init : goal.loop-set-init
loop-set-init c = record { read = read_none c.args.edit.now.removals (joined places_of c.args.sets.now); additions = refl }

pub loop-set-preserved : goal.loop-set-preserved
loop-set-preserved c =
    let so_far = c.loop-set.invariant in
    record {
      read =
          read_more places_of c.args.sets.now c.loop-set.set-index c.set-item.result c.args.edit.now.removals c.loop-set.edit.removals c.remove_set.new.edit.removals
          (joined places_of c.args.sets.now) c.loop-set-test.true c.set-item.is so_far.read (Removes-removals c.loop-set.edit c.remove_set.new.edit (places_of c.set-item.result) c.in_ok-remove_set.ensures.ok);
      additions = Removes-additions c.loop-set.edit c.remove_set.new.edit (places_of c.set-item.result) c.in_ok-remove_set.ensures.ok ∙ so_far.additions;
    }

pub returns-in_err-remove_set-clause-fault : goal.returns-in_err-remove_set-clause-fault
returns-in_err-remove_set-clause-fault c =
    let given = err_from_is_err_and c.from_residual.result c.from_residual.ensures.1 in
    rw (given.1, given.2)
    (read_fault places_of c.args.sets.now c.loop-set.set-index c.set-item.result c.args.edit.now.removals c.loop-set.edit.removals (joined places_of c.args.sets.now)
    _ c.loop-set-test.true c.set-item.is c.loop-set.invariant.read c.in_err-remove_set.ensures.fault)

pub returns : goal.returns
returns c =
    let so_far = c.loop-set.invariant in
    record {
      ok =
          Removes-from c.args.edit.now c.loop-set.edit (joined places_of c.args.sets.now)
          (read_all places_of c.args.sets.now c.loop-set.set-index c.args.edit.now.removals c.loop-set.edit.removals (joined places_of c.args.sets.now) c.loop-set-test.false so_far.read)
          so_far.additions;
      fault = tt;
    }
