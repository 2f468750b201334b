use Rattle.std.proofs.Common.{refl, ◌∙◌}
use Rattle.std.proofs.lemmas.Result.{err_from_is_err_and}
use Rattle.update_client.specs.Step.{prefixes_of, joined}
use Rattle.update_client.proofs.Joining.{read_none, read_more, read_fault, read_all, Adds-additions, Adds-removals, Adds-from}
use Rattle.update_client.proofs.feeding.add_sets.Goals as goal

pub loop-set-init : goal.loop-set-init
loop-set-init c = record { read = read_none c.args.edit.now.additions (joined prefixes_of c.args.sets.now); removals = refl }

pub loop-set-preserved : goal.loop-set-preserved
loop-set-preserved c =
    let so_far = c.loop-set.invariant in
    record {
      read =
          read_more prefixes_of c.args.sets.now c.loop-set.set-index c.set-item.result c.args.edit.now.additions c.loop-set.edit.additions c.add_set.new.edit.additions
          (joined prefixes_of c.args.sets.now) c.loop-set-test.true c.set-item.is so_far.read (Adds-additions c.loop-set.edit c.add_set.new.edit (prefixes_of c.set-item.result) c.in_ok-add_set.ensures.ok);
      removals = Adds-removals c.loop-set.edit c.add_set.new.edit (prefixes_of c.set-item.result) c.in_ok-add_set.ensures.ok ∙ so_far.removals;
    }

pub returns-in_err-add_set-clause-fault : goal.returns-in_err-add_set-clause-fault
returns-in_err-add_set-clause-fault c =
    let given = err_from_is_err_and c.from_residual.result c.from_residual.ensures.1 in
    rw (given.1, given.2)
    (read_fault prefixes_of c.args.sets.now c.loop-set.set-index c.set-item.result c.args.edit.now.additions c.loop-set.edit.additions (joined prefixes_of c.args.sets.now)
    _ c.loop-set-test.true c.set-item.is c.loop-set.invariant.read c.in_err-add_set.ensures.fault)

pub returns : goal.returns
returns c =
    let so_far = c.loop-set.invariant in
    record {
      ok =
          Adds-from c.args.edit.now c.loop-set.edit (joined prefixes_of c.args.sets.now)
          (read_all prefixes_of c.args.sets.now c.loop-set.set-index c.args.edit.now.additions c.loop-set.edit.additions (joined prefixes_of c.args.sets.now) c.loop-set-test.false so_far.read)
          so_far.removals;
      fault = tt;
    }
