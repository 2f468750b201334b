use Rattle.std.proofs.Common.{◌≡◌, drop}
use Rattle.update_client.specs.Step.{prefixes_of, joined}
use Rattle.update_client.proofs.Joining.{HasRead}
use Rattle.update_client.proofs.feeding.add_sets.Given as goal

abbrev pub invariant-loop-set : goal.invariant-loop-set
invariant-loop-set l = record {
  read : HasRead l.fn.edit.additions l.edit.additions (joined prefixes_of l.sets) (joined prefixes_of (drop l.set-index l.sets));
  removals : l.edit.removals ≡ l.fn.edit.removals;
}
