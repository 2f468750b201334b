use Rattle.std.proofs.Common.{◌≡◌, drop}
use Rattle.update_client.specs.Step.{places_of, joined}
use Rattle.update_client.proofs.Joining.{HasRead}
use Rattle.update_client.proofs.feeding.remove_sets.Given as goal

abbrev pub invariant-loop-set : goal.invariant-loop-set
invariant-loop-set l = record {
  read : HasRead l.fn.edit.removals l.edit.removals (joined places_of l.sets) (joined places_of (drop l.set-index l.sets));
  additions : l.edit.additions ≡ l.fn.edit.additions;
}
