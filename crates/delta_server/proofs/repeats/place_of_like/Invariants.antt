use Rattle.std.proofs.Common.{◌≡◌, ◌≤◌, length, take}
use Rattle.update_messages.specs.Answer.{declared_items}
use Rattle.delta_server.proofs.repeats.place_of_like.Given as goal

abbrev pub invariant-loop-other : goal.invariant-loop-other
invariant-loop-other l = record {
  place : l.place ≡ length (declared_items l.history.versions (take l.other-index l.before));
  within : l.place ≤ l.other-index;
}
