use Rattle.std.proofs.Common.{◌≡◌, map, take}
use Rattle.update_messages.specs.Answer.{declared_items, update_for}
use Rattle.delta_server.specs.Swept.{AreOf}
use Rattle.delta_server.specs.Tokens.{server_naming}
use Rattle.delta_server.proofs.items.answer_items.Given as goal

abbrev pub invariant-loop-i : goal.invariant-loop-i
invariant-loop-i l = record {
  swept : AreOf l.history.versions l.swept;
  updates : l.updates ≡ map (update_for l.history.versions (server_naming l.history.versions)) (declared_items l.history.versions (take l.i l.items));
}
