use Rattle.std.proofs.Common.{◌≡◌, map, take}
use Rattle.std.specs.Prelude.{filter}
use Rattle.update_messages.specs.Messages.{AskedList}
use Rattle.mirror_places.specs.Answer.{is_served, mirror_update}
use Rattle.mirror_places.proofs.answering.updates_of.Given as goal

abbrev pub invariant-loop-asked : goal.invariant-loop-asked
invariant-loop-asked l = l.updates ≡ map (mirror_update l.mirror) (filter (λ (asked : AskedList). is_served l.mirror asked.name) (take l.asked-index l.items))
