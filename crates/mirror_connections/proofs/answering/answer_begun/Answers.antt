use Rattle.std.proofs.Common.{◌≡◌, map, sym, ap, ◌∙◌, subst, Some}
use Rattle.std.specs.Prelude.{option_map}
use Rattle.mirror_connections.specs.Open.{find_seen, waiting_seen, ConnectionsSeen, FindSeen, HasConnections}
use Rattle.mirror_connections.specs.Over.{door_seen, DoorSeen}
use Rattle.mirror_connections.proofs.Steps.{wire_by, begun_over}
use Rattle.mirror_connections.proofs.answering.answer_begun.Goals as goal

pub returns-clause-over : goal.returns-clause-over
returns-clause-over g c start taken over has =
    let view = wire_by g.D.Wire.Wire.number g.D.Wire.Wire.start g.D.Wire.Source.left g.D.Wire.Sink.contents g.D.Wire.Source.faults g.D.Wire.Sink.faults in
    let now : ConnectionsSeen = record { taken = c.connections.inside.taken; begun = option_map (find_seen view) c.connections.inside.begun; waiting = map (waiting_seen view) c.connections.inside.waiting.items } in
    let find : FindSeen = find_seen view c.in-Some.find in
    let door : DoorSeen = door_seen (g.D.Door.log c.args.door.now) (g.D.Door.coming c.args.door.now) in
    let door' : DoorSeen = door_seen (g.D.Door.log c.answer_wire-end.new.door) (g.D.Door.coming c.answer_wire-end.new.door) in
    let begun : now.begun ≡ Some find = ap (option_map (find_seen view)) (sym c.take.ensures.value ∙ c.in-Some.is) in
    let has_now : HasConnections start taken over now door = subst (λ (s : ConnectionsSeen). HasConnections start taken over s door) (sym c.connections.view_is) has in
    rw (c.take.ensures.after) (begun_over start door door' taken over now find c.args.server.now c.answer_wire-end.result begun has_now
    (λ pieces heard. c.answer_wire-end.ensures.served pieces heard) c.answer_wire-end.ensures.coming)
