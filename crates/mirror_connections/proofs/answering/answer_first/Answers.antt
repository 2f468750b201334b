use Rattle.std.proofs.Common.{◌≡◌, ◌∷◌, ◌++◌, List, map, refl, sym, ap, ◌∙◌, subst}
use Rattle.std.specs.Prelude.{option_map}
use Rattle.std.specs.Option.{option_to_list}
use Rattle.mirror_connections.specs.Open.{find_seen, waiting_seen, ConnectionsSeen, HasConnections, WaitingSeen}
use Rattle.mirror_connections.specs.Over.{door_seen, DoorSeen}
use Rattle.mirror_connections.proofs.Steps.{wire_by, first_over}
use Rattle.mirror_connections.proofs.answering.answer_first.Goals as goal

pub returns-clause-over : goal.returns-clause-over
returns-clause-over g c start taken over has =
    let view = wire_by g.D.Wire.Wire.number g.D.Wire.Wire.start g.D.Wire.Source.left g.D.Wire.Sink.contents g.D.Wire.Source.faults g.D.Wire.Sink.faults in
    let now : ConnectionsSeen = record { taken = c.connections.inside.taken; begun = option_map (find_seen view) c.connections.inside.begun; waiting = map (waiting_seen view) c.connections.inside.waiting.items } in
    let first : WaitingSeen = waiting_seen view c.in-Some.first in
    let rest : List WaitingSeen = map (waiting_seen view) c.pop_front.new.self.items in
    let door : DoorSeen = door_seen (g.D.Door.log c.args.door.now) (g.D.Door.coming c.args.door.now) in
    let door' : DoorSeen = door_seen (g.D.Door.log c.answer_wire-end.new.door) (g.D.Door.coming c.answer_wire-end.new.door) in
    let waited : now.waiting ≡ first ∷ rest = ap (map (waiting_seen view)) (c.pop_front.ensures.items ∙ ap (λ o. option_to_list o ++ c.pop_front.new.self.items) c.in-Some.is) in
    let has_now : HasConnections start taken over now door = subst (λ (s : ConnectionsSeen). HasConnections start taken over s door) (sym c.connections.view_is) has in
    first_over start door door' taken over now first rest c.args.server.now c.answer_wire-end.result waited has_now
    (λ pieces heard. c.answer_wire-end.ensures.served pieces heard) c.answer_wire-end.ensures.coming

pub returns-clause-which : goal.returns-clause-which
returns-clause-which g c =
    let view = wire_by g.D.Wire.Wire.number g.D.Wire.Wire.start g.D.Wire.Source.left g.D.Wire.Sink.contents g.D.Wire.Source.faults g.D.Wire.Sink.faults in
    let now : ConnectionsSeen = record { taken = c.connections.inside.taken; begun = option_map (find_seen view) c.connections.inside.begun; waiting = map (waiting_seen view) c.connections.inside.waiting.items } in
    let rest : List WaitingSeen = map (waiting_seen view) c.pop_front.new.self.items in
    record {
      first = waiting_seen view c.in-Some.first;
      rest = rest;
      waited = ap (λ (s : ConnectionsSeen). s.waiting) (sym c.connections.view_is)
          ∙ ap (map (waiting_seen view)) (c.pop_front.ensures.items ∙ ap (λ o. option_to_list o ++ c.pop_front.new.self.items) c.in-Some.is);
      numbered = refl;
      left = ap (λ (s : ConnectionsSeen). record s { waiting = rest }) c.connections.view_is;
    }
