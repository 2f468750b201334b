use Rattle.std.proofs.Common.{◌≡◌, map, sym, ap, ◌∙◌, subst, Some}
use Rattle.std.specs.Prelude.{option_map, Result}
use Rattle.http_edge.specs.declared.faults.RequestFault.{RequestFault}
use Rattle.http_edge.specs.declared.faults.RequestFault.TheVariants.{ReadFault}
use Rattle.http_edge.specs.declared.messages.HttpRequest.{HttpRequest}
use Rattle.http_serving.specs.Hearing.{IsHeard}
use Rattle.http_serving.specs.declared.ends.ConnectionEnd.TheVariants.{OutOfMemory}
use Rattle.held_connections.specs.Held.{heard_view, waiting_view, HoldsConnections, HeardView, HeldView}
use Rattle.held_connections.specs.Over.{door_view, right_by, DoorView}
use Rattle.held_connections.proofs.Steps.{wire_by, hand_over}
use Rattle.held_connections.proofs.answering.refuse_hand.Goals as goal

pub returns-in-Err-clause-over : goal.returns-in-Err-clause-over
returns-in-Err-clause-over g c start taken over has =
    let view = wire_by g.D.Wire.Wire.number g.D.Wire.Wire.start g.D.Wire.Source.left g.D.Wire.Sink.contents g.D.Wire.Source.faults g.D.Wire.Sink.faults in
    let now : HeldView g.row.P.Denot = record { taken = c.held.inside.taken; hand = option_map (heard_view view) c.held.inside.hand; waiting = map (waiting_view view) c.held.inside.waiting.items } in
    let heard : HeardView = heard_view view c.in-Some.heard in
    let door : DoorView = door_view (g.D.Door.log c.args.door.now) (g.D.Door.coming c.args.door.now) in
    let door' : DoorView = door_view (g.D.Door.log c.answer_wire-end.new.door) (g.D.Door.coming c.answer_wire-end.new.door) in
    let hand : now.hand ≡ Some heard = ap (option_map (heard_view view)) (sym c.take.ensures.value ∙ c.in-Some.is) in
    let has_now : HoldsConnections (right_by g.A.Answers.routes g.A.Answers.right) start taken over now door =
    subst (λ (s : HeldView g.row.P.Denot). HoldsConnections (right_by g.A.Answers.routes g.A.Answers.right) start taken over s door) (sym c.held.view_is) has in
    rw (c.take.ensures.after) (hand_over (right_by g.A.Answers.routes g.A.Answers.right) start door door' taken over now heard c.args.server.now c.answer_wire-end.new.answers c.answer_wire-end.result hand has_now
    (λ pieces is. c.answer_wire-end.ensures.served pieces
    (subst (λ (r : Result HttpRequest RequestFault). IsHeard r pieces heard.wire.start heard.wire.left heard.wire.contents heard.wire.read_faults heard.wire.write_faults) c.in-Err.is is))
    c.answer_wire-end.ensures.coming)

pub returns-clause-over : goal.returns-clause-over
returns-clause-over g c start taken over has =
    let view = wire_by g.D.Wire.Wire.number g.D.Wire.Wire.start g.D.Wire.Source.left g.D.Wire.Sink.contents g.D.Wire.Source.faults g.D.Wire.Sink.faults in
    let now : HeldView g.row.P.Denot = record { taken = c.held.inside.taken; hand = option_map (heard_view view) c.held.inside.hand; waiting = map (waiting_view view) c.held.inside.waiting.items } in
    let heard : HeardView = heard_view view c.in-Some.heard in
    let door : DoorView = door_view (g.D.Door.log c.args.door.now) (g.D.Door.coming c.args.door.now) in
    let door' : DoorView = door_view (g.D.Door.log c.refuse_wire.new.door) (g.D.Door.coming c.refuse_wire.new.door) in
    let hand : now.hand ≡ Some heard = ap (option_map (heard_view view)) (sym c.take.ensures.value ∙ c.in-Some.is) in
    let has_now : HoldsConnections (right_by g.A.Answers.routes g.A.Answers.right) start taken over now door =
    subst (λ (s : HeldView g.row.P.Denot). HoldsConnections (right_by g.A.Answers.routes g.A.Answers.right) start taken over s door) (sym c.held.view_is) has in
    rw (c.take.ensures.after) (hand_over (right_by g.A.Answers.routes g.A.Answers.right) start door door' taken over now heard c.args.server.now c.args.server.now OutOfMemory hand has_now
    (λ pieces is. c.refuse_wire.ensures.refused heard.received pieces (c.in_default-received.not-Err ReadFault) is) c.refuse_wire.ensures.coming)
