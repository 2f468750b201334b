use Rattle.std.proofs.Common.{inl, inr, sym, ap, ◌∙◌, length}
use Rattle.mirror_connections.specs.Open.{ConnectionsSeen}
use Rattle.mirror_connections.specs.Over.{door_seen}
use Rattle.mirror_connections.proofs.Steps.{asks_as, heard_as, heard_over, put_off_last, put_off_seen, refused_because, wire_by}
use Rattle.mirror_connections.proofs.taking.take_connection.Goals as goal

pub returns-then-is_full-clause-over : goal.returns-then-is_full-clause-over
returns-then-is_full-clause-over g c start before taken pieces over has gives =
    heard_over start before (door_seen (g.D.Door.log c.args.door.now) (g.D.Door.coming c.args.door.now)) (door_seen (g.D.Door.log c.answer_wire.new.door) (g.D.Door.coming c.answer_wire.new.door))
    taken pieces over c.args.connections.now c.count_one-number.new.self
    (wire_by g.D.Wire.Wire.number g.D.Wire.Wire.start g.D.Wire.Source.left g.D.Wire.Sink.contents g.D.Wire.Source.faults g.D.Wire.Sink.faults c.args.wire)
    (g.D.Wire.Wire.number c.hear_request-received.new.wire) c.args.server.now c.answer_wire.result c.count_one-number.ensures.counted c.hear_request-received.ensures.number has gives
    (λ fresh. c.answer_wire.ensures.served pieces (c.hear_request-received.ensures.heard pieces fresh)) c.answer_wire.ensures.coming

pub returns-then-is_full-clause-at_once : goal.returns-then-is_full-clause-at_once
returns-then-is_full-clause-at_once g c = record {
  received = c.hear_request-received.result;
  rest = g.D.Wire.Source.left c.hear_request-received.new.wire;
  hears = c.hear_request-received.ensures.hears;
  because = inr (inl (sym (ap (λ (s : ConnectionsSeen). length s.waiting) c.count_one-number.ensures.counted) ∙ c.is_full.ensures.full c.if-is_full.true));
}

pub returns-in_default-clause-over : goal.returns-in_default-clause-over
returns-in_default-clause-over g c start before taken pieces over has gives =
    heard_over start before (door_seen (g.D.Door.log c.args.door.now) (g.D.Door.coming c.args.door.now)) (door_seen (g.D.Door.log c.refuse_heard.new.door) (g.D.Door.coming c.refuse_heard.new.door))
    taken pieces over c.args.connections.now c.count_one-number.new.self
    (wire_by g.D.Wire.Wire.number g.D.Wire.Wire.start g.D.Wire.Source.left g.D.Wire.Sink.contents g.D.Wire.Source.faults g.D.Wire.Sink.faults c.args.wire)
    (g.D.Wire.Wire.number c.hear_request-received.new.wire) c.args.server.now c.refuse_heard.result c.count_one-number.ensures.counted c.hear_request-received.ensures.number has gives
    (λ fresh. c.refuse_heard.ensures.served pieces (c.hear_request-received.ensures.heard pieces fresh)) c.refuse_heard.ensures.coming

pub returns-in_default-clause-at_once : goal.returns-in_default-clause-at_once
returns-in_default-clause-at_once g c = record {
  received = c.hear_request-received.result;
  rest = g.D.Wire.Source.left c.hear_request-received.new.wire;
  hears = c.hear_request-received.ensures.hears;
  because = refused_because c.hear_request-received.result c.refuse_heard.result c.args.connections.now.waiting c.refuse_heard.ensures.because;
}

pub returns-in_default-found-clause-over : goal.returns-in_default-found-clause-over
returns-in_default-found-clause-over g c start before taken pieces over has gives =
    heard_over start before (door_seen (g.D.Door.log c.args.door.now) (g.D.Door.coming c.args.door.now)) (door_seen (g.D.Door.log c.answer_wire-in_default-found.new.door) (g.D.Door.coming c.answer_wire-in_default-found.new.door))
    taken pieces over c.args.connections.now c.count_one-number.new.self
    (wire_by g.D.Wire.Wire.number g.D.Wire.Wire.start g.D.Wire.Source.left g.D.Wire.Sink.contents g.D.Wire.Source.faults g.D.Wire.Sink.faults c.args.wire)
    (g.D.Wire.Wire.number c.hear_request-received.new.wire) c.args.server.now c.answer_wire-in_default-found.result c.count_one-number.ensures.counted c.hear_request-received.ensures.number has gives
    (λ fresh. c.answer_wire-in_default-found.ensures.served pieces (c.hear_request-received.ensures.heard pieces fresh)) c.answer_wire-in_default-found.ensures.coming

pub returns-clause-put_off : goal.returns-clause-put_off
returns-clause-put_off g c start before taken pieces over has gives =
    let view = wire_by g.D.Wire.Wire.number g.D.Wire.Wire.start g.D.Wire.Source.left g.D.Wire.Sink.contents g.D.Wire.Source.faults g.D.Wire.Sink.faults in
    let received = c.hear_request-received in
    put_off_last start before (door_seen (g.D.Door.log c.args.door.now) (g.D.Door.coming c.args.door.now)) taken pieces over c.args.connections.now c.args.now
    (view c.args.wire) (view received.new.wire) c.in-Ok-received.request c.in-Some.asked has gives received.ensures.number
    (heard_as received.result c.in-Ok-received.request pieces (view received.new.wire) c.in-Ok-received.is (received.ensures.heard pieces gives.fresh))
    (asks_as received.result c.in-Ok-received.request c.in-Ok.found c.in-Some.asked c.in-Ok-received.is c.in-Some.is c.in-Ok.ensures.some)
    c.put_off.new.self
    (put_off_seen c.args.connections.now c.count_one-number.new.self c.put_off.new.self c.count_one-number.result c.in-Ok-received.request (view received.new.wire) c.in-Some.asked c.args.now
    c.count_one-number.ensures.counted c.count_one-number.ensures.number c.put_off.ensures)
