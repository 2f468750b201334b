use Rattle.std.proofs.Common.{refl, ap}
use Rattle.std.specs.Prelude.{option_map}
use Rattle.held_connections.specs.Held.{heard_view}
use Rattle.held_connections.specs.Over.{right_by}
use Rattle.held_connections.proofs.Steps.{has_heard, hears_one, takes_in_hand, wire_by}
use Rattle.held_connections.proofs.held.HeldConnections.hear.Goals as goal

pub returns-clause-takes : goal.returns-clause-takes
returns-clause-takes g c =
    let view = wire_by g.W.Wire.number g.W.Wire.start g.W.Source.left g.W.Sink.contents g.W.Source.faults g.W.Sink.faults in
    takes_in_hand c.args.self.now _ (g.W.Source.left c.args.wire) (view c.hear_request-received.new.wire) c.hear_request-received.result c.hear_request-received.ensures.hears
    (hears_one c.args.self.now _ _ (view c.hear_request-received.new.wire) c.hear_request-received.result c.self.view_is refl (ap (option_map (heard_view view)) {x = c.replace.new.dest} c.replace.ensures.after) refl)

pub returns-clause-has : goal.returns-clause-has
returns-clause-has g c start before door taken pieces over has gives =
    let view = wire_by g.W.Wire.number g.W.Wire.start g.W.Source.left g.W.Sink.contents g.W.Source.faults g.W.Sink.faults in
    has_heard (right_by g.A.Answers.routes g.A.Answers.right) start before door taken pieces over c.args.self.now _ (view c.args.wire) (view c.hear_request-received.new.wire) c.hear_request-received.result
    c.requires.free
    (hears_one c.args.self.now _ _ (view c.hear_request-received.new.wire) c.hear_request-received.result c.self.view_is refl (ap (option_map (heard_view view)) {x = c.replace.new.dest} c.replace.ensures.after) refl)
    has gives c.hear_request-received.ensures.number (c.hear_request-received.ensures.heard pieces gives.fresh)
