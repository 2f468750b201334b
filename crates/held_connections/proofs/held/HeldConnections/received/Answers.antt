use Rattle.std.proofs.Common.{refl, sym, ap, ◌∙◌}
use Rattle.std.specs.Prelude.{option_map}
use Rattle.held_connections.specs.Held.{heard_view, HeldView}
use Rattle.held_connections.proofs.Steps.{wire_by}
use Rattle.held_connections.proofs.held.HeldConnections.received.Goals as goal

pub returns-in-Some-clause-some : goal.returns-in-Some-clause-some
returns-in-Some-clause-some g c =
    let view = wire_by g.W.Wire.number g.W.Wire.start g.W.Source.left g.W.Sink.contents g.W.Source.faults g.W.Sink.faults in
    (heard_view view c.in-Some.heard, ap (λ (s : HeldView g.row.P.Denot). s.hand) (sym c.self.view_is) ∙ ap (option_map (heard_view view)) c.in-Some.is, refl)
