use Rattle.std.proofs.Common.{refl, sym, ap, ◌∙◌}
use Rattle.held_connections.specs.Held.{waiting_view, HeldView}
use Rattle.held_connections.proofs.Steps.{wire_by, front_waits}
use Rattle.held_connections.proofs.held.HeldConnections.first.Goals as goal

pub returns-in-Some-clause-some : goal.returns-in-Some-clause-some
returns-in-Some-clause-some g c =
    let view = wire_by g.W.Wire.number g.W.Wire.start g.W.Source.left g.W.Sink.contents g.W.Source.faults g.W.Sink.faults in
    let front = front_waits c.self.inside.waiting.items c.in-Some.first.now (waiting_view view) c.in-Some.ensures.item.3.0 c.in-Some.ensures.lookup in
    (waiting_view view c.in-Some.first.now, front.0, ap (λ (s : HeldView g.row.P.Denot). s.waiting) (sym c.self.view_is) ∙ front.1, refl)
