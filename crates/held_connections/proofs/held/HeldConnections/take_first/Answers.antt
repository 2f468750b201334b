use Rattle.std.proofs.Common.{map, refl, sym, ap, ◌∙◌}
use Rattle.std.specs.Prelude.{option_map}
use Rattle.held_connections.specs.Held.{heard_view, waiting_view, HeldView}
use Rattle.held_connections.specs.Over.{right_by}
use Rattle.held_connections.proofs.Steps.{front_taken, has_first, takes_first, wire_by}
use Rattle.held_connections.proofs.held.HeldConnections.take_first.Goals as goal

pub returns-clause-first : goal.returns-clause-first
returns-clause-first g c =
    let view = wire_by g.W.Wire.number g.W.Wire.start g.W.Source.left g.W.Sink.contents g.W.Source.faults g.W.Sink.faults in
    takes_first c.args.self.now _ (waiting_view view c.in-Some.first) (map (waiting_view view) c.pop_front.new.self.items)
    (ap (λ (s : HeldView g.row.P.Denot). s.waiting) (sym c.self.view_is)
    ∙ front_taken (waiting_view view) c.self.inside.waiting.items c.pop_front.new.self.items c.pop_front.result c.in-Some.first c.pop_front.ensures.items c.in-Some.is)
    (ap (λ (s : HeldView g.row.P.Denot). s.taken) c.self.view_is)
    (ap (option_map (heard_view view)) {x = c.replace.new.dest} c.replace.ensures.after)
    refl

pub returns-clause-has : goal.returns-clause-has
returns-clause-has g c start door taken over has =
    has_first (right_by g.A.Answers.routes g.A.Answers.right) start door taken over c.in-Some.first.wait c.args.self.now _ c.requires (returns-clause-first g c) has
