use Rattle.std.proofs.Common.{[], ◌∷◌, ◌++◌, sym, ap, ◌∙◌}
use Rattle.std.specs.Prelude.{option_map}
use Rattle.held_connections.specs.Held.{heard_view, waiting_view, HeldView}
use Rattle.held_connections.specs.Over.{right_by}
use Rattle.held_connections.proofs.Steps.{has_put_off, put_behind, puts_off, wire_by}
use Rattle.held_connections.proofs.held.HeldConnections.put_off.Goals as goal

pub returns-clause-puts : goal.returns-clause-puts
returns-clause-puts g c =
    let view = wire_by g.W.Wire.number g.W.Wire.start g.W.Source.left g.W.Sink.contents g.W.Source.faults g.W.Sink.faults in
    puts_off c.args.self.now _ (heard_view view c.in-Some.heard) c.args.wait
    (ap (λ (s : HeldView g.row.P.Denot). s.hand) (sym c.self.view_is) ∙ ap (option_map (heard_view view)) (sym c.take.ensures.value ∙ c.in-Some.is))
    (ap (λ (s : HeldView g.row.P.Denot). s.taken) c.self.view_is)
    (ap (option_map (heard_view view)) {x = c.take.new.self} c.take.ensures.after)
    (put_behind (waiting_view view) c.self.inside.waiting.items _ (record { heard = c.in-Some.heard; wait = c.args.wait }) c.in-Ok.ensures.items
    ∙ ap (λ (s : HeldView g.row.P.Denot). s.waiting ++ waiting_view view (record { heard = c.in-Some.heard; wait = c.args.wait }) ∷ []) c.self.view_is)

pub returns-clause-has : goal.returns-clause-has
returns-clause-has g c start door taken over has =
    has_put_off (right_by g.A.Answers.routes g.A.Answers.right) start door taken over c.args.wait c.args.self.now _ (returns-clause-puts g c) has
