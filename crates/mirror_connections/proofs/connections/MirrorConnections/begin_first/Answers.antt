use Rattle.std.proofs.Common.{◌++◌, map, refl, sym, ap, ◌∙◌}
use Rattle.std.specs.Prelude.{option_map}
use Rattle.std.specs.Option.{option_to_list}
use Rattle.mirror_connections.specs.Open.{find_seen, waiting_seen, ConnectionsSeen}
use Rattle.mirror_connections.proofs.Steps.{wire_by, begins_first, has_begun_first}
use Rattle.mirror_connections.proofs.connections.MirrorConnections.begin_first.Goals as goal

pub returns-clause-first : goal.returns-clause-first
returns-clause-first g c =
    let view = wire_by g.W.Wire.number g.W.Wire.start g.W.Source.left g.W.Sink.contents g.W.Source.faults g.W.Sink.faults in
    begins_first c.args.self.now _ (waiting_seen view c.in-Some.first) (map (waiting_seen view) c.pop_front.new.self.items)
    (ap (λ (s : ConnectionsSeen). s.waiting) (sym c.self.view_is)
    ∙ ap (map (waiting_seen view)) (c.pop_front.ensures.items ∙ ap (λ o. option_to_list o ++ c.pop_front.new.self.items) c.in-Some.is))
    (ap (λ (s : ConnectionsSeen). s.taken) c.self.view_is)
    (ap (option_map (find_seen view)) c.replace.ensures.after)
    refl

pub returns-clause-has : goal.returns-clause-has
returns-clause-has g c start door taken over has =
    has_begun_first start door taken over c.in-Some.first.asked c.args.self.now _ c.requires (returns-clause-first g c) has
