use Rattle.std.proofs.Common.{sym, subst}
use Rattle.held_connections.specs.Held.{WireView, wire_view}
use Rattle.proxy_run.specs.LookEvents.{after_look_event}
use Rattle.proxy_run.specs.LookEvents.LookEvent.{Taken}
use Rattle.proxy_run.specs.LookSoFar.{HoldLooksSo, LookOwn}
use Rattle.proxy_run.proofs.LookLooking.{hand_taken, taken_goes, taken_looks, taken_may}
use Rattle.proxy_run.proofs.LookViews.{looks_own_of}
use Rattle.proxy_run.proofs.looking.take_look.Goals as goal

pub returns-clause-goes : goal.returns-clause-goes
returns-clause-goes g c start state before pieces ending so left hands =
    let h = c.held.inside in
    let plan = c.args.plan.now in
    let seen = c.args.world.now in
    let own : LookOwn = looks_own_of h.desk h.connections h.looks h.past h.place h.left h.asked h.ended h.waited h.finds h.stop in
    let here : HoldLooksSo plan start state own (record seen { door = before }) = subst (λ (o : LookOwn). HoldLooksSo plan start state o (record seen { door = before })) (sym c.held.view_is) so in
    let wire : WireView = wire_view (g.D.Wire.Wire.number c.args.wire) (g.D.Wire.Wire.start c.args.wire) (g.D.Wire.Source.left c.args.wire) (g.D.Wire.Sink.contents c.args.wire) (g.D.Wire.Source.faults c.args.wire) (g.D.Wire.Sink.faults c.args.wire) in
    let takes = c.hear.ensures.takes in
    let conns = c.hear.new.self in
    let one = taken_goes plan start state own seen before here pieces wire conns left takes (c.hear.ensures.has start.outside.door before seen.door state.taken pieces state.over here.connections hands) in
    record {
      received = takes.heard.received;
      may = taken_may plan start state own seen before here c.args.lists.now c.args.now ending pieces wire conns left takes hands;
      goes = c.look_at_new.ensures.goes start (after_look_event state (Taken pieces takes.heard.received)) (hand_taken state takes.heard.received) ending one (taken_looks state pieces takes.heard.received left);
    }
