use Rattle.std.proofs.Common.{◌≡◌, ◌<◌, ◌++◌, ◌∷◌, [], ℕ, Some, None, length, sym, ap, ◌∙◌, subst}
use Rattle.mirror_connections.specs.Answered.{AnswersOne, GivesWire}
use Rattle.mirror_connections.specs.Open.{wire_seen}
use Rattle.mirror_connections.specs.Over.{door_seen}
use Rattle.mirror_places.specs.Places.{Places}
use Rattle.mirror_run.specs.Events.{after_events}
use Rattle.mirror_run.specs.SoFar.{MirrorOutside, MirrorOwn}
use Rattle.mirror_run.specs.State.{before_all}
use Rattle.mirror_run.specs.State.Phase.{Between, Ending}
use Rattle.mirror_run.specs.Steps.{RunsSo, run_at}
use Rattle.mirror_run.proofs.Views.{outside_of, own_of, served_by}
use Rattle.mirror_serving.specs.Response.{MirrorServed}
use Rattle.mirror_serving.specs.declared.fate.FindFate.TheVariants.{NotSent}
use Rattle.sb_outside.specs.Outside.{IfTold, with_entry}
use Rattle.mirror_run.proofs.TakeSteps.{answered_now, put_off_now}
use Rattle.mirror_run.proofs.taking.take_wire.Goals.{in-Answered-1, in-ReadFault-1}
use Rattle.mirror_run.proofs.taking.take_wire.Goals as goal

pub take_connection-end-requires : goal.take_connection-end-requires
take_connection-end-requires g c = subst (λ (o : MirrorOwn). o.connections.taken < 4294967295) (sym c.run.view_is) c.requires.few

pub returns-in-Some : goal.returns-in-Some
returns-in-Some g c now turns start before read pieces run reads gives =
    let plan = c.args.plan.now in
    let own : MirrorOwn = own_of c.run.inside.rounds c.run.inside.finds c.run.inside.connections c.run.inside.wait c.run.inside.answered c.run.inside.no_more c.run.inside.stop in
    let seen : MirrorOutside = outside_of (g.N.Line.view c.world.inside.updates) (g.M.Line.view c.world.inside.finds) (g.K.Keeper.handed c.world.inside.keep) (g.K.Keeper.kept c.world.inside.keep) (g.O.Sink.contents c.world.inside.out) (g.C.Clock.answers c.world.inside.clock) (g.D.Door.log c.world.inside.door) (g.D.Door.coming c.world.inside.door) (g.O.Sink.faults c.world.inside.out) (g.K.Keeper.faults c.world.inside.keep) (g.D.Door.faults c.world.inside.door) in
    let door' = c.take_connection-end.new.door in
    let conns = c.take_connection-end.new.connections in
    let run_now : RunsSo (run_at Ending now turns) plan start own (record seen { door = before; readings = read }) =
    subst (λ (w : MirrorOutside). RunsSo (run_at Ending now turns) plan start own (record w { door = before; readings = read })) (sym c.world.view_is)
    (subst (λ (o : MirrorOwn). RunsSo (run_at Ending now turns) plan start o (record c.args.world.now { door = before; readings = read })) (sym c.run.view_is) run) in
    let st = after_events start.first before_all run_now.events in
    let reads_now : IfTold seen.readings (with_entry read c.args.heard) = subst (λ (w : MirrorOutside). IfTold w.readings (with_entry read c.args.heard)) (sym c.world.view_is) reads in
    let gives_now : GivesWire pieces before seen.door (wire_seen (g.D.Wire.Wire.number c.args.wire) (g.D.Wire.Wire.start c.args.wire) (g.D.Wire.Source.left c.args.wire) (g.D.Wire.Sink.contents c.args.wire) (g.D.Wire.Source.faults c.args.wire) (g.D.Wire.Sink.faults c.args.wire)) = subst (λ (w : MirrorOutside). GivesWire pieces before w.door (wire_seen (g.D.Wire.Wire.number c.args.wire) (g.D.Wire.Wire.start c.args.wire) (g.D.Wire.Source.left c.args.wire) (g.D.Wire.Sink.contents c.args.wire) (g.D.Wire.Source.faults c.args.wire) (g.D.Wire.Sink.faults c.args.wire))) (sym c.world.view_is) gives in
    let goes_on : own.stop ≡ None = ap (λ (o : MirrorOwn). o.stop) c.run.view_is ∙ c.requires.goes_on in
    let more : own.connections.taken < plan.connections = subst (λ (o : MirrorOwn). o.connections.taken < plan.connections) (sym c.run.view_is) c.requires.more in
    let server_is : c.new-server.result ≡ served_by own.rounds.places own.wait NotSent = c.new-server.ensures ∙ ap (λ (p : Places). served_by p own.wait NotSent) c.mirror.ensures in
    let answers = subst (λ (s : MirrorServed). AnswersOne (length st.taken) s c.in-Some.end start.outside.door (st.taken ++ pieces ∷ []) st.over conns (door_seen (g.D.Door.log door') (g.D.Door.coming door'))) server_is
    (c.in-Some.ensures.over start.outside.door before st.taken pieces st.over run_now.has.so.connections gives_now) in
    let gone = answered_now plan start now turns own seen before read c.args.heard pieces (wire_seen (g.D.Wire.Wire.number c.args.wire) (g.D.Wire.Wire.start c.args.wire) (g.D.Wire.Source.left c.args.wire) (g.D.Wire.Sink.contents c.args.wire) (g.D.Wire.Source.faults c.args.wire) (g.D.Wire.Sink.faults c.args.wire)) run_now reads_now gives_now goes_on more conns (door_seen (g.D.Door.log door') (g.D.Door.coming door')) c.in-Some.end
    c.tell_over.new.run.stop (g.O.Sink.contents c.tell_over.new.out) (g.O.Sink.faults c.tell_over.new.out) c.take_connection-end.ensures.coming c.in-Some.ensures.others.0 c.in-Some.ensures.others.1 c.in-Some.ensures.at_once answers
    (λ one number how. c.tell_over.ensures.prints one (number ∙ sym c.taken-number.ensures) how) in
    let whole = subst (λ (n : ℕ). RunsSo (run_at Between c.args.heard turns) plan start c.tell_over.new.run (outside_of (g.N.Line.view c.world.inside.updates) (g.M.Line.view c.world.inside.finds) (g.K.Keeper.handed c.world.inside.keep) (g.K.Keeper.kept c.world.inside.keep) (g.O.Sink.contents c.tell_over.new.out) (g.C.Clock.answers c.world.inside.clock) (g.D.Door.log door') (g.D.Door.coming door') (g.O.Sink.faults c.tell_over.new.out) (g.K.Keeper.faults c.world.inside.keep) n)) (sym c.take_connection-end.ensures.kept)
    (subst (λ (o : MirrorOwn). RunsSo (run_at Between c.args.heard turns) plan start o (outside_of (g.N.Line.view c.world.inside.updates) (g.M.Line.view c.world.inside.finds) (g.K.Keeper.handed c.world.inside.keep) (g.K.Keeper.kept c.world.inside.keep) (g.O.Sink.contents c.tell_over.new.out) (g.C.Clock.answers c.world.inside.clock) (g.D.Door.log door') (g.D.Door.coming door') (g.O.Sink.faults c.tell_over.new.out) (g.K.Keeper.faults c.world.inside.keep) (g.D.Door.faults c.world.inside.door))) (sym c.tell_over.ensures.others) gone) in
    elim c.match-ended.branch [ in-Answered-1 w ↦ rw w.world-is whole | in-ReadFault-1 w ↦ rw w.world-is whole ]

pub returns-in_default : goal.returns-in_default
returns-in_default g c now turns start before read pieces run reads gives =
    let plan = c.args.plan.now in
    let own : MirrorOwn = own_of c.run.inside.rounds c.run.inside.finds c.run.inside.connections c.run.inside.wait c.run.inside.answered c.run.inside.no_more c.run.inside.stop in
    let seen : MirrorOutside = outside_of (g.N.Line.view c.world.inside.updates) (g.M.Line.view c.world.inside.finds) (g.K.Keeper.handed c.world.inside.keep) (g.K.Keeper.kept c.world.inside.keep) (g.O.Sink.contents c.world.inside.out) (g.C.Clock.answers c.world.inside.clock) (g.D.Door.log c.world.inside.door) (g.D.Door.coming c.world.inside.door) (g.O.Sink.faults c.world.inside.out) (g.K.Keeper.faults c.world.inside.keep) (g.D.Door.faults c.world.inside.door) in
    let door' = c.take_connection-end.new.door in
    let conns = c.take_connection-end.new.connections in
    let run_now : RunsSo (run_at Ending now turns) plan start own (record seen { door = before; readings = read }) =
    subst (λ (w : MirrorOutside). RunsSo (run_at Ending now turns) plan start own (record w { door = before; readings = read })) (sym c.world.view_is)
    (subst (λ (o : MirrorOwn). RunsSo (run_at Ending now turns) plan start o (record c.args.world.now { door = before; readings = read })) (sym c.run.view_is) run) in
    let st = after_events start.first before_all run_now.events in
    let reads_now : IfTold seen.readings (with_entry read c.args.heard) = subst (λ (w : MirrorOutside). IfTold w.readings (with_entry read c.args.heard)) (sym c.world.view_is) reads in
    let gives_now : GivesWire pieces before seen.door (wire_seen (g.D.Wire.Wire.number c.args.wire) (g.D.Wire.Wire.start c.args.wire) (g.D.Wire.Source.left c.args.wire) (g.D.Wire.Sink.contents c.args.wire) (g.D.Wire.Source.faults c.args.wire) (g.D.Wire.Sink.faults c.args.wire)) = subst (λ (w : MirrorOutside). GivesWire pieces before w.door (wire_seen (g.D.Wire.Wire.number c.args.wire) (g.D.Wire.Wire.start c.args.wire) (g.D.Wire.Source.left c.args.wire) (g.D.Wire.Sink.contents c.args.wire) (g.D.Wire.Source.faults c.args.wire) (g.D.Wire.Sink.faults c.args.wire))) (sym c.world.view_is) gives in
    let goes_on : own.stop ≡ None = ap (λ (o : MirrorOwn). o.stop) c.run.view_is ∙ c.requires.goes_on in
    let more : own.connections.taken < plan.connections = subst (λ (o : MirrorOwn). o.connections.taken < plan.connections) (sym c.run.view_is) c.requires.more in
    let gone = put_off_now plan start now turns own seen before read c.args.heard pieces (wire_seen (g.D.Wire.Wire.number c.args.wire) (g.D.Wire.Wire.start c.args.wire) (g.D.Wire.Source.left c.args.wire) (g.D.Wire.Sink.contents c.args.wire) (g.D.Wire.Source.faults c.args.wire) (g.D.Wire.Sink.faults c.args.wire)) run_now reads_now gives_now goes_on more conns (door_seen (g.D.Door.log door') (g.D.Door.coming door'))
    c.take_connection-end.ensures.coming c.in_default.ensures.room (c.in_default.ensures.put_off start.outside.door before st.taken pieces st.over run_now.has.so.connections gives_now) in
    subst (λ (n : ℕ). RunsSo (run_at Between c.args.heard turns) plan start (record own { connections = conns }) (outside_of (g.N.Line.view c.world.inside.updates) (g.M.Line.view c.world.inside.finds) (g.K.Keeper.handed c.world.inside.keep) (g.K.Keeper.kept c.world.inside.keep) (g.O.Sink.contents c.world.inside.out) (g.C.Clock.answers c.world.inside.clock) (g.D.Door.log door') (g.D.Door.coming door') (g.O.Sink.faults c.world.inside.out) (g.K.Keeper.faults c.world.inside.keep) n)) (sym c.take_connection-end.ensures.kept) gone
