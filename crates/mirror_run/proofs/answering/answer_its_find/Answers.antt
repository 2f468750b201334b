use Rattle.std.proofs.Common.{◌≡◌, ℕ, sym, ap, ◌∙◌, subst}
use Rattle.std.specs.Prelude.{IsSome}
use Rattle.mirror_connections.specs.Answered.{AnswersOne}
use Rattle.mirror_connections.specs.Open.{HasConnections}
use Rattle.mirror_places.specs.Places.{Places}
use Rattle.mirror_run.specs.SoFar.{MirrorOutside, MirrorOwn}
use Rattle.mirror_run.specs.Steps.{Anyhow, GivesBegun, served_now}
use Rattle.mirror_run.proofs.Giving.{gives_begun}
use Rattle.mirror_run.proofs.Views.{outside_of, own_of, served_by}
use Rattle.mirror_serving.specs.Response.{MirrorServed}
use Rattle.mirror_run.proofs.answering.answer_its_find.Goals as goal

pub returns : goal.returns
returns g c start taken over has =
    let own : MirrorOwn = own_of c.run.inside.rounds c.run.inside.finds c.run.inside.connections c.run.inside.wait c.run.inside.answered c.run.inside.no_more c.run.inside.stop in
    let seen : MirrorOutside = outside_of (g.N.Line.view c.world.inside.updates) (g.M.Line.view c.world.inside.finds) (g.K.Keeper.handed c.world.inside.keep) (g.K.Keeper.kept c.world.inside.keep) (g.O.Sink.contents c.world.inside.out) (g.C.Clock.answers c.world.inside.clock) (g.D.Door.log c.world.inside.door) (g.D.Door.coming c.world.inside.door) (g.O.Sink.faults c.world.inside.out) (g.K.Keeper.faults c.world.inside.keep) (g.D.Door.faults c.world.inside.door) in
    let door = c.answer_begun-ended.new.door in
    let out = c.tell_over.new.out in
    let left = c.answer_begun-ended.new.connections in
    let seen' : MirrorOutside = outside_of (g.N.Line.view c.world.inside.updates) (g.M.Line.view c.world.inside.finds) (g.K.Keeper.handed c.world.inside.keep) (g.K.Keeper.kept c.world.inside.keep) (g.O.Sink.contents out) (g.C.Clock.answers c.world.inside.clock) (g.D.Door.log door) (g.D.Door.coming door) (g.O.Sink.faults out) (g.K.Keeper.faults c.world.inside.keep) (g.D.Door.faults door) in
    let has_now : HasConnections start taken over own.connections seen.door =
    subst (λ (w : MirrorOutside). HasConnections start taken over own.connections w.door) (sym c.world.view_is) (subst (λ (o : MirrorOwn). HasConnections start taken over o.connections c.args.world.now.door) (sym c.run.view_is) has) in
    let server_is : c.new-server.result ≡ served_by own.rounds.places own.wait c.args.fate = c.new-server.ensures ∙ ap (λ (p : Places). served_by p own.wait c.args.fate) c.mirror.ensures in
    let answers : AnswersOne c.answer_begun-ended.result.number (served_by own.rounds.places own.wait c.args.fate) c.answer_begun-ended.result.end start taken over left seen'.door =
    subst (λ (s : MirrorServed). AnswersOne c.answer_begun-ended.result.number s c.answer_begun-ended.result.end start taken over left seen'.door) server_is (c.answer_begun-ended.ensures.over start taken over has_now) in
    let same : seen' ≡ record seen { output = seen'.output; door = seen'.door; faults = record seen.faults { output = seen'.faults.output } } =
    ap (λ (n : ℕ). outside_of (g.N.Line.view c.world.inside.updates) (g.M.Line.view c.world.inside.finds) (g.K.Keeper.handed c.world.inside.keep) (g.K.Keeper.kept c.world.inside.keep) (g.O.Sink.contents out) (g.C.Clock.answers c.world.inside.clock) (g.D.Door.log door) (g.D.Door.coming door) (g.O.Sink.faults out) (g.K.Keeper.faults c.world.inside.keep) n) c.answer_begun-ended.ensures.kept in
    let some : IsSome own.connections.begun = subst (λ (o : MirrorOwn). IsSome o.connections.begun) (sym c.run.view_is) c.requires in
    let gives = gives_begun c.answer_begun-ended.result.number (served_by own.rounds.places own.wait c.args.fate) c.answer_begun-ended.result.end Anyhow left start taken over own c.tell_over.new.run seen seen'
    some c.answer_begun-ended.ensures.which c.answer_begun-ended.ensures.left tt answers c.tell_over.ensures.prints c.tell_over.ensures.others same c.answer_begun-ended.ensures.coming in
    subst (λ (w : MirrorOutside). GivesBegun (served_now c.args.run.now c.args.fate) Anyhow start taken over c.args.run.now c.tell_over.new.run w seen') c.world.view_is
    (subst (λ (o : MirrorOwn). GivesBegun (served_now o c.args.fate) Anyhow start taken over o c.tell_over.new.run seen seen') c.run.view_is gives)
