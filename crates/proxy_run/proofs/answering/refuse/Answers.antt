use Rattle.std.proofs.Common.{ℕ, None, List, sym, ap, ◌∙◌, subst}
use Rattle.std.specs.Prelude.{IsSome}
use Rattle.held_connections.specs.Held.{HeldView}
use Rattle.held_connections.specs.Over.{door_view}
use Rattle.held_connections.specs.Steps.{AnswersHand}
use Rattle.proxy_looks.specs.declared.urls.LookUrl.{LookUrl}
use Rattle.proxy_run.specs.LookAllowed.{IsRefusedLook}
use Rattle.proxy_run.specs.LookSoFar.{HoldLooksSo, LookOutside, LookOwn, ProxyRight}
use Rattle.proxy_run.proofs.LookFacts.{hand_number, refused_says}
use Rattle.proxy_run.proofs.LookGiven.{gives_look}
use Rattle.proxy_run.proofs.LookViews.{looks_outside_of, looks_own_of}
use Rattle.proxy_serving.specs.Response.{ProxyServed}
use Rattle.proxy_serving.specs.declared.fate.LookFate.TheVariants.{Unanswered}
use Rattle.proxy_run.proofs.answering.refuse.Goals as goal

pub returns-clause-gives : goal.returns-clause-gives
returns-clause-gives g c plan start state hand so is =
    let h = c.held.inside in
    let w = c.world.inside in
    let own : LookOwn = looks_own_of h.desk h.connections h.looks h.past h.place h.left h.asked h.ended h.waited h.finds h.stop in
    let seen : LookOutside = looks_outside_of (g.M.Line.view w.finds) (g.O.Sink.contents w.out) (g.D.Door.log w.door) (g.D.Door.coming w.door) (g.O.Sink.faults w.out) (g.D.Door.faults w.door) in
    let here : HoldLooksSo plan start state own seen = subst (λ (s : LookOutside). HoldLooksSo plan start state own s) (sym c.world.view_is) (subst (λ (o : LookOwn). HoldLooksSo plan start state o c.args.world.now) (sym c.held.view_is) so) in
    let some : IsSome own.connections.hand = subst (λ (o : LookOwn). IsSome o.connections.hand) (sym c.held.view_is) c.requires in
    let door' = c.refuse_hand-ended.new.door in
    let out' = c.tell_over.new.out in
    gives_look plan start state own seen here hand c.refuse_hand-ended.result.number (record { fate = Unanswered }) c.refuse_hand-ended.new.server c.refuse_hand-ended.result.end (IsRefusedLook hand)
    c.tell_over.new.held.stop (g.O.Sink.contents out') (door_view (g.D.Door.log door') (g.D.Door.coming door')) (g.O.Sink.faults out') c.tell_over.new.held
    (looks_outside_of (g.M.Line.view w.finds) (g.O.Sink.contents out') (g.D.Door.log door') (g.D.Door.coming door') (g.O.Sink.faults out') (g.D.Door.faults door'))
    (hand_number own.connections.hand state.hand hand c.refuse_hand-ended.result.number here.are.hand is some c.refuse_hand-ended.ensures.which)
    (subst (λ (l : HeldView (List LookUrl)). AnswersHand ProxyRight c.refuse_hand-ended.result.number (record { fate = Unanswered }) c.refuse_hand-ended.new.server c.refuse_hand-ended.result.end start.outside.door state.taken state.over l (door_view (g.D.Door.log door') (g.D.Door.coming door'))) c.refuse_hand-ended.ensures.left
    (subst (λ (s : ProxyServed). AnswersHand ProxyRight c.refuse_hand-ended.result.number s c.refuse_hand-ended.new.server c.refuse_hand-ended.result.end start.outside.door state.taken state.over c.refuse_hand-ended.new.held (door_view (g.D.Door.log door') (g.D.Door.coming door'))) c.new-server.ensures
    (c.refuse_hand-ended.ensures.over start.outside.door state.taken state.over here.connections)))
    c.tell_over.ensures.prints
    (λ one server how. refused_says own.connections.hand state.hand hand one c.refuse_hand-ended.result.end here.are.hand is some how c.refuse_hand-ended.ensures.how)
    (c.tell_over.ensures.others ∙ ap (λ (cs : HeldView (List LookUrl)). looks_own_of h.desk cs h.looks h.past h.place h.left h.asked h.ended h.waited h.finds c.tell_over.new.held.stop) c.refuse_hand-ended.ensures.left)
    (ap (λ (n : ℕ). looks_outside_of (g.M.Line.view w.finds) (g.O.Sink.contents out') (g.D.Door.log door') (g.D.Door.coming door') (g.O.Sink.faults out') n) c.refuse_hand-ended.ensures.kept)

pub returns-clause-others : goal.returns-clause-others
returns-clause-others g c =
    let h = c.held.inside in
    c.tell_over.ensures.others ∙ ap (λ (cs : HeldView (List LookUrl)). looks_own_of h.desk cs h.looks h.past h.place h.left h.asked h.ended h.waited h.finds c.tell_over.new.held.stop) c.refuse_hand-ended.ensures.left
    ∙ ap (λ (o : LookOwn). record o { connections = record o.connections { hand = None }; stop = c.tell_over.new.held.stop }) c.held.view_is
