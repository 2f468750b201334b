use Rattle.std.proofs.Common.{◌≡◌, ◌++◌, List, [], ◌∷◌, Option, None, inl, inr, refl, sym, ap, ◌∙◌, subst}
use Rattle.std.specs.Prelude.{IfSome}
use Rattle.find_desk.specs.Desk.{DeskSeen}
use Rattle.find_desk.specs.Events.{Stopped}
use Rattle.find_desk.specs.declared.desk.OpenDeskFind.{OpenDeskFind}
use Rattle.proxy_run.specs.LookAllowed.{HasNoLookLeft}
use Rattle.proxy_run.specs.LookEvents.{after_look_event}
use Rattle.proxy_run.specs.LookEvents.LookEvent.{FindBegan}
use Rattle.proxy_run.specs.LookSoFar.{HoldLooksSo, LookOutside, LookOwn}
use Rattle.proxy_run.specs.LookSteps.{HasGivenAllBack}
use Rattle.proxy_run.specs.declared.plan.ProxyPlan.{ProxyPlan}
use Rattle.proxy_run.proofs.LookAsking.{asking_goes, asking_may, started_of, stopped_goes}
use Rattle.proxy_run.proofs.LookStepping.{goes_ends}
use Rattle.proxy_run.proofs.LookViews.{looks_outside_of, looks_own_of}
use Rattle.proxy_run.proofs.asking.begin_asking.Goals as goal
use Rattle.url_checker.specs.Several.{AreTogether}
use Rattle.url_checker.specs.declared.looking.Looks.{Looks}

pub release_waiting-requires-clause-held : goal.release_waiting-requires-clause-held
release_waiting-requires-clause-held g c =
    let h = c.held.inside in
    let w = c.world.inside in
    let plan = c.args.plan.now in
    let d = c.requires.held in
    let own : LookOwn = looks_own_of h.desk h.connections h.looks h.past h.place h.left h.asked h.ended h.waited h.finds h.stop in
    let seen : LookOutside = looks_outside_of (g.M.Line.view w.finds) (g.O.Sink.contents w.out) (g.D.Door.log w.door) (g.D.Door.coming w.door) (g.O.Sink.faults w.out) (g.D.Door.faults w.door) in
    let here : HoldLooksSo plan d.0 d.1 own seen = subst (λ (s : LookOutside). HoldLooksSo plan d.0 d.1 own s) (sym c.world.view_is) (subst (λ (o : LookOwn). HoldLooksSo plan d.0 d.1 o c.args.world.now) (sym c.held.view_is) d.2) in
    let stops = c.in-Err.ensures.stopped plan.updates.need_digest d.0.desk d.1.desk here.desk in
    let closed : c.begin.new.self.opened ≡ None = ap (λ (s : DeskSeen). s.opened) c.in-Err.ensures.as_before ∙ ap (λ (o : LookOwn). o.desk.opened) c.held.view_is ∙ c.requires.closed in (
      plan,
      d.0,
      record d.1 { desk = d.1.desk ++ Stopped stops.one ∷ []; find_open = None },
      stopped_goes plan d.0 d.1 own seen here (Stopped stops.one ∷ []) c.begin.new.self (g.M.Line.view c.begin.new.line) closed stops.has c.begin.ensures.same,
      record { none_in_hand = d.3.none_in_hand; none_unsettled = d.3.none_unsettled },
    )

pub returns-in-Ok-clause-goes : goal.returns-in-Ok-clause-goes
returns-in-Ok-clause-goes g c at start state planned same carries so due =
    let h = c.held.inside in
    let w = c.world.inside in
    let plan = c.args.plan.now in
    let own : LookOwn = looks_own_of h.desk h.connections h.looks h.past h.place h.left h.asked h.ended h.waited h.finds h.stop in
    let seen : LookOutside = looks_outside_of (g.M.Line.view w.finds) (g.O.Sink.contents w.out) (g.D.Door.log w.door) (g.D.Door.coming w.door) (g.O.Sink.faults w.out) (g.D.Door.faults w.door) in
    let here : HoldLooksSo plan start state own seen = subst (λ (s : LookOutside). HoldLooksSo plan start state own s) (sym c.world.view_is) (subst (λ (o : LookOwn). HoldLooksSo plan start state o c.args.world.now) (sym c.held.view_is) so) in
    let desk = c.begin.new.self in
    let line = g.M.Line.view c.begin.new.line in
    let opened = c.in-Ok.ensures.opened in
    let session = opened.1 in
    let asks = subst (λ (o : Option OpenDeskFind). IfSome o (λ find. (find.states ≡ c.args.states) × AreTogether c.as_slice.result.now (record { count = c.in-Ok.count; asked = find.asked }))) opened.2 c.in-Ok.ensures.asks in
    let together = subst (λ (ls : List Looks). AreTogether ls (record { count = c.in-Ok.count; asked = session.asked })) c.as_slice.ensures asks.1 in
    inl (
      started_of session c.in-Ok.count,
      asking_may plan start state own seen here at c.args.states session c.in-Ok.count same due carries asks.0 together,
      subst (λ (p : ProxyPlan). HoldLooksSo p start (after_look_event state (FindBegan (started_of session c.in-Ok.count))) (record own { desk = desk; asked = c.in-Ok.count }) (record seen { finds = line })) (sym planned)
          (asking_goes plan start state own seen here session c.in-Ok.count desk line due.left opened.2 (c.in-Ok.ensures.begun plan.updates.need_digest start.desk state.desk here.desk) c.begin.ensures.same together
          c.finds_ask_for_open_hits.ensures.all_open),
    )

pub returns-in-Err-clause-goes : goal.returns-in-Err-clause-goes
returns-in-Err-clause-goes g c at start state planned same carries so due =
    let h = c.held.inside in
    let w = c.world.inside in
    let plan = c.args.plan.now in
    let own : LookOwn = looks_own_of h.desk h.connections h.looks h.past h.place h.left h.asked h.ended h.waited h.finds h.stop in
    let seen : LookOutside = looks_outside_of (g.M.Line.view w.finds) (g.O.Sink.contents w.out) (g.D.Door.log w.door) (g.D.Door.coming w.door) (g.O.Sink.faults w.out) (g.D.Door.faults w.door) in
    let here : HoldLooksSo plan start state own seen = subst (λ (s : LookOutside). HoldLooksSo plan start state own s) (sym c.world.view_is) (subst (λ (o : LookOwn). HoldLooksSo plan start state o c.args.world.now) (sym c.held.view_is) so) in
    let stops = c.in-Err.ensures.stopped plan.updates.need_digest start.desk state.desk here.desk in
    let closed : c.begin.new.self.opened ≡ None = ap (λ (s : DeskSeen). s.opened) c.in-Err.ensures.as_before ∙ ap (λ (o : LookOwn). o.desk.opened) c.held.view_is ∙ c.requires.closed in
    let one = stopped_goes plan start state own seen here (Stopped stops.one ∷ []) c.begin.new.self (g.M.Line.view c.begin.new.line) closed stops.has c.begin.ensures.same in
    let now : LookOwn = record own { desk = c.begin.new.self } in
    let outside : LookOutside = record seen { finds = g.M.Line.view c.begin.new.line } in
    inr (goes_ends at start state HasGivenAllBack HasNoLookLeft c.release_waiting.new.held c.release_waiting.new.world (λ s ends. ends.left)
    (c.release_waiting.ensures.goes at start state (Stopped stops.one ∷ []) same
    (subst (λ (p : ProxyPlan). HoldLooksSo p start (record state { desk = state.desk ++ Stopped stops.one ∷ []; find_open = None }) now outside) (sym planned) one)
    due.left (inl (due, (stops.one, refl)))))
