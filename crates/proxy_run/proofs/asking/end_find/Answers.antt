use Rattle.std.proofs.Common.{◌≡◌, ◌++◌, [], ◌∷◌, Option, None, Some, inl, inr, refl, sym, ap, ◌∙◌, subst, length}
use Rattle.std.specs.Prelude.{IfSome, is_some}
use Rattle.find_desk.specs.Desk.{EndsDeskFind, StopsAtItsEnd}
use Rattle.find_desk.specs.Events.{Forgot, Stopped}
use Rattle.find_desk.specs.declared.desk.OpenDeskFind.{OpenDeskFind}
use Rattle.proxy_run.specs.LookEvents.{counted_up}
use Rattle.proxy_run.specs.LookSoFar.{HoldLooksSo, LookOutside, LookOwn}
use Rattle.proxy_run.specs.LookSteps.{HasEndedAsking, HasGivenAllBack, LooksGoTo}
use Rattle.proxy_run.specs.declared.plan.ProxyPlan.{ProxyPlan}
use Rattle.proxy_run.proofs.LookAsking.{find_ended_goes, own_ended, session_asks, some_session, stopped_goes}
use Rattle.proxy_run.proofs.LookStepping.{goes_ends}
use Rattle.proxy_run.proofs.LookViews.{looks_outside_of, looks_own_of}
use Rattle.proxy_run.proofs.asking.end_find.Goals as goal
use Rattle.url_checker.specs.Hits.{prefixes_hit}

pub release_waiting-requires-clause-held : goal.release_waiting-requires-clause-held
release_waiting-requires-clause-held g c =
    let h = c.held.inside in
    let w = c.world.inside in
    let plan = c.args.plan.now in
    let d = c.requires.held in
    let own : LookOwn = looks_own_of h.desk h.connections h.looks h.past h.place h.left h.asked h.ended h.waited h.finds h.stop in
    let seen : LookOutside = looks_outside_of (g.M.Line.view w.finds) (g.O.Sink.contents w.out) (g.D.Door.log w.door) (g.D.Door.coming w.door) (g.O.Sink.faults w.out) (g.D.Door.faults w.door) in
    let here : HoldLooksSo plan d.0 d.1 own seen = subst (λ (s : LookOutside). HoldLooksSo plan d.0 d.1 own s) (sym c.world.view_is) (subst (λ (o : LookOwn). HoldLooksSo plan d.0 d.1 o c.args.world.now) (sym c.held.view_is) d.2) in
    let some = some_session h.desk.opened (ap (λ (o : LookOwn). is_some o.desk.opened) c.held.view_is ∙ c.requires.opened) in
    let stops = subst (λ (o : Option OpenDeskFind). IfSome o (λ find. StopsAtItsEnd plan.updates.target plan.updates.need_digest d.0.desk d.1.desk c.end.new.self (g.M.Line.view c.end.new.line) find)) some.1
    (c.in-Err.ensures.stopped d.0.desk d.1.desk here.desk) in
    let more = Stopped stops.one ∷ Forgot ∷ [] in (
      plan,
      d.0,
      record d.1 { desk = d.1.desk ++ more; find_open = None },
      stopped_goes plan d.0 d.1 own seen here more c.end.new.self (g.M.Line.view c.end.new.line) c.end.ensures.closed stops.has c.end.ensures.same,
      record { none_in_hand = d.3.none_in_hand; none_unsettled = d.3.none_unsettled },
    )

pub returns-in-Ok-clause-goes : goal.returns-in-Ok-clause-goes
returns-in-Ok-clause-goes g c at start state planned same so left =
    let h = c.held.inside in
    let w = c.world.inside in
    let plan = c.args.plan.now in
    let own : LookOwn = looks_own_of h.desk h.connections h.looks h.past h.place h.left h.asked h.ended h.waited h.finds h.stop in
    let seen : LookOutside = looks_outside_of (g.M.Line.view w.finds) (g.O.Sink.contents w.out) (g.D.Door.log w.door) (g.D.Door.coming w.door) (g.O.Sink.faults w.out) (g.D.Door.faults w.door) in
    let here : HoldLooksSo plan start state own seen = subst (λ (s : LookOutside). HoldLooksSo plan start state own s) (sym c.world.view_is) (subst (λ (o : LookOwn). HoldLooksSo plan start state o c.args.world.now) (sym c.held.view_is) so) in
    let some = some_session h.desk.opened (ap (λ (o : LookOwn). is_some o.desk.opened) c.held.view_is ∙ c.requires.opened) in
    let session = some.0 in
    let ended = c.in-Ok.ended in
    let desk = c.end.new.self in
    let line = g.M.Line.view c.end.new.line in
    let ends = subst (λ (o : Option OpenDeskFind). IfSome o (λ find. EndsDeskFind plan.updates.target plan.updates.need_digest start.desk state.desk desk line find ended)) some.1
    (c.in-Ok.ensures.ended start.desk state.desk here.desk) in
    let told = subst (λ (o : Option OpenDeskFind). IfSome o (λ find. (ended.at ≡ find.find.opening.begun) × (ended.prefixes ≡ length (prefixes_hit find.asked)))) some.1 c.in-Ok.ensures.told in
    let prints = c.tell_find.ensures.prints in
    let out' = c.tell_find.new.out in
    let goes = find_ended_goes plan start state own seen here at session ended desk line prints.0 c.tell_find.new.held.stop (g.O.Sink.contents out') (g.O.Sink.faults out') planned left some.1 told.0 told.1 ends c.end.ensures.closed c.end.ensures.same prints.1 in
    let now_is : c.hold_ended.new.self ≡ own_ended plan start state own seen here desk ended c.tell_find.new.held.stop =
    c.hold_ended.ensures ∙ ap (λ (o : LookOwn). record o { looks = []; past = o.looks; place = 0; left = length o.connections.waiting; finds = counted_up o.finds; ended = Some ended; stop = c.tell_find.new.held.stop }) c.tell_find.ensures.others in
    subst (λ (o : LookOwn). LooksGoTo at start state (HasEndedAsking o) o (record seen { finds = line; output = g.O.Sink.contents out'; output_faults = g.O.Sink.faults out' })) (sym now_is) goes

pub returns-in-Err-clause-goes : goal.returns-in-Err-clause-goes
returns-in-Err-clause-goes g c at start state planned same so left =
    let h = c.held.inside in
    let w = c.world.inside in
    let plan = c.args.plan.now in
    let own : LookOwn = looks_own_of h.desk h.connections h.looks h.past h.place h.left h.asked h.ended h.waited h.finds h.stop in
    let seen : LookOutside = looks_outside_of (g.M.Line.view w.finds) (g.O.Sink.contents w.out) (g.D.Door.log w.door) (g.D.Door.coming w.door) (g.O.Sink.faults w.out) (g.D.Door.faults w.door) in
    let here : HoldLooksSo plan start state own seen = subst (λ (s : LookOutside). HoldLooksSo plan start state own s) (sym c.world.view_is) (subst (λ (o : LookOwn). HoldLooksSo plan start state o c.args.world.now) (sym c.held.view_is) so) in
    let some = some_session h.desk.opened (ap (λ (o : LookOwn). is_some o.desk.opened) c.held.view_is ∙ c.requires.opened) in
    let stops = subst (λ (o : Option OpenDeskFind). IfSome o (λ find. StopsAtItsEnd plan.updates.target plan.updates.need_digest start.desk state.desk c.end.new.self (g.M.Line.view c.end.new.line) find)) some.1
    (c.in-Err.ensures.stopped start.desk state.desk here.desk) in
    let more = Stopped stops.one ∷ Forgot ∷ [] in
    let one = stopped_goes plan start state own seen here more c.end.new.self (g.M.Line.view c.end.new.line) c.end.ensures.closed stops.has c.end.ensures.same in
    let now : LookOwn = record own { desk = c.end.new.self } in
    let outside : LookOutside = record seen { finds = g.M.Line.view c.end.new.line } in
    let find = session_asks own.desk.opened own.asked own.looks state.find_open some.0 here.are.find some.1 in
    let over : c.release_waiting.new.held.ended ≡ None = ap (λ (o : LookOwn). o.ended) c.release_waiting.ensures.others ∙ ap (λ (o : LookOwn). o.ended) c.held.view_is ∙ c.requires.none_over in
    goes_ends at start state HasGivenAllBack (HasEndedAsking c.release_waiting.new.held) c.release_waiting.new.held c.release_waiting.new.world (λ s ends. inr (over, ends.left))
    (c.release_waiting.ensures.goes at start state more same
    (subst (λ (p : ProxyPlan). HoldLooksSo p start (record state { desk = state.desk ++ more; find_open = None }) now outside) (sym planned) one)
    left (inr (inl (ap is_some find.0, (stops.one, refl)))))
