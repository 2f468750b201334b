use Rattle.std.proofs.Common.{◌≤◌, ◌++◌, false, [], ◌∷◌, None, refl, sym, ap, ◌∙◌, subst}
use Rattle.std.proofs.lemmas.List.Elements.{All-cons, All-nil}
use Rattle.find_desk.specs.Desk.{DeskStart}
use Rattle.proxy_run.specs.LookAllowed.{MayGoWithout, look_at}
use Rattle.proxy_run.specs.LookEvents.{after_look_event, after_look_events}
use Rattle.proxy_run.specs.LookEvents.LookEvent.{FindGone}
use Rattle.proxy_run.specs.LookSoFar.{HoldLooksSo, LookOwn}
use Rattle.proxy_run.specs.LookState.GoesBy.{ByKept}
use Rattle.proxy_run.specs.LookSteps.{HasGivenAllBack, IsSettlingLook, IsReleasedFrom, LooksGoTo}
use Rattle.proxy_run.proofs.LookReleasing.{asking_none, cleared_goes, none_asking, none_unsettled_now, none_waits, released_more, turned_by_kept}
use Rattle.proxy_run.proofs.LookStepping.{door_kept_on, goes_ends, goes_then}
use Rattle.proxy_run.proofs.settling.release_waiting.Goals as goal

pub release_first-requires-clause-held : goal.release_first-requires-clause-held
release_first-requires-clause-held g c =
    let d = c.requires.held in
    let own = c.args.held.now in
    let none = none_asking own.desk.opened own.asked own.looks d.2.find_open d.3.are.find c.requires.closed in
    let turned = subst (λ (o : LookOwn). HoldLooksSo d.0 d.1 (record d.2 { unsettled = d.2.waiting; by = ByKept; asked = 0; waiting = [] }) o c.args.world.now) (sym c.turn_over.ensures)
    (turned_by_kept d.0 d.1 d.2 own c.args.world.now d.3 d.4 c.requires.closed none) in
    let here = c.loop-held.invariant.goes d.0 d.1 (record d.2 { unsettled = d.2.waiting; by = ByKept; asked = 0; waiting = [] }) [] (record { 0 = 0 }) false turned (record { none_in_hand = d.4.none_in_hand; by = refl }) in
    (d.0, d.1, after_look_events (record d.2 { unsettled = d.2.waiting; by = ByKept; asked = 0; waiting = [] }) here.events, here.so, here.ends.releasing)

pub loop-held-preserved : goal.loop-held-preserved
loop-held-preserved g c = record {
  goes = λ plan start state lists now ending so releasing.
      let here = c.loop-held.invariant.goes plan start state lists now ending so releasing in
      let after = after_look_events state here.events in
      goes_then (look_at plan start.desk lists now ending) start state (IsReleasedFrom state) c.release_first.new.held c.release_first.new.world here.events here.kinds here.may
      (goes_ends (look_at plan start.desk lists now ending) start after (IsReleasedFrom after) (IsReleasedFrom state) c.release_first.new.held c.release_first.new.world (released_more state after here.ends)
      (c.release_first.ensures.goes plan start after lists now ending here.so here.ends.releasing));
  others = c.release_first.ensures.others ∙ ap (λ (o : LookOwn). record o { connections = c.release_first.new.held.connections; place = c.release_first.new.held.place; left = c.release_first.new.held.left; stop = c.release_first.new.held.stop }) c.loop-held.invariant.others;
  taken = c.release_first.ensures.taken ∙ c.loop-held.invariant.taken;
  door = door_kept_on c.args.world.now c.loop-held.world c.release_first.new.world c.release_first.ensures.door c.loop-held.invariant.door;
}

pub returns-clause-goes : goal.returns-clause-goes
returns-clause-goes g c at start state more same so left may =
    let own = c.args.held.now in
    let between = after_look_event state (FindGone ByKept more) in
    let closed = asking_none own.desk.opened own.asked own.looks so.are.find in
    let turned = subst (λ (o : LookOwn). HoldLooksSo at.plan start between o c.args.world.now) (sym c.turn_over.ensures)
    (turned_by_kept at.plan start (record state { desk = state.desk ++ more; find_open = None }) own c.args.world.now so (record { none_in_hand = left.none_in_hand; none_unsettled = left.none_unsettled }) closed refl) in
    let here = c.loop-held.invariant.goes at.plan start between at.lists at.now at.ending turned (record { none_in_hand = left.none_in_hand; by = refl }) in
    let after = after_look_events between here.events in
    let none = none_unsettled_now at.plan start after c.loop-held.held c.loop-held.world here.so (subst (λ (o : LookOwn). o.left ≤ 0) c.held.view_is c.loop-held-test.false) in
    let goes : LooksGoTo (look_at at.plan start.desk at.lists at.now at.ending) start between HasGivenAllBack c.clear_past.new.self c.loop-held.world = record {
      events = here.events;
      may = here.may;
      kinds = here.kinds;
      so = subst (λ (o : LookOwn). HoldLooksSo at.plan start after o c.loop-held.world) (sym c.clear_past.ensures) (cleared_goes at.plan start after c.loop-held.held c.loop-held.world here.so c.loop-held.held.ended none);
      ends = record { left = record { none_in_hand = here.ends.releasing.none_in_hand; none_unsettled = none }; none_open = here.ends.find; nobody = here.ends.waiting };
    } in
    subst (λ (d : DeskStart). LooksGoTo (look_at at.plan d at.lists at.now at.ending) start state HasGivenAllBack c.clear_past.new.self c.loop-held.world) (sym same)
    (goes_then (look_at at.plan start.desk at.lists at.now at.ending) start state HasGivenAllBack c.clear_past.new.self c.loop-held.world (FindGone ByKept more ∷ []) (All-cons IsSettlingLook (FindGone ByKept more) [] tt (All-nil IsSettlingLook))
    ((left, subst (λ (d : DeskStart). MayGoWithout (look_at at.plan d at.lists at.now at.ending) state ByKept more) same may), tt) goes)

pub returns-clause-nobody : goal.returns-clause-nobody
returns-clause-nobody g c =
    let d = c.requires.held in
    let own = c.args.held.now in
    let none = none_asking own.desk.opened own.asked own.looks d.2.find_open d.3.are.find c.requires.closed in
    let st = record d.2 { unsettled = d.2.waiting; by = ByKept; asked = 0; waiting = [] } in
    let turned = subst (λ (o : LookOwn). HoldLooksSo d.0 d.1 st o c.args.world.now) (sym c.turn_over.ensures) (turned_by_kept d.0 d.1 d.2 own c.args.world.now d.3 d.4 c.requires.closed none) in
    let here = c.loop-held.invariant.goes d.0 d.1 st [] (record { 0 = 0 }) false turned (record { none_in_hand = d.4.none_in_hand; by = refl }) in
    let after = after_look_events st here.events in
    let settled = none_unsettled_now d.0 d.1 after c.loop-held.held c.loop-held.world here.so (subst (λ (o : LookOwn). o.left ≤ 0) c.held.view_is c.loop-held-test.false) in
    ap (λ (o : LookOwn). o.connections.waiting) c.clear_past.ensures ∙ none_waits d.0 d.1 after c.loop-held.held c.loop-held.world here.so settled here.ends.waiting
