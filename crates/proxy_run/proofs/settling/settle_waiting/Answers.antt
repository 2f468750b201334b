use Rattle.std.proofs.Common.{◌≤◌, false, [], None, sym, ◌∙◌, subst}
use Rattle.proxy_run.specs.LookAllowed.{look_at}
use Rattle.proxy_run.specs.LookEvents.{after_look_events}
use Rattle.proxy_run.specs.LookSoFar.{HoldLooksSo, LookOwn}
use Rattle.proxy_run.specs.LookSteps.{IsToSettle}
use Rattle.proxy_run.proofs.LookReleasing.{cleared_goes, none_unsettled_now}
use Rattle.proxy_run.proofs.LookStepping.{door_kept_on, goes_then}
use Rattle.proxy_run.proofs.settling.settle_waiting.Goals as goal

pub settle_first-requires-clause-held : goal.settle_first-requires-clause-held
settle_first-requires-clause-held g c =
    let d = c.requires.held in
    let here = c.loop-held.invariant.goes d.0 d.1 [] false d.2 d.3 in
    (d.0, after_look_events d.1 here.events, here.so, here.ends)

pub loop-held-preserved : goal.loop-held-preserved
loop-held-preserved g c = record {
  goes = λ start state lists ending so settle.
      let here = c.loop-held.invariant.goes start state lists ending so settle in
      goes_then (look_at c.args.plan.now start.desk lists c.args.now ending) start state IsToSettle c.settle_first.new.held c.settle_first.new.world here.events here.kinds here.may
      (c.settle_first.ensures.goes start (after_look_events state here.events) lists ending here.so here.ends);
  opened = c.settle_first.ensures.opened ∙ c.loop-held.invariant.opened;
  door = door_kept_on c.args.world.now c.loop-held.world c.settle_first.new.world c.settle_first.ensures.door c.loop-held.invariant.door;
}

pub returns-clause-goes : goal.returns-clause-goes
returns-clause-goes g c start state lists ending so settle =
    let here = c.loop-held.invariant.goes start state lists ending so settle in
    let after = after_look_events state here.events in
    let none = none_unsettled_now c.args.plan.now start after c.loop-held.held c.loop-held.world here.so (subst (λ (o : LookOwn). o.left ≤ 0) c.held.view_is c.loop-held-test.false) in
    record {
      events = here.events;
      may = here.may;
      kinds = here.kinds;
      so = subst (λ (o : LookOwn). HoldLooksSo c.args.plan.now start after o c.loop-held.world) (sym c.close.ensures) (cleared_goes c.args.plan.now start after c.loop-held.held c.loop-held.world here.so None none);
      ends = record { none_in_hand = here.ends.none_in_hand; none_unsettled = none };
    }
