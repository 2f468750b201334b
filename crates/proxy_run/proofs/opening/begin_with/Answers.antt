use Rattle.std.proofs.Common.{◌≡◌, refl, sym, ap, ◌∙◌, subst}
use Rattle.client_rounds.specs.Rounds.{ClientSeen}
use Rattle.find_desk.specs.Desk.{DeskSeen}
use Rattle.proxy_run.specs.Run.{DrawsFirstWait}
use Rattle.proxy_run.specs.SoFar.{ProxyOutside}
use Rattle.proxy_run.proofs.BeginFacts.{run_begins, start_of}
use Rattle.proxy_run.proofs.Views.{looks_outside, outside_of}
use Rattle.url_checker.specs.Hits.{MarksAll}
use Rattle.wait_rules.specs.declared.waits.WaitState.{WaitState}
use Rattle.proxy_run.proofs.opening.begin_with.Goals as goal

pub invariant_of-result : goal.invariant_of-result
invariant_of-result g c = subst (λ (r : ClientSeen). MarksAll c.sizes_on-sizes.result.marks r.state.lists) (sym c.new-2.ensures.first) c.sizes_on-sizes.ensures

pub returns-clause-begun : goal.returns-clause-begun
returns-clause-begun g c plan =
    let rounds = c.new-2.result in
    let held = c.in_ok-held.held in
    let seen : ProxyOutside = outside_of (g.N.Line.view c.world-inside.inside.0.1.0) (g.K.Keeper.handed c.world-inside.inside.0.0) (g.K.Keeper.kept c.world-inside.inside.0.0) (g.K.Keeper.faults c.world-inside.inside.0.0) (g.C.Clock.answers c.world-inside.inside.0.1.1.0) (looks_outside (g.M.Line.view c.world-inside.inside.0.1.1.1.0.finds) (g.O.Sink.contents c.world-inside.inside.0.1.1.1.0.out) (g.D.Door.log c.world-inside.inside.0.1.1.1.0.door) (g.D.Door.coming c.world-inside.inside.0.1.1.1.0.door) (g.O.Sink.faults c.world-inside.inside.0.1.1.1.0.out) (g.D.Door.faults c.world-inside.inside.0.1.1.1.0.door)) in
    let view_is : seen ≡ c.args.world.now = ap (λ w. outside_of (g.N.Line.view w.updates) (g.K.Keeper.handed w.keep) (g.K.Keeper.kept w.keep) (g.K.Keeper.faults w.keep) (g.C.Clock.answers w.clock) w.looks) c.world-inside.view_is ∙ c.world.view_is in
    let after : ProxyOutside = outside_of (g.N.Line.view c.first_wait-waits.new.line) (g.K.Keeper.handed c.world-inside.inside.0.0) (g.K.Keeper.kept c.world-inside.inside.0.0) (g.K.Keeper.faults c.world-inside.inside.0.0) (g.C.Clock.answers c.world-inside.inside.0.1.1.0) (looks_outside (g.M.Line.view c.first_wait-finds.new.line) (g.O.Sink.contents c.world-inside.inside.0.1.1.1.0.out) (g.D.Door.log c.world-inside.inside.0.1.1.1.0.door) (g.D.Door.coming c.world-inside.inside.0.1.1.1.0.door) (g.O.Sink.faults c.world-inside.inside.0.1.1.1.0.out) (g.D.Door.faults c.world-inside.inside.0.1.1.1.0.door)) in
    record {
      start = start_of rounds held after;
      outside = refl;
      lists_are = ap (λ (r : ClientSeen). r.state.lists) c.new-2.ensures.first;
      round = subst (λ (w : ProxyOutside). DrawsFirstWait rounds.state.waits w.updates after.updates) view_is
          (subst (λ (w : WaitState). DrawsFirstWait w seen.updates after.updates) (sym (ap (λ (r : ClientSeen). r.state.waits) c.new-2.ensures.first)) c.first_wait-waits.ensures.waits);
      find = subst (λ (w : ProxyOutside). DrawsFirstWait held.desk.waits w.looks.finds after.looks.finds) view_is
          (subst (λ (w : WaitState). DrawsFirstWait w seen.looks.finds after.looks.finds) (sym (ap (λ (d : DeskSeen). d.waits) c.in_ok-held.ensures.desk)) c.first_wait-finds.ensures.waits);
      kept = ap (λ (d : DeskSeen). d.kept) c.in_ok-held.ensures.desk;
      line = refl;
      others = ap (λ (w : ProxyOutside). record w { updates = after.updates; looks = record w.looks { finds = after.looks.finds } }) view_is;
      begins = run_begins plan rounds c.sizes_on-sizes.result.marks held after (ap (λ (r : ClientSeen). r.opened) c.new-2.ensures.first) c.in_ok-held.ensures.over
          (c.new-2.ensures.begins plan.updates after.updates after.keeper) (c.in_ok-held.ensures.begins plan after.looks);
    }
