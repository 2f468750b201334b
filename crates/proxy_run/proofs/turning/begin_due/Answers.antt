use Rattle.std.proofs.Common.{◌≡◌, true, false, inl, sym, ap, ◌∙◌, subst, refl}
use Rattle.std.specs.Prelude.{◌⊎◌, is_some}
use Rattle.proxy_run.specs.Events.{after_proxy_events}
use Rattle.proxy_run.specs.LookAllowed.{LookAt}
use Rattle.proxy_run.specs.LookSoFar.{HoldLooksSo}
use Rattle.proxy_run.specs.LookSteps.{LooksBegin}
use Rattle.proxy_run.specs.SoFar.{ProxyOutside, ProxyOwn, proxy_looks_start}
use Rattle.proxy_run.specs.State.{before_proxy}
use Rattle.proxy_run.specs.State.ProxyPhase.{Beginning}
use Rattle.proxy_run.specs.Steps.{RunsProxySo, own_update_is_due, proxy_at}
use Rattle.proxy_run.proofs.FindTurns.{at_is, looks_begun}
use Rattle.proxy_run.proofs.RoundFacts.{lists_are, none_stopped}
use Rattle.proxy_run.proofs.TurnSteps.{all_begun, going_on, round_not_due, stopped_begun}
use Rattle.proxy_run.proofs.Views.{outside_of, own_of}
use Rattle.proxy_run.proofs.turning.begin_due.Goals as goal

pub returns-then-is_stopped : goal.returns-then-is_stopped
returns-then-is_stopped g c turns start run =
    let between = c.begin_round.ensures.goes turns start run in
    stopped_begun c.args.plan.now start c.args.now turns c.begin_round.new.run c.begin_round.new.world between (ap (λ (o : ProxyOwn). is_some o.looks.stop) (sym c.run.view_is) ∙ sym c.is_stopped.ensures ∙ c.if-is_stopped.true)

pub begin_find-requires-clause-held : goal.begin_find-requires-clause-held
begin_find-requires-clause-held g c =
    let run = c.requires.running in
    let between = c.begin_round.ensures.goes run.0 run.1.0 run.1.1 in
    let plan = c.args.plan.now in
    let looks = subst (λ (w : ProxyOutside). HoldLooksSo plan (proxy_looks_start run.1.0) (after_proxy_events run.1.0.first before_proxy between.events).looks c.run.inside.held w.looks) (sym c.world.view_is)
    (subst (λ (o : ProxyOwn). HoldLooksSo plan (proxy_looks_start run.1.0) (after_proxy_events run.1.0.first before_proxy between.events).looks o.looks c.begin_round.new.world.looks) (sym c.run.view_is) between.has.so.looks) in
    (proxy_looks_start run.1.0, (after_proxy_events run.1.0.first before_proxy between.events).looks, looks, between.stands.left)

pub returns : goal.returns
returns g c turns start run =
    let plan = c.args.plan.now in
    let r = c.run.inside in
    let w = c.world.inside in
    let own : ProxyOwn = own_of r.rounds r.sizes.marks r.held r.no_more in
    let seen : ProxyOutside = outside_of (g.N.Line.view w.updates) (g.K.Keeper.handed w.keep) (g.K.Keeper.kept w.keep) (g.K.Keeper.faults w.keep) (g.C.Clock.answers w.clock) w.looks in
    let between : RunsProxySo (proxy_at Beginning c.args.now turns) plan start own seen =
    subst (λ (o : ProxyOutside). RunsProxySo (proxy_at Beginning c.args.now turns) plan start own o) (sym c.world.view_is)
    (subst (λ (o : ProxyOwn). RunsProxySo (proxy_at Beginning c.args.now turns) plan start o c.begin_round.new.world) (sym c.run.view_is) (c.begin_round.ensures.goes turns start run)) in
    let st = after_proxy_events start.first before_proxy between.events in
    let going : is_some own.looks.stop ≡ false = sym c.is_stopped.ensures ∙ c.if-is_stopped.false in
    let none = none_stopped plan start st own seen between.has.so (inl (going_on own.looks.stop going)) in
    let at = at_is plan start st c.lists.result.now c.args.now Beginning (c.lists.ensures ∙ lists_are plan start st own seen between.has.so none) between.stands.now between.stands.phase in
    let begins = subst (λ (a : LookAt). LooksBegin a (proxy_looks_start start) st.looks c.begin_find.new.held c.begin_find.new.world) at
    (c.begin_find.ensures.goes (proxy_looks_start start) st.looks false between.has.so.looks between.stands.left) in
    let goes = looks_begun plan start (proxy_at Beginning c.args.now turns) own seen between c.begin_find.new.held c.begin_find.new.world begins between.stands.phase c.begin_find.ensures.door (c.begin_find.ensures.ended ∙ between.none_over) in
    let done = subst (λ (o : ProxyOwn). (is_some o.looks.stop ≡ true) ⊎ (own_update_is_due plan.updates.rounds o c.args.now ≡ false)) (sym c.run.view_is) c.begin_round.ensures.done in
    all_begun plan start c.args.now turns (record own { looks = c.begin_find.new.held }) (record seen { looks = c.begin_find.new.world }) goes
    (round_not_due plan.updates.rounds c.args.now own (record own { looks = c.begin_find.new.held }) going done refl) c.begin_find.ensures.done
