use Rattle.std.proofs.Common.{◌≡◌, true, None, refl, sym, ap, ◌∙◌, subst}
use Rattle.std.specs.Prelude.{is_some}
use Rattle.client_rounds.specs.Rounds.{ClientSeen}
use Rattle.proxy_run.specs.LookEvents.{first_stop}
use Rattle.proxy_run.specs.SoFar.{ProxyOutside, ProxyOwn, updates_start}
use Rattle.proxy_run.specs.State.ProxyPhase.{Beginning}
use Rattle.proxy_run.specs.Steps.{RunsProxySo, own_update_is_due, proxy_at}
use Rattle.proxy_run.specs.declared.stop.ProxyStop.TheVariants as stop
use Rattle.proxy_run.proofs.Views.{outside_of, own_of}
use Rattle.proxy_run.proofs.RoundSteps.{round_begins, round_refused}
use Rattle.sb_round.specs.Round.{RoundState}
use Rattle.url_checker.specs.Hits.{MarksAll}
use Rattle.proxy_run.proofs.rounds.begin_round.Goals.{in-Ok, in-Err}
use Rattle.proxy_run.proofs.rounds.begin_round.Goals as goal

pub invariant_of-run : goal.invariant_of-run
invariant_of-run g c = subst (λ (s : RoundState). MarksAll c.run.inside.sizes.marks s.lists) (sym c.begin.ensures.state) c.run.invariant

pub invariant_of-run-in-Err : goal.invariant_of-run-in-Err
invariant_of-run-in-Err g c = subst (λ (s : RoundState). MarksAll c.run.inside.sizes.marks s.lists) (sym c.begin.ensures.state) c.run.invariant

pub returns-clause-goes : goal.returns-clause-goes
returns-clause-goes g c turns start run =
    let plan = c.args.plan.now in
    let at = proxy_at Beginning c.args.now turns in
    let own : ProxyOwn = own_of c.run.inside.rounds c.run.inside.sizes.marks c.run.inside.held c.run.inside.no_more in
    let seen : ProxyOutside = outside_of (g.N.Line.view c.world.inside.updates) (g.K.Keeper.handed c.world.inside.keep) (g.K.Keeper.kept c.world.inside.keep) (g.K.Keeper.faults c.world.inside.keep) (g.C.Clock.answers c.world.inside.clock) c.world.inside.looks in
    let seen' : ProxyOutside = outside_of (g.N.Line.view c.begin.new.line) (g.K.Keeper.handed c.world.inside.keep) (g.K.Keeper.kept c.world.inside.keep) (g.K.Keeper.faults c.world.inside.keep) (g.C.Clock.answers c.world.inside.clock) c.world.inside.looks in
    let run_now : RunsProxySo at plan start own seen = subst (λ (w : ProxyOutside). RunsProxySo at plan start own w) (sym c.world.view_is) (subst (λ (o : ProxyOwn). RunsProxySo at plan start o c.args.world.now) (sym c.run.view_is) run) in
    let goes_on : own.looks.stop ≡ None = ap (λ (o : ProxyOwn). o.looks.stop) c.run.view_is ∙ c.requires.goes_on in
    let due : own_update_is_due plan.updates.rounds own c.args.now ≡ true =
    ap (λ (o : ProxyOwn). own_update_is_due plan.updates.rounds o c.args.now) c.run.view_is ∙ (sym c.is_round_due.ensures ∙ c.if-not-is_round_due.false) in
    elim c.match-begin.branch [
      | in-Ok w ↦ rw w.run-is (round_begins plan start c.args.now turns own seen run_now goes_on due c.begin.new.self (g.N.Line.view c.begin.new.line)
          (ap is_some w.in-Ok.ensures.opened.2) (λ rounds has. w.in-Ok.ensures.begun (updates_start start) rounds seen.keeper has) c.begin.ensures.same)
      | in-Err w ↦ rw (w.run-is, w.note.ensures) (subst (λ (r : ClientSeen). RunsProxySo at plan start (own_of r c.run.inside.sizes.marks (record c.run.inside.held { stop = first_stop c.run.inside.held.stop stop.OutOfMemory }) c.run.inside.no_more) seen')
          (sym w.in-Err.ensures.kept)
          (round_refused plan start c.args.now turns own seen run_now goes_on due (g.N.Line.view c.begin.new.line) (first_stop own.looks.stop stop.OutOfMemory) refl w.in-Err.ensures.broken_off c.begin.ensures.same))
    ]
