use Rattle.std.proofs.Common.{◌≡◌, ℕ, true, refl, sym, ap, ◌∙◌, subst}
use Rattle.std.specs.Prelude.{is_some, Err, Ok}
use Rattle.client_rounds.specs.Ended.{client_round_view}
use Rattle.proxy_run.specs.Events.{after_proxy_events}
use Rattle.proxy_run.specs.LookEvents.{first_stop}
use Rattle.proxy_run.specs.SoFar.{ProxyOutside, ProxyOwn, updates_start}
use Rattle.proxy_run.specs.State.{before_proxy}
use Rattle.proxy_run.specs.Steps.{IsProxyRunning, RunsProxySo}
use Rattle.proxy_run.proofs.Views.{looks_outside, outside_of, own_of}
use Rattle.proxy_run.proofs.RoundSteps.{halts_keeps, halts_outs, made_open, round_ends, round_halts, written_so}
use Rattle.proxy_run.proofs.RunFacts.{err_same, not_err, round_session}
use Rattle.update_run.specs.declared.stop.RunStop.TheVariants as run_stop
use Rattle.url_checker.specs.Hits.{MarksAll}
use Rattle.proxy_run.proofs.rounds.end_round.Goals as goal

pub end-ended-requires-clause-session : goal.end-ended-requires-clause-session
end-ended-requires-clause-session g c =
    let at = c.requires.running.0 in
    let plan = c.args.plan.now in
    let own : ProxyOwn = own_of c.run.inside.rounds c.run.inside.sizes.marks c.run.inside.held c.run.inside.no_more in
    let seen : ProxyOutside = outside_of (g.N.Line.view c.world-inside.inside.0.1.0) (g.K.Keeper.handed c.world-inside.inside.0.0) (g.K.Keeper.kept c.world-inside.inside.0.0) (g.K.Keeper.faults c.world-inside.inside.0.0) (g.C.Clock.answers c.world-inside.inside.0.1.1.0) (looks_outside (g.M.Line.view c.world-inside.inside.0.1.1.1.0.finds) (g.O.Sink.contents c.world-inside.inside.0.1.1.1.0.out) (g.D.Door.log c.world-inside.inside.0.1.1.1.0.door) (g.D.Door.coming c.world-inside.inside.0.1.1.1.0.door) (g.O.Sink.faults c.world-inside.inside.0.1.1.1.0.out) (g.D.Door.faults c.world-inside.inside.0.1.1.1.0.door)) in
    let view_is : seen ≡ c.args.world.now = ap (λ w. outside_of (g.N.Line.view w.updates) (g.K.Keeper.handed w.keep) (g.K.Keeper.kept w.keep) (g.K.Keeper.faults w.keep) (g.C.Clock.answers w.clock) w.looks) c.world-inside.view_is ∙ c.world.view_is in
    let running : IsProxyRunning at plan own seen = subst (λ (w : ProxyOutside). IsProxyRunning at plan own w) (sym view_is) (subst (λ (o : ProxyOwn). IsProxyRunning at plan o c.args.world.now) (sym c.run.view_is) c.requires.running.1) in
    round_session at plan own seen running (ap (λ (o : ProxyOwn). is_some o.rounds.opened) c.run.view_is ∙ c.requires.opened)

pub invariant_of-run : goal.invariant_of-run
invariant_of-run g c = subst (MarksAll c.sizes_on-run-inside.result.marks) c.lists.ensures c.sizes_on-run-inside.ensures

pub invariant_of-run-in-Err : goal.invariant_of-run-in-Err
invariant_of-run-in-Err g c = subst (MarksAll c.sizes_on-run-inside.result.marks) c.lists.ensures c.sizes_on-run-inside.ensures

pub returns-in-Ok-clause-goes : goal.returns-in-Ok-clause-goes
returns-in-Ok-clause-goes g c at start run =
    let plan = c.args.plan.now in
    let own : ProxyOwn = own_of c.run.inside.rounds c.run.inside.sizes.marks c.run.inside.held c.run.inside.no_more in
    let seen : ProxyOutside = outside_of (g.N.Line.view c.world-inside.inside.0.1.0) (g.K.Keeper.handed c.world-inside.inside.0.0) (g.K.Keeper.kept c.world-inside.inside.0.0) (g.K.Keeper.faults c.world-inside.inside.0.0) (g.C.Clock.answers c.world-inside.inside.0.1.1.0) (looks_outside (g.M.Line.view c.world-inside.inside.0.1.1.1.0.finds) (g.O.Sink.contents c.world-inside.inside.0.1.1.1.0.out) (g.D.Door.log c.world-inside.inside.0.1.1.1.0.door) (g.D.Door.coming c.world-inside.inside.0.1.1.1.0.door) (g.O.Sink.faults c.world-inside.inside.0.1.1.1.0.out) (g.D.Door.faults c.world-inside.inside.0.1.1.1.0.door)) in
    let view_is : seen ≡ c.args.world.now = ap (λ w. outside_of (g.N.Line.view w.updates) (g.K.Keeper.handed w.keep) (g.K.Keeper.kept w.keep) (g.K.Keeper.faults w.keep) (g.C.Clock.answers w.clock) w.looks) c.world-inside.view_is ∙ c.world.view_is in
    let seen' : ProxyOutside = outside_of (g.N.Line.view c.end-ended.new.line) (g.K.Keeper.handed c.end-ended.new.keep) (g.K.Keeper.kept c.end-ended.new.keep) (g.K.Keeper.faults c.end-ended.new.keep) (g.C.Clock.answers c.world-inside.inside.0.1.1.0) (looks_outside (g.M.Line.view c.world-inside.inside.0.1.1.1.0.finds) (g.O.Sink.contents c.end-ended.new.out) (g.D.Door.log c.world-inside.inside.0.1.1.1.0.door) (g.D.Door.coming c.world-inside.inside.0.1.1.1.0.door) (g.O.Sink.faults c.end-ended.new.out) (g.D.Door.faults c.world-inside.inside.0.1.1.1.0.door)) in
    let run_now : RunsProxySo at plan start own seen = subst (λ (w : ProxyOutside). RunsProxySo at plan start own w) (sym view_is) (subst (λ (o : ProxyOwn). RunsProxySo at plan start o c.args.world.now) (sym c.run.view_is) run) in
    let opened : is_some own.rounds.opened ≡ true = ap (λ (o : ProxyOwn). is_some o.rounds.opened) c.run.view_is ∙ c.requires.opened in
    let rounds = (after_proxy_events start.first before_proxy run_now.events).rounds in
    let made = made_open plan start at own seen run_now opened in
    let ends = c.in-Ok.ensures.ended (updates_start start) rounds made in
    let own' : ProxyOwn = own_of c.end-ended.new.self c.sizes_on-run-inside.result.marks c.run.inside.held c.run.inside.no_more in
    let gone = round_ends plan start at own seen run_now opened c.in-Ok._told c.end-ended.new.self c.sizes_on-run-inside.result.marks seen'.updates seen'.keeper seen'.looks.output ends c.end-ended.ensures.same in
    subst (λ (n : ℕ). RunsProxySo at plan start own' (outside_of (g.N.Line.view c.end-ended.new.line) (g.K.Keeper.handed c.end-ended.new.keep) (g.K.Keeper.kept c.end-ended.new.keep) (g.K.Keeper.faults c.end-ended.new.keep) (g.C.Clock.answers c.world-inside.inside.0.1.1.0) (looks_outside (g.M.Line.view c.world-inside.inside.0.1.1.1.0.finds) (g.O.Sink.contents c.end-ended.new.out) (g.D.Door.log c.world-inside.inside.0.1.1.1.0.door) (g.D.Door.coming c.world-inside.inside.0.1.1.1.0.door) n (g.D.Door.faults c.world-inside.inside.0.1.1.1.0.door)))) (sym (c.in-Ok.ensures.output_kept (λ e. not_err (Ok c.in-Ok._told) c.in-Ok._told run_stop.WriteFault refl e)))
    (subst (λ (n : ℕ). RunsProxySo at plan start own' (outside_of (g.N.Line.view c.end-ended.new.line) (g.K.Keeper.handed c.end-ended.new.keep) (g.K.Keeper.kept c.end-ended.new.keep) n (g.C.Clock.answers c.world-inside.inside.0.1.1.0) (looks_outside (g.M.Line.view c.world-inside.inside.0.1.1.1.0.finds) (g.O.Sink.contents c.end-ended.new.out) (g.D.Door.log c.world-inside.inside.0.1.1.1.0.door) (g.D.Door.coming c.world-inside.inside.0.1.1.1.0.door) (g.O.Sink.faults c.world-inside.inside.0.1.1.1.0.out) (g.D.Door.faults c.world-inside.inside.0.1.1.1.0.door)))) (sym (c.in-Ok.ensures.keeper_kept (λ e. not_err (Ok c.in-Ok._told) c.in-Ok._told run_stop.KeepFault refl e))) gone)

pub returns-in-Err-clause-goes : goal.returns-in-Err-clause-goes
returns-in-Err-clause-goes g c at start run =
    let plan = c.args.plan.now in
    let own : ProxyOwn = own_of c.run.inside.rounds c.run.inside.sizes.marks c.run.inside.held c.run.inside.no_more in
    let seen : ProxyOutside = outside_of (g.N.Line.view c.world-inside.inside.0.1.0) (g.K.Keeper.handed c.world-inside.inside.0.0) (g.K.Keeper.kept c.world-inside.inside.0.0) (g.K.Keeper.faults c.world-inside.inside.0.0) (g.C.Clock.answers c.world-inside.inside.0.1.1.0) (looks_outside (g.M.Line.view c.world-inside.inside.0.1.1.1.0.finds) (g.O.Sink.contents c.world-inside.inside.0.1.1.1.0.out) (g.D.Door.log c.world-inside.inside.0.1.1.1.0.door) (g.D.Door.coming c.world-inside.inside.0.1.1.1.0.door) (g.O.Sink.faults c.world-inside.inside.0.1.1.1.0.out) (g.D.Door.faults c.world-inside.inside.0.1.1.1.0.door)) in
    let view_is : seen ≡ c.args.world.now = ap (λ w. outside_of (g.N.Line.view w.updates) (g.K.Keeper.handed w.keep) (g.K.Keeper.kept w.keep) (g.K.Keeper.faults w.keep) (g.C.Clock.answers w.clock) w.looks) c.world-inside.view_is ∙ c.world.view_is in
    let seen' : ProxyOutside = outside_of (g.N.Line.view c.end-ended.new.line) (g.K.Keeper.handed c.end-ended.new.keep) (g.K.Keeper.kept c.end-ended.new.keep) (g.K.Keeper.faults c.end-ended.new.keep) (g.C.Clock.answers c.world-inside.inside.0.1.1.0) (looks_outside (g.M.Line.view c.world-inside.inside.0.1.1.1.0.finds) (g.O.Sink.contents c.end-ended.new.out) (g.D.Door.log c.world-inside.inside.0.1.1.1.0.door) (g.D.Door.coming c.world-inside.inside.0.1.1.1.0.door) (g.O.Sink.faults c.end-ended.new.out) (g.D.Door.faults c.world-inside.inside.0.1.1.1.0.door)) in
    let run_now : RunsProxySo at plan start own seen = subst (λ (w : ProxyOutside). RunsProxySo at plan start own w) (sym view_is) (subst (λ (o : ProxyOwn). RunsProxySo at plan start o c.args.world.now) (sym c.run.view_is) run) in
    let opened : is_some own.rounds.opened ≡ true = ap (λ (o : ProxyOwn). is_some o.rounds.opened) c.run.view_is ∙ c.requires.opened in
    let rounds = (after_proxy_events start.first before_proxy run_now.events).rounds in
    let made = made_open plan start at own seen run_now opened in
    let view = client_round_view seen.updates seen.keeper seen.looks.output in
    let view' = client_round_view seen'.updates seen'.keeper seen'.looks.output in
    let stops = c.in-Err.ensures.stopped (updates_start start) rounds made in
    let written = written_so c.in-Err.stop plan.updates (updates_start start) rounds own.rounds view view' stops in
    rw c.note.ensures (round_halts plan start at own seen run_now opened c.in-Err.stop written.0 c.end-ended.new.self c.sizes_on-run-inside.result.marks seen'.updates seen'.keeper seen'.looks.output seen'.looks.output_faults seen'.keeper_faults (first_stop own.looks.stop c.stop_of.result)
    c.end-ended.ensures.closed (ap (first_stop own.looks.stop) c.stop_of.ensures) stops written.1
    (halts_outs c.in-Err.stop seen.looks.output_faults seen'.looks.output_faults (λ e. c.in-Err.ensures.output_failed (ap Err e)) (λ n. c.in-Err.ensures.output_kept (λ e. n (err_same (Err c.in-Err.stop) c.in-Err.stop run_stop.WriteFault refl e))))
    (halts_keeps c.in-Err.stop seen.keeper_faults seen'.keeper_faults (λ e. c.in-Err.ensures.keeper_failed (ap Err e)) (λ n. c.in-Err.ensures.keeper_kept (λ e. n (err_same (Err c.in-Err.stop) c.in-Err.stop run_stop.KeepFault refl e)))) c.end-ended.ensures.same)
