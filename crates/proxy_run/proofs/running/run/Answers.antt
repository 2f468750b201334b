use Rattle.std.proofs.Common.{Option, Some, None, sym, ap, ◌∙◌, subst, inl}
use Rattle.proxy_run.specs.Run.{EndsProxy}
use Rattle.proxy_run.specs.SoFar.{ProxyOwn}
use Rattle.proxy_run.specs.State.ProxyPhase.{Finishing}
use Rattle.proxy_run.specs.Steps.{proxy_at}
use Rattle.proxy_run.specs.declared.stop.ProxyStop.{ProxyStop}
use Rattle.proxy_run.proofs.running.run.Goals as goal

pub take_turns-requires-clause-running : goal.take_turns-requires-clause-running
take_turns-requires-clause-running g c = let opened = c.in_ok-run.ensures.opened in (opened.2.0, (opened.0, opened.2.1))

pub finish-requires : goal.finish-requires
finish-requires g c =
    let opened = c.in_ok-run.ensures.opened in
    let turned = c.take_turns.ensures opened.0 opened.2 in
    record { running = (proxy_at Finishing turned.0 turned.1, (opened.0, turned.2)) }

pub returns-in-Some : goal.returns-in-Some
returns-in-Some g c =
    let opened = c.in_ok-run.ensures.opened in
    let turned = c.take_turns.ensures opened.0 opened.2 in
    let ended = c.finish.ensures.ends opened.0 turned.0 turned.1 turned.2 in
    record { runs = inl (opened.0, opened.1, subst (λ (s : Option ProxyStop). EndsProxy c.args.plan.now opened.0 s c.finish.new.world) (sym (ap (λ (own : ProxyOwn). own.looks.stop) c.run.view_is) ∙ sym c.stop.ensures ∙ c.in-Some.is) ended) }

pub returns : goal.returns
returns g c =
    let opened = c.in_ok-run.ensures.opened in
    let turned = c.take_turns.ensures opened.0 opened.2 in
    let ended = c.finish.ensures.ends opened.0 turned.0 turned.1 turned.2 in
    record { runs = inl (opened.0, opened.1, subst (λ (s : Option ProxyStop). EndsProxy c.args.plan.now opened.0 s c.finish.new.world) (sym (ap (λ (own : ProxyOwn). own.looks.stop) c.run.view_is) ∙ sym c.stop.ensures ∙ c.in-None.is) ended) }
