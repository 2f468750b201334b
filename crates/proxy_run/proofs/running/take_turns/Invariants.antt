use Rattle.proxy_run.specs.SoFar.{ProxyStart}
use Rattle.proxy_run.specs.State.ProxyPhase.{Between}
use Rattle.proxy_run.specs.Steps.{ProxyBeginsSo, RunsProxySo, proxy_at}
use Rattle.sb_model.specs.declared.time.Moment.{Moment}
use Rattle.proxy_run.proofs.running.take_turns.Given as goal

-- so many turns were taken so far
abbrev pub invariant-loop-turn : goal.invariant-loop-turn
invariant-loop-turn g l =
    (start : ProxyStart) → ProxyBeginsSo l.plan start l.initial.run l.initial.world → (now : Moment) × RunsProxySo (proxy_at Between now l.turn) l.plan start l.run l.world
