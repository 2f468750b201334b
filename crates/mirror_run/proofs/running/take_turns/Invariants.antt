use Rattle.mirror_run.specs.SoFar.{RunStart}
use Rattle.mirror_run.specs.State.Phase.{Between}
use Rattle.mirror_run.specs.Steps.{BeginsSo, RunsSo, run_at}
use Rattle.sb_model.specs.declared.time.Moment.{Moment}
use Rattle.mirror_run.proofs.running.take_turns.Given as goal

-- so many turns were taken so far
abbrev pub invariant-loop-turn : goal.invariant-loop-turn
invariant-loop-turn g l =
    (start : RunStart) → BeginsSo l.plan start l.initial.run l.initial.world → (now : Moment) × RunsSo (run_at Between now l.turn) l.plan start l.run l.world
