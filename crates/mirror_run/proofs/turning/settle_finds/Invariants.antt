use Rattle.std.proofs.Common.{◌≡◌, ℕ, length}
use Rattle.mirror_run.specs.State.Phase.{Beginning}
use Rattle.mirror_run.specs.Steps.{RunGoesOn, run_at}
use Rattle.mirror_run.proofs.turning.settle_finds.Given as goal

-- finds were settled so far, and nothing else was done
abbrev pub invariant-loop-run : goal.invariant-loop-run
invariant-loop-run g l =
    ((turns : ℕ) → RunGoesOn (run_at Beginning l.now turns) (run_at Beginning l.now turns) l.plan l.initial.run l.run l.initial.world l.world)
    × (l.run.rounds ≡ l.initial.run.rounds)

abbrev pub decreases-loop-run : goal.decreases-loop-run
decreases-loop-run g l = length l.run.connections.waiting
