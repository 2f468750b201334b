use Rattle.std.proofs.Common.{◌≡◌, ℕ, length}
use Rattle.mirror_run.specs.State.Phase.{Finishing}
use Rattle.mirror_run.specs.Steps.{RunGoesOn, run_at}
use Rattle.mirror_run.specs.declared.plan.MirrorPlan.{MirrorPlan}
use Rattle.sb_model.specs.declared.time.Moment.{Moment}
use Rattle.mirror_run.proofs.ending.refuse_waiting.Given as goal

-- finds were refused so far, and nothing else was done
abbrev pub invariant-loop-alloc : goal.invariant-loop-alloc
invariant-loop-alloc g l =
    ((plan : MirrorPlan) (now : Moment) (turns : ℕ) → RunGoesOn (run_at Finishing now turns) (run_at Finishing now turns) plan l.initial.run l.run l.initial.world l.world)
    × (l.run.rounds ≡ l.initial.run.rounds)
    × (l.run.finds ≡ l.initial.run.finds)

abbrev pub decreases-loop-alloc : goal.decreases-loop-alloc
decreases-loop-alloc g l = length l.run.connections.waiting
