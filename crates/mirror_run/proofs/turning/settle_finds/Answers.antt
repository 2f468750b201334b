use Rattle.mirror_run.specs.State.Phase.{Beginning}
use Rattle.mirror_run.specs.Steps.{run_at}
use Rattle.mirror_run.proofs.turning.settle_finds.Goals as goal

pub settle_first-requires-clause-running : goal.settle_first-requires-clause-running
settle_first-requires-clause-running g c =
    let run = c.requires.running in
    (run_at Beginning c.args.now run.0, (run.1.0, c.loop-run.invariant.0 run.0 run.1.0 run.1.1))
