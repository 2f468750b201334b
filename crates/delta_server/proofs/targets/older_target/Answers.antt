use Rattle.sb_model.specs.History.{History}
use Rattle.delta_server.proofs.targets.older_target.Goals as goal

pub returns-in_ok-keep-in-Some-2-clause-swept : goal.returns-in_ok-keep-in-Some-2-clause-swept
returns-in_ok-keep-in-Some-2-clause-swept c =
    let versions : History = c.args.history.now.versions in
    c.in_ok-keep-in-Some-2.ensures versions (rw c.in-Some-2.is at c.in_ok-stretches.ensures.some) c.requires.swept
