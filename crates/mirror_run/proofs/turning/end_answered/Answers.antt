use Rattle.mirror_run.proofs.turning.end_answered.Goals as goal

pub end_answered_find-requires : goal.end_answered_find-requires
end_answered_find-requires g c =
    let run = c.requires.running in
    record { running = (run.0, (run.1.0, c.end_answered_round.ensures.goes run.0 run.1.0 run.1.1)) }
