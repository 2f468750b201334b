use Rattle.mirror_run.proofs.ending.finish.Goals as goal

pub end_open_find-requires : goal.end_open_find-requires
end_open_find-requires g c =
    let run = c.requires.running in
    record { running = (run.0, (run.1.0, c.end_open_round.ensures.goes run.0 run.1.0 run.1.1)) }
