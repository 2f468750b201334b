use Rattle.std.proofs.Common.{inl, refl}
use Rattle.sb_client.proofs.Endings.{known_status, no_fault}
use Rattle.sb_client.proofs.client.run_command.Goals as goal

pub returns-in-Replay-clause-counts : goal.returns-in-Replay-clause-counts
returns-in-Replay-clause-counts g c =
    let run = c.replay_status.ensures.replays in
    record {
      read = c.replay_status.ensures.read;
      written = λ _. c.replay_status.ensures.written;
      saved = no_fault 4 c.replay_status.result (known_status 5 run.ending c.replay_status.result (inl refl) run.told).2 refl;
    }
