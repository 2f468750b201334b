use Rattle.std.proofs.Common.{inl, refl, ap}
use Rattle.input_lines.specs.declared.stop.Stop.TheVariants.{ReadFault, WriteFault}
use Rattle.sb_client.proofs.Endings.{ended, fault_of, unwritten}
use Rattle.sb_client.proofs.client.replay_status.Goals as goal

pub returns-clause-replays : goal.returns-clause-replays
returns-clause-replays g c =
    let did = c.replay.ensures in
    record {
      ending = c.replay.result;
      told = c.exit_status.ensures;
      done = ended _ _ _ _ _ _ c.replay.result did.printed
          (λ is. let h = did.read_fault is in (h.1, ap g.O.Sink.contents h.2))
          (λ is. let h = did.past is in (h.0, ap g.O.Sink.contents h.1))
          (λ is. (did.write_fault is).1)
          did.memory;
    }

pub returns-clause-unwritten : goal.returns-clause-unwritten
returns-clause-unwritten g c =
    unwritten 5 c.replay.result _ (inl refl) c.exit_status.ensures (λ is. (c.replay.ensures.read_fault is).2) (λ is. (c.replay.ensures.past is).1)

pub returns-clause-read : goal.returns-clause-read
returns-clause-read g c =
    fault_of 5 c.replay.result ReadFault _ (inl refl) c.exit_status.ensures (λ is. (c.replay.ensures.read_fault is).0) c.replay.ensures.input_kept

pub returns-clause-written : goal.returns-clause-written
returns-clause-written g c =
    fault_of 5 c.replay.result WriteFault _ (inl refl) c.exit_status.ensures (λ is. (c.replay.ensures.write_fault is).0) c.replay.ensures.output_kept
