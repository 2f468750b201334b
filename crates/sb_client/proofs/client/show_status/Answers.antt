use Rattle.std.proofs.Common.{inr, refl, ap}
use Rattle.input_lines.specs.declared.stop.Stop.TheVariants.{ReadFault, WriteFault}
use Rattle.sb_client.proofs.Endings.{ended, fault_of, unwritten}
use Rattle.sb_client.proofs.client.show_status.Goals as goal

pub returns-clause-shows : goal.returns-clause-shows
returns-clause-shows g c =
    let did = c.show.ensures in
    record {
      ending = c.show.result;
      told = c.exit_status.ensures;
      done = ended _ _ _ _ _ _ c.show.result did.shown
          (λ is. let h = did.read_fault is in (h.1, ap g.O.Sink.contents h.2))
          (λ is. let h = did.past is in (h.0, ap g.O.Sink.contents h.1))
          (λ is. (did.write_fault is).1)
          did.memory;
    }

pub returns-clause-unwritten : goal.returns-clause-unwritten
returns-clause-unwritten g c =
    unwritten 21 c.show.result _ (inr refl) c.exit_status.ensures (λ is. (c.show.ensures.read_fault is).2) (λ is. (c.show.ensures.past is).1)

pub returns-clause-read : goal.returns-clause-read
returns-clause-read g c =
    fault_of 21 c.show.result ReadFault _ (inr refl) c.exit_status.ensures (λ is. (c.show.ensures.read_fault is).0) c.show.ensures.input_kept

pub returns-clause-written : goal.returns-clause-written
returns-clause-written g c =
    fault_of 21 c.show.result WriteFault _ (inr refl) c.exit_status.ensures (λ is. (c.show.ensures.write_fault is).0) c.show.ensures.output_kept
