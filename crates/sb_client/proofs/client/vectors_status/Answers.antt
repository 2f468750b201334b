use Rattle.std.proofs.Common.{inr, refl, ap}
use Rattle.input_lines.specs.declared.stop.Stop.TheVariants.{WriteFault, OutOfMemory}
use Rattle.sb_client.proofs.Endings.{fault_of, stop_of}
use Rattle.sb_client.proofs.Runs.{counted}
use Rattle.sb_client.proofs.client.vectors_status.Goals as goal

pub returns-clause-counts_examples : goal.returns-clause-counts_examples
returns-clause-counts_examples g c =
    let did = c.vectors.ensures in
    record {
      ending = c.vectors.result;
      told = c.exit_status.ensures;
      done = counted c.vectors.result did.counted (λ is. (did.write_fault is).1) (λ is. ap g.O.Sink.contents (did.memory is)) did.others;
    }

pub returns-clause-memory : goal.returns-clause-memory
returns-clause-memory g c eight = c.vectors.ensures.memory (stop_of 21 c.vectors.result OutOfMemory _ (inr refl) c.exit_status.ensures eight)

pub returns-clause-written : goal.returns-clause-written
returns-clause-written g c =
    fault_of 21 c.vectors.result WriteFault _ (inr refl) c.exit_status.ensures (λ is. (c.vectors.ensures.write_fault is).0) c.vectors.ensures.output_kept
