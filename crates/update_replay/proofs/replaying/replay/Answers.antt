use Rattle.std.proofs.Common.{inr}
use Rattle.input_lines.specs.declared.stop.Stop.TheVariants.{WriteFault, OutOfMemory}
use Rattle.input_lines.specs.Writing.{IsWritingStopped}
use Rattle.update_replay.proofs.Readings.{reader, reader_reads}
use Rattle.update_replay.proofs.Outcomes.{printed_whole, printed_part, ok_both, err_known, err_is, write_rose}
use Rattle.update_replay.proofs.replaying.replay.Goals as goal

pub returns-clause-printed : goal.returns-clause-printed
returns-clause-printed g c =
    let law = c.values_read_or_have_a_fault.ensures.response in
    let read = reader law in
    let reads = reader_reads law in
    ok_both c.replay_input.result
    (printed_whole law c.args.names.now c.in-Ok.text c.as_slice.result.now c.as_slice.ensures c.in-Ok.ensures.whole c.in-Ok.ensures.within)
    (c.replay_input.ensures.refused read reads) (c.replay_input.ensures.text read reads)

pub returns-clause-write_fault : goal.returns-clause-write_fault
returns-clause-write_fault g c = λ is.
    let law = c.values_read_or_have_a_fault.ensures.response in (
      write_rose _ _ (err_is (λ stop. IsWritingStopped stop (g.O.Sink.faults c.args.out.now) (g.O.Sink.faults c.replay_input.new.out)) c.replay_input.result WriteFault is c.replay_input.ensures.stopped),
      printed_part law c.args.names.now c.in-Ok.text c.as_slice.result.now c.as_slice.ensures c.in-Ok.ensures.whole c.in-Ok.ensures.within
          (err_known c.replay_input.result WriteFault is (c.replay_input.ensures.err (reader law) (reader_reads law))),
    )

pub returns-clause-memory : goal.returns-clause-memory
returns-clause-memory g c = λ is.
    let law = c.values_read_or_have_a_fault.ensures.response in
    inr (printed_part law c.args.names.now c.in-Ok.text c.as_slice.result.now c.as_slice.ensures c.in-Ok.ensures.whole c.in-Ok.ensures.within
    (err_known c.replay_input.result OutOfMemory is (c.replay_input.ensures.err (reader law) (reader_reads law))))
