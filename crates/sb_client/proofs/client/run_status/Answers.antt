use Rattle.update_run.specs.declared.stop.RunStop.TheVariants.{WriteFault, KeepFault}
use Rattle.sb_client.proofs.Runs.{keep_stop, run_fault_of, write_stop}
use Rattle.sb_client.proofs.client.run_status.Goals as goal

pub returns-clause-runs : goal.returns-clause-runs
returns-clause-runs g c =
    let did = c.run.ensures in
    record {
      ending = c.run.result;
      told = c.run_exit_status.ensures;
      done = did.ends;
    }

pub returns-clause-written : goal.returns-clause-written
returns-clause-written g c =
    let told = c.run_exit_status.ensures in
    run_fault_of c.run.result WriteFault _ told (write_stop c.run.result _ told) c.run.ensures.output_failed c.run.ensures.output_kept

pub returns-clause-saved : goal.returns-clause-saved
returns-clause-saved g c =
    let told = c.run_exit_status.ensures in
    run_fault_of c.run.result KeepFault _ told (keep_stop c.run.result _ told) c.run.ensures.keeper_failed c.run.ensures.keeper_kept
