use Rattle.judge_run.specs.declared.stop.JudgeStop.TheVariants.{ReadFault, WriteFault, KeepFault}
use Rattle.sb_client.proofs.Judgings.{judge_fault_of, judge_unwritten}
use Rattle.sb_client.proofs.judged.judge_status.Goals as goal

pub returns-clause-judges : goal.returns-clause-judges
returns-clause-judges g c = record {
  ending = c.judge.result;
  told = c.judge_exit_status.ensures;
  done = c.judge.ensures.ends;
}

pub returns-clause-unwritten : goal.returns-clause-unwritten
returns-clause-unwritten g c =
    judge_unwritten c.judge.result _ c.judge_exit_status.ensures c.judge.ensures.read_unwritten c.judge.ensures.past_unwritten

pub returns-clause-read : goal.returns-clause-read
returns-clause-read g c =
    judge_fault_of c.judge.result ReadFault _ c.judge_exit_status.ensures c.judge.ensures.input_failed c.judge.ensures.input_kept

pub returns-clause-written : goal.returns-clause-written
returns-clause-written g c =
    judge_fault_of c.judge.result WriteFault _ c.judge_exit_status.ensures c.judge.ensures.output_failed c.judge.ensures.output_kept

pub returns-clause-saved : goal.returns-clause-saved
returns-clause-saved g c =
    judge_fault_of c.judge.result KeepFault _ c.judge_exit_status.ensures c.judge.ensures.keeper_failed c.judge.ensures.keeper_kept
