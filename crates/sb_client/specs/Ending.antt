-- The exit status of each end of a command.
use Rattle.std.specs.Prelude.{◌≡◌, ℕ, Bool, if◌then◌else◌, List, Option, Ok, Err}
use Rattle.input_lines.specs.Ending.{InputEnding, EndsReading}
use Rattle.input_lines.specs.declared.stop.Stop.{Stop}
use Rattle.input_lines.specs.declared.stop.Stop.TheVariants.{ReadFault, WriteFault, PastLimits, OutOfMemory}
use Rattle.update_run.specs.Run.{RunEnding}
use Rattle.update_run.specs.declared.stop.RunStop.{RunStop}
use Rattle.update_run.specs.declared.stop.RunStop.TheVariants as stop
use Rattle.judge_run.specs.Run.{JudgeEnding}
use Rattle.judge_run.specs.declared.judgement.Outcome.{Outcome}
use Rattle.judge_run.specs.declared.judgement.Outcome.TheVariants as outcome
use Rattle.judge_run.specs.declared.stop.JudgeStop.{JudgeStop}
use Rattle.judge_run.specs.declared.stop.JudgeStop.TheVariants as judging

-- ---- the exit statuses

abbrev pub status_after : Stop → ℕ
status_after ReadFault = 2
status_after WriteFault = 3
status_after PastLimits = 6
status_after OutOfMemory = 8

abbrev pub run_status_after : RunStop → ℕ
run_status_after stop.WriteFault = 3
run_status_after stop.KeepFault = 4
run_status_after stop.OutOfMemory = 8

abbrev pub judge_status_after : JudgeStop → ℕ
judge_status_after judging.ReadFault = 2
judge_status_after judging.WriteFault = 3
judge_status_after judging.KeepFault = 4
judge_status_after judging.PastLimits = 6
judge_status_after judging.OutOfMemory = 8

-- what URLs come to: an unsafe one has 20, and else an open one has 21
abbrev pub outcome_status : Outcome → ℕ
outcome_status outcome.Safe = 0
outcome_status outcome.Unsafe = 20
outcome_status outcome.Open = 21

-- the status of an end, where a refusal has this one
abbrev pub ending_status_of : ℕ → InputEnding → ℕ
ending_status_of refusal (Ok refused) = if refused then refusal else 0
ending_status_of refusal (Err stop) = status_after stop

-- and of the end of a run, where a refusal has 5
abbrev pub run_status_of : RunEnding → ℕ
run_status_of (Ok refused) = if refused then 5 else 0
run_status_of (Err stop) = run_status_after stop

-- and of the end of a run that judges URLs, where a refusal of its updates has 5, whatever its URLs come to
abbrev pub judge_status_of : JudgeEnding → ℕ
judge_status_of (Ok judgement) = if judgement.refused then 5 else outcome_status judgement.outcome
judge_status_of (Err stop) = judge_status_after stop

-- ---- a command that reads its input to the end, and then writes a text of it

-- It ended in some way, and this is its exit status.
pub record IsReadingRun (refusal : ℕ) (Whole : Bool → Type 0) (Part : Type 0) (status : ℕ)
    (left left' : Option (List (List ℕ))) (held held' : Option (List ℕ)) : Type 0 where
  pub ending : InputEnding
  pub told : status ≡ ending_status_of refusal ending
  pub done : EndsReading Whole Part ending left left' held held'
