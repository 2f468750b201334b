-- Why a run stops where an object outside did not do what it was asked.
use Rattle.std.specs.Prelude.{◌≡◌, ◌⊎◌, ℕ}
use Rattle.sb_outside.specs.Outside.{Rose}
use Rattle.sb_outside.specs.declared.reading.InputFault.{InputFault}
use Rattle.sb_outside.specs.declared.reading.InputFault.TheVariants as input
use Rattle.update_run.specs.declared.stop.RunStop.{RunStop}
use Rattle.update_run.specs.declared.stop.RunStop.TheVariants as run
use Rattle.judge_run.specs.declared.stop.JudgeStop.{JudgeStop}
use Rattle.judge_run.specs.declared.stop.JudgeStop.TheVariants.{ReadFault, PastLimits, WriteFault, KeepFault, OutOfMemory}

-- where its input is not read to its end
abbrev pub stop_after_input : InputFault → JudgeStop
stop_after_input input.Failed = ReadFault
stop_after_input input.PastLimit = PastLimits
stop_after_input input.OutOfMemory = OutOfMemory

-- where its lists are not loaded, or not brought up to date
abbrev pub stop_after_rounds : RunStop → JudgeStop
stop_after_rounds run.WriteFault = WriteFault
stop_after_rounds run.KeepFault = KeepFault
stop_after_rounds run.OutOfMemory = OutOfMemory

-- Writing stopped: the output failed and counts a fault, or memory was refused and its count is as it was.
abbrev pub StopsWriting : JudgeStop → ℕ → ℕ → Type 0
StopsWriting stop before after = ((stop ≡ WriteFault) × Rose before after) ⊎ ((stop ≡ OutOfMemory) × (after ≡ before))
