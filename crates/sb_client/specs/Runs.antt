-- A run of each command: its exit status, and what it did to the objects that it uses. How often each object failed is
-- said of all commands at once.
use Rattle.std.specs.Prelude.{◌≡◌, ◌≢◌, ◌⊎◌, ℕ, ◌-◌, ◌^◌, ◌<◌, not, List, Option, Ok, Err}
use Rattle.sb_model.specs.declared.names.ListName.{ListName}
use Rattle.sb_outside.specs.Outside.{appended, Rose}
use Rattle.sb_outside.specs.Writing.{HasFront}
use Rattle.update_run.specs.Run.{Seen, RunEnding, EndsRun}
use Rattle.update_run.specs.declared.plan.Plan.{Plan}
use Rattle.judge_run.specs.Run.{Judging, JudgeEnding, EndsJudging}
use Rattle.judge_run.specs.declared.plan.JudgePlan.{JudgePlan}
use Rattle.sb_client.specs.declared.command.Command.{Command}
use Rattle.sb_client.specs.declared.command.Command.TheVariants.{Replay, Run, Judge, Show, Vectors, Tell}
use Rattle.input_lines.specs.declared.stop.Stop.TheVariants.{WriteFault, OutOfMemory}
use Rattle.input_lines.specs.Ending.{InputEnding}
use Rattle.sb_client.specs.Ending.{ending_status_of, run_status_of, judge_status_of, IsReadingRun}
use Rattle.update_replay.specs.Replay.{IsPrinted, IsPartlyPrinted}
use Rattle.sb_client.specs.Show.{IsShown, IsPartlyShown, IsCounted, IsPartlyCounted}

-- each exit status that a run can have
abbrev pub IsStatus : ℕ → Type 0
IsStatus status = (status ≡ 0) ⊎ (status ≡ 1) ⊎ (status ≡ 2) ⊎ (status ≡ 3) ⊎ (status ≡ 4) ⊎ (status ≡ 5) ⊎ (status ≡ 6) ⊎ (status ≡ 8) ⊎ (status ≡ 20) ⊎ (status ≡ 21)

-- ---- words that are no command line

-- The usage text was written: the whole, without a fault, or a front of it where the sink's count of faults rose.
abbrev pub TellsUsage : List ℕ → (held held' : Option (List ℕ)) → (faults faults' : ℕ) → Type 0
TellsUsage usage held held' faults faults' =
    ((held' ≡ appended held usage) × (faults' ≡ faults)) ⊎ (Rose faults faults' × HasFront held held' usage)

-- With 1 the usage text was told, and with 8 nothing was written.
abbrev pub IsUsageRun : List ℕ → (status : ℕ) → (held held' : Option (List ℕ)) → (faults faults' : ℕ) → Type 0
IsUsageRun usage status held held' faults faults' =
    ((status ≡ 1) × TellsUsage usage held held' faults faults') ⊎ ((status ≡ 8) × (held' ≡ held))

-- ---- words that ask about a program

-- With 0 the text was written, with 3 a front of it that lacks something, and with 8 nothing.
abbrev pub IsTellRun : List ℕ → (status : ℕ) → (held held' : Option (List ℕ)) → Type 0
IsTellRun text status held held' =
    ((status ≡ 0) × (held' ≡ appended held text)) ⊎ ((status ≡ 3) × HasFront held held' text) ⊎ ((status ≡ 8) × (held' ≡ held))

-- ---- `replay` and `show`

-- the input is replayed to lists with these names; 5 tells of a refusal
abbrev pub IsReplayRun : List ListName → (status : ℕ) → (left left' : Option (List (List ℕ))) → (held held' : Option (List ℕ)) → Type 0
IsReplayRun names status left left' held held' =
    IsReadingRun 5 (λ refused. IsPrinted names refused left left' held held') (IsPartlyPrinted names left left' held held')
    status left left' held held'

-- the URLs of the input are shown; 21 tells of one that has no canonical form
abbrev pub IsShowRun : (status : ℕ) → (left left' : Option (List (List ℕ))) → (held held' : Option (List ℕ)) → Type 0
IsShowRun status left left' held held' =
    IsReadingRun 21 (λ refused. IsShown refused left left' held held') (IsPartlyShown left left' held held')
    status left left' held held'

-- ---- `vectors`

abbrev pub EndsCounting : InputEnding → (held held' : Option (List ℕ)) → Type 0
EndsCounting (Ok failed) held held' = IsCounted (not failed) held held'
EndsCounting (Err WriteFault) held held' = IsPartlyCounted held held'
EndsCounting (Err OutOfMemory) held held' = held' ≡ held
EndsCounting (Err stop) held held' = ⊥

-- the published examples are counted; 21 tells that one is not met
pub record IsCountRun (status : ℕ) (held held' : Option (List ℕ)) : Type 0 where
  pub ending : InputEnding
  pub told : status ≡ ending_status_of 21 ending
  pub done : EndsCounting ending held held'

-- ---- `run`

-- the lists of a plan are kept up to date; 5 tells of a refusal, or of a round without a response
pub record IsUpdateRun (plan : Plan) (status : ℕ) (before after : Seen) : Type 0 where
  pub ending : RunEnding
  pub told : status ≡ run_status_of ending
  pub done : EndsRun plan ending before after

-- ---- `judge`

-- the URLs of the input are judged, each by one of the publications of the lists; 5 tells of a refusal, or of a round without a response,
-- 20 of an unsafe URL, and 21 that none is, and one is open
pub record IsJudgeRun (plan : JudgePlan) (status : ℕ) (before after : Judging) : Type 0 where
  pub ending : JudgeEnding
  pub told : status ≡ judge_status_of ending
  pub done : EndsJudging plan ending before after

-- ---- any command

-- A run of a command that uses what it uses of these: what the input has left, and what is seen of the link, the clock, the dice, the keeper
-- and the output.
abbrev pub IsRunOf : Command → (status : ℕ) → (before after : Judging) → Type 0
IsRunOf (Replay names) status before after = IsReplayRun names status before.left after.left before.seen.output after.seen.output
IsRunOf (Run plan) status before after = IsUpdateRun plan status before.seen after.seen
IsRunOf (Judge plan) status before after = IsJudgeRun plan status before after
IsRunOf Show status before after = IsShowRun status before.left after.left before.seen.output after.seen.output
IsRunOf Vectors status before after = IsCountRun status before.seen.output after.seen.output
IsRunOf (Tell text) status before after = IsTellRun text status before.seen.output after.seen.output

-- ---- the counts of faults

-- The count rose with this status, and with no other.
pub record IsFaultOfStatus (fault status faults faults' : ℕ) : Type 0 where
  pub rose : status ≡ fault → Rose faults faults'
  pub kept : status ≢ fault → faults' ≡ faults

-- With status 2 the count of the input rose, with 3 that of the output, and with 4 that of the keeper. With others no count
-- did, but for that of the output with 1, which the usage text may raise.
pub record AreCountedWithKeeper (status : ℕ) (input input' out out' keep keep' : ℕ) : Type 0 where
  pub read : IsFaultOfStatus 2 status input input'
  pub written : status ≢ 1 → IsFaultOfStatus 3 status out out'
  pub saved : IsFaultOfStatus 4 status keep keep'

-- A count could rise, and did not.
pub record HasNoFault (faults faults' : ℕ) : Type 0 where
  pub kept : faults' ≡ faults
  pub low : faults < 2 ^ 64 - 1
