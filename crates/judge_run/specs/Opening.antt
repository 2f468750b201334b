-- What a run begins with: its lines, the lists that were kept, the first moment, and two words.
use Rattle.std.specs.Prelude.{◌≡◌, ℕ, List, [], ◌∷◌, Option}
use Rattle.sb_model.specs.declared.names.ListName.{ListName}
use Rattle.sb_model.specs.declared.time.Moment.{Moment}
use Rattle.sb_outside.specs.Reading.{ReadsToEnd}
use Rattle.wait_rules.specs.Waits.{first_state}
use Rattle.wait_rules.specs.declared.waits.WaitState.{WaitState}
use Rattle.timed_sessions.specs.Told.{Outside, Trace, Grows}
use Rattle.input_lines.specs.Lines.{IsInputWithinLimits}
use Rattle.input_lines.specs.Input.{GivesWithin, GivesPast}
use Rattle.update_run.specs.Opening.{HasLoaded}
use Rattle.judge_run.specs.declared.beginning.Begun.{Begun}
use Rattle.judge_run.specs.declared.stop.JudgeStop.{JudgeStop}
use Rattle.judge_run.specs.declared.stop.JudgeStop.TheVariants as stop

-- what is told more of a beginning: one reading of the clock, the word of the updates, and after it that of the finds
abbrev pub trace_of_opening : Moment → ℕ → ℕ → Trace
trace_of_opening start updates finds = record { sessions = []; readings = start ∷ []; waits = []; drawn = updates ∷ finds ∷ [] }

-- The clock was read and two words were drawn. By the first the first update has to wait for so long, and by the second the first find.
pub record OpensFinds (updates finds : WaitState) (before after : Outside) : Type 0 where
  pub start : Moment
  pub update_word : ℕ
  pub find_word : ℕ
  pub first_update : updates ≡ first_state start update_word
  pub first : finds ≡ first_state start find_word
  pub told : Grows before after (trace_of_opening start update_word find_word)
  pub unmoved : after.faults ≡ before.faults

-- The source gave a text to its end, which is within the limits.
pub record ReadsWhole (text : List ℕ) (left left' : Option (List (List ℕ))) : Type 0 where
  pub reads : ReadsToEnd text left left'
  pub within : IsInputWithinLimits text

-- A run has its input, its lists and the line that tells of them, and the waits of the first update and the first find.
pub record BeginsJudging (names : List ListName) (begun : Begun) (left left' : Option (List (List ℕ))) (known : Option (Option (List ℕ))) (before after : Outside) : Type 0 where
  pub input : ReadsWhole begun.text left left'
  pub loaded : HasLoaded names known begun.client.lists [] begun.client.page
  pub opens : OpensFinds begun.client.waits begun.finds before after

-- where a run does not begin, by its cause
abbrev pub StopsBeginning : JudgeStop → (left left' : Option (List (List ℕ))) → Type 0
StopsBeginning stop.ReadFault left left' = GivesWithin left left'
StopsBeginning stop.PastLimits left left' = GivesPast left left'
StopsBeginning stop.KeepFault left left' = (text : List ℕ) × ReadsWhole text left left'
StopsBeginning stop.WriteFault left left' = ⊥
StopsBeginning stop.OutOfMemory left left' = Unit {0}
