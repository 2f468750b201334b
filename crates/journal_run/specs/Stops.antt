-- The exit status of a run, by what ended it.
use Rattle.std.specs.Prelude.{◌≢◌, ℕ, Bool, true, false}
use Rattle.journal_run.specs.declared.stop.Stop.{Stop}
use Rattle.journal_run.specs.declared.stop.Stop.TheVariants as stop

abbrev pub journal_run_status : Stop → ℕ
journal_run_status stop.Done = 0
journal_run_status stop.NoCommand = 1
journal_run_status stop.ReadFault = 2
journal_run_status stop.WriteFault = 3
journal_run_status stop.LongInput = 6
journal_run_status stop.BadJournal = 7
journal_run_status stop.OutOfMemory = 8
journal_run_status stop.Listed = 20
journal_run_status stop.Refused = 21

-- what a reply ends a run with, if it is written whole
abbrev pub is_end_of_reply : Stop → Bool
is_end_of_reply stop.Done = true
is_end_of_reply stop.BadJournal = true
is_end_of_reply stop.Listed = true
is_end_of_reply stop.Refused = true
is_end_of_reply other = false

-- what ends a command that was not refused memory
pub record EndsCommand (ending : Stop) : Type 0 where
  pub some : ending ≢ stop.NoCommand
  pub remembered : ending ≢ stop.OutOfMemory
