-- What the workers give, and how their checks come into the order of the lines.
use Rattle.std.specs.Prelude.{◌≡◌, ℕ, ◌+◌, ◌*◌, ◌<◌, List, length, slice_get, Result, Ok, Some}
use Rattle.snapshot_publish.specs.Publishing.{Seated}
use Rattle.url_checker.specs.declared.findings.Checked.{Checked}
use Rattle.sb_model.specs.declared.memory.OutOfMemory.{OutOfMemory}
use Rattle.parallel_checks.specs.Checks.{AreSeatChecks, AreChecks, GoesOn, GoOn, of_seat}
use Rattle.parallel_checks.specs.declared.working.Job.{Job}
use Rattle.parallel_checks.specs.declared.working.Worked.{Worked}
use Rattle.parallel_checks.specs.declared.running.CheckRun.{CheckRun}

-- What a worker gives of a job: its seat later on, and the checks of all lines of the seat.
pub record IsWorkOf (lines : List (List ℕ)) (seats : ℕ) (job : Job) (worked : Worked) : Type 0 where
  pub goes_on : GoesOn job.seat worked.seat
  pub are : AreSeatChecks worked.seat.list (of_seat lines seats job.place) (slice_get worked.checks)
  pub whole : (turn : ℕ) → job.place + turn * seats < length lines → turn < length worked.checks

-- A job for each seat, in order.
pub record AreJobsOf (seats : List Seated) (jobs : List Job) : Type 0 where
  pub count : length jobs ≡ length seats
  pub each : (place : ℕ) (job : Job) → slice_get jobs place ≡ Some job → (job.place ≡ place) × (slice_get seats place ≡ Some job.seat)

-- What the workers give, in the order of their jobs, unless memory is refused.
pub record AreWorks (lines : List (List ℕ)) (jobs : List Job) (works : List (Result Worked OutOfMemory)) : Type 0 where
  pub count : length works ≡ length jobs
  pub each : (place : ℕ) (job : Job) (worked : Worked) → slice_get jobs place ≡ Some job → slice_get works place ≡ Some (Ok worked)
      → IsWorkOf lines (length jobs) job worked

-- The seats and the rows of what all workers gave.
pub record AreGathered (works : List (Result Worked OutOfMemory)) (seats : List Seated) (rows : List (List Checked)) : Type 0 where
  pub seats_are : length seats ≡ length works
  pub rows_are : length rows ≡ length works
  pub each : (place : ℕ) (seat : Seated) (row : List Checked) → slice_get seats place ≡ Some seat → slice_get rows place ≡ Some row
      → slice_get works place ≡ Some (Ok (record { seat = seat; checks = row }))

-- each row has a check for each of its seat's lines, of so many lines in all
abbrev pub AreLong : List (List Checked) → ℕ → Type 0
AreLong rows count = (place turn : ℕ) (row : List Checked) → slice_get rows place ≡ Some row → place + turn * length rows < count → turn < length row

-- each check is the one that the row of its seat has at its turn
abbrev pub IsWoven : List (List Checked) → List Checked → Type 0
IsWoven rows woven = (place turn : ℕ) (row : List Checked) (check : Checked) → slice_get rows place ≡ Some row
    → of_seat woven (length rows) place turn ≡ Some check → slice_get row turn ≡ Some check

-- A run of checks with these seats.
pub record IsCheckRunOf (seats : List Seated) (lines : List (List ℕ)) (run : CheckRun) : Type 0 where
  pub go_on : GoOn seats run.seats
  pub are : AreChecks run.seats lines run.checks
