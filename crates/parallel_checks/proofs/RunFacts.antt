-- A run of checks, from what its workers gave.
use Rattle.std.proofs.Common.{◌≡◌, ℕ, ◌+◌, ◌*◌, List, length, sym, ap, ◌∙◌, subst, arith}
use Rattle.std.specs.Prelude.{Option, Some, Result, Ok, slice_get}
use Rattle.snapshot_publish.specs.Publications.{Publications}
use Rattle.snapshot_publish.specs.Publishing.{Seated}
use Rattle.sb_model.specs.declared.memory.OutOfMemory.{OutOfMemory}
use Rattle.url_checker.specs.declared.findings.Checked.{Checked}
use Rattle.url_checker.specs.declared.findings.Checked.TheVariants.{Found}
use Rattle.parallel_checks.specs.Checks.{AreSeatChecks, AreChecks, GoesOn, GoOn, of_seat}
use Rattle.parallel_checks.specs.Working.{IsWorkOf, AreJobsOf, AreWorks, AreGathered, AreLong, IsWoven}
use Rattle.parallel_checks.specs.declared.working.Job.{Job}
use Rattle.parallel_checks.specs.declared.working.Worked.{Worked}
use Rattle.parallel_checks.proofs.ListFacts.{as_long, some_same}

-- fewer checks of a seat, on lines as they were
pub narrow : (all : Publications) (lines lines' : ℕ → Option (List ℕ)) (checks checks' : ℕ → Option Checked) → AreSeatChecks all lines checks
    → ((turn : ℕ) → lines' turn ≡ lines turn) → ((turn : ℕ) (check : Checked) → checks' turn ≡ Some check → checks turn ≡ Some check) → AreSeatChecks all lines' checks'
narrow all lines lines' checks checks' are same of = record {
  each = λ turn line check at got. are.each turn line check (sym (same turn) ∙ at) (of turn check got);
  never_fall = λ turn turn' first later le got got'. are.never_fall turn turn' first later le (of turn (Found first) got) (of turn' (Found later) got');
}

module _ (lines : List (List ℕ)) (seats seats' : List Seated) (jobs : List Job) (works : List (Result Worked OutOfMemory)) (rows : List (List Checked))
    (are_jobs : AreJobsOf seats jobs) (are_works : AreWorks lines jobs works) (gathered : AreGathered works seats' rows) where
  -- the work at a place
  work_at : (place : ℕ) (seat : Seated) (row : List Checked) → slice_get seats' place ≡ Some seat → slice_get rows place ≡ Some row
      → (job : Job) × (slice_get jobs place ≡ Some job) × IsWorkOf lines (length jobs) job (record { seat = seat; checks = row })
  work_at place seat row at got =
      let is = gathered.each place seat row at got in
      let job = as_long jobs works place (Ok (record { seat = seat; checks = row })) are_works.count is in
      (job.0, job.1, are_works.each place job.0 (record { seat = seat; checks = row }) job.1 is)

  as_many : length jobs ≡ length rows
  as_many = sym (gathered.rows_are ∙ are_works.count)

  as_many_seats : length seats' ≡ length rows
  as_many_seats = gathered.seats_are ∙ sym gathered.rows_are

  pub rows_long : AreLong rows (length lines)
  rows_long place turn row got i =
      let seat = as_long seats' rows place row (sym as_many_seats) got in
      let work = work_at place seat.0 row seat.1 got in
      let here : work.0.place ≡ place = (are_jobs.each place work.0 work.1).0 in
      let same : work.0.place + turn * length jobs ≡ place + turn * length rows = ap (λ (q : ℕ × ℕ). q.0 + turn * q.1) (λ j. (here j, as_many j)) in
      work.2.whole turn (omega (arith, same, i))

  pub seats_go_on : GoOn seats seats'
  seats_go_on = record {
    count = as_many_seats ∙ (sym as_many ∙ are_jobs.count);
    each = λ place seat seat' at at'.
        let row = as_long rows seats' place seat' as_many_seats at' in
        let work = work_at place seat' row.0 at' row.1 in
        let same : work.0.seat ≡ seat = some_same work.0.seat seat (sym (are_jobs.each place work.0 work.1).1 ∙ at) in
        subst (λ (s : Seated). GoesOn s seat') same work.2.goes_on;
  }

  pub run_checks : (woven : List Checked) → length woven ≡ length lines → IsWoven rows woven → AreChecks seats' lines woven
  run_checks woven count is = record {
    count = count;
    each = λ place seat' at'.
        let row = as_long rows seats' place seat' as_many_seats at' in
        let work = work_at place seat' row.0 at' row.1 in
        let here : work.0.place ≡ place = (are_jobs.each place work.0 work.1).0 in
        let many : length seats' ≡ length jobs = as_many_seats ∙ sym as_many in
        narrow seat'.list (of_seat lines (length jobs) work.0.place) (of_seat lines (length seats') place) (slice_get row.0) (of_seat woven (length seats') place) work.2.are
        (λ turn. ap (λ (q : ℕ × ℕ). slice_get lines (q.0 + turn * q.1)) (λ j. (sym here j, many j)))
        (λ turn check got. is place turn row.0 check row.1 (ap (λ (n : ℕ). slice_get woven (place + turn * n)) (sym as_many_seats) ∙ got));
  }
