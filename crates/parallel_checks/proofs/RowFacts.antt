-- Jobs, and what is gathered of what the workers gave, one after the other.
use Rattle.std.proofs.Common.{◌≡◌, ⊎_elim, List, [], ◌∷◌, ◌++◌, length, sym, ap, ◌∙◌, arith, length-append}
use Rattle.std.specs.Prelude.{Some, Result, Ok, slice_get}
use Rattle.std.proofs.lemmas.Option.{slice_get_within}
use Rattle.snapshot_publish.specs.Publishing.{Seated}
use Rattle.sb_model.specs.declared.memory.OutOfMemory.{OutOfMemory}
use Rattle.url_checker.specs.declared.findings.Checked.{Checked}
use Rattle.parallel_checks.specs.Working.{AreJobsOf, AreGathered}
use Rattle.parallel_checks.specs.declared.working.Job.{Job}
use Rattle.parallel_checks.specs.declared.working.Worked.{Worked}
use Rattle.parallel_checks.proofs.ListFacts.{get_more, get_either, get_end}

pub more_jobs : (seats : List Seated) (jobs : List Job) (job : Job) → AreJobsOf seats jobs → job.place ≡ length jobs → AreJobsOf (seats ++ job.seat ∷ []) (jobs ++ job ∷ [])
more_jobs seats jobs job h here = record {
  count = omega (arith, h.count, length-append jobs (job ∷ []), length-append seats (job.seat ∷ []));
  each = λ place one at. ⊎_elim
      (λ (t : slice_get jobs place ≡ Some one). ((h.each place one t).0, get_more seats (job.seat ∷ []) place one.seat (h.each place one t).1))
      (λ (t : (place ≡ length jobs) × (job ≡ one)).
      (ap (λ (j : Job). j.place) (sym t.1) ∙ (here ∙ sym t.0), get_end seats job.seat place (t.0 ∙ h.count) ∙ ap (λ (j : Job). Some j.seat) t.1))
      (get_either jobs job place one at);
}

pub more_gathered : (works : List (Result Worked OutOfMemory)) (seats : List Seated) (rows : List (List Checked)) (worked : Worked) → AreGathered works seats rows
    → AreGathered (works ++ Ok worked ∷ []) (seats ++ worked.seat ∷ []) (rows ++ worked.checks ∷ [])
more_gathered works seats rows worked h =
    let seat : Seated = worked.seat in let row : List Checked = worked.checks in
    let w : Result Worked OutOfMemory = Ok worked in record {
      seats_are = omega (arith, h.seats_are, length-append works (w ∷ []), length-append seats (seat ∷ []));
      rows_are = omega (arith, h.rows_are, length-append works (w ∷ []), length-append rows (row ∷ []));
      each = λ place s r at got. ⊎_elim
          (λ (t : slice_get seats place ≡ Some s). ⊎_elim
          (λ (u : slice_get rows place ≡ Some r). get_more works (w ∷ []) place (Ok (record { seat = s; checks = r })) (h.each place s r t u))
          (λ (u : (place ≡ length rows) × (row ≡ r)). absurd (omega (arith, u.0, h.seats_are, h.rows_are, slice_get_within seats place s t)))
          (get_either rows row place r got))
          (λ (t : (place ≡ length seats) × (seat ≡ s)). ⊎_elim
          (λ (u : slice_get rows place ≡ Some r). absurd (omega (arith, t.0, h.seats_are, h.rows_are, slice_get_within rows place r u)))
          (λ (u : (place ≡ length rows) × (row ≡ r)). get_end works w place (t.0 ∙ h.seats_are)
          ∙ ap (λ (q : Seated × List Checked). Some (Ok (record { seat = q.0; checks = q.1 }))) (λ i. (t.1 i, u.1 i)))
          (get_either rows row place r got))
          (get_either seats seat place s at);
    }
