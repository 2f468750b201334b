-- URLs that were judged by their checks, and one more.
use Rattle.std.proofs.Common.{◌≡◌, ◌<◌, ◌≤◌, ℕ, zero, suc, List, [], ◌∷◌, ◌++◌, length, map, take, drop, refl, sym, ap, ◌∙◌, subst, append_assoc, append-nil, length-append, inl, inr, arith}
use Rattle.std.specs.Prelude.{Some, slice_get}
use Rattle.std.proofs.lemmas.List.{take-append-drop}
use Rattle.timed_sessions.specs.Told.{Outside}
use Rattle.snapshot_publish.specs.Publications.{Publications}
use Rattle.url_checker.specs.declared.findings.Checked.{Checked}
use Rattle.verdict_report.specs.declared.verdicts.Judged.{Judged}
use Rattle.parallel_checks.specs.Checks.{IsCheckOf}
use Rattle.url_checker.specs.declared.finds.Finds.{Finds}
use Rattle.judge_run.specs.Cases.{BeginsCases, GoesOnWithCases}
use Rattle.judge_run.specs.Judging.{BreaksOffLine, StopsJudging, check_of, JudgesCheck}
use Rattle.judge_run.specs.declared.plan.JudgePlan.{JudgePlan}
use Rattle.judge_run.specs.Checked.{AreChecksOf, JudgesChecks, StopsAtNext}
use Rattle.judge_run.proofs.Places.{get_end, get_more, get_there}
use Rattle.judge_run.proofs.Cases.{stops_after, stops_within}

-- ---- lists

take_next : {X : Type 0} (xs : List X) (k : ℕ) (x : X) → slice_get xs k ≡ Some x → take (suc k) xs ≡ take k xs ++ x ∷ []
take_next [] k x e = absurd cc
take_next (y ∷ xs) zero x e = ap (λ z. z ∷ []) cc
take_next (y ∷ xs) (suc k) x e = ap (λ zs. y ∷ zs) (take_next xs k x e)

drop_next : {X : Type 0} (xs : List X) (k : ℕ) (x : X) → slice_get xs k ≡ Some x → drop k xs ≡ x ∷ drop (suc k) xs
drop_next [] k x e = absurd cc
drop_next (y ∷ xs) zero x e = ap (λ z. z ∷ xs) cc
drop_next (y ∷ xs) (suc k) x e = drop_next xs k x e

take_past : {X : Type 0} (xs : List X) (k : ℕ) → length xs ≤ k → take k xs ≡ xs
take_past [] zero h = refl
take_past [] (suc k) h = refl
take_past (y ∷ xs) zero h = absurd (omega (arith, h))
take_past (y ∷ xs) (suc k) h = ap (λ zs. y ∷ zs) (take_past xs k (omega (arith, h)))

pub map_end : {X Y : Type 0} (f : X → Y) (xs : List X) (x : X) → map f (xs ++ x ∷ []) ≡ map f xs ++ f x ∷ []
map_end f [] x = refl
map_end f (y ∷ xs) x = ap (λ zs. f y ∷ zs) (map_end f xs x)

-- the next check
pub next_check : (checks done rest : List Checked) (check : Checked) → done ++ check ∷ rest ≡ checks → slice_get checks (length done) ≡ Some check
next_check checks done rest check split =
    ap (λ (cs : List Checked). slice_get cs (length done)) (sym split ∙ sym (append_assoc done (check ∷ []) rest))
    ∙ get_more (done ++ check ∷ []) rest (length done) check (get_end done check (length done) refl)

-- and its line
pub next_line : (published : Publications) (lines : List (List ℕ)) (done : List Checked) (check : Checked) (rest : List Checked) → AreChecksOf published lines (done ++ check ∷ rest)
    → (line : List ℕ) × (slice_get lines (length done) ≡ Some line) × IsCheckOf published line check
next_line published lines done check rest are =
    let within : length done < length lines = omega (arith, are.count, length-append done (check ∷ rest)) in
    let there = get_there lines (length done) within in
    let front : slice_get (done ++ check ∷ []) (length done) ≡ Some check = get_end done check (length done) refl in
    let here : slice_get (done ++ check ∷ rest) (length done) ≡ Some check =
    ap (λ (cs : List Checked). slice_get cs (length done)) (sym (append_assoc done (check ∷ []) rest)) ∙ get_more (done ++ check ∷ []) rest (length done) check front
    in
    (there.0, there.1, are.each (length done) there.0 check there.1 here)

module _ (plan : JudgePlan) (published : Publications) (finds : Finds) (before : Outside) where
  -- lines were judged by the checks so far, whatever the lines are of which the checks are
  abbrev pub JudgedSoFar : List Checked → Finds → Outside → List Checked → List Judged → Type 0
  JudgedSoFar checks now between done all = (lines : List (List ℕ)) → AreChecksOf published lines checks
      → JudgesChecks plan published finds now before between (take (length done) lines) done all

  pub none_so_far : BeginsCases → (checks : List Checked) → JudgedSoFar checks finds before [] []
  none_so_far begins checks lines are =
      let none = begins plan published finds before in
      record { judges = none.0; by_checks = ap (map check_of) none.1 }

  pub one_more_check : (checks done rest : List Checked) (check : Checked) (now later : Finds) (between after : Outside) (all : List Judged) (one : Judged)
      → GoesOnWithCases → before.faults ≤ between.faults → between.faults ≤ after.faults → done ++ check ∷ rest ≡ checks → JudgedSoFar checks now between done all
      → ((line : List ℕ) → IsCheckOf published line check → JudgesCheck plan published now later between after line check one)
      → JudgedSoFar checks later after (done ++ check ∷ []) (all ++ one ∷ [])
  one_more_check checks done rest check now later between after all one go ab bc split so_far more lines are =
      let line = next_line published lines done check rest (subst (λ (cs : List Checked). AreChecksOf published lines cs) (sym split) are) in
      let earlier = so_far lines are in
      let judged = more line.0 line.2 in
      let count : length (done ++ check ∷ []) ≡ suc (length done) = omega (arith, length-append done (check ∷ [])) in
      let longer : take (length (done ++ check ∷ [])) lines ≡ take (length done) lines ++ line.0 ∷ [] =
      ap (λ (n : ℕ). take n lines) count ∙ take_next lines (length done) line.0 line.1
      in
      let made = go plan published finds now later before between after (take (length done) lines) all line.0 one ab bc earlier.judges judged.judges in
      let by_checks : map check_of made.0.cases ≡ done ++ check ∷ [] =
      ap (map check_of) made.1
      ∙ map_end check_of earlier.judges.cases judged.judges.case
      ∙ ap (λ (cs : List Checked). cs ++ check_of judged.judges.case ∷ []) earlier.by_checks
      ∙ ap (λ (last : Checked). done ++ last ∷ []) judged.checked
      in
      subst (λ (ls : List (List ℕ)). JudgesChecks plan published finds later before after ls (done ++ check ∷ []) (all ++ one ∷ [])) (sym longer) (record { judges = made.0; by_checks = by_checks })

  pub all_checks : (checks done rest : List Checked) (now : Finds) (between : Outside) (all : List Judged) → done ++ rest ≡ checks → rest ≡ [] → JudgedSoFar checks now between done all
      → (lines : List (List ℕ)) → AreChecksOf published lines checks → JudgesChecks plan published finds now before between lines checks all
  all_checks checks done rest now between all split none so_far lines are =
      let whole : done ≡ checks = sym (append-nil done) ∙ ap (λ (cs : List Checked). done ++ cs) (sym none) ∙ split in
      let every : take (length done) lines ≡ lines = take_past lines (length done) (omega (arith, are.count, ap length whole)) in
      subst (λ (cs : List Checked). JudgesChecks plan published finds now before between lines cs all) whole
      (subst (λ (ls : List (List ℕ)). JudgesChecks plan published finds now before between ls done all) every (so_far lines are))

  -- memory was refused after some checks
  pub stops_between : (checks done : List Checked) (now : Finds) (between : Outside) (all : List Judged) → JudgedSoFar checks now between done all
      → (lines : List (List ℕ)) → AreChecksOf published lines checks → StopsJudging plan published finds before between lines
  stops_between checks done now between all so_far lines are =
      stops_after plan published finds now before between lines (take (length done) lines) (drop (length done) lines) all (take-append-drop (length done) lines) (so_far lines are).judges

  -- or within the next
  pub stops_in_check : (checks done rest : List Checked) (check : Checked) (now : Finds) (between after : Outside) (all : List Judged) → done ++ check ∷ rest ≡ checks → after.faults ≡ between.faults → JudgedSoFar checks now between done all
      → ((line : List ℕ) (more : List (List ℕ)) → IsCheckOf published line check → BreaksOffLine plan published now between after (line ∷ more))
      → (lines : List (List ℕ)) → AreChecksOf published lines checks → StopsJudging plan published finds before after lines
  stops_in_check checks done rest check now between after all split same so_far breaks lines are =
      let line = next_line published lines done check rest (subst (λ (cs : List Checked). AreChecksOf published lines cs) (sym split) are) in
      let more = drop (suc (length done)) lines in
      stops_within plan published finds now before between after lines (take (length done) lines) (drop (length done) lines) line.0 more all
      (drop_next lines (length done) line.0 line.1) (take-append-drop (length done) lines) same (so_far lines are).judges (breaks line.0 more line.2)

  pub stops_at_next : (checks done rest : List Checked) (check : Checked) (now later : Finds) (between after : Outside) (all : List Judged)
      → GoesOnWithCases → before.faults ≤ between.faults → between.faults ≤ after.faults → done ++ check ∷ rest ≡ checks → JudgedSoFar checks now between done all → StopsAtNext plan published check now later between after
      → (lines : List (List ℕ)) → AreChecksOf published lines checks → StopsJudging plan published finds before after lines
  stops_at_next checks done rest check now later between after all go ab bc split so_far (inl report) =
      stops_between checks (done ++ check ∷ []) later after (all ++ report.one ∷ [])
      (one_more_check checks done rest check now later between after all report.one go ab bc split so_far report.judges)
  stops_at_next checks done rest check now later between after all go ab bc split so_far (inr breaks) =
      stops_in_check checks done rest check now between after all split breaks.unmoved so_far breaks.breaks
