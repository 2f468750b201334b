-- A worker's checks so far.
use Rattle.std.proofs.Common.{◌≡◌, ℕ, suc, ◌<◌, ⊎_elim, List, [], ◌∷◌, ◌++◌, length, sym, ap, ◌∙◌, subst, arith}
use Rattle.std.specs.Prelude.{Option, Some, slice_get}
use Rattle.std.proofs.lemmas.Option.{slice_get_within}
use Rattle.snapshot_publish.specs.Publications.{Publication, IsLastOf}
use Rattle.snapshot_publish.specs.Publishing.{Seated}
use Rattle.url_checker.specs.declared.findings.Finding.{Finding}
use Rattle.url_checker.specs.declared.findings.Checked.{Checked}
use Rattle.url_checker.specs.declared.findings.Checked.TheVariants.{Found}
use Rattle.parallel_checks.specs.Checks.{IsCheckOf, IsCheckOn, GoesOn, AreSeatChecks, NeverFall}
use Rattle.parallel_checks.proofs.ListFacts.{get_either, some_same}
use Rattle.parallel_checks.proofs.CheckFacts.{prefix_long, goes_on, check_of, check_on, number_on}

-- The seat later on, and the checks of its first lines: each names a publication that the seat knows.
pub record SoFar (lines : ℕ → Option (List ℕ)) (before seat : Seated) (checks : List Checked) : Type 0 where
  pub goes_on : GoesOn before seat
  pub are : AreSeatChecks seat.list lines (slice_get checks)
  pub known : (turn : ℕ) (finding : Finding) → slice_get checks turn ≡ Some (Found finding) → finding.number < length seat.list

module _ (lines : ℕ → Option (List ℕ)) (before seat seat' : Seated) (checks : List Checked) (last : Publication) (line : List ℕ) (check : Checked)
    (h : SoFar lines before seat checks) (on : GoesOn seat seat') (is_last : IsLastOf seat'.list last) (at : lines (length checks) ≡ Some line) (is : IsCheckOn last line check) where
  each_more : (turn : ℕ) (l : List ℕ) (c : Checked) → lines turn ≡ Some l → slice_get (checks ++ check ∷ []) turn ≡ Some c → IsCheckOf seat'.list l c
  each_more turn l c there got = ⊎_elim
      (λ (t : slice_get checks turn ≡ Some c). check_on seat.list seat'.list l c on.list (h.are.each turn l c there t))
      (λ (t : (turn ≡ length checks) × (check ≡ c)).
      let same : line ≡ l = some_same line l (sym at ∙ (ap lines (sym t.0) ∙ there)) in
      subst (λ (q : List ℕ × Checked). IsCheckOf seat'.list q.0 q.1) (λ i. (same i, t.1 i)) (check_of seat'.list last line check is_last.lists is))
      (get_either checks check turn c got)

  -- the last one's number is that of the last publication
  newest : (turn : ℕ) (finding : Finding) → (turn ≡ length checks) × (check ≡ Found finding) → suc finding.number ≡ length seat'.list
  newest turn finding t = ap suc (number_on last line check finding t.1 is) ∙ is_last.number

  known_more : (turn : ℕ) (finding : Finding) → slice_get (checks ++ check ∷ []) turn ≡ Some (Found finding) → finding.number < length seat'.list
  known_more turn finding got = ⊎_elim
      (λ (t : slice_get checks turn ≡ Some (Found finding)). omega (arith, h.known turn finding t, prefix_long seat.list seat'.list on.list))
      (λ (t : (turn ≡ length checks) × (check ≡ Found finding)). omega (arith, newest turn finding t))
      (get_either checks check turn (Found finding) got)

  falls_not : NeverFall (slice_get (checks ++ check ∷ []))
  falls_not turn turn' first later le got got' = ⊎_elim
      (λ (t' : slice_get checks turn' ≡ Some (Found later)). ⊎_elim
      (λ (t : slice_get checks turn ≡ Some (Found first)). h.are.never_fall turn turn' first later le t t')
      (λ (t : (turn ≡ length checks) × (check ≡ Found first)). absurd (omega (arith, t.0, le, slice_get_within checks turn' (Found later) t')))
      (get_either checks check turn (Found first) got))
      (λ (t' : (turn' ≡ length checks) × (check ≡ Found later)). omega (arith, newest turn' later t', known_more turn first got))
      (get_either checks check turn' (Found later) got')

  pub one_more_check : SoFar lines before seat' (checks ++ check ∷ [])
  one_more_check = record {
    goes_on = goes_on before seat seat' h.goes_on on;
    are = record { each = each_more; never_fall = falls_not };
    known = known_more;
  }
