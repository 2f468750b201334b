-- Checks that were settled, in the order of their lines.
use Rattle.std.proofs.Common.{◌≡◌, ℕ, ◌+◌, ◌*◌, ◌/◌, ◌%◌, ◌<◌, List, length, sym, ap, ◌∙◌, arith}
use Rattle.std.specs.Prelude.{Some, slice_get}
use Rattle.std.proofs.lemmas.Nat.{div-add-mod', mod_below}
use Rattle.snapshot_publish.specs.Publications.{Publications}
use Rattle.snapshot_publish.specs.Publishing.{Seated}
use Rattle.url_checker.specs.declared.findings.Checked.{Checked}
use Rattle.url_checker.specs.declared.findings.Checked.TheVariants.{Found, Refused}
use Rattle.parallel_checks.specs.Checks.{IsCheckOf, of_seat}
use Rattle.parallel_checks.specs.Settled.{NamesKeptPublication, AreSettled, IsSettledRun}
use Rattle.parallel_checks.specs.declared.running.CheckRun.{CheckRun}
use Rattle.judge_run.specs.Checked.{MayBeJudged, MayAllBeJudged, AreChecksOf, NumbersNeverFall}
use Rattle.judge_run.proofs.Places.{get_there, as_long}

-- a line is one of a seat, at a turn
line_at : (index seats : ℕ) → index ≡ index % seats + index / seats * seats
line_at index seats = omega (arith, div-add-mod' index seats)

may_be : (all : Publications) (line : List ℕ) (check : Checked) → IsCheckOf all line check → NamesKeptPublication all check → MayBeJudged all check
may_be all line (Found finding) is kept = (kept, is.askable)
may_be all line (Refused fault) is kept = tt

module _ (all : Publications) (run settled : CheckRun) (lines : List (List ℕ)) (is : IsSettledRun all run lines settled) (count : length settled.seats ≡ length run.seats) (some : 0 < length run.seats) where
  seat_at : (place : ℕ) → place < length run.seats → (seat : Seated) × (slice_get settled.seats place ≡ Some seat)
  seat_at place within = get_there settled.seats place (omega (arith, count, within))

  settled_at : (place : ℕ) → place < length run.seats → (seat : Seated)
      × AreSettled all seat (of_seat lines (length run.seats) place) (of_seat run.checks (length run.seats) place) (of_seat settled.checks (length run.seats) place)
  settled_at place within = let seat = seat_at place within in (seat.0, is.each place seat.0 seat.1)

  each_check : (index : ℕ) (line : List ℕ) (check : Checked) → slice_get lines index ≡ Some line → slice_get settled.checks index ≡ Some check → IsCheckOf all line check × NamesKeptPublication all check
  each_check index line check l k =
      let w = length run.seats in
      let at = line_at index w in
      let one = (settled_at (index % w) (mod_below index w some)).1 in
      let here = ap (λ (n : ℕ). slice_get lines n) (sym at) ∙ l in
      let there = ap (λ (n : ℕ). slice_get settled.checks n) (sym at) ∙ k in
      (one.are.each (index / w) line check here there, one.kept (index / w) check there)

  pub checks_are : AreChecksOf all lines settled.checks
  checks_are = record { count = is.count; each = λ index line check l k. (each_check index line check l k).0 }

  pub checks_may : MayAllBeJudged all settled.checks
  checks_may index check k =
      let line = as_long lines settled.checks index check is.count k in
      let both = each_check index line.0 check line.1 k in
      may_be all line.0 check both.0 both.1

  pub never_fall : NumbersNeverFall (length run.seats) settled.checks
  never_fall place within = (settled_at place within).1.are.never_fall
