use Rattle.std.proofs.Common.{◌≡◌, ℕ, ◌+◌, ◌*◌, min, List, [], ◌∷◌, length, sym, ap, ◌∙◌, subst, arith, length-append}
use Rattle.std.specs.Prelude.{slice_get, Some}
use Rattle.url_checker.specs.declared.findings.Checked.{Checked}
use Rattle.parallel_checks.specs.Checks.{of_seat}
use Rattle.parallel_checks.proofs.LineFacts.{next_is}
use Rattle.parallel_checks.proofs.WorkSoFar.{SoFar, one_more_check}
use Rattle.parallel_checks.proofs.working.work.Goals as goal

pub loop-index-preserved : goal.loop-index-preserved
loop-index-preserved g c =
    let lines = c.args.urls.now in let index : ℕ = c.loop-index.index in let line : List ℕ = c.at.result.now in
    let place : ℕ = c.args.job.place in let step : ℕ = c.args.step in let checks = c.loop-index.checks in let inv = c.loop-index.invariant in
    let at : slice_get lines index ≡ Some line = c.at.ensures in
    let there : index ≡ place + length checks * step = omega (arith, inv.at) in
    let long : length c.push.new.self ≡ length checks + 1 = omega (arith, ap length c.in_ok-push.ensures.ok, length-append checks (c.in_ok-check.check ∷ [])) in record {
      so_far = subst (λ (l : List Checked). SoFar (of_seat lines step place) c.args.job.seat c.check_next.new.seat l) (sym c.in_ok-push.ensures.ok)
          (one_more_check (of_seat lines step place) c.args.job.seat c.loop-index.seat c.check_next.new.seat checks c.in_ok-check.shown.last line c.in_ok-check.check
          inv.so_far c.in_ok-check.ensures.goes_on c.in_ok-check.ensures.last (ap (slice_get lines) (sym there) ∙ at) c.in_ok-check.ensures.check);
      at = next_is index place (length checks) step (length lines) c.next_line-index.result inv.at (omega arith) (c.next_line-index.ensures ∙ ap (λ (n : ℕ). min n (index + step)) c.len-in-loop-index-2.ensures)
          ∙ ap (λ (n : ℕ). min (length lines) (place + n * step)) (sym long);
      known = c.in_ok-check.ensures.last.lists;
    }
