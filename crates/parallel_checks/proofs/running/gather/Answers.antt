use Rattle.std.proofs.Common.{◌≡◌, List, [], ◌∷◌, ◌++◌, length, sym, ap, ◌∙◌, subst, append_assoc, arith}
use Rattle.std.specs.Prelude.{Ok, Result}
use Rattle.std.specs.Vec.Iter.{into_iter_items}
use Rattle.sb_model.specs.declared.memory.OutOfMemory.{OutOfMemory}
use Rattle.snapshot_publish.specs.Publishing.{Seated}
use Rattle.url_checker.specs.declared.findings.Checked.{Checked}
use Rattle.parallel_checks.specs.Working.{AreGathered}
use Rattle.parallel_checks.specs.declared.working.Worked.{Worked}
use Rattle.parallel_checks.proofs.RowFacts.{more_gathered}
use Rattle.parallel_checks.proofs.running.gather.Goals as goal

pub loop-work-preserved : goal.loop-work-preserved
loop-work-preserved c =
    let at = c.loop-work in let work = c.in-Some.work in let worked : Worked = c.in_ok-seat.field-0 in
    let steps : into_iter_items at.work-iterator ≡ work ∷ into_iter_items c.next.new.self = c.in-Some.ensures.steps.0 in
    let work_is : work ≡ Ok worked = c.in_ok-seat.was in
    let seats_are : c.push.new.self ≡ at.seats ++ worked.seat ∷ [] = c.in_ok-push.ensures.ok in
    let rows_are : c.push-in-loop-work.new.self ≡ at.rows ++ worked.checks ∷ [] = c.in_ok-push-2.ensures.ok in record {
      all = append_assoc at.yielded (work ∷ []) _ ∙ rw (← steps) at.invariant.all;
      count = (let was = at.invariant.count in let gone = c.in-Some.ensures.steps.1 in let short = ap length steps in omega arith);
      gathered = subst (λ (w : Result Worked OutOfMemory). AreGathered (at.yielded ++ w ∷ []) c.push.new.self c.push-in-loop-work.new.self) (sym work_is)
          (subst (λ (q : List Seated × List (List Checked)). AreGathered (at.yielded ++ Ok worked ∷ []) q.0 q.1) (λ i. (sym seats_are i, sym rows_are i))
          (more_gathered at.yielded at.seats at.rows worked at.invariant.gathered));
    }
