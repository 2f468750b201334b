use Rattle.std.proofs.Common.{◌≡◌, List, [], ◌∷◌, ◌++◌, length, sym, ap, ◌∙◌, subst, append_assoc, arith}
use Rattle.std.specs.Vec.Iter.{into_iter_items}
use Rattle.parallel_checks.specs.Working.{AreJobsOf}
use Rattle.parallel_checks.specs.declared.working.Job.{Job}
use Rattle.parallel_checks.proofs.RowFacts.{more_jobs}
use Rattle.parallel_checks.proofs.running.jobs_of.Goals as goal

pub loop-seat-preserved : goal.loop-seat-preserved
loop-seat-preserved c =
    let at = c.loop-seat in let seat = c.in-Some.seat in
    let steps : into_iter_items at.seat-iterator ≡ seat ∷ into_iter_items c.next.new.self = c.in-Some.ensures.steps.0 in
    let job : Job = record { place = c.len-place.result; seat = seat } in record {
      all = append_assoc at.yielded (seat ∷ []) _ ∙ rw (← steps) at.invariant.all;
      count = (let was = at.invariant.count in let gone = c.in-Some.ensures.steps.1 in let short = ap length steps in omega arith);
      jobs = subst (λ (l : List Job). AreJobsOf (at.yielded ++ seat ∷ []) l) (sym c.in_ok-push.ensures.ok) (more_jobs at.yielded at.jobs job at.invariant.jobs c.len-place.ensures);
    }
