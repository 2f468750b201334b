use Rattle.std.proofs.Common.{rules, ◌≡◌, ℕ, List, length, get_or, sym, ap, ◌∙◌, subst, arith}
use Rattle.std.specs.Prelude.{Result, Ok, IfOk, slice_index_or}
use Rattle.std.proofs.lemmas.Option.{slice_get_within, get_or_from_slice_get}
use Rattle.sb_model.specs.declared.memory.OutOfMemory.{OutOfMemory}
use Rattle.parallel_checks.specs.Working.{IsWorkOf}
use Rattle.parallel_checks.specs.declared.working.Job.{Job}
use Rattle.parallel_checks.specs.declared.working.Worked.{Worked}
use Rattle.parallel_checks.proofs.running.work_all.Goals as goal

pub returns : goal.returns
returns g c =
    let lines = c.args.urls.now in let jobs = c.args.jobs in let works = c.in_ok-works.works.items in let step : ℕ = c.len-step.result in
    let items : c.into_vec.result.items ≡ jobs = c.into_vec.ensures in
    let many : length works ≡ length jobs = omega (arith, c.in_ok-works.ensures.len, c.in_ok-works.works.ok.0, c.into_vec.result.ok.0, ap length items) in record {
      count = many;
      each = λ place job worked at got.
          let k = (c.in_ok-works.ensures.each place (Ok worked) (omega (arith, slice_get_within jobs place job at, ap length items))).1 in
          let gave : slice_index_or works place (Ok worked) ≡ Ok worked = get_or_from_slice_get works place (Ok worked) (Ok worked) got in
          let job_is : k.job ≡ job = sym (k.job_is job) ∙ (ap (λ (l : List Job). get_or l place job) items ∙ get_or_from_slice_get jobs place job job at) in
          let is : IfOk (slice_index_or works place (Ok worked)) (IsWorkOf lines step k.job) = (let met = k.call.met in search rules) in
          let one : IsWorkOf lines step k.job worked = subst (λ (r : Result Worked OutOfMemory). IfOk r (IsWorkOf lines step k.job)) gave is in
          subst (λ (q : ℕ × Job). IsWorkOf lines q.0 q.1 worked) (λ i. (c.len-step.ensures i, job_is i)) one;
    }
