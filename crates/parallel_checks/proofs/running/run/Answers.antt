use Rattle.std.proofs.Common.{sym, subst, ◌∙◌}
use Rattle.parallel_checks.specs.Working.{AreLong}
use Rattle.parallel_checks.proofs.RunFacts.{rows_long, seats_go_on, run_checks}
use Rattle.parallel_checks.proofs.running.run.Goals as goal

pub weave-requires-clause-long : goal.weave-requires-clause-long
weave-requires-clause-long g c =
    subst (AreLong c.in_ok-seats.rows) (sym c.len.ensures)
    (rows_long c.args.urls.now c.args.seats c.in_ok-seats.seats c.in_ok-jobs.jobs c.in_ok-works.works.items c.in_ok-seats.rows c.in_ok-jobs.ensures c.in_ok-works.ensures c.in_ok-seats.ensures)

pub returns : goal.returns
returns g c = record {
  go_on = seats_go_on c.args.urls.now c.args.seats c.in_ok-seats.seats c.in_ok-jobs.jobs c.in_ok-works.works.items c.in_ok-seats.rows c.in_ok-jobs.ensures c.in_ok-works.ensures c.in_ok-seats.ensures;
  are = run_checks c.args.urls.now c.args.seats c.in_ok-seats.seats c.in_ok-jobs.jobs c.in_ok-works.works.items c.in_ok-seats.rows c.in_ok-jobs.ensures c.in_ok-works.ensures c.in_ok-seats.ensures
      c.in_ok-checks.checks (c.in_ok-checks.ensures.count ∙ c.len.ensures) c.in_ok-checks.ensures.woven;
}
