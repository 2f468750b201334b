use Rattle.judge_run.proofs.ReportFacts.{said_unsafe, said_undecided, said_refused, said_safe}
use Rattle.judge_run.proofs.judgement.outcome_of.Goals as goal

pub returns-then-counts-gt0 : goal.returns-then-counts-gt0
returns-then-counts-gt0 c = λ all same. said_unsafe c.args.counts.now all same c.if-counts-gt0.true

pub returns-then-counts-gt0-2 : goal.returns-then-counts-gt0-2
returns-then-counts-gt0-2 c = λ all same. said_undecided c.args.counts.now all same c.if-counts-gt0.false c.if-counts-gt0-2.true

pub returns-then-counts-gt0-3 : goal.returns-then-counts-gt0-3
returns-then-counts-gt0-3 c = λ all same. said_refused c.args.counts.now all same c.if-counts-gt0.false c.if-counts-gt0-2.false c.if-counts-gt0-3.true

pub returns : goal.returns
returns c = λ all same. said_safe c.args.counts.now all same c.if-counts-gt0.false c.if-counts-gt0-2.false c.if-counts-gt0-3.false
