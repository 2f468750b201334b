use Rattle.std.proofs.Common.{◌≡◌, ◌≤◌, List, ◌++◌, length, slice_index_or, []}
use Rattle.std.specs.Prelude.{IfSome}
use Rattle.std.specs.Vec.Iter.{into_iter_items, into_iter_len}
use Rattle.update_client.specs.Held.{tokens_of}
use Rattle.verdict_report.specs.declared.verdicts.Judged.{Judged}
use Rattle.judge_run.specs.Reporting.{IsReport}
use Rattle.judge_run.proofs.JudgedSoFar.{JudgedSoFar}
use Rattle.judge_run.proofs.resolving.resolve_checks.Given as goal

-- the lines of the checks so far were judged, and their report is made
abbrev pub invariant-loop-check : goal.invariant-loop-check
invariant-loop-check g l = record {
  all : l.yielded ++ into_iter_items l.check-iterator ≡ l.fn.checks;
  count : into_iter_len l.check-iterator ≡ length (into_iter_items l.check-iterator);
  known : IfSome l.known (λ states. states.tokens ≡ tokens_of (slice_index_or l.publisher.list states.number []));
  counted : (g.N.Line.view l.initial.line).told.faults ≤ (g.N.Line.view l.line).told.faults;
  same : (g.N.Line.view l.line).objects ≡ (g.N.Line.view l.initial.line).objects;
  judged : (all : List Judged) × (length all ≡ length l.yielded) × IsReport l.report all
      × JudgedSoFar l.plan l.publisher.list l.initial.finds (g.N.Line.view l.initial.line).told l.fn.checks l.finds (g.N.Line.view l.line).told l.yielded all;
}
