use Rattle.std.proofs.Common.{rules, ◌≡◌, [], ◌∷◌, ◌++◌, length, refl, sym, ap, ◌∙◌, append_assoc, length-append, arith}
use Rattle.std.specs.Vec.Iter.{into_iter_items}
use Rattle.std.proofs.lemmas.List.{nil_from_length}
use Rattle.input_lines.specs.Ways.{on_any}
use Rattle.judge_run.proofs.JudgedSoFar.{next_check, none_so_far, one_more_check, all_checks, stops_between, stops_at_next}
use Rattle.judge_run.proofs.resolving.resolve_checks.Goals as goal

pub returns-in_err-report-clause-stopped : goal.returns-in_err-report-clause-stopped
returns-in_err-report-clause-stopped g c = λ lines are.
    on_any _ (stops_between c.args.plan.now c.args.publisher.now.list _ _ c.args.checks [] _ _ [] (none_so_far c.args.plan.now c.args.publisher.now.list _ _ c.cases_go_on.ensures.none c.args.checks) lines are)

pub loop-check-init : goal.loop-check-init
loop-check-init g c = record {
  all = search rules;
  count = search rules;
  known = tt;
  counted = omega arith;
  same = refl;
  judged = ([], refl, c.in_ok-report.ensures, none_so_far c.args.plan.now c.args.publisher.now.list _ _ c.cases_go_on.ensures.none c.args.checks);
}

pub report_next-requires-clause-may : goal.report_next-requires-clause-may
report_next-requires-clause-may g c =
    let at = c.loop-check in
    let steps : into_iter_items at.check-iterator ≡ c.in-Some.check ∷ into_iter_items c.next.new.self = c.in-Some.ensures.steps.0 in
    c.requires.may (length at.yielded) c.in-Some.check (next_check c.args.checks at.yielded (into_iter_items c.next.new.self) c.in-Some.check (rw (← steps) at.invariant.all))

pub loop-check-preserved : goal.loop-check-preserved
loop-check-preserved g c =
    let at = c.loop-check in let check = c.in-Some.check in
    let steps : into_iter_items at.check-iterator ≡ check ∷ into_iter_items c.next.new.self = c.in-Some.ensures.steps.0 in
    let so_far = at.invariant.judged in
    let next = c.in_ok-report_next.ensures.judged in record {
      all = append_assoc at.yielded (check ∷ []) _ ∙ rw (← steps) at.invariant.all;
      count = (let was = at.invariant.count in let gone = c.in-Some.ensures.steps.1 in let short = ap length steps in omega arith);
      known = c.in_ok-report_next.ensures.known;
      counted = omega (arith, at.invariant.counted, c.in_ok-report_next.ensures.counted);
      same = c.in_ok-report_next.ensures.same ∙ at.invariant.same;
      judged = (
        so_far.0 ++ next.one ∷ [],
        omega (arith, length-append so_far.0 (next.one ∷ []), length-append at.yielded (check ∷ []), so_far.1),
        next.reports so_far.0 so_far.2,
        one_more_check c.args.plan.now c.args.publisher.now.list _ _ c.args.checks at.yielded (into_iter_items c.next.new.self) check _ _ _ _ so_far.0 next.one
            c.cases_go_on.ensures.one_more at.invariant.counted c.in_ok-report_next.ensures.counted (rw (← steps) at.invariant.all) so_far.3 next.judges,
      );
    }

pub returns-in_err-report_next-clause-stopped : goal.returns-in_err-report_next-clause-stopped
returns-in_err-report_next-clause-stopped g c = λ lines are.
    let at = c.loop-check in let check = c.in-Some.check in
    let steps : into_iter_items at.check-iterator ≡ check ∷ into_iter_items c.next.new.self = c.in-Some.ensures.steps.0 in
    let so_far = at.invariant.judged in
    on_any _
    (stops_at_next c.args.plan.now c.args.publisher.now.list _ _ c.args.checks at.yielded (into_iter_items c.next.new.self) check _ _ _ _ so_far.0 c.cases_go_on.ensures.one_more
    at.invariant.counted c.in_err-report_next.ensures.counted (rw (← steps) at.invariant.all) so_far.3 c.in_err-report_next.ensures.stopped lines are)

pub returns-clause-judged : goal.returns-clause-judged
returns-clause-judged g c = λ lines are.
    let at = c.loop-check in
    let rest = into_iter_items at.check-iterator in
    let none : rest ≡ [] = nil_from_length rest (sym at.invariant.count ∙ c.in-None.ensures.steps.0) in
    let so_far = at.invariant.judged in record {
      all = so_far.0;
      report_is = so_far.2;
      judges = all_checks c.args.plan.now c.args.publisher.now.list _ _ c.args.checks at.yielded rest _ _ so_far.0 at.invariant.all none so_far.3 lines are;
    }
