use Rattle.std.proofs.Common.{◌≡◌, ◌+◌, ℕ, List, min, ap, ◌∙◌, arith}
use Rattle.std.specs.Prelude.{slice_get, Some}
use Rattle.parallel_checks.proofs.SettleFacts.{one_more_anew, all_anew}
use Rattle.parallel_checks.proofs.settling.check_anew.Goals as goal

pub loop-index-preserved : goal.loop-index-preserved
loop-index-preserved c =
    let lines = c.args.urls.now in let index : ℕ = c.loop-index.index in let line : List ℕ = c.at.result.now in
    let at : slice_get lines index ≡ Some line = c.at.ensures in
    one_more_anew c.args.shown.now.last lines c.args.checks.now c.loop-index.checks c.args.place c.args.step index c.next_line-index.result line c.in_ok-check.check
    c.loop-index.invariant c.requires.step (omega arith) at c.in_ok-check.ensures (c.next_line-index.ensures ∙ ap (λ (n : ℕ). min n (index + c.args.step)) c.len-in-loop-index-2.ensures)

pub returns-clause-anew : goal.returns-clause-anew
returns-clause-anew c =
    all_anew c.args.shown.now.last c.args.urls.now c.args.checks.now c.loop-index.checks c.args.place c.args.step c.loop-index.index c.loop-index.invariant (omega arith)
