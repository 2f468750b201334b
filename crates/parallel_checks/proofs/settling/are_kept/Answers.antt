use Rattle.std.proofs.Common.{◌≡◌, ℕ, length, refl, arith}
use Rattle.std.specs.Prelude.{slice_get, Some}
use Rattle.std.proofs.lemmas.Option.{slice_get_read}
use Rattle.parallel_checks.proofs.SettleFacts.{one_more_kept, all_are_kept, one_is_not}
use Rattle.parallel_checks.proofs.settling.are_kept.Goals as goal

pub returns-then-not-is_kept : goal.returns-then-not-is_kept
returns-then-not-is_kept c =
    let checks = c.args.checks.now in let index : ℕ = c.loop-index.index in let check = c.index-checks-index.result in
    let at : slice_get checks index ≡ Some check = slice_get_read checks (length checks) index check refl (omega arith) c.index-checks-index.is in
    one_is_not c.args.publisher.now.list checks c.args.place c.args.step index check c.loop-index.invariant (omega arith) at c.if-not-is_kept.ensures

pub loop-index-preserved : goal.loop-index-preserved
loop-index-preserved c =
    let checks = c.args.checks.now in let index : ℕ = c.loop-index.index in let check = c.index-checks-index.result in
    let at : slice_get checks index ≡ Some check = slice_get_read checks (length checks) index check refl (omega arith) c.index-checks-index.is in
    one_more_kept c.args.publisher.now.list checks c.args.place c.args.step index c.next_line-index.result check c.loop-index.invariant (omega arith) at c.if-not-is_kept.ensures c.next_line-index.ensures

pub returns : goal.returns
returns c = all_are_kept c.args.publisher.now.list c.args.checks.now c.args.place c.args.step c.loop-index.index c.loop-index.invariant (omega arith)
