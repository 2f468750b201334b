use Rattle.std.proofs.Common.{◌+◌, sym, subst}
use Rattle.std.specs.List.{IsFirstBest}
use Rattle.gathering.specs.Turns.{turn_key}
use Rattle.gathering.proofs.FirstBest.{by_key, takes, keeps}
use Rattle.gathering.proofs.turns.first_turn.Goals as goal

pub loop-at-preserved : goal.loop-at-preserved
loop-at-preserved c =
    let key = turn_key c.args.shares.now in
    let far = c.loop-at.invariant in
    let P = IsFirstBest (by_key key) c.args.line.now (c.loop-at.at + 1) in
    elim c.if-is_before.branch [
      | goal.then-is_before w ↦ subst P (sym w.first-is) (takes key c.args.line.now c.loop-at.at c.loop-at.first _ c.is_before.result far c.loop-at-test.true c.is_before.ensures w.if-is_before.true)
      | goal.else-is_before w ↦ subst P (sym w.first-is) (keeps key c.args.line.now c.loop-at.at c.loop-at.first _ c.is_before.result far c.loop-at-test.true c.is_before.ensures w.if-is_before.false)
    ]
