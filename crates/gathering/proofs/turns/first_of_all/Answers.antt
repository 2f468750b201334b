use Rattle.std.proofs.Common.{◌+◌, sym, subst}
use Rattle.std.specs.List.{IsFirstBest}
use Rattle.gathering.specs.Turns.{yield_key}
use Rattle.gathering.proofs.FirstBest.{by_key, takes, keeps}
use Rattle.gathering.proofs.turns.first_of_all.Goals as goal

pub loop-at-preserved : goal.loop-at-preserved
loop-at-preserved c =
    let key = yield_key c.args.crowd.now in
    let far = c.loop-at.invariant in
    let P = IsFirstBest (by_key key) c.args.guests.now (c.loop-at.at + 1) in
    elim c.if-yields_before.branch [
      | goal.then-yields_before w ↦ subst P (sym w.first-is) (takes key c.args.guests.now c.loop-at.at c.loop-at.first _ c.yields_before.result far c.loop-at-test.true c.yields_before.ensures w.if-yields_before.true)
      | goal.else-yields_before w ↦ subst P (sym w.first-is) (keeps key c.args.guests.now c.loop-at.at c.loop-at.first _ c.yields_before.result far c.loop-at-test.true c.yields_before.ensures w.if-yields_before.false)
    ]
