use Rattle.std.proofs.Common.{◌∙◌, ◌∷◌, ◌++◌, [], List, sym, ap, get_or}
use Rattle.sb_model.specs.declared.history.Added.{Added}
use Rattle.list_versions.proofs.Standings.{line_left, line_pushed, lines_whole}
use Rattle.list_versions.proofs.standing.push_lasting.Goals as goal
use Rattle.list_versions.proofs.standing.push_lasting.Goals.{then-is_above+in_ok-push, else-is_above}

pub loop-i-preserved : goal.loop-i-preserved
loop-i-preserved c = λ lines adds ends.
    let d : Added = record { hash = []; size = 0 } in
    elim c.if-is_above.branch [
      | then-is_above+in_ok-push w ↦ ap (λ v. v.items) w.found-is ∙ w.in_ok-push.ensures.items ∙ ap (λ (es : List Added). es ++ get_or c.args.adds.now c.loop-i.i d ∷ []) (c.loop-i.invariant lines adds ends)
          ∙ line_pushed c.args.version c.args.endless lines c.args.adds.now c.args.found.now.items c.args.ends.now c.loop-i.i d adds ends c.loop-i-test.true (sym c.is_above.ensures ∙ w.if-is_above.true)
      | else-is_above w ↦ ap (λ v. v.items) w.found-is ∙ c.loop-i.invariant lines adds ends
          ∙ line_left c.args.version c.args.endless lines c.args.adds.now c.args.found.now.items c.args.ends.now c.loop-i.i adds ends c.loop-i-test.true (sym c.is_above.ensures ∙ w.if-is_above.false)
    ]

pub returns : goal.returns
returns c = λ lines adds ends. c.loop-i.invariant lines adds ends ∙ lines_whole c.args.version c.args.endless lines c.args.adds.now c.args.found.now.items c.loop-i.i adds c.loop-i-test.false
