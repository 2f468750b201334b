use Rattle.std.proofs.Common.{◌≡◌, ◌∙◌, [], List, sym, ap, refl, false}
use Rattle.std.proofs.lemmas.List.{take_all}
use Rattle.sb_model.specs.declared.history.Added.{Added}
use Rattle.list_versions.specs.Ends.{has_standing}
use Rattle.list_versions.proofs.Stands.{line_ended, line_other, line_stands, none_stands}
use Rattle.list_versions.proofs.standing.has_lasting.Goals as goal
use Rattle.list_versions.proofs.standing.has_lasting.Goals.{else-is_above-via-then-is_above+else-eq, else-is_above-via-else-is_above}

pub returns-then-eq : goal.returns-then-eq
returns-then-eq c = λ lines a e.
    let d : Added = record { hash = []; size = 0 } in
    line_stands c.args.version c.args.hash.now lines c.args.adds.now c.args.ends.now c.loop-i.i d a e c.loop-i-test.true (sym c.is_above.ensures ∙ c.if-is_above.true) (sym c.eq.ensures ∙ c.if-eq.true)

pub loop-i-preserved : goal.loop-i-preserved
loop-i-preserved c = λ lines a e.
    let d : Added = record { hash = []; size = 0 } in
    elim c.else-is_above.branch [
      | else-is_above-via-then-is_above+else-eq w ↦ line_other c.args.version c.args.hash.now lines c.args.adds.now c.args.ends.now c.loop-i.i d a e c.loop-i-test.true (sym c.is_above.ensures ∙ w.if-is_above.true)
          (sym w.eq.ensures ∙ w.if-eq.false) (c.loop-i.invariant lines a e)
      | else-is_above-via-else-is_above w ↦ line_ended c.args.version c.args.hash.now lines c.args.adds.now c.args.ends.now c.loop-i.i a e c.loop-i-test.true (sym c.is_above.ensures ∙ w.if-is_above.false) (c.loop-i.invariant lines a e)
    ]

pub returns : goal.returns
returns c = λ lines a e. sym (none_stands c.args.version c.args.hash.now lines c.args.adds.now c.loop-i.i a c.loop-i-test.false (c.loop-i.invariant lines a e))
