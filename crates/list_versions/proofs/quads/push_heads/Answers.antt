use Rattle.std.proofs.Common.{◌∙◌, [], ap, sym}
use Rattle.sb_model.specs.declared.history.Added.{Added}
use Rattle.list_versions.specs.Quads.{quads_of}
use Rattle.list_versions.proofs.QuadLines.{head_left, head_pushed, heads_whole}
use Rattle.list_versions.proofs.quads.push_heads.Goals as goal
use Rattle.list_versions.proofs.quads.push_heads.Goals.{else-is_above-via-then-is_above+in_ok-push_head+else-not-branch, else-is_above-via-else-is_above}

pub loop-i-preserved : goal.loop-i-preserved
loop-i-preserved c = λ lines a e.
    let d : Added = record { hash = []; size = 0 } in
    let first = quads_of c.args.found.now.items in
    let old = quads_of c.loop-i.found.items in
    elim c.else-is_above.branch [
      | else-is_above-via-then-is_above+in_ok-push_head+else-not-branch w ↦
          head_pushed c.args.version lines c.args.adds.now c.args.ends.now c.loop-i.i d first old (quads_of c.else-is_above.found.items) a e c.loop-i-test.true (sym c.is_above.ensures ∙ w.if-is_above.true)
          (c.loop-i.invariant lines a e) (ap (λ v. quads_of v.items) w.found-is ∙ w.in_ok-push_head.ensures w.if-not-branch.false)
      | else-is_above-via-else-is_above w ↦
          ap (λ v. quads_of v.items) w.found-is
          ∙ head_left c.args.version lines c.args.adds.now c.args.ends.now c.loop-i.i first old a e c.loop-i-test.true (sym c.is_above.ensures ∙ w.if-is_above.false) (c.loop-i.invariant lines a e)
    ]

pub returns : goal.returns
returns c = λ four lines a e.
    heads_whole c.args.version lines c.args.adds.now c.loop-i.i (quads_of c.args.found.now.items) (quads_of c.loop-i.found.items) a c.loop-i-test.false (c.loop-i.invariant lines a e)
