use Rattle.std.proofs.Common.{sym, ◌∙◌, ◌++◌}
use Rattle.prefix_set.proofs.SizeFacts.{bytes_same, bytes_one}
use Rattle.prefix_set.proofs.packed.PackedPrefixes.gathered.Goals as goal
use Rattle.prefix_set.proofs.packed.PackedPrefixes.gathered.Goals.{then-member-size+in_ok-append, else-member-size}

pub loop-i-preserved : goal.loop-i-preserved
loop-i-preserved c =
    elim c.if-member-size.branch [
      | then-member-size+in_ok-append w ↦
          w.bytes-is ∙ w.in_ok-append.ensures.ok ∙ (λ j. c.loop-i.invariant j ++ c.at-member.result.now)
          ∙ sym (bytes_one c.args.size c.loop-i.i c.args.self.now c.at-member.result.now c.at-member.ensures.value w.if-member-size.true)
      | else-member-size w ↦
          w.bytes-is ∙ c.loop-i.invariant
          ∙ sym (bytes_same c.args.size c.loop-i.i c.args.self.now c.at-member.result.now c.at-member.ensures.value w.if-member-size.false)
    ]
