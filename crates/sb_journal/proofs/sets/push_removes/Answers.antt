use Rattle.std.proofs.Common.{not, rules}
use Rattle.sb_model.specs.Difference.{has_member}
use Rattle.sb_journal.specs.declared.hash_line.HashLine.TheVariants.{Remove}
use Rattle.sb_journal.proofs.RisingSets.{passed_step}
use Rattle.sb_journal.proofs.sets.push_removes.Goals as goal

pub loop-hash-preserved : goal.loop-hash-preserved
loop-hash-preserved c =
    passed_step (λ hash. not (has_member c.args.wanted.now hash)) Remove c.args.held.now c.loop-hash.hash-index _ c.loop-hash.lines.items c.push_remove.new.lines.items _
    c.loop-hash-test.true (search rules) c.loop-hash.invariant c.in_ok-push_remove.ensures
