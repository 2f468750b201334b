use Rattle.sb_journal.proofs.LastLines.{behind_more, behind_none}
use Rattle.sb_journal.proofs.lasting.last_lines.Goals as goal

pub loop-line-init : goal.loop-line-init
loop-line-init c = behind_none _ _ _ c.new-kept.ensures.items c.new-seen.ensures.empty

pub loop-line-preserved : goal.loop-line-preserved
loop-line-preserved c =
    behind_more _ _ c.pop.new.self.items _ _ c.in-Some.line _ _ c.loop-line.invariant c.in-Some.ensures.items c.in_ok-keep_if_new.ensures.seen c.in_ok-keep_if_new.ensures.kept
