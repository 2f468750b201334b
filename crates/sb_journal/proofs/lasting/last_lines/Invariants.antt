use Rattle.std.proofs.Common.{vec_len}
use Rattle.sb_journal.proofs.LastLines.{IsBehind}
use Rattle.sb_journal.proofs.lasting.last_lines.Given as goal

abbrev pub invariant-loop-line : goal.invariant-loop-line
invariant-loop-line l = IsBehind l.initial.lines.items l.lines.items l.kept.items l.seen.keys

abbrev pub decreases-loop-line : goal.decreases-loop-line
decreases-loop-line l = vec_len l.lines
