use Rattle.std.proofs.Common.{ℕ, ◌<◌, [], get_or}
use Rattle.sb_journal.specs.declared.hash_line.HashLine.TheVariants.{Add}
use Rattle.sb_journal.specs.Followed.{HasHash}
use Rattle.sb_journal.proofs.known.lines_have_hashes.Given as goal

-- the lines so far
abbrev pub invariant-loop-line : goal.invariant-loop-line
invariant-loop-line l = (k : ℕ) → k < l.line-index → HasHash (get_or l.lines k (Add (record { hash = []; size = 0 })))
