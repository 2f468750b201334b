use Rattle.std.proofs.Common.{◌≡◌, ◌++◌, drop, map}
use Rattle.sb_model.specs.Difference.{added_members}
use Rattle.sb_journal.specs.declared.hash_line.HashLine.TheVariants.{Remove}
use Rattle.sb_journal.proofs.sets.push_removes.Given as goal

-- the lines so far, and those of the hashes that are left, are all lines
abbrev pub invariant-loop-hash : goal.invariant-loop-hash
invariant-loop-hash l =
    l.lines.items ++ map Remove (added_members l.wanted (drop l.hash-index l.held)) ≡ l.initial.lines.items ++ map Remove (added_members l.wanted l.held)
