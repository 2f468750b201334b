use Rattle.std.proofs.Common.{◌≡◌, ◌++◌, drop, map}
use Rattle.sb_model.specs.Difference.{added_members}
use Rattle.sb_journal.specs.Records.{add_of}
use Rattle.sb_journal.proofs.sets.push_adds.Given as goal

-- the lines so far, and those of the hashes that are left, are all lines
abbrev pub invariant-loop-hash : goal.invariant-loop-hash
invariant-loop-hash l =
    l.lines.items ++ map (add_of l.size) (added_members l.held (drop l.hash-index l.wanted)) ≡ l.initial.lines.items ++ map (add_of l.size) (added_members l.held l.wanted)
