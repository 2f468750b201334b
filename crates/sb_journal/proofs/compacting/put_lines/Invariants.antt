use Rattle.std.proofs.Common.{◌≡◌, map, take}
use Rattle.sb_journal.specs.declared.hash_line.HashLine.TheVariants.{Add}
use Rattle.sb_journal.proofs.compacting.put_lines.Given as goal

-- the entries so far have their lines
abbrev pub invariant-loop-entry : goal.invariant-loop-entry
invariant-loop-entry l = l.lines.items ≡ map Add (take l.entry-index l.entries)
