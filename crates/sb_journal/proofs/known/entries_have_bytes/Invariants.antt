use Rattle.std.proofs.Common.{All, take}
use Rattle.hex.specs.Hex.{IsBytes}
use Rattle.sb_model.specs.declared.history.Added.{Added}
use Rattle.sb_journal.proofs.known.entries_have_bytes.Given as goal

-- the full hashes so far
abbrev pub invariant-loop-entry : goal.invariant-loop-entry
invariant-loop-entry l = All (λ (entry : Added). IsBytes entry.hash) (take l.entry-index l.entries)
