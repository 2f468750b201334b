use Rattle.std.proofs.Common.{◌≡◌, ◌++◌, drop}
use Rattle.sb_journal.specs.Records.{adds_in, removes_in}
use Rattle.sb_journal.proofs.records.change_with.Given as goal

-- the lines so far, and those that are left, are all lines
abbrev pub invariant-loop-line : goal.invariant-loop-line
invariant-loop-line l = record {
  list : l.change.list ≡ l.fn.list;
  adds : l.change.adds ++ adds_in (drop l.line-index l.lines) ≡ adds_in l.lines;
  removes : l.change.removes ++ removes_in (drop l.line-index l.lines) ≡ removes_in l.lines;
}
