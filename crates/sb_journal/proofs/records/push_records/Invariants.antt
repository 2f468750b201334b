use Rattle.std.proofs.Common.{◌≡◌, ◌++◌}
use Rattle.sb_journal.proofs.RecordTexts.{text_up_to}
use Rattle.sb_journal.proofs.records.push_records.Given as goal

-- the page has the records so far
abbrev pub invariant-loop-place : goal.invariant-loop-place
invariant-loop-place l = l.page ≡ l.initial.page ++ text_up_to l.sized l.list l.lines l.place
