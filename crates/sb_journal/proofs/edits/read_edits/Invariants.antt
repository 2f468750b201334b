use Rattle.std.proofs.Common.{◌≡◌, ◌+◌, ◌≤◌, ◌++◌, length, map}
use Rattle.std.specs.Prelude.{◌||◌, is_some}
use Rattle.std.specs.List.{filter_map, list_any}
use Rattle.std.specs.Str.Lines.{lines}
use Rattle.sb_journal.specs.Changes.{edits_in}
use Rattle.sb_journal.specs.Feed.{edit_said_by, refused, told}
use Rattle.sb_journal.specs.Refusals.{has_refused, refusals, refused_edits_in}
use Rattle.sb_journal.proofs.Gathering.{refused_from}
use Rattle.sb_journal.proofs.edits.read_edits.Given as goal

-- what the lines so far gave, and what those that are left will give, is what all lines give
abbrev pub invariant-loop-rest : goal.invariant-loop-rest
invariant-loop-rest l = record {
  said : l.edits.lines.items ++ filter_map (λ line. told (edit_said_by l.size line)) (lines l.rest) ≡ edits_in l.size l.input;
  refusals : l.edits.refusals ++ refused_from (λ line. refused (edit_said_by 4 line)) l.number (lines l.rest) ≡ refusals (refused_edits_in l.input);
  any : (l.edits.has_refused || list_any is_some (map (λ line. refused (edit_said_by 4 line)) (lines l.rest))) ≡ has_refused (refused_edits_in l.input);
  count : l.number + length l.rest ≤ length l.input + 1;
}

abbrev pub decreases-loop-rest : goal.decreases-loop-rest
decreases-loop-rest l = length l.rest
