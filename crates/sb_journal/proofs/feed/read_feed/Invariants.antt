use Rattle.std.proofs.Common.{◌≡◌, ◌+◌, ◌≤◌, ◌++◌, length, map}
use Rattle.std.specs.Prelude.{◌||◌, is_some}
use Rattle.std.specs.List.{filter_map, list_any}
use Rattle.std.specs.Str.Lines.{lines}
use Rattle.sb_journal.specs.Feed.{hashes_in, refused, said_by, told}
use Rattle.sb_journal.specs.Refusals.{has_refused, refusals, refused_in}
use Rattle.sb_journal.proofs.Gathering.{refused_from}
use Rattle.sb_journal.proofs.feed.read_feed.Given as goal

-- what the lines so far gave, and what those that are left will give, is what all lines give
abbrev pub invariant-loop-rest : goal.invariant-loop-rest
invariant-loop-rest l = record {
  hashes : l.feed.hashes.items ++ filter_map (λ line. told (said_by line)) (lines l.rest) ≡ hashes_in l.input;
  refusals : l.feed.refusals ++ refused_from (λ line. refused (said_by line)) l.number (lines l.rest) ≡ refusals (refused_in l.input);
  any : (l.feed.has_refused || list_any is_some (map (λ line. refused (said_by line)) (lines l.rest))) ≡ has_refused (refused_in l.input);
  count : l.number + length l.rest ≤ length l.input + 1;
}

abbrev pub decreases-loop-rest : goal.decreases-loop-rest
decreases-loop-rest l = length l.rest
