use Rattle.std.proofs.Common.{◌≡◌, ◌+◌, ◌≤◌, ◌++◌, length, drop, vec_len}
use Rattle.std.specs.Prelude.{vec_capacity}
use Rattle.std.specs.Vec.Iter.{into_iter_items, into_iter_len}
use Rattle.sb_round.specs.Round.{named_results}
use Rattle.sb_round.proofs.taking.push_named.Given as goal

-- the names so far with their results, and those that are left, are all of them
abbrev pub invariant-loop-update : goal.invariant-loop-update
invariant-loop-update l = record {
  so_far : l.taken.items ++ named_results (drop l.update-index l.updates) (into_iter_items l.waiting) ≡ l.fn.taken.items ++ named_results l.updates l.fn.results.items;
  each : into_iter_len l.waiting + l.update-index ≡ length l.updates;
  room : vec_len l.taken + length l.updates ≤ vec_capacity l.taken + l.update-index;
}
