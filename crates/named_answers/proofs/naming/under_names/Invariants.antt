use Rattle.std.proofs.Common.{◌≡◌, ◌+◌, ◌++◌, length, drop}
use Rattle.std.specs.Vec.Iter.{into_iter_items, into_iter_len}
use Rattle.named_answers.specs.Naming.{under_names}
use Rattle.named_answers.proofs.naming.under_names.Given as goal

-- the updates so far under their names, and those that are left, are all of them
abbrev pub invariant-loop-name : goal.invariant-loop-name
invariant-loop-name l = record {
  so_far : l.named ++ under_names (drop l.name-index l.names) (into_iter_items l.waiting) ≡ under_names l.names l.fn.updates;
  each : into_iter_len l.waiting + l.name-index ≡ length l.names;
}
