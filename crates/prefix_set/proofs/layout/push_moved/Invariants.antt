use Rattle.std.proofs.Common.{◌≡◌, ◌+◌, ◌-◌, ◌≤◌, ◌++◌, map, take, length, vec_len}
use Rattle.std.specs.Vec.{vec_capacity}
use Rattle.prefix_set.proofs.layout.push_moved.Given as goal

-- so many ends were appended, and there is room for the others
abbrev pub invariant-loop-cut : goal.invariant-loop-cut
invariant-loop-cut l = record {
  items : l.ends.items ≡ l.fn.ends.items ++ map (λ cut. cut - l.from + l.to) (take l.cut-index l.cuts);
  room : vec_len l.ends + (length l.cuts - l.cut-index) ≤ vec_capacity l.ends;
}
