use Rattle.std.proofs.Common.{◌≡◌, ◌+◌, ◌-◌, ◌*◌, ◌≤◌, ◌++◌, vec_len}
use Rattle.std.specs.Vec.{vec_capacity}
use Rattle.prefix_set.specs.Packing.{even_ends}
use Rattle.prefix_set.proofs.layout.push_even.Given as goal

-- so many ends were appended, and there is room for the others
abbrev pub invariant-loop-i : goal.invariant-loop-i
invariant-loop-i l = record {
  items : l.ends.items ≡ l.fn.ends.items ++ even_ends l.start l.size l._i;
  last : l.end ≡ l.start + l._i * l.size;
  room : vec_len l.ends + (l.count - l._i) ≤ vec_capacity l.ends;
}
