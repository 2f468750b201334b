use Rattle.std.proofs.Common.{◌≡◌, length, take}
use Rattle.url_checker.specs.Hits.{MarksAll}
use Rattle.url_checker.proofs.sizes.marks_on.Given as goal

-- the sizes of the lists so far are marked
abbrev pub invariant-loop-held : goal.invariant-loop-held
invariant-loop-held l = record {
  marked : MarksAll l.marks (take l.held-index l.lists);
  long : length l.marks ≡ 33;
}
