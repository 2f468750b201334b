use Rattle.std.proofs.Common.{◌+◌, ◌-◌, ◌*◌, ◌≤◌, [], length}
use Rattle.std.specs.Prelude.{All}
use Rattle.list_versions.specs.Lines.{IsAdded}
use Rattle.list_versions.specs.Draft.{within_change, Moves}
use Rattle.list_versions.proofs.draft.Draft.read_adds.Given as goal

abbrev pub invariant-loop-adds : goal.invariant-loop-adds
invariant-loop-adds l = record {
  moves : Moves (within_change l.self l.begin [] []) (within_change l.self l.begin l.adds []) l.bytes l.rest (129 * length l.adds);
  most : length l.adds ≤ l.begin.to_add;
  count : l.self.hashes + length l.adds ≤ 2097152;
  sizes : All IsAdded l.adds;
}

abbrev pub decreases-loop-adds : goal.decreases-loop-adds
decreases-loop-adds l = l.begin.to_add - length l.adds
