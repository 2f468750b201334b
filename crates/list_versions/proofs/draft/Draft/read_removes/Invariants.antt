use Rattle.std.proofs.Common.{◌≡◌, ℕ, List, ◌+◌, ◌-◌, ◌*◌, ◌≤◌, [], length}
use Rattle.std.specs.Prelude.{All}
use Rattle.list_versions.specs.Draft.{within_change, Moves}
use Rattle.list_versions.proofs.draft.Draft.read_removes.Given as goal

abbrev pub invariant-loop-removes : goal.invariant-loop-removes
invariant-loop-removes l = record {
  moves : Moves (within_change l.self l.begin l.adds []) (within_change l.self l.begin l.adds l.removes) l.bytes l.rest (129 * length l.removes);
  most : length l.removes ≤ l.begin.to_remove;
  count : l.self.hashes + length l.adds + length l.removes ≤ 2097152;
  sizes : All (λ (hash : List ℕ). length hash ≡ 32) l.removes;
}

abbrev pub decreases-loop-removes : goal.decreases-loop-removes
decreases-loop-removes l = l.begin.to_remove - length l.removes
