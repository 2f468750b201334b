use Rattle.std.proofs.Common.{◌≡◌, take}
use Rattle.std.specs.List.{flat_map}
use Rattle.delta_server.specs.Finding.{hashes_begun}
use Rattle.delta_server.proofs.finding.hashes_in_turn.Given as goal

abbrev pub invariant-loop-prefix : goal.invariant-loop-prefix
invariant-loop-prefix l = l.found.items ≡ flat_map (hashes_begun l.history.versions l.list) (take l.prefix-index l.prefixes)
