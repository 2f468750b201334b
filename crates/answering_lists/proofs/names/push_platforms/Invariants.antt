use Rattle.std.proofs.Common.{◌≡◌, ◌++◌, map, take}
use Rattle.std.specs.List.{flat_map}
use Rattle.sb_model.specs.Names.{entries, platforms}
use Rattle.delta_server.specs.Finding.{name_of_three_types}
use Rattle.answering_lists.proofs.names.push_platforms.Given as goal

abbrev pub invariant-loop-platform : goal.invariant-loop-platform
invariant-loop-platform l = l.names ≡ l.initial.names ++ flat_map (λ p. map (name_of_three_types l.threat p) entries) (take l.platform-index platforms)
