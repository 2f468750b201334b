use Rattle.std.proofs.Common.{◌≡◌, ◌++◌, map, take}
use Rattle.sb_model.specs.Names.{entries}
use Rattle.delta_server.specs.Finding.{name_of_three_types}
use Rattle.answering_lists.proofs.names.push_entries.Given as goal

abbrev pub invariant-loop-entry : goal.invariant-loop-entry
invariant-loop-entry l = l.names ≡ l.initial.names ++ map (name_of_three_types l.threat l.platform) (take l.entry-index entries)
