use Rattle.std.proofs.Common.{◌≡◌, filter, take}
use Rattle.sb_model.specs.History.{declares}
use Rattle.delta_server.proofs.names.declared_lists.Given as goal

abbrev pub invariant-loop-name : goal.invariant-loop-name
invariant-loop-name l = l.lists ≡ filter (declares l.history.versions) (take l.name-index l.name-items)
