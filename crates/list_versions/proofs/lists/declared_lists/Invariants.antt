use Rattle.std.proofs.Common.{◌≡◌, take}
use Rattle.list_versions.specs.Draft.{declared_of}
use Rattle.list_versions.proofs.lists.declared_lists.Given as goal

abbrev pub invariant-loop-list : goal.invariant-loop-list
invariant-loop-list l = l.declared ≡ declared_of (take l.list-index l.lists)
