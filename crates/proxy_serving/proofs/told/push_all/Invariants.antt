use Rattle.std.proofs.Common.{◌≡◌, ◌++◌, map, take}
use Rattle.lookup_messages.specs.Lookups.{match_of}
use Rattle.proxy_serving.proofs.told.push_all.Given as goal

abbrev pub invariant-loop-name : goal.invariant-loop-name
invariant-loop-name l = l.matches ≡ l.initial.matches ++ map (match_of 0 l.url) (take l.name-index l.names)
