use Rattle.std.proofs.Common.{◌≡◌, ◌++◌, length, filter_map}
use Rattle.proto_messages.specs.Numbers.{threat_numbered}
use Rattle.proto_messages.proofs.find_types.threats_numbered.Given as goal

abbrev pub invariant-loop-number : goal.invariant-loop-number
invariant-loop-number l = filter_map threat_numbered l.numbers ≡ l.found ++ filter_map threat_numbered l.rest

abbrev pub decreases-loop-number : goal.decreases-loop-number
decreases-loop-number l = length l.rest
