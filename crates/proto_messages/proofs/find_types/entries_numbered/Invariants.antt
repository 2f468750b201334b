use Rattle.std.proofs.Common.{◌≡◌, ◌++◌, length, filter_map}
use Rattle.sb_model.specs.Names.{entry_with_code}
use Rattle.proto_messages.proofs.find_types.entries_numbered.Given as goal

abbrev pub invariant-loop-number : goal.invariant-loop-number
invariant-loop-number l = filter_map entry_with_code l.numbers ≡ l.found ++ filter_map entry_with_code l.rest

abbrev pub decreases-loop-number : goal.decreases-loop-number
decreases-loop-number l = length l.rest
