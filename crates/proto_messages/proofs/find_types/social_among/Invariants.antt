use Rattle.std.proofs.Common.{◌≡◌, length}
use Rattle.proto_messages.specs.Numbers as spec
use Rattle.proto_messages.proofs.find_types.social_among.Given as goal

abbrev pub invariant-loop-number : goal.invariant-loop-number
invariant-loop-number l = spec.social_among l.numbers ≡ spec.social_among l.rest

abbrev pub decreases-loop-number : goal.decreases-loop-number
decreases-loop-number l = length l.rest
