use Rattle.std.proofs.Common.{◌≡◌, ◌++◌, length}
use Rattle.proto_messages.specs.Fields.{fields_within}
use Rattle.proto_messages.proofs.part.PartFields.next.Given as goal

abbrev pub invariant-messages : goal.invariant-messages
invariant-messages l = l.fn.self ≡ l.self-inside.inner.items ++ fields_within l.self-inside.under l.self-inside.outer.items

abbrev pub decreases-messages : goal.decreases-messages
decreases-messages l = length l.self-inside.outer.items
