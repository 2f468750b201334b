use Rattle.std.proofs.Common.{◌≡◌, take}
use Rattle.lookup_messages.specs.Lookups.{lists_looked_up}
use Rattle.sb_lookup.proofs.answering.asked_names.Given as goal

abbrev pub invariant-loop-name : goal.invariant-loop-name
invariant-loop-name l = l.asked ≡ lists_looked_up (take l.name-index l.names) l.request
