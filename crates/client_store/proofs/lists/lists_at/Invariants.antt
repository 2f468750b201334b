use Rattle.std.proofs.Common.{◌≡◌, ◌-◌, []}
use Rattle.client_store.specs.Reading.{lists_at}
use Rattle.client_store.proofs.lists.lists_at.Given as goal

abbrev pub invariant-loop : goal.invariant-loop
invariant-loop l = lists_at l.format (l.count - l.counter) l.lists l.rest ≡ lists_at l.format l.count [] l.bytes
