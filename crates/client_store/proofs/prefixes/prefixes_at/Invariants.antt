use Rattle.std.proofs.Common.{◌≡◌, ◌-◌, []}
use Rattle.client_store.specs.Reading.{more_prefixes_at}
use Rattle.client_store.proofs.prefixes.prefixes_at.Given as goal

abbrev pub invariant-loop : goal.invariant-loop
invariant-loop l = more_prefixes_at l.common (l.count - l.counter) l.so_far l.rest ≡ more_prefixes_at l.common l.count [] l.bytes
