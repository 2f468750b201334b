use Rattle.std.proofs.Common.{◌≡◌, ◌≤◌, length, drop}
use Rattle.url_expressions.specs.Expressions.{components}
use Rattle.url_expressions.proofs.hosts.component_place.Given as goal

abbrev pub invariant-loop : goal.invariant-loop
invariant-loop l = record {
  within : l.place ≤ length l.host;
  value : components (drop l.place l.host) ≡ drop l.counter (components l.host);
}
