use Rattle.std.proofs.Common.{◌≡◌, ◌≤◌, ◌-◌, All, ◌∷◌, [], length, take, drop}
use Rattle.std.specs.Prelude.{map, filter, nat_le}
use Rattle.url_expressions.specs.Expressions.{components, last_components, first_occurrences}
use Rattle.url_expressions.proofs.hosts.host_places.Given as goal

abbrev pub invariant-loop-n : goal.invariant-loop-n
invariant-loop-n l = record {
  within : l.place ≤ length l.host;
  there : components (drop l.place l.host) ≡ drop (length (components l.host) - (5 - l.n-index)) (components l.host);
  all_within : All (λ place. place ≤ length l.host) l.places.items;
  value : map (λ place. drop place l.host) l.places.items ≡ first_occurrences (l.host ∷ map (λ n. last_components n l.host) (filter (λ n. nat_le n (length (components l.host))) (take l.n-index (5 ∷ 4 ∷ 3 ∷ 2 ∷ []))));
}
