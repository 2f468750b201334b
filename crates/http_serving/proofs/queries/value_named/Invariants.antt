use Rattle.std.proofs.Common.{◌≡◌, length}
use Rattle.http_serving.specs.Queries.{listed_members, value_named}
use Rattle.http_serving.proofs.queries.value_named.Given as goal

abbrev pub invariant-parts : goal.invariant-parts
invariant-parts l = value_named l.name (listed_members l.query) ≡ value_named l.name (listed_members l.rest)

abbrev pub decreases-parts : goal.decreases-parts
decreases-parts l = length l.rest
