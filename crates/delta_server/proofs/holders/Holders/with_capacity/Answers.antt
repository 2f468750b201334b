use Rattle.std.proofs.Common.{refl, ap, List}
use Rattle.delta_server.specs.Counts.{value_at_key}
use Rattle.delta_server.proofs.CountFacts.{nothing_held}
use Rattle.delta_server.proofs.holders.Holders.with_capacity.Goals as goal

pub returns-clause-counts : goal.returns-clause-counts
returns-clause-counts c = record {
  holders = λ prefix. ap (λ (es : List _). value_at_key es prefix) c.in_ok-counts.ensures.empty;
  members = c.in_ok-counts.ensures.len;
  stay = nothing_held c.args.held.now;
  known = refl;
}
