use Rattle.std.proofs.Common.{ℕ, List, Option, Some, ap, sym, ◌∙◌}
use Rattle.std.specs.Prelude.{if◌then◌else◌}
use Rattle.std.specs.Str.{bytes_eq}
use Rattle.delta_server.specs.Counts.{prefix_of_hash}
use Rattle.delta_server.proofs.EntryFacts.{prefix_at-with_added, apart_added, added_count}
use Rattle.delta_server.proofs.hashes.Hashes.put.Goals as goal

pub returns-clause-knows : goal.returns-clause-knows
returns-clause-knows c = λ entries added hash prefix knows. record {
  apart = apart_added entries added knows.apart;
  prefixes = λ other.
      c.in_ok-gone.ensures.updates.0 other
      ∙ ap (λ (o : Option (List ℕ)). if bytes_eq c.args.hash other then Some c.args.prefix else o) (knows.prefixes other)
      ∙ sym (ap (λ (h : List ℕ). if bytes_eq h other then Some c.args.prefix else prefix_of_hash other entries) hash)
      ∙ sym (ap (λ (p : List ℕ). if bytes_eq added.hash other then Some p else prefix_of_hash other entries) prefix)
      ∙ sym (prefix_at-with_added entries added other);
  count = added_count entries added _ _ c.in_ok-gone.gone knows.apart
      (c.in_ok-gone.ensures.old ∙ knows.prefixes c.args.hash ∙ sym (ap (λ (h : List ℕ). prefix_of_hash h entries) hash)) knows.count c.in_ok-gone.ensures.len;
}
