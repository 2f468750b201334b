use Rattle.std.proofs.Common.{ℕ, List, Option, None, ap, sym, ◌∙◌}
use Rattle.std.specs.Prelude.{if◌then◌else◌}
use Rattle.std.specs.Str.{bytes_eq}
use Rattle.delta_server.proofs.EntryFacts.{prefix_at-without_hash, apart_without, taken_count}
use Rattle.delta_server.proofs.hashes.Hashes.take.Goals as goal

pub returns-clause-knows : goal.returns-clause-knows
returns-clause-knows c = λ entries knows. record {
  apart = apart_without entries c.args.hash.now knows.apart;
  prefixes = λ other.
      c.remove.ensures.updates.0 other
      ∙ ap (λ (o : Option (List ℕ)). if bytes_eq c.args.hash.now other then None else o) (knows.prefixes other)
      ∙ sym (prefix_at-without_hash entries c.args.hash.now other);
  count = taken_count entries c.args.hash.now _ c.remove.result knows.apart (c.remove.ensures.value ∙ knows.prefixes c.args.hash.now) (c.remove.ensures.len ∙ knows.count);
}
