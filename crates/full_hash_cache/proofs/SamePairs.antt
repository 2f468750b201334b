-- Pairs are compared by the codes of their lists and by their prefixes.
use Rattle.std.proofs.Common.{rules, ◌≡◌}
use Rattle.full_hash_cache.specs.declared.pair.Pair.{Pair}
use Rattle.full_hash_cache.specs.contracts.pair.PairPartialEq.TheImpl.{eq-value}
use Rattle.full_hash_cache.specs.Cache.{same_pair}

pub same_by_codes : (a b : Pair) → eq-value.it a b ≡ same_pair a b
same_by_codes a b = search rules

pub pair_eq : eq-value.it ≡ same_pair
pair_eq = λ i a b. same_by_codes a b i
