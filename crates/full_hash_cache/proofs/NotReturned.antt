-- A hash is said to be safe only where the last answer that put the pair did not return it.
use Rattle.std.proofs.Common.{◌≡◌, Bool, true, false, cond, List, [], length, take, Contains, IsTrue, Option, Some, None, IfSome, is_some, refl, sym, subst}
use Rattle.std.specs.Option.{option_map_or}
use Rattle.std.specs.Str.{bytes_eq}
use Rattle.sb_model.specs.declared.time.Moment.{Moment}
use Rattle.sb_model.specs.Names.{same_name}
use Rattle.hash_prefixes.specs.declared.hashes.FullHash.{FullHash}
use Rattle.hash_messages.specs.declared.response.Match.{Match}
use Rattle.hash_messages.specs.declared.response.FindResponse.{FindResponse}
use Rattle.full_hash_cache.specs.declared.pair.Pair.{Pair}
use Rattle.full_hash_cache.specs.declared.pair.Cached.TheVariants.{Unsafe, Safe, Ask}
use Rattle.full_hash_cache.specs.Cache.{KeptOfPair, is_earlier, match_end, begins_full_hash, kept_of_pair, said_by_pair, cached_of}
use Rattle.full_hash_cache.specs.Law.{Step, after_steps, IsNotReturned}
use Rattle.full_hash_cache.proofs.Returned.{has, IsFrom}
use Rattle.full_hash_cache.proofs.LastPut.{same_prefix, WasPut, last_put}

-- what a pair says of a hash by an end of a match, or by none
pub record IsSaidSafe (now negative_end : Moment) (o : Option Moment) : Type 0 where
  pub none : o ≡ None
  pub not_ended : is_earlier now negative_end ≡ true

said_safe : (now negative_end : Moment) (o : Option Moment) → said_by_pair now negative_end o ≡ Safe → IsSaidSafe now negative_end o
said_safe now negative_end None h = go (is_earlier now negative_end) refl h
  where
    go : (b : Bool) → is_earlier now negative_end ≡ b → cond b Safe Ask ≡ Safe → IsSaidSafe now negative_end None
    go true is h = record { none = refl; not_ended = is }
    go false is h = cc h
said_safe now negative_end (Some end) h = go (is_earlier now end) h
  where
    go : (b : Bool) → cond b Unsafe Ask ≡ Safe → IsSaidSafe now negative_end (Some end)
    go true h = cc h
    go false h = cc h

begun : (pair : Pair) (hash : FullHash) → take (length pair.prefix) hash.bytes ≡ pair.prefix → begins_full_hash pair.prefix hash ≡ true
begun pair hash h = subst (λ front. bytes_eq front pair.prefix ≡ true) (sym h) (same_prefix pair.prefix)

-- a match that is kept has an end
kept_has : (kept : KeptOfPair) (hash : FullHash) → match_end kept.matches hash ≡ None → has kept.matches hash ≡ true → ⊥
kept_has kept hash none h = cc (subst (λ o. is_some o ≡ true) none h)

unreturned : (pair : Pair) (hash : FullHash) (at : Moment) (response : FindResponse) (kept : KeptOfPair) → IsFrom pair at response kept → begins_full_hash pair.prefix hash ≡ true
    → match_end kept.matches hash ≡ None → (found : Match) → Contains response.matches found → IsTrue (same_name found.name pair.list) → found.hash ≡ hash → ⊥
unreturned pair hash at response kept from begins_hash none found c named is =
    let same = subst (λ k. begins_full_hash pair.prefix k ≡ true) (sym is) begins_hash in
    kept_has kept hash none (subst (λ k. has kept.matches k ≡ true) is (from.keeps found c named same))

module _ (steps : List Step) (now : Moment) (pair : Pair) (hash : FullHash) (begins_hash : begins_full_hash pair.prefix hash ≡ true) where
  by_kept : (kept : KeptOfPair) → WasPut steps pair kept → IsSaidSafe now kept.negative_end (match_end kept.matches hash)
      → match_end (option_map_or (λ (k : KeptOfPair). k.matches) (kept_of_pair (after_steps [] steps) pair) []) hash ≡ None → IsNotReturned steps now pair hash
  by_kept kept was said none = record {
    at = was.at;
    response = was.response;
    last_put = was.last_put;
    not_returned = unreturned pair hash was.at was.response kept was.is_from begins_hash said.none;
    not_ended = subst (λ end. is_earlier now end ≡ true) was.is_from.ends said.not_ended;
    none_kept = none;
  }

  by_some : (o : Option KeptOfPair) → kept_of_pair (after_steps [] steps) pair ≡ o → IfSome o (WasPut steps pair)
      → option_map_or (λ kept. said_by_pair now kept.negative_end (match_end kept.matches hash)) o Ask ≡ Safe → IsNotReturned steps now pair hash
  by_some None is was h = cc h
  by_some (Some kept) is was h =
      let said = said_safe now kept.negative_end (match_end kept.matches hash) h in
      by_kept kept was said (subst (λ o. match_end (option_map_or (λ (k : KeptOfPair). k.matches) o []) hash ≡ None) (sym is) said.none)

pub not_returned_after : (steps : List Step) (now : Moment) (pair : Pair) (hash : FullHash) → take (length pair.prefix) hash.bytes ≡ pair.prefix
    → cached_of (after_steps [] steps) now pair hash ≡ Safe → IsNotReturned steps now pair hash
not_returned_after steps now pair hash front h = by_some steps now pair hash (begun pair hash front) (kept_of_pair (after_steps [] steps) pair) refl (last_put steps pair) h
