-- What each full hash is.
use Rattle.std.specs.Prelude.{◌≡◌, ◌<◌, ℕ, length, slice_index}
use Rattle.std.specs.List.{AllByRecursion}
use Rattle.hash_prefixes.specs.declared.hashes.FullHash.{FullHash}
use Rattle.full_hash_cache.specs.Cache.{Matches}

-- 32 bytes
pub record IsFullHash (hash : FullHash) : Type 0 where
  pub size : length hash.bytes ≡ 32
  pub bytes : (k : ℕ) → slice_index hash.bytes k < 256

abbrev pub HasFullHashes : Matches → Type 0
HasFullHashes matches = AllByRecursion (λ m. IsFullHash m.0) matches
