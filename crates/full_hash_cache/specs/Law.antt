-- Runs of a cache: answers to find requests that are taken, and hashes that are asked for.
use Rattle.std.specs.Prelude.{◌≡◌, List, [], ◌∷◌, ◌++◌, None, Contains, IsTrue}
use Rattle.std.specs.List.{fold}
use Rattle.sb_model.specs.declared.names.ListName.{ListName}
use Rattle.sb_model.specs.declared.time.Moment.{Moment}
use Rattle.sb_model.specs.Names.{same_name}
use Rattle.sb_model.specs.Time.{later_than, cache_of}
use Rattle.hash_prefixes.specs.declared.hashes.FullHash.{FullHash}
use Rattle.hash_messages.specs.Messages.{AskedHashes}
use Rattle.hash_messages.specs.declared.response.Match.{Match}
use Rattle.hash_messages.specs.declared.response.FindResponse.{FindResponse}
use Rattle.full_hash_cache.specs.declared.pair.Pair.{Pair}
use Rattle.full_hash_cache.specs.Cache.{Pairs, asked_pairs, match_end, kept_matches_of, pairs_asked, taken, is_earlier}

-- An answer is taken, which was received at a moment, or a hash is asked for.
pub data Step : Type 0 where
  Takes : Moment → List ListName → AskedHashes → FindResponse → Step
  Asks : Moment → Pair → FullHash → Step

-- the pairs after one step, and after some
abbrev pub after_step : Pairs → Step → Pairs
after_step pairs (Takes at lists asked response) = taken at lists asked response pairs
after_step pairs (Asks now pair hash) = asked_pairs pairs pair

abbrev pub after_steps : Pairs → List Step → Pairs
after_steps pairs steps = fold after_step pairs steps

-- An answer that was taken to a request that asks for a pair has a match of the pair's list and a hash, which may be
-- kept up to an end.
pub record IsMatchTold (steps : List Step) (pair : Pair) (hash : FullHash) (end : Moment) : Type 0 where
  pub at : Moment
  pub lists : List ListName
  pub asked : AskedHashes
  pub response : FindResponse
  pub found : Match
  pub was_taken : Contains steps (Takes at lists asked response)
  pub was_asked : Contains (pairs_asked asked lists) pair
  pub was_returned : Contains response.matches found
  pub of_list : IsTrue (same_name found.name pair.list)
  pub of_hash : found.hash ≡ hash
  pub ends : end ≡ later_than at (cache_of found.cache)

-- the same with an end after a moment
pub record IsToldAfter (steps : List Step) (now : Moment) (pair : Pair) (hash : FullHash) : Type 0 where
  pub end : Moment
  pub told : IsMatchTold steps pair hash end
  pub not_ended : IsTrue (is_earlier now end)

-- A step puts a pair where it takes an answer to a request that asks for the pair.
abbrev pub PutsPair : Step → Pair → Type 0
PutsPair (Takes at lists asked response) pair = Contains (pairs_asked asked lists) pair
PutsPair (Asks now other hash) pair = ⊥

-- The last of the steps that put a pair took this answer, which was received at a moment.
pub record IsLastPut (steps : List Step) (pair : Pair) (at : Moment) (response : FindResponse) : Type 0 where
  pub before : List Step
  pub lists : List ListName
  pub asked : AskedHashes
  pub after : List Step
  pub parted : steps ≡ before ++ Takes at lists asked response ∷ after
  pub was_put : Contains (pairs_asked asked lists) pair
  pub is_last : (step : Step) → Contains after step → PutsPair step pair → ⊥

-- The last answer that put a pair has no match of the pair's list and a hash; its negative duration, counted from
-- when it was received, has not passed at a moment; and no match of the hash is kept of the pair.
pub record IsNotReturned (steps : List Step) (now : Moment) (pair : Pair) (hash : FullHash) : Type 0 where
  pub at : Moment
  pub response : FindResponse
  pub last_put : IsLastPut steps pair at response
  pub not_returned : (found : Match) → Contains response.matches found → IsTrue (same_name found.name pair.list) → found.hash ≡ hash → ⊥
  pub not_ended : IsTrue (is_earlier now (later_than at (cache_of response.negative)))
  pub none_kept : match_end (kept_matches_of (after_steps [] steps) pair) hash ≡ None
