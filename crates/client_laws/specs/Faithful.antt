-- Answers to find requests that tell which full hashes a list has.
use Rattle.std.specs.Prelude.{◌≡◌, ◌↔◌, ℕ, List, [], length, take, Contains, IsTrue}
use Rattle.sb_model.specs.declared.names.ListName.{ListName}
use Rattle.sb_model.specs.declared.time.Moment.{Moment}
use Rattle.sb_model.specs.History.{History}
use Rattle.sb_model.specs.Names.{same_name}
use Rattle.sb_model.specs.Naming.{Naming}
use Rattle.hash_prefixes.specs.declared.hashes.FullHash.{FullHash}
use Rattle.hash_messages.specs.Messages.{AskedHashes}
use Rattle.hash_messages.specs.Matches.{asks_list}
use Rattle.hash_messages.specs.declared.response.Match.{Match}
use Rattle.hash_messages.specs.declared.response.FindResponse.{FindResponse}
use Rattle.update_client.specs.Held.{Held}
use Rattle.full_hash_cache.specs.declared.pair.Pair.{Pair}
use Rattle.full_hash_cache.specs.Cache.{pair_of, cached_of}
use Rattle.full_hash_cache.specs.Law.{Step, after_steps, IsToldAfter, IsNotReturned}
use Rattle.full_hash_cache.specs.Law.Step.{Takes}
use Rattle.url_checker.specs.declared.findings.Hit.{Hit}
use Rattle.client_laws.specs.Full.{IsFullIn}
use Rattle.client_laws.specs.Rulings.{Rulings}

-- An answer has a match of a list and a hash.
pub record HasMatchOf (response : FindResponse) (list : ListName) (hash : FullHash) : Type 0 where
  pub found : Match
  pub member : Contains response.matches found
  pub of_list : IsTrue (same_name found.name list)
  pub of_hash : found.hash ≡ hash

abbrev pub PairBeginsHash : Pair → FullHash → Type 0
PairBeginsHash pair hash = take (length pair.prefix) hash.bytes ≡ pair.prefix

-- An answer is faithful to some full hashes for one pair: of the hashes that begin with the pair's prefix, it has matches of the
-- pair's list for exactly those that are among them.
abbrev pub IsFaithfulFor : List (List ℕ) → Pair → FindResponse → Type 0
IsFaithfulFor hashes pair response = (hash : FullHash) → PairBeginsHash pair hash → Contains hashes hash.bytes ↔ HasMatchOf response pair.list hash

-- Two lists have the same hashes that begin with a pair's prefix.
abbrev pub AgreeUnder : Pair → List (List ℕ) → List (List ℕ) → Type 0
AgreeUnder pair hashes others = (hash : FullHash) → PairBeginsHash pair hash → Contains hashes hash.bytes ↔ Contains others hash.bytes

-- The kept answers by which a pair says something of a hash are faithful for that pair: each that has a match of the hash which has
-- not ended, and, where none has, the last that put the pair.
pub record RestsOnFaithful (steps : List Step) (now : Moment) (hashes : List (List ℕ)) (pair : Pair) (hash : FullHash) : Type 0 where
  pub told : (told : IsToldAfter steps now pair hash) → IsFaithfulFor hashes pair told.told.response
  pub not_returned : (last : IsNotReturned steps now pair hash) → IsFaithfulFor hashes pair last.response

-- ---- for hits

abbrev pub pair_of_hit : Hit → Pair
pair_of_hit hit = pair_of hit.list hit.prefix

-- what the kept pairs say of each hit, after some steps from no pairs on
abbrev pub said_after : List Step → Moment → Rulings
said_after steps now hit = cached_of (after_steps [] steps) now (pair_of_hit hit) hit.hash

-- What the kept pairs say of each hit rests on answers that are faithful to its list for its pair.
abbrev pub KeptAreFaithful : History → Naming → List Held → List Step → Moment → List Hit → Type 0
KeptAreFaithful history token_at lists steps now hits = (hit : Hit) (hashes : List (List ℕ))
    → Contains hits hit → IsFullIn history token_at lists hit.list hashes → RestsOnFaithful steps now hashes (pair_of_hit hit) hit.hash

-- ---- for whole finds

-- An answer to a find is faithful to lists: for each of them whose types were asked, and each asked prefix.
abbrev pub IsFaithful : History → Naming → List Held → AskedHashes → FindResponse → Type 0
IsFaithful history token_at lists asked response = (name : ListName) (hashes : List (List ℕ)) (prefix : List ℕ)
    → IsFullIn history token_at lists name hashes → IsTrue (asks_list asked name) → Contains asked.prefixes prefix
    → IsFaithfulFor hashes (pair_of name prefix) response

-- So is each answer that a cache took.
abbrev pub TakenAreFaithful : History → Naming → List Held → List Step → Type 0
TakenAreFaithful history token_at lists steps = (at : Moment) (names : List ListName) (asked : AskedHashes) (response : FindResponse)
    → Contains steps (Takes at names asked response) → IsFaithful history token_at lists asked response
