-- The kept answers to find requests (`fullHashes.find` and "Caching" of the Safe Browsing Update API,
-- version 4), as pairs of a list and a prefix, and what is said of a hash by them.
use Rattle.std.specs.Prelude.{◌≡◌, ℕ, ◌≤◌, ◌&&◌, Bool, nat_lt, if◌then◌else◌, List, [], ◌++◌, length, take, filter, map, Option, Some, None}
use Rattle.std.specs.declared.cmp.Ordering.{Ordering}
use Rattle.std.specs.Ordering.{is_eq}
use Rattle.std.specs.List.{fold, flat_map}
use Rattle.std.specs.Option.{option_map_or}
use Rattle.std.specs.Str.{bytes_eq}
use Rattle.std.specs.Map.{lookup}
use Rattle.std.specs.BTreeMap.{insert_entry}
use Rattle.lru.specs.LruCache.{lru_cache, promoted, put_entries}
use Rattle.sb_model.specs.declared.names.ListName.{ListName}
use Rattle.sb_model.specs.declared.time.Moment.{Moment}
use Rattle.sb_model.specs.Names.{same_name}
use Rattle.sb_model.specs.Prefixes.{bytes_cmp}
use Rattle.sb_model.specs.Time.{later_than, cache_of}
use Rattle.hash_prefixes.specs.declared.hashes.FullHash.{FullHash}
use Rattle.hash_messages.specs.Messages.{AskedHashes}
use Rattle.hash_messages.specs.Matches.{asks_list}
use Rattle.hash_messages.specs.declared.response.Match.{Match}
use Rattle.hash_messages.specs.declared.response.FindResponse.{FindResponse}
use Rattle.full_hash_cache.specs.declared.pair.Pair.{Pair}
use Rattle.full_hash_cache.specs.declared.pair.Cached.{Cached}
use Rattle.full_hash_cache.specs.declared.pair.Cached.TheVariants.{Unsafe, Safe, Ask}

-- the most pairs that are kept
abbrev pub most_pairs : ℕ
most_pairs = 4096

-- matches rising by their hashes, each with its end
abbrev pub Matches : Type 0
Matches = List (FullHash × Moment)

-- what is kept of a pair: the moment up to which it is negative, and its matches
pub record KeptOfPair : Type 0 where
  pub negative_end : Moment
  pub matches : Matches

-- the kept pairs, the last used first
abbrev pub Pairs : Type 0
Pairs = List (Pair × KeptOfPair)

abbrev pub pair_of : ListName → List ℕ → Pair
pair_of list prefix = record { list = list; prefix = prefix }

abbrev pub same_pair : Pair → Pair → Bool
same_pair a b = same_name a.list b.list && bytes_eq a.prefix b.prefix

-- full hashes are ordered as byte strings
abbrev pub hash_cmp : FullHash → FullHash → Ordering
hash_cmp a b = bytes_cmp a.bytes b.bytes

abbrev pub same_hash : FullHash → FullHash → Bool
same_hash a b = is_eq (hash_cmp a b)

abbrev pub is_earlier : Moment → Moment → Bool
is_earlier a b = nat_lt a.0 b.0

-- what is kept of a pair
abbrev pub kept_of_pair : Pairs → Pair → Option KeptOfPair
kept_of_pair pairs pair = lookup (same_pair pair) pairs

-- the end of the match of a hash
abbrev pub match_end : Matches → FullHash → Option Moment
match_end matches hash = lookup (same_hash hash) matches

-- ---- what is said of a hash

-- by a pair that keeps no match of it, and by one that keeps one, with its end
abbrev pub said_by_pair : Moment → Moment → Option Moment → Cached
said_by_pair now negative_end None = if is_earlier now negative_end then Safe else Ask
said_by_pair now negative_end (Some end) = if is_earlier now end then Unsafe else Ask

-- Ask where the pair is not kept
abbrev pub cached_of : Pairs → Moment → Pair → FullHash → Cached
cached_of pairs now pair hash = option_map_or (λ kept. said_by_pair now kept.negative_end (match_end kept.matches hash)) (kept_of_pair pairs pair) Ask

-- afterwards the pair stands first, where it is kept
abbrev pub asked_pairs : Pairs → Pair → Pairs
asked_pairs pairs pair = promoted (same_pair pair) pairs

-- ---- what an answer leaves

-- the later of an end and one that is there already
abbrev pub later_end : Moment → Option Moment → Moment
later_end end None = end
later_end end (Some other) = if is_earlier end other then other else end

-- one match more: the later end counts where the hash is there already
abbrev pub with_match : Matches → FullHash × Moment → Matches
with_match matches found = insert_entry hash_cmp matches found.0 (later_end found.1 (match_end matches found.0))

-- some matches rising by their hashes, each hash once, with the latest of its ends
abbrev pub latest : List (FullHash × Moment) → Matches
latest found = fold with_match [] found

-- a match with its end, where its answer was received at a moment
abbrev pub ending : Moment → Match → FullHash × Moment
ending at found = (found.hash, later_than at (cache_of found.cache))

-- the matches of an answer for a list
abbrev pub matches_for : Moment → ListName → List Match → Matches
matches_for at list found = latest (map (ending at) (filter (λ m. same_name m.name list) found))

-- those that have not ended at a moment
abbrev pub alive : Moment → Matches → Matches
alive at matches = filter (λ m. is_earlier at m.1) matches

-- whether a hash begins with a prefix
abbrev pub begins_full_hash : List ℕ → FullHash → Bool
begins_full_hash prefix hash = bytes_eq (take (length prefix) hash.bytes) prefix

-- those whose hash begins with a prefix
abbrev pub beginning_with : List ℕ → Matches → Matches
beginning_with prefix matches = filter (λ m. begins_full_hash prefix m.0) matches

-- the kept matches of a pair, of which there are none where it is not kept
abbrev pub kept_matches_of : Pairs → Pair → Matches
kept_matches_of pairs pair = option_map_or (λ kept. kept.matches) (kept_of_pair pairs pair) []

-- The pair goes to the front with what is kept of it then, and the last leaves where there are too many.
abbrev pub with_pair : Pairs → Pair → KeptOfPair → Pairs
with_pair pairs pair kept = put_entries same_pair (lru_cache pairs most_pairs) pair kept

-- what is kept of a pair once an answer with some matches for its list was received at a moment: those of its kept
-- matches that have not ended, and those found that begin with its prefix
abbrev pub kept_after : Moment → Moment → Matches → Pairs → Pair → KeptOfPair
kept_after at negative_end found pairs pair = record {
  negative_end = negative_end;
  matches = latest (alive at (kept_matches_of pairs pair) ++ beginning_with pair.prefix found);
}

-- one pair is put
abbrev pub put_pair : Moment → FindResponse → Pairs → Pair → Pairs
put_pair at response pairs pair =
    with_pair pairs pair (kept_after at (later_than at (cache_of response.negative)) (matches_for at pair.list response.matches) pairs pair)

-- pairs are put in order
abbrev pub put_pairs : Moment → FindResponse → Pairs → List Pair → Pairs
put_pairs at response pairs asked = fold (put_pair at response) pairs asked

-- the pairs of a list and each prefix
abbrev pub pairs_of : List (List ℕ) → ListName → List Pair
pairs_of prefixes list = map (pair_of list) prefixes

-- the pairs of each list whose three types are asked and each asked prefix
abbrev pub pairs_asked : AskedHashes → List ListName → List Pair
pairs_asked asked lists = flat_map (pairs_of asked.prefixes) (filter (asks_list asked) lists)

-- what an answer to a request leaves, which was received at a moment
abbrev pub taken : Moment → List ListName → AskedHashes → FindResponse → Pairs → Pairs
taken at lists asked response pairs = put_pairs at response pairs (pairs_asked asked lists)

-- all of it, or as far as memory was there: some pairs from the front are put
pub record IsPartlyTaken (at : Moment) (response : FindResponse) (asked : List Pair) (before after : Pairs) : Type 0 where
  pub count : ℕ
  pub within : count ≤ length asked
  pub front : after ≡ put_pairs at response before (take count asked)
