-- What an answer returned for a list is kept of each pair that it puts.
use Rattle.std.proofs.Common.{◌≡◌, ℕ, zero, suc, ◌<◌, ◌⊎◌, Bool, true, false, cond, List, [], ◌∷◌, ◌++◌, length, filter, map, Contains, Option, Some, is_some, slice_index_or, refl, sym, subst, inl, inr, arith}
use Rattle.std.specs.declared.cmp.Ordering.{Ordering}
use Rattle.std.specs.declared.cmp.Ordering.TheVariants.{Less, Equal, Greater}
use Rattle.std.specs.Ordering.{ordering_then, is_eq, match_ordering}
use Rattle.std.specs.List.{fold}
use Rattle.std.specs.BTreeMap.{insert_entry}
use Rattle.sb_model.specs.declared.names.ListName.{ListName}
use Rattle.sb_model.specs.declared.time.Moment.{Moment}
use Rattle.sb_model.specs.Names.{same_name}
use Rattle.sb_model.specs.Prefixes.{bytes_cmp}
use Rattle.sb_model.specs.Time.{later_than, cache_of}
use Rattle.hash_prefixes.specs.declared.hashes.FullHash.{FullHash}
use Rattle.hash_messages.specs.declared.response.Match.{Match}
use Rattle.hash_messages.specs.declared.response.FindResponse.{FindResponse}
use Rattle.full_hash_cache.specs.declared.pair.Pair.{Pair}
use Rattle.full_hash_cache.specs.Cache.{Matches, KeptOfPair, Pairs, same_hash, hash_cmp, match_end, with_match, ending, matches_for, alive, begins_full_hash, beginning_with, kept_matches_of, kept_after}
use Rattle.full_hash_cache.proofs.Ranges.{same_number}
use Rattle.full_hash_cache.proofs.Told.{equal_hashes, by_is_eq}

same_bytes : (bytes : List ℕ) → bytes_cmp bytes bytes ≡ Equal
same_bytes [] = refl
same_bytes (x ∷ xs) = λ i. ordering_then (same_number x i) (same_bytes xs i)

same_itself : (hash : FullHash) → same_hash hash hash ≡ true
same_itself hash = λ i. is_eq (same_bytes hash.bytes i)

-- ---- whether there is a match of a hash

abbrev pub has : Matches → FullHash → Bool
has matches hash = is_some (match_end matches hash)

one_more : (b : Bool) (o : Option Moment) (end : Moment) → is_some o ≡ true → is_some (cond b (Some end) o) ≡ true
one_more true o end h = refl
one_more false o end h = h

either : (b : Bool) (o p : Option Moment) (d e : Moment) → (is_some o ≡ true → is_some p ≡ true) → is_some (cond b (Some d) o) ≡ true → is_some (cond b (Some e) p) ≡ true
either true o p d e f h = refl
either false o p d e f h = f h

here : (hash : FullHash) (end : Moment) (rest : Matches) → has ((hash, end) ∷ rest) hash ≡ true
here hash end rest = λ i. is_some (cond (same_itself hash i) (Some end) (match_end rest hash))

-- ---- putting matches

inserted : (matches : Matches) (hash : FullHash) (end : Moment) → has (insert_entry hash_cmp matches hash end) hash ≡ true
inserted [] hash end = here hash end []
inserted (m ∷ ms) hash end = go (hash_cmp hash m.0) refl (inserted ms hash end)
  where
    go : (o : Ordering) → hash_cmp hash m.0 ≡ o → has (insert_entry hash_cmp ms hash end) hash ≡ true
        → has (match_ordering o ((hash, end) ∷ m ∷ ms) ((m.0, end) ∷ ms) (m ∷ insert_entry hash_cmp ms hash end)) hash ≡ true
    go Less is more = here hash end (m ∷ ms)
    go Equal is more = λ i. is_some (cond (is_eq (is i)) (Some end) (match_end ms hash))
    go Greater is more = one_more (same_hash hash m.0) (match_end (insert_entry hash_cmp ms hash end) hash) m.1 more

stays : (matches : Matches) (hash : FullHash) (end : Moment) (other : FullHash) → has matches other ≡ true → has (insert_entry hash_cmp matches hash end) other ≡ true
stays [] hash end other h = cc h
stays (m ∷ ms) hash end other h = go (hash_cmp hash m.0) (stays ms hash end other)
  where
    go : (o : Ordering) → (has ms other ≡ true → has (insert_entry hash_cmp ms hash end) other ≡ true)
        → has (match_ordering o ((hash, end) ∷ m ∷ ms) ((m.0, end) ∷ ms) (m ∷ insert_entry hash_cmp ms hash end)) other ≡ true
    go Less more = one_more (same_hash other hash) (match_end (m ∷ ms) other) end h
    go Equal more = either (same_hash other m.0) (match_end ms other) (match_end ms other) m.1 end (λ e. e) h
    go Greater more = either (same_hash other m.0) (match_end ms other) (match_end (insert_entry hash_cmp ms hash end) other) m.1 m.1 more h

all_stay : (found matches : Matches) (hash : FullHash) → has matches hash ≡ true → has (fold with_match matches found) hash ≡ true
all_stay [] matches hash h = h
all_stay (m ∷ ms) matches hash h = all_stay ms (with_match matches m) hash (stays matches m.0 _ hash h)

all_put : (found matches : Matches) (hash : FullHash) → has found hash ≡ true → has (fold with_match matches found) hash ≡ true
all_put [] matches hash h = cc h
all_put (m ∷ ms) matches hash h = go (same_hash hash m.0) refl h (all_put ms (with_match matches m) hash)
  where
    after : Matches
    after = fold with_match (with_match matches m) ms

    go : (b : Bool) → same_hash hash m.0 ≡ b → is_some (cond b (Some m.1) (match_end ms hash)) ≡ true → (has ms hash ≡ true → has after hash ≡ true) → has after hash ≡ true
    go true is h more =
        let one = subst (λ k. has (with_match matches m) k ≡ true) (sym (equal_hashes hash m.0 (by_is_eq _ is))) (inserted matches m.0 _) in
        all_stay ms (with_match matches m) hash one
    go false is h more = more h

-- ---- which matches are put

appended : (xs ys : Matches) (hash : FullHash) → has ys hash ≡ true → has (xs ++ ys) hash ≡ true
appended [] ys hash h = h
appended (x ∷ xs) ys hash h = one_more (same_hash hash x.0) (match_end (xs ++ ys) hash) x.1 (appended xs ys hash h)

beginning : (prefix : List ℕ) (matches : Matches) (hash : FullHash) → begins_full_hash prefix hash ≡ true → has matches hash ≡ true → has (beginning_with prefix matches) hash ≡ true
beginning prefix [] hash b h = cc h
beginning prefix (m ∷ ms) hash b h = go (same_hash hash m.0) refl h (beginning prefix ms hash b)
  where
    rest : Matches
    rest = beginning_with prefix ms

    other : (c : Bool) → has rest hash ≡ true → has (cond c (m ∷ rest) rest) hash ≡ true
    other true h = one_more (same_hash hash m.0) (match_end rest hash) m.1 h
    other false h = h

    go : (s : Bool) → same_hash hash m.0 ≡ s → is_some (cond s (Some m.1) (match_end ms hash)) ≡ true → (has ms hash ≡ true → has rest hash ≡ true)
        → has (cond (begins_full_hash prefix m.0) (m ∷ rest) rest) hash ≡ true
    go true is h more =
        let same = equal_hashes hash m.0 (by_is_eq _ is) in
        let begun : begins_full_hash prefix m.0 ≡ true = subst (λ k. begins_full_hash prefix k ≡ true) same b in
        subst (λ c. has (cond c (m ∷ rest) rest) hash ≡ true) (sym begun) (λ i. is_some (cond (is i) (Some m.1) (match_end rest hash)))
    go false is h more = other (begins_full_hash prefix m.0) (more h)

pub either_place : {X : Type 0} (x : X) (xs : List X) (y : X) → Contains (x ∷ xs) y → (x ≡ y) ⊎ Contains xs y
either_place x xs y c = go c.0 c.1 c.2
  where
    go : (k : ℕ) → k < length (x ∷ xs) → slice_index_or (x ∷ xs) k y ≡ y → (x ≡ y) ⊎ Contains xs y
    go zero lt is = inl is
    go (suc k) lt is = inr (k, omega (arith, lt), is)

pub in_none : {X : Type 0} (x : X) → Contains [] x → ⊥
in_none x c = let lt = c.1 in absurd (omega (arith, lt))

listed : (at : Moment) (list : ListName) (found : List Match) (one : Match) → Contains found one → same_name one.name list ≡ true
    → has (map (ending at) (filter (λ m. same_name m.name list) found)) one.hash ≡ true
listed at list [] one c named = absurd (in_none one c)
listed at list (m ∷ ms) one c named = go (either_place m ms one c) (listed at list ms one)
  where
    rest : List Match
    rest = filter (λ m. same_name m.name list) ms

    other : (b : Bool) → has (map (ending at) rest) one.hash ≡ true → has (map (ending at) (cond b (m ∷ rest) rest)) one.hash ≡ true
    other true h = one_more (same_hash one.hash m.hash) (match_end (map (ending at) rest) one.hash) _ h
    other false h = h

    go : (m ≡ one) ⊎ Contains ms one → (Contains ms one → same_name one.name list ≡ true → has (map (ending at) rest) one.hash ≡ true)
        → has (map (ending at) (cond (same_name m.name list) (m ∷ rest) rest)) one.hash ≡ true
    go (inl is) more = subst (λ n. has (map (ending at) (cond (same_name n.name list) (n ∷ rest) rest)) one.hash ≡ true) (sym is)
        (subst (λ b. has (map (ending at) (cond b (one ∷ rest) rest)) one.hash ≡ true) (sym named) (here one.hash _ (map (ending at) rest)))
    go (inr c) more = other (same_name m.name list) (more c named)

-- ---- what is kept of a pair is from an answer

-- The answer was received at a moment: its negative duration ends then, and each match that it returned for the pair is kept.
pub record IsFrom (pair : Pair) (at : Moment) (response : FindResponse) (kept : KeptOfPair) : Type 0 where
  pub ends : kept.negative_end ≡ later_than at (cache_of response.negative)
  pub keeps : (one : Match) → Contains response.matches one → same_name one.name pair.list ≡ true → begins_full_hash pair.prefix one.hash ≡ true → has kept.matches one.hash ≡ true

pub is_from : (pairs : Pairs) (pair : Pair) (at : Moment) (response : FindResponse)
    → IsFrom pair at response (kept_after at (later_than at (cache_of response.negative)) (matches_for at pair.list response.matches) pairs pair)
is_from pairs pair at response = record {
  ends = refl;
  keeps = λ one c named begun.
      let found = all_put _ [] one.hash (listed at pair.list response.matches one c named) in
      let own = beginning pair.prefix (matches_for at pair.list response.matches) one.hash begun found in
      all_put _ [] one.hash (appended (alive at (kept_matches_of pairs pair)) _ one.hash own);
}
