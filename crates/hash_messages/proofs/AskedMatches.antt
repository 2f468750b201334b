-- The matches of an answer are those that are asked.
use Rattle.std.proofs.Common.{◌≡◌, ℕ, ◌*◌, ◌&&◌, true, List, filter, Contains, refl, subst, sym}
use Rattle.std.specs.List.Sorted.{IsStrictlySortedBy}
use Rattle.std.proofs.lemmas.Bool.{and_parts}
use Rattle.std.proofs.lemmas.List.Kept.{IsStrictlySortedBy-filter}
use Rattle.sb_model.specs.declared.names.ListName.{ListName}
use Rattle.sb_model.specs.Names.{name_cmp}
use Rattle.sb_model.specs.Prefixes.{IsRising}
use Rattle.sb_model.specs.History.{History, version_count, declares, full_hashes_at}
use Rattle.hash_messages.specs.Messages.{AskedHashes}
use Rattle.hash_messages.specs.declared.response.Match.{Match}
use Rattle.hash_messages.specs.Matches.{all_names, asks_list, asks_hash, lists_asked, hashes_asked, matches_in, matches_of, IsMatchOf}
use Rattle.hash_messages.proofs.Memberships.{in_filter, from_filter, in_map, from_map, in_flat_map, from_flat_map, in_set, from_set}
use Rattle.hash_messages.proofs.NameOrder.{names_rise, every_name}
use Rattle.hash_messages.proofs.Rising.{set_rises}

pub lists_rise : (history : History) (asked : AskedHashes) → IsStrictlySortedBy name_cmp (lists_asked history asked)
lists_rise history asked = IsStrictlySortedBy-filter name_cmp (λ list. declares history list && asks_list asked list) all_names names_rise

abbrev hashes : History → ListName → List (List ℕ)
hashes history list = full_hashes_at history list (version_count history)

pub hashes_rise : (history : History) (asked : AskedHashes) (list : ListName) → IsRising (hashes_asked history asked list)
hashes_rise history asked list = set_rises (filter (asks_hash asked) (hashes history list))

-- ---- a match of the answer is asked

of_list : (history : History) (asked : AskedHashes) (list : ListName) → Contains (lists_asked history asked) list → (declares history list ≡ true) × (asks_list asked list ≡ true)
of_list history asked list h =
    and_parts (declares history list) (asks_list asked list)
    (from_filter (λ list. declares history list && asks_list asked list) all_names list h).1

of_hash : (history : History) (asked : AskedHashes) (list : ListName) (hash : List ℕ) → Contains (hashes_asked history asked list) hash → Contains (hashes history list) hash × (asks_hash asked hash ≡ true)
of_hash history asked list hash h =
    from_filter (asks_hash asked) (hashes history list) hash (from_set (filter (asks_hash asked) (hashes history list)) hash h)

abbrev made_match : ℕ → ListName → List ℕ → Match
made_match cache list hash = record { name = list; hash = record { bytes = hash }; cache = cache * 1000000000 }

is_asked : (history : History) (cache : ℕ) (asked : AskedHashes) (list : ListName) (hash : List ℕ) → Contains (lists_asked history asked) list → Contains (hashes_asked history asked list) hash
    → IsMatchOf history cache asked (made_match cache list hash)
is_asked history cache asked list hash h k =
    let of = of_list history asked list h in
    let found = of_hash history asked list hash k in
    record { declared = of.0; list_asked = of.1; held = found.0; hash_asked = found.1; cache_told = refl }

pub matches_asked : (history : History) (cache : ℕ) (asked : AskedHashes) (found : Match) → Contains (matches_of history cache asked) found → IsMatchOf history cache asked found
matches_asked history cache asked found h =
    let list = from_flat_map (matches_in history cache asked) (lists_asked history asked) found h in
    let hash = from_map (made_match cache list.0) (hashes_asked history asked list.0) found list.2 in
    subst (IsMatchOf history cache asked) hash.2 (is_asked history cache asked list.0 hash.0 list.1 hash.1)

-- ---- what is asked is a match of the answer

list_there : (history : History) (asked : AskedHashes) (list : ListName) → declares history list ≡ true → asks_list asked list ≡ true → Contains (lists_asked history asked) list
list_there history asked list h k = in_filter (λ list. declares history list && asks_list asked list) all_names list (every_name list) (rw (h, k) refl)

hash_there : (history : History) (asked : AskedHashes) (list : ListName) (hash : List ℕ) → Contains (hashes history list) hash → asks_hash asked hash ≡ true → Contains (hashes_asked history asked list) hash
hash_there history asked list hash h k =
    in_set (filter (asks_hash asked) (hashes history list)) hash (in_filter (asks_hash asked) (hashes history list) hash h k)

same_match : (found : Match) (cache : ℕ) → found.cache ≡ cache * 1000000000 → made_match cache found.name found.hash.bytes ≡ found
same_match found cache h = λ i. record { name = found.name; hash = found.hash; cache = sym h i }

pub asked_matches : (history : History) (cache : ℕ) (asked : AskedHashes) (found : Match) → IsMatchOf history cache asked found → Contains (matches_of history cache asked) found
asked_matches history cache asked found h =
    let list = list_there history asked found.name h.declared h.list_asked in
    let hash = hash_there history asked found.name found.hash.bytes h.held h.hash_asked in
    let made = in_map (made_match cache found.name) (hashes_asked history asked found.name) found.hash.bytes hash in
    in_flat_map (matches_in history cache asked) (lists_asked history asked) found.name found list
    (subst (Contains (matches_in history cache asked found.name)) (same_match found cache h.cache_told) made)
