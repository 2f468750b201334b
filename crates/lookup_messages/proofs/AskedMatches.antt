-- The matches of an answer are those that are asked.
use Rattle.std.proofs.Common.{◌≡◌, ℕ, ◌*◌, Bool, List, filter, Contains, Result, Ok, Err, refl, sym, subst}
use Rattle.sb_model.specs.declared.names.ListName.{ListName}
use Rattle.url_canon.specs.Url.{Url}
use Rattle.url_canon.specs.declared.fault.UrlFault.{UrlFault}
use Rattle.lookup_messages.specs.Messages.{AskedUrls}
use Rattle.lookup_messages.specs.declared.response.LookupMatch.{LookupMatch}
use Rattle.lookup_messages.specs.Lookups.{canonical_of_asked, looks_up_list, lists_looked_up, match_of, matches_of_url, lookup_matches, IsLookupMatch}
use Rattle.lookup_messages.proofs.Memberships.{nothing, in_filter, from_filter, in_map, from_map, in_flat_map, from_flat_map}

-- ---- a match of the answer is asked

of_list : (has : ListName → Url → Bool) (lists : List ListName) (cache : ℕ) (asked : AskedUrls) (url : List ℕ) (canonical : Url) (list : ListName) → Contains asked.urls url
    → canonical_of_asked url ≡ Ok canonical → Contains (filter (λ (name : ListName). has name canonical) (lists_looked_up lists asked)) list
    → IsLookupMatch has lists cache asked (match_of cache url list)
of_list has lists cache asked url canonical list h e k =
    let found = from_filter (λ (name : ListName). has name canonical) (lists_looked_up lists asked) list k in
    let of = from_filter (looks_up_list asked) lists list found.0 in
    record {
      url_asked = h;
      canonical = canonical;
      canonical_form = e;
      list_given = of.0;
      list_asked = of.1;
      has_url = found.1;
      cache_told = refl;
    }

of_url : (has : ListName → Url → Bool) (lists : List ListName) (cache : ℕ) (asked : AskedUrls) (url : List ℕ) (r : Result Url UrlFault) (found : LookupMatch) → Contains asked.urls url
    → canonical_of_asked url ≡ r → Contains (matches_of_url has (lists_looked_up lists asked) cache url r) found → IsLookupMatch has lists cache asked found
of_url has lists cache asked url (Ok canonical) found h e k =
    let list = from_map (match_of cache url) (filter (λ (name : ListName). has name canonical) (lists_looked_up lists asked)) found k in
    subst (IsLookupMatch has lists cache asked) list.2 (of_list has lists cache asked url canonical list.0 h e list.1)
of_url has lists cache asked url (Err fault) found h e k = absurd (nothing found k)

pub matches_asked : (has : ListName → Url → Bool) (lists : List ListName) (cache : ℕ) (asked : AskedUrls) (found : LookupMatch) → Contains (lookup_matches has lists cache asked) found
    → IsLookupMatch has lists cache asked found
matches_asked has lists cache asked found h =
    let url = from_flat_map (λ (text : List ℕ). matches_of_url has (lists_looked_up lists asked) cache text (canonical_of_asked text)) asked.urls found h in
    of_url has lists cache asked url.0 (canonical_of_asked url.0) found url.1 refl url.2

-- ---- what is asked is a match of the answer

same_match : (cache : ℕ) (found : LookupMatch) → found.cache ≡ cache * 1000000000 → match_of cache found.url found.name ≡ found
same_match cache found h = λ i. record { name = found.name; url = found.url; cache = sym h i }

pub asked_matches : (has : ListName → Url → Bool) (lists : List ListName) (cache : ℕ) (asked : AskedUrls) (found : LookupMatch) → IsLookupMatch has lists cache asked found
    → Contains (lookup_matches has lists cache asked) found
asked_matches has lists cache asked found h =
    let list : Contains (lists_looked_up lists asked) found.name = in_filter (looks_up_list asked) lists found.name h.list_given h.list_asked in
    let has_it = in_filter (λ (name : ListName). has name h.canonical) (lists_looked_up lists asked) found.name list h.has_url in
    let made = in_map (match_of cache found.url) (filter (λ (name : ListName). has name h.canonical) (lists_looked_up lists asked)) found.name has_it in
    let there : Contains (matches_of_url has (lists_looked_up lists asked) cache found.url (Ok h.canonical)) found =
    subst (Contains (matches_of_url has (lists_looked_up lists asked) cache found.url (Ok h.canonical))) (same_match cache found h.cache_told) made
    in
    in_flat_map (λ (text : List ℕ). matches_of_url has (lists_looked_up lists asked) cache text (canonical_of_asked text)) asked.urls found.url found h.url_asked
    (subst (λ (r : Result Url UrlFault). Contains (matches_of_url has (lists_looked_up lists asked) cache found.url r) found) (sym h.canonical_form) there)
