-- What a look-up is answered (`threatMatches.find` of the Safe Browsing Lookup API, version 4), by whoever can say of a
-- list and a canonical URL whether the list has it.
use Rattle.std.specs.Prelude.{◌≡◌, ℕ, ◌*◌, ◌==◌, ◌&&◌, Bool, true, List, [], map, filter, Contains, Result, Ok, Err, encode_utf8_all}
use Rattle.std.specs.List.{flat_map}
use Rattle.std.specs.Str.{bytes_eq}
use Rattle.sb_model.specs.declared.names.ListName.{ListName}
use Rattle.sb_model.specs.Names.{same_name}
use Rattle.url_canon.specs.Url.{Url}
use Rattle.url_canon.specs.Canonical.{canonical_of}
use Rattle.url_canon.specs.declared.fault.UrlFault.{UrlFault}
use Rattle.hash_messages.specs.Matches.{has_types}
use Rattle.lookup_messages.specs.Messages.{AskedUrls}
use Rattle.lookup_messages.specs.declared.response.LookupMatch.{LookupMatch}
use Rattle.lookup_messages.specs.declared.response.LookupResponse.{LookupResponse}

-- the canonical form of a URL that is asked, or why it has none
abbrev pub canonical_of_asked : List ℕ → Result Url UrlFault
canonical_of_asked url = canonical_of (encode_utf8_all url)

-- whether the three types of a list are asked
abbrev pub looks_up_list : AskedUrls → ListName → Bool
looks_up_list asked list = has_types asked.threats asked.platforms asked.entries list

-- the lists whose types are asked, in the order in which they are given
abbrev pub lists_looked_up : List ListName → AskedUrls → List ListName
lists_looked_up lists asked = filter (looks_up_list asked) lists

-- the match of a URL, as it was asked, with a list, to be kept for so many seconds
abbrev pub match_of : ℕ → List ℕ → ListName → LookupMatch
match_of cache url list = record { name = list; url = url; cache = cache * 1000000000 }

-- the matches of one URL, as it was asked and in its canonical form: one with each list that has it
abbrev pub matches_of_url : (ListName → Url → Bool) → List ListName → ℕ → List ℕ → Result Url UrlFault → List LookupMatch
matches_of_url has lists cache url (Ok canonical) = map (match_of cache url) (filter (λ list. has list canonical) lists)
matches_of_url has lists cache url (Err fault) = []

-- the matches of all URLs, in the order in which they are asked
abbrev pub lookup_matches : (ListName → Url → Bool) → List ListName → ℕ → AskedUrls → List LookupMatch
lookup_matches has lists cache asked =
    flat_map (λ url. matches_of_url has (lists_looked_up lists asked) cache url (canonical_of_asked url)) asked.urls

-- the answer to a request
abbrev pub lookup_answer : (ListName → Url → Bool) → List ListName → ℕ → AskedUrls → LookupResponse
lookup_answer has lists cache asked = record { matches = lookup_matches has lists cache asked }

-- a match that the answer has
pub record IsLookupMatch (has : ListName → Url → Bool) (lists : List ListName) (cache : ℕ) (asked : AskedUrls) (found : LookupMatch) : Type 0 where
  pub url_asked : Contains asked.urls found.url
  pub canonical : Url
  pub canonical_form : canonical_of_asked found.url ≡ Ok canonical
  pub list_given : Contains lists found.name
  pub list_asked : looks_up_list asked found.name ≡ true
  pub has_url : has found.name canonical ≡ true
  pub cache_told : found.cache ≡ cache * 1000000000

-- ---- how often a URL is asked, and a match stands in an answer

-- whether a text is a URL
abbrev pub is_url : List ℕ → List ℕ → Bool
is_url url text = bytes_eq url text

-- whether a match is another
abbrev pub is_match : LookupMatch → LookupMatch → Bool
is_match found other = same_name found.name other.name && is_url found.url other.url && found.cache == other.cache
