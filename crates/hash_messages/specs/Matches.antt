-- The answer of a server to a find request
-- (`fullHashes.find` of the Safe Browsing Update API, version 4).
use Rattle.std.specs.Prelude.{◌≡◌, ℕ, ◌*◌, ◌==◌, ◌&&◌, Bool, true, List, length, take, map, filter, Contains}
use Rattle.std.specs.List.{list_any, flat_map}
use Rattle.std.specs.Str.{bytes_eq}
use Rattle.sb_model.specs.declared.names.ThreatType.{ThreatType}
use Rattle.sb_model.specs.declared.names.PlatformType.{PlatformType}
use Rattle.sb_model.specs.declared.names.EntryType.{EntryType}
use Rattle.sb_model.specs.declared.names.ListName.{ListName}
use Rattle.sb_model.specs.Names.{threats, threat_code, platforms, platform_code, entries, entry_code}
use Rattle.sb_model.specs.History.{History, version_count, declares, full_hashes_at}
use Rattle.sb_model.specs.Prefixes.{set_of}
use Rattle.hash_messages.specs.Messages.{AskedHashes}
use Rattle.hash_messages.specs.declared.response.Match.{Match}
use Rattle.hash_messages.specs.declared.response.FindResponse.{FindResponse}

-- every name of a list, rising by the three codes
abbrev pub all_names : List ListName
all_names = flat_map (λ t. flat_map (λ p. map (λ e. record { threat = t; platform = p; entry = e }) entries) platforms) threats

-- whether the three types of a list are among others
abbrev pub has_types : List ThreatType → List PlatformType → List EntryType → ListName → Bool
has_types threat_types platform_types entry_types list =
    list_any (λ threat. threat_code threat == threat_code list.threat) threat_types
    && list_any (λ platform. platform_code platform == platform_code list.platform) platform_types
    && list_any (λ entry. entry_code entry == entry_code list.entry) entry_types

-- whether the three types of a list are asked
abbrev pub asks_list : AskedHashes → ListName → Bool
asks_list asked list = has_types asked.threats asked.platforms asked.entries list

-- whether a hash begins with an asked prefix
abbrev pub asks_hash : AskedHashes → List ℕ → Bool
asks_hash asked hash = list_any (λ prefix. bytes_eq (take (length prefix) hash) prefix) asked.prefixes

-- the declared lists whose three types are among others, in the order of names
abbrev pub lists_of_types : History → List ThreatType → List PlatformType → List EntryType → List ListName
lists_of_types history threat_types platform_types entry_types =
    filter (λ list. declares history list && has_types threat_types platform_types entry_types list) all_names

-- the declared lists whose types are asked, in the order of names
abbrev pub lists_asked : History → AskedHashes → List ListName
lists_asked history asked = lists_of_types history asked.threats asked.platforms asked.entries

-- the full hashes of a list at the newest version that begin with an asked prefix, rising
abbrev pub hashes_asked : History → AskedHashes → ListName → List (List ℕ)
hashes_asked history asked list = set_of (filter (asks_hash asked) (full_hashes_at history list (version_count history)))

-- the matches of one list, each to be kept for so many seconds
abbrev pub matches_in : History → ℕ → AskedHashes → ListName → List Match
matches_in history cache asked list =
    map (λ hash. record { name = list; hash = record { bytes = hash }; cache = cache * 1000000000 }) (hashes_asked history asked list)

-- the matches of all lists
abbrev pub matches_of : History → ℕ → AskedHashes → List Match
matches_of history cache asked = flat_map (matches_in history cache asked) (lists_asked history asked)

-- a match that the answer has
pub record IsMatchOf (history : History) (cache : ℕ) (asked : AskedHashes) (found : Match) : Type 0 where
  pub declared : declares history found.name ≡ true
  pub list_asked : asks_list asked found.name ≡ true
  pub held : Contains (full_hashes_at history found.name (version_count history)) found.hash.bytes
  pub hash_asked : asks_hash asked found.hash.bytes ≡ true
  pub cache_told : found.cache ≡ cache * 1000000000

-- the answer to a request, with the minimum wait and the two times of keeping in seconds
abbrev pub find_answer : History → ℕ → ℕ → ℕ → AskedHashes → FindResponse
find_answer history wait cache negative asked = record {
  matches = matches_of history cache asked;
  wait = wait * 1000000000;
  negative = negative * 1000000000;
}
