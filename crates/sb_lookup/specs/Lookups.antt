-- What a list server answers to a look-up (`threatMatches.find` of the Safe Browsing Lookup API, version 4), and to a request for
-- the names of its lists (`threatLists.list`).
use Rattle.std.specs.Prelude.{◌≡◌, ℕ, ◌*◌, Bool, true, false, List, filter, Contains, Some, Ok}
use Rattle.std.specs.List.{list_any}
use Rattle.std.specs.Option.{option_map_or}
use Rattle.std.specs.Str.{bytes_eq}
use Rattle.sha2.specs.Sha256.{sha256}
use Rattle.serde_json.specs.Data.{Data, object, no_members}
use Rattle.serde_json.specs.Written.{compact_text}
use Rattle.sb_json.specs.declared.fields.Field.TheVariants as field
use Rattle.sb_members.specs.Writing.{with_member_if_any, list_written}
use Rattle.sb_model.specs.declared.names.ListName.{ListName}
use Rattle.sb_model.specs.History.{History, declares, full_hashes_at, version_count}
use Rattle.answering_lists.specs.Lists.{answered_names, answering}
use Rattle.hash_prefixes.specs.declared.hashes.FullHash.{FullHash}
use Rattle.hash_messages.specs.Matches.{all_names}
use Rattle.hash_messages.specs.Writing.{threat_written, platform_written, entry_written}
use Rattle.url_canon.specs.Url.{Url}
use Rattle.url_expressions.specs.Expressions.{expressions_of}
use Rattle.url_hashes.specs.Hashes.{hashes_of}
use Rattle.lookup_messages.specs.Lookups.{looks_up_list, canonical_of_asked, lookup_answer}
use Rattle.lookup_messages.specs.Messages.{AskedUrls}
use Rattle.lookup_messages.specs.declared.response.LookupMatch.{LookupMatch}
use Rattle.lookup_messages.specs.declared.response.LookupResponse.{LookupResponse}

-- the newest full hashes of a list
abbrev pub newest_full_hashes : History → ListName → List (List ℕ)
newest_full_hashes history list = full_hashes_at history list (version_count history)

-- whether a full hash is one of a list's newest
abbrev pub is_listed : History → ListName → FullHash → Bool
is_listed history list hash = list_any (bytes_eq hash.bytes) (newest_full_hashes history list)

-- whether a list has a URL: the full hash of one of its expressions is one of the list's newest
abbrev pub has_url : History → ListName → Url → Bool
has_url history list url = list_any (is_listed history list) (hashes_of url)

-- whether the list that answers for a name has a URL
abbrev pub name_has_url : History → ListName → Url → Bool
name_has_url history name url = option_map_or (λ list. has_url history list url) (answering history name) false

-- The answer to a request, each match of which may be kept for so many seconds: under each name for which a list answers, by that
-- list.
abbrev pub served_lookup : History → ℕ → AskedUrls → LookupResponse
served_lookup history cache asked = lookup_answer (name_has_url history) (answered_names history) cache asked

-- A match that the answer has: its URL is asked and has a canonical form, of which the SHA-256 of some expression is among the
-- newest full hashes of the list that answers for its name, and the three types of that name are asked.
pub record IsServedMatch (history : History) (cache : ℕ) (asked : AskedUrls) (found : LookupMatch) : Type 0 where
  pub url_asked : Contains asked.urls found.url
  pub canonical : Url
  pub canonical_form : canonical_of_asked found.url ≡ Ok canonical
  pub list : ListName
  pub answers : answering history found.name ≡ Some list
  pub list_asked : looks_up_list asked found.name ≡ true
  pub expression : List ℕ
  pub of_url : Contains (expressions_of canonical) expression
  pub listed : Contains (newest_full_hashes history list) (sha256 expression)
  pub cache_told : found.cache ≡ cache * 1000000000

-- ---- the names of lists

-- the declared lists, in the order of names
abbrev pub declared_names : History → List ListName
declared_names history = filter (declares history) all_names

abbrev pub name_written : ListName → Data
name_written name = object (
    with_member_if_any field.PlatformType (Some (platform_written name.platform)) (
    with_member_if_any field.ThreatEntryType (Some (entry_written name.entry)) (
    with_member_if_any field.ThreatType (Some (threat_written name.threat)) no_members)))

abbrev pub names_written : List ListName → Data
names_written names = object (with_member_if_any field.ThreatLists (list_written name_written names) no_members)

-- the compact JSON of the declared lists, in the order of names
unfoldable pub lists_text : History → List ℕ
lists_text history = compact_text (names_written (declared_names history))
