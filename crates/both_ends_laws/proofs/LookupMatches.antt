-- What a look-up response has at most, how long its matches are at least, and how many matches an answer has.
use Rattle.std.proofs.Common.{ℕ, ◌+◌, ◌*◌, ◌≤◌, Bool, true, false, cond, List, [], ◌∷◌, length, filter, flat_map, Some, Result, Ok, Err, refl, arith, length-append, encode_utf8_all}
use Rattle.std.proofs.lemmas.List.{length-map}
use Rattle.serde_json.specs.Written.{compact_text}
use Rattle.sb_json.specs.declared.fields.Field.TheVariants as field
use Rattle.sb_model.specs.declared.names.ListName.{ListName}
use Rattle.sb_members.specs.Parts.{Parts}
use Rattle.sb_members.specs.Writing.{duration_written, list_written}
use Rattle.url_canon.specs.Url.{Url}
use Rattle.url_canon.specs.declared.fault.UrlFault.{UrlFault}
use Rattle.hash_messages.specs.Writing.{threat_written, platform_written, entry_written}
use Rattle.lookup_messages.specs.Lookups.{canonical_of_asked, looks_up_list, lists_looked_up, match_of, matches_of_url, lookup_matches}
use Rattle.lookup_messages.specs.Messages.{AskedUrls}
use Rattle.lookup_messages.specs.Writing as spec
use Rattle.lookup_messages.specs.declared.response.LookupMatch.{LookupMatch}
use Rattle.lookup_messages.specs.declared.response.LookupResponse.{LookupResponse}
use Rattle.both_ends_laws.proofs.Sparse.{IsSparse}
use Rattle.both_ends_laws.proofs.Costs.{Costs, string_costs, object_costs, cheaper, alike_cost, sparse, total}
use Rattle.both_ends_laws.proofs.Fields.{duration_costs}
use Rattle.both_ends_laws.proofs.Lookups.{url_parts, url_costs, threat_written_length, platform_written_length, entry_written_length}
use Rattle.both_ends_laws.proofs.Texts.{part_at_least, object_length, list_length, string_length}

abbrev match_parts : LookupMatch → Parts
match_parts found =
    (field.CacheDuration, duration_written found.cache)
    ∷ (field.PlatformType, Some (platform_written found.name.platform))
    ∷ (field.Threat, Some (spec.url_written found.url))
    ∷ (field.ThreatEntryType, Some (entry_written found.name.entry))
    ∷ (field.ThreatType, Some (threat_written found.name.threat)) ∷ []

abbrev response_parts : LookupResponse → Parts
response_parts m = (field.Matches, list_written spec.lookup_match_written m.matches) ∷ []

-- ---- what they have

match_costs : (found : LookupMatch) → Costs 2 14 (spec.lookup_match_written found)
match_costs found =
    object_costs ((0, 0) ∷ (0, 0) ∷ (1, 3) ∷ (0, 0) ∷ (0, 0) ∷ []) (match_parts found)
    (duration_costs found.cache, (string_costs _, (url_costs found.url, (string_costs _, (string_costs _, tt)))))

response_costs : (m : LookupResponse) → Costs (2 + 2 * length m.matches) (4 + 15 * length m.matches) (spec.lookup_response_written m)
response_costs m =
    cheaper _ _ _ _ (spec.lookup_response_written m) (omega arith) (omega arith)
    (object_costs ((1 + 2 * length m.matches, 1 + 15 * length m.matches) ∷ []) (response_parts m)
    (alike_cost spec.lookup_match_written 2 14 match_costs m.matches, tt))

-- ---- how long they are

url_length : (url : List ℕ) → 10 ≤ length (compact_text (spec.url_written url))
url_length url = omega (arith, object_length (url_parts url) refl, string_length (encode_utf8_all url))

-- a match, with the comma behind it
match_length : (found : LookupMatch) → 84 ≤ 1 + length (compact_text (spec.lookup_match_written found))
match_length found =
    omega (
      arith,
      object_length (match_parts found) refl,
      url_length found.url,
      platform_written_length found.name.platform,
      entry_written_length found.name.entry,
      threat_written_length found.name.threat,
    )

matches_length : (found : List LookupMatch) → 84 * length found ≤ total (λ one. 1 + length (compact_text (spec.lookup_match_written one))) found
matches_length [] = omega arith
matches_length (one ∷ found) = omega (arith, match_length one, matches_length found)

response_length : (m : LookupResponse) → 84 * length m.matches ≤ length (compact_text (spec.lookup_response_written m))
response_length m =
    omega (
      arith,
      matches_length m.matches,
      list_length spec.lookup_match_written m.matches,
      part_at_least field.Matches (list_written spec.lookup_match_written m.matches),
      object_length (response_parts m) refl,
    )

pub lookup_responses_sparse : (m : LookupResponse) → length m.matches ≤ 32000 → IsSparse (spec.lookup_response_written m)
lookup_responses_sparse m few =
    sparse (2 + 2 * length m.matches) (4 + 15 * length m.matches) (spec.lookup_response_written m) (response_costs m)
    (omega (arith, few, response_length m)) (omega (arith, few, response_length m))

-- ---- how many there are

no_more_kept : {A : Type 0} (test : A → Bool) (xs : List A) → length (filter test xs) ≤ length xs
no_more_kept test [] = omega arith
no_more_kept test (x ∷ xs) = go (test x) (no_more_kept test xs)
  where
    go : (kept : Bool) → length (filter test xs) ≤ length xs → length (cond kept (x ∷ filter test xs) (filter test xs)) ≤ length (x ∷ xs)
    go true rest = omega (arith, rest)
    go false rest = omega (arith, rest)

no_more_of_each : {A B : Type 0} (make : A → List B) (most : ℕ) → ((x : A) → length (make x) ≤ most) → (xs : List A) → length (flat_map make xs) ≤ most * length xs
no_more_of_each make most few [] = omega arith
no_more_of_each make most few (x ∷ xs) = omega (arith, few x, length-append (make x) (flat_map make xs), no_more_of_each make most few xs)

few_of_url : (has : ListName → Url → Bool) (lists : List ListName) (cache : ℕ) (url : List ℕ) (r : Result Url UrlFault) → length (matches_of_url has lists cache url r) ≤ length lists
few_of_url has lists cache url (Ok canonical) =
    omega (
      arith,
      length-map (filter (λ (list : ListName). has list canonical) lists) (match_of cache url),
      no_more_kept (λ (list : ListName). has list canonical) lists,
    )
few_of_url has lists cache url (Err fault) = omega arith

few_matches : (has : ListName → Url → Bool) (lists : List ListName) (cache : ℕ) (asked : AskedUrls) → length lists ≤ 64 → length asked.urls ≤ 500 → length (lookup_matches has lists cache asked) ≤ 32000
few_matches has lists cache asked few urls =
    let each : (url : List ℕ) → length (matches_of_url has (lists_looked_up lists asked) cache url (canonical_of_asked url)) ≤ 64 =
    λ url. omega (arith, few, no_more_kept (looks_up_list asked) lists, few_of_url has (lists_looked_up lists asked) cache url (canonical_of_asked url))
    in
    omega (arith, urls, no_more_of_each (λ (url : List ℕ). matches_of_url has (lists_looked_up lists asked) cache url (canonical_of_asked url)) 64 each asked.urls)

pub lookup_answers_sparse : (has : ListName → Url → Bool) (lists : List ListName) (cache : ℕ) (asked : AskedUrls) → length lists ≤ 64 → length asked.urls ≤ 500
    → IsSparse (spec.lookup_response_written (record { matches = lookup_matches has lists cache asked }))
lookup_answers_sparse has lists cache asked few urls = lookup_responses_sparse (record { matches = lookup_matches has lists cache asked }) (few_matches has lists cache asked few urls)
