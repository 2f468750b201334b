-- What is written of a response reads as it.
use Rattle.std.proofs.Common.{◌≡◌, [], ◌∷◌, map, Some, Ok, refl, ap, ◌∙◌}
use Rattle.sb_json.specs.Values.{◌>>=◌, text_chars_of}
use Rattle.sb_json.specs.declared.fields.Field.TheVariants as field
use Rattle.sb_members.specs.Laws.{AreReadAgain}
use Rattle.sb_members.specs.Parts.{Parts, made}
use Rattle.sb_members.specs.Ranges.{IsText}
use Rattle.sb_members.specs.Writing.{duration_written, list_written}
use Rattle.hash_messages.specs.ResponseRows.{matches_row}
use Rattle.hash_messages.specs.Writing.{threat_written, platform_written, entry_written}
use Rattle.lookup_messages.specs.declared.response.LookupMatch.{LookupMatch}
use Rattle.lookup_messages.specs.declared.response.LookupResponse.{LookupResponse}
use Rattle.lookup_messages.specs.Ranges.{IsLookupMatchInRange, IsLookupResponseInRange}
use Rattle.lookup_messages.specs.ResponseRows as row
use Rattle.lookup_messages.specs.Reading.{ReadsLookupMatch, ReadsLookupResponse}
use Rattle.lookup_messages.specs.Writing.{url_written, lookup_match_written, lookup_response_written}
use Rattle.lookup_messages.proofs.RequestAgain.{url_parts, text_again}
use Rattle.lookup_messages.proofs.WrittenLists.{list_again}

abbrev pub match_parts : LookupMatch → Parts
match_parts found =
    (field.CacheDuration, duration_written found.cache)
    ∷ (field.PlatformType, Some (platform_written found.name.platform))
    ∷ (field.Threat, Some (url_written found.url))
    ∷ (field.ThreatEntryType, Some (entry_written found.name.entry))
    ∷ (field.ThreatType, Some (threat_written found.name.threat)) ∷ []

abbrev pub response_parts : LookupResponse → Parts
response_parts m = (field.Matches, list_written lookup_match_written m.matches) ∷ []

url_again : AreReadAgain → (found : LookupMatch) → IsText found.url → row.found_url_row (lookup_match_written found) ≡ Ok found.url
url_again law found h =
    ap (λ r. r >>= text_chars_of field.Url) (law.needed.objects field.Threat (match_parts found) (made (url_parts found.url)) refl)
    ∙ text_again law found.url h

match_again : AreReadAgain → (found : LookupMatch) → IsLookupMatchInRange found → ReadsLookupMatch (lookup_match_written found) found
match_again law found h = record {
  object = refl;
  threat = law.names.threats (match_parts found) found.name.threat refl;
  platform = law.names.platforms (match_parts found) found.name.platform refl;
  entry = law.names.entries (match_parts found) found.name.entry refl;
  url = url_again law found h.url;
  cache = law.defaults.durations field.CacheDuration (match_parts found) found.cache h.cache refl;
}

pub response_again : AreReadAgain → (m : LookupResponse) → IsLookupResponseInRange m → ReadsLookupResponse (lookup_response_written m) m
response_again law m h = record {
  object = refl;
  matches =
      list_again ReadsLookupMatch lookup_match_written IsLookupMatchInRange (match_again law) m.matches h.matches (matches_row (lookup_response_written m))
      (law.defaults.lists field.Matches (response_parts m) (map lookup_match_written m.matches) refl);
}
