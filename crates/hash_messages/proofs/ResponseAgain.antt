-- What is written of a response reads as it.
use Rattle.std.proofs.Common.{◌≡◌, ℕ, ◌==◌, true, List, [], ◌∷◌, length, map, Some, Ok, refl, ap, ◌∙◌, arith}
use Rattle.std.proofs.lemmas.Bool.Decides.{nat_tests}
use Rattle.base64.specs.GeneralPurpose.{IsBytes}
use Rattle.sb_json.specs.Values.{◌>>=◌, bytes_of}
use Rattle.sb_json.specs.declared.fields.Field.TheVariants as field
use Rattle.sb_members.specs.Writing.{bytes_written, duration_written, list_written}
use Rattle.sb_members.specs.Laws.{AreReadAgain}
use Rattle.sb_members.specs.Parts.{Parts, made}
use Rattle.hash_messages.specs.declared.response.Match.{Match}
use Rattle.hash_messages.specs.declared.response.FindResponse.{FindResponse}
use Rattle.hash_messages.specs.Ranges.{IsMatchInRange, IsFindResponseInRange}
use Rattle.hash_messages.specs.ResponseRows as row
use Rattle.hash_messages.specs.Reading.{ReadsMatch, ReadsFindResponse}
use Rattle.hash_messages.specs.Writing.{threat_written, platform_written, entry_written, hash_written, match_written, find_response_written}
use Rattle.hash_messages.proofs.WrittenLists.{list_again}

abbrev pub hash_parts : List ℕ → Parts
hash_parts hash = (field.ThreatHash, bytes_written hash) ∷ []

abbrev pub match_parts : Match → Parts
match_parts found =
    (field.CacheDuration, duration_written found.cache)
    ∷ (field.PlatformType, Some (platform_written found.name.platform))
    ∷ (field.Threat, Some (hash_written found.hash.bytes))
    ∷ (field.ThreatEntryType, Some (entry_written found.name.entry))
    ∷ (field.ThreatType, Some (threat_written found.name.threat)) ∷ []

abbrev pub response_parts : FindResponse → Parts
response_parts m =
    (field.Matches, list_written match_written m.matches)
    ∷ (field.MinimumWaitDuration, duration_written m.wait)
    ∷ (field.NegativeCacheDuration, duration_written m.negative) ∷ []

is_full_hash : (hash : List ℕ) → length hash ≡ 32 → row.full_hash hash ≡ Ok hash
is_full_hash hash h =
    let whole : (length hash == 32) ≡ true = grind (arith, nat_tests) in
    rw whole refl

in_threat : AreReadAgain → (hash : List ℕ) → length hash ≡ 32 → IsBytes hash → (bytes_of field.ThreatHash (hash_written hash) >>= row.full_hash) ≡ Ok hash
in_threat law [] size h = absurd (omega (arith, size))
in_threat law (b ∷ bs) size h =
    ap (λ r. r >>= row.full_hash) (law.needed.bytes field.ThreatHash (hash_parts (b ∷ bs)) b bs h refl) ∙ is_full_hash (b ∷ bs) size

hash_again : AreReadAgain → (found : Match) → length found.hash.bytes ≡ 32 → IsBytes found.hash.bytes → row.hash_row (match_written found) ≡ Ok found.hash.bytes
hash_again law found size h =
    ap (λ r. r >>= bytes_of field.ThreatHash >>= row.full_hash) (law.needed.objects field.Threat (match_parts found) (made (hash_parts found.hash.bytes)) refl)
    ∙ in_threat law found.hash.bytes size h

match_again : AreReadAgain → (found : Match) → IsMatchInRange found → ReadsMatch (match_written found) found
match_again law found h = record {
  object = refl;
  threat = law.names.threats (match_parts found) found.name.threat refl;
  platform = law.names.platforms (match_parts found) found.name.platform refl;
  entry = law.names.entries (match_parts found) found.name.entry refl;
  hash = hash_again law found h.size h.bytes;
  cache = law.defaults.durations field.CacheDuration (match_parts found) found.cache h.cache refl;
}

pub response_again : AreReadAgain → (m : FindResponse) → IsFindResponseInRange m → ReadsFindResponse (find_response_written m) m
response_again law m h = record {
  object = refl;
  matches =
      list_again ReadsMatch match_written IsMatchInRange (match_again law) m.matches h.matches (row.matches_row (find_response_written m))
      (law.defaults.lists field.Matches (response_parts m) (map match_written m.matches) refl);
  wait = law.defaults.durations field.MinimumWaitDuration (response_parts m) m.wait h.wait refl;
  negative = law.defaults.durations field.NegativeCacheDuration (response_parts m) m.negative h.negative refl;
}
