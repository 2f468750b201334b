-- What a find response has at most, and how long its matches are at least.
use Rattle.std.proofs.Common.{◌≡◌, ℕ, ◌+◌, ◌*◌, ◌≤◌, List, [], ◌∷◌, length, Some, refl, arith, length-append}
use Rattle.std.specs.Prelude.{replicate}
use Rattle.std.specs.List.{AllByRecursion}
use Rattle.serde_json.specs.Written.{compact_text}
use Rattle.base64.specs.Engines.{standard}
use Rattle.base64.specs.GeneralPurpose.{encode_of, engine_symbols}
use Rattle.base64.specs.Rfc4648.{encode_symbols, padding_len}
use Rattle.base64.proofs.RoundTrip.{length-encode_symbols}
use Rattle.sb_json.specs.declared.fields.Field.TheVariants as field
use Rattle.sb_members.specs.Parts.{Parts}
use Rattle.sb_members.specs.Writing.{bytes_written, duration_written, list_written}
use Rattle.hash_messages.specs.declared.response.Match.{Match}
use Rattle.hash_messages.specs.declared.response.FindResponse.{FindResponse}
use Rattle.hash_messages.specs.Writing as spec
use Rattle.both_ends_laws.proofs.Sparse.{IsSparse}
use Rattle.both_ends_laws.proofs.Costs.{Costs, string_costs, object_costs, cheaper, alike_cost, sparse, total}
use Rattle.both_ends_laws.proofs.Fields.{bytes_costs, duration_costs}
use Rattle.both_ends_laws.proofs.Texts.{bytes_there, part_at_least, object_length, list_length, string_length}

abbrev hash_parts : List ℕ → Parts
hash_parts hash = (field.ThreatHash, bytes_written hash) ∷ []

abbrev match_parts : Match → Parts
match_parts found =
    (field.CacheDuration, duration_written found.cache)
    ∷ (field.PlatformType, Some (spec.platform_written found.name.platform))
    ∷ (field.Threat, Some (spec.hash_written found.hash.bytes))
    ∷ (field.ThreatEntryType, Some (spec.entry_written found.name.entry))
    ∷ (field.ThreatType, Some (spec.threat_written found.name.threat)) ∷ []

abbrev response_parts : FindResponse → Parts
response_parts m =
    (field.Matches, list_written spec.match_written m.matches)
    ∷ (field.MinimumWaitDuration, duration_written m.wait)
    ∷ (field.NegativeCacheDuration, duration_written m.negative) ∷ []

-- ---- what they have

hash_costs : (hash : List ℕ) → Costs 1 3 (spec.hash_written hash)
hash_costs hash = object_costs ((0, 0) ∷ []) (hash_parts hash) (bytes_costs hash, tt)

match_costs : (found : Match) → Costs 2 14 (spec.match_written found)
match_costs found =
    object_costs ((0, 0) ∷ (0, 0) ∷ (1, 3) ∷ (0, 0) ∷ (0, 0) ∷ []) (match_parts found)
    (duration_costs found.cache, (string_costs _, (hash_costs found.hash.bytes, (string_costs _, (string_costs _, tt)))))

response_costs : (m : FindResponse) → Costs (2 + 2 * length m.matches) (8 + 15 * length m.matches) (spec.find_response_written m)
response_costs m =
    cheaper _ _ _ _ (spec.find_response_written m) (omega arith) (omega arith)
    (object_costs ((1 + 2 * length m.matches, 1 + 15 * length m.matches) ∷ (0, 0) ∷ (0, 0) ∷ []) (response_parts m)
    (alike_cost spec.match_written 2 14 match_costs m.matches, (duration_costs m.wait, (duration_costs m.negative, tt))))

-- ---- how long they are

-- 32 bytes are written as 44 letters
encoded_length : (bytes : List ℕ) → length bytes ≡ 32 → 43 ≤ length (encode_of standard bytes)
encoded_length bytes h =
    omega (
      arith,
      h,
      length-append (encode_symbols (engine_symbols standard) bytes) (replicate (padding_len (length bytes)) 61),
      length-encode_symbols (engine_symbols standard) bytes,
    )

hash_bytes : (hash : List ℕ) → length hash ≡ 32 → 45 ≤ bytes_there (bytes_written hash)
hash_bytes [] h = absurd (omega (arith, h))
hash_bytes (b ∷ bs) h = omega (arith, encoded_length (b ∷ bs) h, string_length (encode_of standard (b ∷ bs)))

hash_length : (hash : List ℕ) → length hash ≡ 32 → 46 ≤ length (compact_text (spec.hash_written hash))
hash_length hash h = omega (arith, hash_bytes hash h, object_length (hash_parts hash) refl, part_at_least field.ThreatHash (bytes_written hash))

-- a match, with the comma behind it
match_length : (found : Match) → length found.hash.bytes ≡ 32 → 96 ≤ 1 + length (compact_text (spec.match_written found))
match_length found h = omega (arith, object_length (match_parts found) refl, hash_length found.hash.bytes h)

matches_length : (found : List Match) → AllByRecursion (λ one. length one.hash.bytes ≡ 32) found
    → 96 * length found ≤ total (λ one. 1 + length (compact_text (spec.match_written one))) found
matches_length [] h = omega arith
matches_length (one ∷ found) h = omega (arith, match_length one h.0, matches_length found h.1)

response_length : (m : FindResponse) → AllByRecursion (λ one. length one.hash.bytes ≡ 32) m.matches
    → 96 * length m.matches ≤ length (compact_text (spec.find_response_written m))
response_length m h =
    omega (
      arith,
      matches_length m.matches h,
      list_length spec.match_written m.matches,
      part_at_least field.Matches (list_written spec.match_written m.matches),
      object_length (response_parts m) refl,
    )

pub answers_sparse : (m : FindResponse) → AllByRecursion (λ one. length one.hash.bytes ≡ 32) m.matches
    → IsSparse (spec.find_response_written m)
answers_sparse m h =
    sparse (2 + 2 * length m.matches) (8 + 15 * length m.matches) (spec.find_response_written m) (response_costs m)
    (omega (arith, response_length m h)) (omega (arith, response_length m h))
