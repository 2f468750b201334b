-- What a look-up request has at most, and how long its words are at least.
use Rattle.std.proofs.Common.{ℕ, ◌+◌, ◌*◌, ◌≤◌, List, [], ◌∷◌, length, Some, refl, arith, encode_utf8_all}
use Rattle.serde_json.specs.Data.{Data, string}
use Rattle.serde_json.specs.Written.{compact_text}
use Rattle.sb_json.specs.declared.fields.Field.TheVariants as field
use Rattle.sb_model.specs.declared.names.ThreatType.{ThreatType}
use Rattle.sb_model.specs.declared.names.ThreatType.TheVariants as threat
use Rattle.sb_model.specs.declared.names.PlatformType.{PlatformType}
use Rattle.sb_model.specs.declared.names.PlatformType.TheVariants as platform
use Rattle.sb_model.specs.declared.names.EntryType.{EntryType}
use Rattle.sb_model.specs.declared.names.EntryType.TheVariants as entry
use Rattle.sb_model.specs.Names.{threat_word, platform_word, entry_word}
use Rattle.sb_members.specs.Parts.{Parts}
use Rattle.sb_members.specs.Writing.{list_written, unless_bare}
use Rattle.update_messages.specs.Writing.{client_members}
use Rattle.hash_messages.specs.Writing.{threat_written, platform_written, entry_written}
use Rattle.lookup_messages.specs.Messages.{AskedUrls}
use Rattle.lookup_messages.specs.Writing as spec
use Rattle.both_ends_laws.proofs.Sparse.{IsSparse}
use Rattle.both_ends_laws.proofs.Costs.{Costs, string_costs, object_costs, cheaper, alike_cost, sparse, total}
use Rattle.both_ends_laws.proofs.Fields.{client_costs}
use Rattle.both_ends_laws.proofs.Texts.{bytes_there, part_at_least, object_length, list_length, string_length}

abbrev pub url_parts : List ℕ → Parts
url_parts url = (field.Url, Some (string (encode_utf8_all url))) ∷ []

abbrev info_parts : AskedUrls → Parts
info_parts m =
    (field.PlatformTypes, list_written platform_written m.platforms)
    ∷ (field.ThreatEntries, list_written spec.url_written m.urls)
    ∷ (field.ThreatEntryTypes, list_written entry_written m.entries)
    ∷ (field.ThreatTypes, list_written threat_written m.threats) ∷ []

abbrev lookup_parts : AskedUrls → Parts
lookup_parts m = (field.Client, unless_bare (client_members m.client)) ∷ (field.ThreatInfo, Some (spec.lookup_info_written m)) ∷ []

-- ---- what it has

pub url_costs : (url : List ℕ) → Costs 1 3 (spec.url_written url)
url_costs url = object_costs ((0, 0) ∷ []) (url_parts url) (string_costs _, tt)

-- how many types are asked
abbrev type_count : AskedUrls → ℕ
type_count m = length m.platforms + (length m.entries + length m.threats)

info_costs : (m : AskedUrls) → Costs (5 + length m.urls) (13 + 4 * length m.urls + type_count m) (spec.lookup_info_written m)
info_costs m =
    cheaper _ _ _ _ (spec.lookup_info_written m) (omega arith) (omega arith)
    (object_costs (
    (1 + 0 * length m.platforms, 1 + 1 * length m.platforms)
    ∷ (1 + 1 * length m.urls, 1 + 4 * length m.urls)
    ∷ (1 + 0 * length m.entries, 1 + 1 * length m.entries)
    ∷ (1 + 0 * length m.threats, 1 + 1 * length m.threats) ∷ []
    ) (info_parts m) (
      alike_cost platform_written 0 0 (λ p. string_costs _) m.platforms,
      (
        alike_cost spec.url_written 1 3 url_costs m.urls,
        (alike_cost entry_written 0 0 (λ e. string_costs _) m.entries, (alike_cost threat_written 0 0 (λ t. string_costs _) m.threats, tt)),
      ),
    ))

lookup_costs : (m : AskedUrls) → Costs (7 + length m.urls) (23 + 4 * length m.urls + type_count m) (spec.lookup_written m)
lookup_costs m =
    cheaper _ _ _ _ (spec.lookup_written m) (omega arith) (omega arith)
    (object_costs ((1, 5) ∷ (5 + length m.urls, 13 + 4 * length m.urls + type_count m) ∷ []) (lookup_parts m) (client_costs m.client, (info_costs m, tt)))

-- ---- how long its words are

threat_length : (t : ThreatType) → 3 ≤ length (threat_word t)
threat_length threat.Malware = omega arith
threat_length threat.SocialEngineering = omega arith
threat_length threat.UnwantedSoftware = omega arith
threat_length threat.PotentiallyHarmfulApplication = omega arith

platform_length : (p : PlatformType) → 3 ≤ length (platform_word p)
platform_length platform.Windows = omega arith
platform_length platform.Linux = omega arith
platform_length platform.Android = omega arith
platform_length platform.Osx = omega arith
platform_length platform.Ios = omega arith
platform_length platform.AnyPlatform = omega arith
platform_length platform.AllPlatforms = omega arith
platform_length platform.Chrome = omega arith

entry_length : (e : EntryType) → 3 ≤ length (entry_word e)
entry_length entry.Url = omega arith
entry_length entry.Executable = omega arith

pub threat_written_length : (t : ThreatType) → 5 ≤ length (compact_text (threat_written t))
threat_written_length t = omega (arith, string_length (threat_word t), threat_length t)

pub platform_written_length : (p : PlatformType) → 5 ≤ length (compact_text (platform_written p))
platform_written_length p = omega (arith, string_length (platform_word p), platform_length p)

pub entry_written_length : (e : EntryType) → 5 ≤ length (compact_text (entry_written e))
entry_written_length e = omega (arith, string_length (entry_word e), entry_length e)

-- items of 5 bytes or more, each with its comma
words_total : {A : Type 0} (write : A → Data) → ((x : A) → 5 ≤ length (compact_text (write x))) → (xs : List A) → 6 * length xs ≤ total (λ x. 1 + length (compact_text (write x))) xs
words_total write long [] = omega arith
words_total write long (x ∷ xs) = omega (arith, long x, words_total write long xs)

words_length : {A : Type 0} (write : A → Data) → ((x : A) → 5 ≤ length (compact_text (write x))) → (xs : List A) → 6 * length xs ≤ bytes_there (list_written write xs)
words_length write long xs = omega (arith, words_total write long xs, list_length write xs)

info_length : (m : AskedUrls) → 6 * type_count m ≤ length (compact_text (spec.lookup_info_written m))
info_length m =
    omega (
      arith,
      object_length (info_parts m) refl,
      part_at_least field.PlatformTypes (list_written platform_written m.platforms),
      words_length platform_written platform_written_length m.platforms,
      part_at_least field.ThreatEntryTypes (list_written entry_written m.entries),
      words_length entry_written entry_written_length m.entries,
      part_at_least field.ThreatTypes (list_written threat_written m.threats),
      words_length threat_written threat_written_length m.threats,
    )

lookup_length : (m : AskedUrls) → 6 * type_count m ≤ length (compact_text (spec.lookup_written m))
lookup_length m = omega (arith, object_length (lookup_parts m) refl, info_length m)

pub lookups_sparse : (m : AskedUrls) → length m.urls ≤ 500 → IsSparse (spec.lookup_written m)
lookups_sparse m few =
    sparse (7 + length m.urls) (23 + 4 * length m.urls + type_count m) (spec.lookup_written m) (lookup_costs m)
    (omega (arith, few)) (omega (arith, few, lookup_length m))
