-- What a fetch response has at most, and how long its places are at least.
use Rattle.std.proofs.Common.{◌≡◌, ℕ, ◌+◌, ◌*◌, ◌≤◌, true, List, [], ◌∷◌, length, Some, refl, arith}
use Rattle.std.specs.Prelude.{codes}
use Rattle.std.specs.List.{AllByRecursion}
use Rattle.serde_json.specs.Data.{Data, string, number, unsigned}
use Rattle.serde_json.specs.Written.{compact_text}
use Rattle.sb_json.specs.declared.fields.Field.{Field}
use Rattle.sb_json.specs.declared.fields.Field.TheVariants as field
use Rattle.sb_model.specs.Names.{threat_word, platform_word, entry_word}
use Rattle.sb_members.specs.Parts.{Parts}
use Rattle.sb_members.specs.Writing.{bytes_written, number_written, long_written, duration_written, list_written}
use Rattle.rice_coding.specs.declared.record.RiceRecord.{RiceRecord}
use Rattle.update_messages.specs.declared.sets.Additions.{Additions}
use Rattle.update_messages.specs.declared.sets.Additions.TheVariants as added
use Rattle.update_messages.specs.declared.sets.Removals.{Removals}
use Rattle.update_messages.specs.declared.sets.Removals.TheVariants as removed
use Rattle.update_messages.specs.declared.response.FetchResponse.{FetchResponse}
use Rattle.update_messages.specs.Messages.{UpdatedList}
use Rattle.update_messages.specs.Writing as spec
use Rattle.both_ends_laws.proofs.Sparse.{IsSparse}
use Rattle.both_ends_laws.proofs.Costs.{Costs, string_costs, MayCost, object_costs, cheaper, cost_less, alike_cost, list_costs, each, sparse, total, total_constant}
use Rattle.both_ends_laws.proofs.Fields.{bytes_costs, number_costs, long_costs, duration_costs, unsigned_costs}
use Rattle.both_ends_laws.proofs.Texts.{part_at_least, is_in_order, object_length, list_length}
use Rattle.both_ends_laws.proofs.PlaceTexts.{RisesFrom, rising_length}

abbrev rice_parts : RiceRecord → Parts
rice_parts r =
    (field.EncodedData, bytes_written r.coded)
    ∷ (field.FirstValue, long_written r.first)
    ∷ (field.NumEntries, number_written r.count)
    ∷ (field.RiceParameter, number_written r.parameter) ∷ []

abbrev hashes_parts : ℕ → List ℕ → Parts
hashes_parts size bytes = (field.PrefixSize, number_written size) ∷ (field.RawHashBytes, bytes_written bytes) ∷ []

abbrev set_parts : List ℕ → Field → Data → Parts
set_parts word name value = (field.CompressionType, Some (string word)) ∷ (name, Some value) ∷ []

abbrev number_value : ℕ → Data
number_value n = number (unsigned n)

abbrev indices_parts : List ℕ → Parts
indices_parts places = (field.Indices, list_written number_value places) ∷ []

abbrev checksum_parts : List ℕ → Parts
checksum_parts digest = (field.Sha256, bytes_written digest) ∷ []

abbrev update_parts : UpdatedList → Parts
update_parts u =
    (field.Additions, list_written spec.addition_written u.additions)
    ∷ (field.BaseState, bytes_written u.base)
    ∷ (field.Checksum, Some (spec.checksum_written u.checksum))
    ∷ (field.NewClientState, bytes_written u.new_state)
    ∷ (field.PlatformType, Some (string (platform_word u.name.platform)))
    ∷ (field.Removals, list_written spec.removal_written u.removals)
    ∷ (field.ResponseType, Some (string (spec.response_type_word u.full)))
    ∷ (field.ThreatEntryType, Some (string (entry_word u.name.entry)))
    ∷ (field.ThreatType, Some (string (threat_word u.name.threat))) ∷ []

abbrev response_parts : FetchResponse → Parts
response_parts m = (field.ListUpdateResponses, list_written spec.update_written m.items) ∷ (field.MinimumWaitDuration, duration_written m.wait) ∷ []

-- ---- what sets have

rice_costs : (r : RiceRecord) → Costs 1 9 (spec.rice_written r)
rice_costs r =
    object_costs ((0, 0) ∷ (0, 0) ∷ (0, 0) ∷ (0, 0) ∷ []) (rice_parts r)
    (bytes_costs r.coded, (long_costs r.first, (number_costs r.count, (number_costs r.parameter, tt))))

hashes_costs : (size : ℕ) (bytes : List ℕ) → Costs 1 5 (spec.hashes_written size bytes)
hashes_costs size bytes = object_costs ((0, 0) ∷ (0, 0) ∷ []) (hashes_parts size bytes) (number_costs size, (bytes_costs bytes, tt))

set_costs : (word : List ℕ) (name : Field) (o v : ℕ) (d : Data) → Costs o v d → Costs (1 + o) (5 + v) (spec.set_written word name d)
set_costs word name o v d h =
    cheaper _ _ _ _ (spec.set_written word name d) (omega arith) (omega arith)
    (object_costs ((0, 0) ∷ (o, v) ∷ []) (set_parts word name d) (string_costs word, (h, tt)))

addition_costs : (a : Additions) → Costs 2 14 (spec.addition_written a)
addition_costs (added.Raw size bytes) =
    cheaper 2 10 2 14 (spec.addition_written (added.Raw size bytes)) (omega arith) (omega arith)
    (set_costs (codes "RAW") field.RawHashes 1 5 (spec.hashes_written size bytes) (hashes_costs size bytes))
addition_costs (added.Rice r) = set_costs (codes "RICE") field.RiceHashes 1 9 (spec.rice_written r) (rice_costs r)

-- the places of a set that is not compressed
abbrev pub places_of : Removals → List ℕ
places_of (removed.Raw places) = places
places_of (removed.Rice rice) = []

abbrev pub place_count : Removals → ℕ
place_count set = length (places_of set)

indices_costs : (places : List ℕ) → Costs 2 (4 + length places) (spec.indices_written places)
indices_costs places =
    cheaper _ _ 2 (4 + length places) (spec.indices_written places) (omega arith) (omega arith)
    (object_costs ((1 + 0 * length places, 1 + 1 * length places) ∷ []) (indices_parts places) (alike_cost number_value 0 0 unsigned_costs places, tt))

removal_costs : (set : Removals) → Costs 3 (14 + place_count set) (spec.removal_written set)
removal_costs (removed.Raw places) =
    cheaper _ _ 3 (14 + length places) (spec.removal_written (removed.Raw places)) (omega arith) (omega arith)
    (set_costs (codes "RAW") field.RawIndices 2 (4 + length places) (spec.indices_written places) (indices_costs places))
removal_costs (removed.Rice r) =
    cheaper 2 14 3 14 (spec.removal_written (removed.Rice r)) (omega arith) (omega arith)
    (set_costs (codes "RICE") field.RiceIndices 1 9 (spec.rice_written r) (rice_costs r))

-- ---- updates that have few sets

pub record HasFewSets (u : UpdatedList) : Type 0 where
  pub additions : length u.additions ≤ 29
  pub removals : length u.removals ≤ 1
  pub rise : AllByRecursion (λ set. RisesFrom 0 (places_of set)) u.removals

abbrev all_places : UpdatedList → ℕ
all_places u = total place_count u.removals

removals_add : (sets : List Removals) → total (λ set. 1 + (14 + place_count set)) sets ≡ 15 * length sets + total place_count sets
removals_add [] = refl
removals_add (set ∷ sets) = omega (arith, removals_add sets)

removals_cost : (sets : List Removals) → length sets ≤ 1 → MayCost 4 (16 + total place_count sets) (list_written spec.removal_written sets)
removals_cost sets few =
    cost_less _ _ _ _ (list_written spec.removal_written sets) (omega (arith, few, total_constant 3 sets)) (omega (arith, few, removals_add sets))
    (list_costs spec.removal_written (λ (set : Removals). 3) (λ (set : Removals). 14 + place_count set) sets
    (each (λ (set : Removals). Costs 3 (14 + place_count set) (spec.removal_written set)) removal_costs sets))

additions_cost : (sets : List Additions) → length sets ≤ 29 → MayCost 59 436 (list_written spec.addition_written sets)
additions_cost sets few =
    cost_less _ _ 59 436 (list_written spec.addition_written sets) (omega (arith, few)) (omega (arith, few)) (alike_cost spec.addition_written 2 14 addition_costs sets)

checksum_costs : (digest : List ℕ) → Costs 1 3 (spec.checksum_written digest)
checksum_costs digest = object_costs ((0, 0) ∷ []) (checksum_parts digest) (bytes_costs digest, tt)

update_costs : (u : UpdatedList) → HasFewSets u → Costs 65 (480 + all_places u) (spec.update_written u)
update_costs u few =
    cheaper _ _ 65 (480 + all_places u) (spec.update_written u) (omega arith) (omega arith)
    (object_costs
    ((59, 436) ∷ (0, 0) ∷ (1, 3) ∷ (0, 0) ∷ (0, 0) ∷ (4, 16 + all_places u) ∷ (0, 0) ∷ (0, 0) ∷ (0, 0) ∷ [])
    (update_parts u) (
      additions_cost u.additions few.additions,
      (
        bytes_costs u.base,
        (
          checksum_costs u.checksum,
          (
            bytes_costs u.new_state,
            (string_costs _, (removals_cost u.removals few.removals, (string_costs _, (string_costs _, (string_costs _, tt))))),
          ),
        ),
      ),
    ))

-- ---- how long they are

indices_length : (places : List ℕ) → RisesFrom 0 places → 6 * length places ≤ length (compact_text (spec.indices_written places)) + 40000
indices_length places h =
    omega (
      arith,
      rising_length 0 places h,
      list_length number_value places,
      part_at_least field.Indices (list_written number_value places),
      object_length (indices_parts places) refl,
    )

set_length : (word : List ℕ) (name : Field) (d : Data) → is_in_order (set_parts word name d) ≡ true
    → length (compact_text d) ≤ length (compact_text (spec.set_written word name d))
set_length word name d h = omega (arith, object_length (set_parts word name d) h)

removal_length : (set : Removals) → RisesFrom 0 (places_of set)
    → 6 * place_count set ≤ length (compact_text (spec.removal_written set)) + 40000
removal_length (removed.Raw places) h =
    omega (arith, indices_length places h, set_length (codes "RAW") field.RawIndices (spec.indices_written places) refl)
removal_length (removed.Rice r) h = omega arith

removals_length : (sets : List Removals) → length sets ≤ 1 → AllByRecursion (λ set. RisesFrom 0 (places_of set)) sets
    → 6 * total place_count sets ≤ total (λ set. 1 + length (compact_text (spec.removal_written set))) sets + 40000
removals_length [] few h = omega arith
removals_length (set ∷ []) few h = omega (arith, removal_length set h.0)
removals_length (set ∷ other ∷ sets) few h = absurd (omega (arith, few))

update_length : (u : UpdatedList) → HasFewSets u → 6 * all_places u ≤ length (compact_text (spec.update_written u)) + 40000
update_length u few =
    omega (
      arith,
      removals_length u.removals few.removals few.rise,
      list_length spec.removal_written u.removals,
      part_at_least field.Removals (list_written spec.removal_written u.removals),
      object_length (update_parts u) refl,
    )

-- ---- the response

updates_cost : (us : List UpdatedList) → AllByRecursion HasFewSets us
    → AllByRecursion (λ u. Costs 65 (480 + all_places u) (spec.update_written u)) us
updates_cost [] h = tt
updates_cost (u ∷ us) h = (update_costs u h.0, updates_cost us h.1)

updates_length : (us : List UpdatedList) → AllByRecursion HasFewSets us
    → 6 * total (λ u. 1 + (480 + all_places u)) us ≤ total (λ u. 1 + length (compact_text (spec.update_written u))) us + 42885 * length us
updates_length [] h = omega arith
updates_length (u ∷ us) h = omega (arith, update_length u h.0, updates_length us h.1)

response_costs : (m : FetchResponse) → AllByRecursion HasFewSets m.items
    → Costs (2 + 65 * length m.items) (6 + total (λ u. 1 + (480 + all_places u)) m.items) (spec.response_written m)
response_costs m h =
    cheaper _ _ _ _ (spec.response_written m) (omega (arith, total_constant 65 m.items)) (omega arith)
    (object_costs ((1 + total (λ (u : UpdatedList). 65) m.items, 1 + total (λ u. 1 + (480 + all_places u)) m.items) ∷ (0, 0) ∷ []) (response_parts m) (
      list_costs spec.update_written (λ (u : UpdatedList). 65) (λ (u : UpdatedList). 480 + all_places u) m.items (updates_cost m.items h),
      (duration_costs m.wait, tt),
    ))

response_length : (m : FetchResponse)
    → total (λ u. 1 + length (compact_text (spec.update_written u))) m.items ≤ length (compact_text (spec.response_written m))
response_length m =
    omega (
      arith,
      list_length spec.update_written m.items,
      part_at_least field.ListUpdateResponses (list_written spec.update_written m.items),
      object_length (response_parts m) refl,
    )

pub responses_sparse : (m : FetchResponse) → length m.items ≤ 8 → AllByRecursion HasFewSets m.items → IsSparse (spec.response_written m)
responses_sparse m few h =
    sparse (2 + 65 * length m.items) (6 + total (λ u. 1 + (480 + all_places u)) m.items) (spec.response_written m) (response_costs m h)
    (omega (arith, few)) (omega (arith, few, updates_length m.items h, response_length m))
