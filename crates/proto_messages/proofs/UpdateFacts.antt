-- What is written of an answer to a fetch is read again.
use Rattle.std.proofs.Common.{◌≡◌, ◌↔◌, ℕ, ◌^◌, ◌<◌, ◌≤◌, Bool, true, false, nat_eq, List, [], ◌∷◌, ◌++◌, length, map, All, None, Result, Ok, refl, ap, ◌∙◌, arith}
use Rattle.std.proofs.lemmas.List.{append-nil}
use Rattle.std.proofs.lemmas.List.Elements.{All-nil, All-cons, All-head, All-tail}
use Rattle.proto_wire.specs.Wire.{WireValue, VarintValue, BytesValue, WireField, bytes_field, IsVarintOf, ReadsVarints}
use Rattle.proto_wire.specs.Spelling.{shortest_varint, written_fields, AreWritable}
use Rattle.proto_wire.specs.Reading.{WireReading, packed_varints}
use Rattle.sb_json.specs.Values.{◌>>=◌}
use Rattle.sb_json.specs.declared.fields.Field.{Field}
use Rattle.sb_json.specs.declared.fields.Field.TheVariants as field
use Rattle.sb_model.specs.declared.names.ThreatType.{ThreatType}
use Rattle.sb_model.specs.declared.names.ThreatType.TheVariants as threat
use Rattle.sb_model.specs.Names.{threat_code, platform_code, entry_code}
use Rattle.rice_coding.specs.declared.record.RiceRecord.{RiceRecord}
use Rattle.update_messages.specs.declared.sets.Additions.{Additions}
use Rattle.update_messages.specs.declared.sets.Additions.TheVariants as added
use Rattle.update_messages.specs.declared.sets.Removals.{Removals}
use Rattle.update_messages.specs.declared.sets.Removals.TheVariants as removed
use Rattle.update_messages.specs.declared.response.FetchResponse.{FetchResponse}
use Rattle.update_messages.specs.Messages.{UpdatedList, IsUpdatedList, IsRiceSet, IsAddition, IsRemoval}
use Rattle.proto_messages.specs.declared.fault.PartFault.{PartFault}
use Rattle.proto_messages.specs.Fields.{field_values_at, message_of, bytes_in_field, whole, after, each, last_value_of, number_row, bytes_row, numbers_row, message_row}
use Rattle.proto_messages.specs.Writing as write
use Rattle.proto_messages.specs.FetchAnswers.{ToldUpdate, rice_told, raw_told, addition_told, removal_told, full_by_number, update_told, fetch_told, TellsFetch, told_additions, told_update, told_updates, told_fetch, CanBeToldWith}
use Rattle.proto_messages.specs.Answers.{duration_row}
use Rattle.proto_messages.proofs.AnswerFacts.{IsReadAgain, AreLow, writable, fields_again, writable_left, writable_right, low_both, values_both, number_is, bytes_is, message_is, duration_read, no_duration, low_duration, low_platform, low_entry}

-- What the laws of the wire form say of packed numbers that are written.
pub record ArePackedAgain : Type 0 where
  pub spelled : (number : ℕ) → number < 2 ^ 64 → IsVarintOf (shortest_varint number) number
  pub read : (text numbers : List ℕ) → (packed_varints text ≡ record { items = numbers; fault = None }) ↔ ReadsVarints text numbers

-- ---- places
abbrev IsPlace : ℕ → Type 0
IsPlace place = place ≤ 2147483647

places_spelled : ArePackedAgain → (places : List ℕ) → All (λ place. place ≤ 2147483647) places → ReadsVarints (write.packed_varint_bytes places) places
places_spelled law [] low = refl
places_spelled law (place ∷ places) low =
    let few : place ≤ 2147483647 = All-head IsPlace place places low in
    (shortest_varint place, write.packed_varint_bytes places, refl, law.spelled place (omega (arith, few)), places_spelled law places (All-tail IsPlace place places low))

places_read : ArePackedAgain → (places : List ℕ) → All (λ place. place ≤ 2147483647) places
    → numbers_row field.Indices 1 (write.indices_fields places) ≡ Ok places
unfolding numbers_row
places_read law places low =
    ap (λ (r : WireReading ℕ). whole field.Indices r.items r.fault >>= λ list. after list (Ok []))
    ((law.read (write.packed_varint_bytes places) places).1 (places_spelled law places low))
    ∙ ap (λ (l : List ℕ). Ok l) (append-nil places)

-- ---- Rice records, and prefixes of one size
rice_read : (rice : RiceRecord) → rice_told (write.rice_fields rice) ≡ Ok rice
unfolding rice_told
rice_read rice =
    let fields = write.rice_fields rice in
    let one : number_row field.FirstValue 1 fields ≡ Ok rice.first = number_is field.FirstValue 1 rice.first fields refl in
    let two : number_row field.RiceParameter 2 fields ≡ Ok rice.parameter = number_is field.RiceParameter 2 rice.parameter fields refl in
    let three : number_row field.NumEntries 3 fields ≡ Ok rice.count = number_is field.NumEntries 3 rice.count fields refl in
    let four : bytes_row field.EncodedData 4 fields ≡ Ok rice.coded = bytes_is field.EncodedData 4 rice.coded fields refl in
    rw (one, two, three, four) refl

low_rice : (rice : RiceRecord) → IsRiceSet rice → AreLow (write.rice_fields rice)
low_rice rice is = (
  ((omega arith, omega arith), omega (arith, is.first)),
  (((omega arith, omega arith), omega (arith, is.parameter)), (((omega arith, omega arith), omega (arith, is.count)), (((omega arith, omega arith), tt), tt))),
)

no_bytes : (name : Field) (number : ℕ) (fields : List WireField) → field_values_at number fields ≡ [] → bytes_row name number fields ≡ Ok []
unfolding bytes_row
no_bytes name number fields is = ap (last_value_of (bytes_in_field name) []) is

raw_read : (size : ℕ) (bytes : List ℕ) → raw_told (write.raw_fields size bytes) ≡ Ok (added.Raw size bytes)
unfolding raw_told
raw_read size [] =
    rw (number_is field.PrefixSize 1 size (write.raw_fields size []) refl, no_bytes field.RawHashBytes 2 (write.raw_fields size []) refl) refl
raw_read size (byte ∷ bytes) =
    let fields = write.raw_fields size (byte ∷ bytes) in
    rw (number_is field.PrefixSize 1 size fields refl, bytes_is field.RawHashBytes 2 (byte ∷ bytes) fields refl) refl

low_raw : (size : ℕ) (bytes : List ℕ) → size ≤ 32 → AreLow (write.raw_fields size bytes)
low_raw size [] few = (((omega arith, omega arith), omega (arith, few)), tt)
low_raw size (byte ∷ bytes) few = (((omega arith, omega arith), omega (arith, few)), (((omega arith, omega arith), tt), tt))

-- ---- sets
low_addition : (set : Additions) → AreLow (write.addition_fields set)
low_addition (added.Raw size bytes) = (((omega arith, omega arith), omega arith), (((omega arith, omega arith), tt), tt))
low_addition (added.Rice rice) = (((omega arith, omega arith), omega arith), (((omega arith, omega arith), tt), tt))

low_removal : (set : Removals) → AreLow (write.removal_fields set)
low_removal (removed.Raw places) = (((omega arith, omega arith), omega arith), (((omega arith, omega arith), tt), tt))
low_removal (removed.Rice rice) = (((omega arith, omega arith), omega arith), (((omega arith, omega arith), tt), tt))

addition_read : IsReadAgain → (set : Additions) → IsAddition set → AreWritable (write.addition_fields set) → addition_told (write.addition_fields set) ≡ Ok set
unfolding addition_told
addition_read law (added.Raw size bytes) is fits =
    let fields = write.addition_fields (added.Raw size bytes) in
    let one : number_row field.CompressionType 1 fields ≡ Ok 1 = number_is field.CompressionType 1 1 fields refl in
    let two : message_row field.RawHashes 2 fields ≡ Ok (write.raw_fields size bytes) =
    message_is law field.RawHashes 2 (write.raw_fields size bytes) fields refl (low_raw size bytes is.high) fits.1.0.1 in
    rw (one, two, raw_read size bytes) refl
addition_read law (added.Rice rice) is fits =
    let fields = write.addition_fields (added.Rice rice) in
    let one : number_row field.CompressionType 1 fields ≡ Ok 2 = number_is field.CompressionType 1 2 fields refl in
    let four : message_row field.RiceHashes 4 fields ≡ Ok (write.rice_fields rice) =
    message_is law field.RiceHashes 4 (write.rice_fields rice) fields refl (low_rice rice is) fits.1.0.1 in
    rw (one, four, rice_read rice) refl

removal_read : IsReadAgain → ArePackedAgain → (set : Removals) → IsRemoval set → AreWritable (write.removal_fields set)
    → removal_told (write.removal_fields set) ≡ Ok set
unfolding removal_told
removal_read law packed (removed.Raw places) is fits =
    let fields = write.removal_fields (removed.Raw places) in
    let one : number_row field.CompressionType 1 fields ≡ Ok 1 = number_is field.CompressionType 1 1 fields refl in
    let three : message_row field.RawIndices 3 fields ≡ Ok (write.indices_fields places) =
    message_is law field.RawIndices 3 (write.indices_fields places) fields refl (((omega arith, omega arith), tt), tt) fits.1.0.1 in
    rw (one, three, places_read packed places is) refl
removal_read law packed (removed.Rice rice) is fits =
    let fields = write.removal_fields (removed.Rice rice) in
    let one : number_row field.CompressionType 1 fields ≡ Ok 2 = number_is field.CompressionType 1 2 fields refl in
    let five : message_row field.RiceIndices 5 fields ≡ Ok (write.rice_fields rice) =
    message_is law field.RiceIndices 5 (write.rice_fields rice) fields refl (low_rice rice is) fits.1.0.1 in
    rw (one, five, rice_read rice) refl

-- the sets of an update, in their order
addition_in : IsReadAgain → (set : Additions) → IsAddition set → length (written_fields (write.addition_fields set)) < 2 ^ 64
    → (message_of field.Additions (BytesValue (written_fields (write.addition_fields set))) >>= addition_told) ≡ Ok set
addition_in law set is few =
    ap (λ (r : Result (List WireField) PartFault). r >>= addition_told) (fields_again law field.Additions (write.addition_fields set) (low_addition set) few)
    ∙ addition_read law set is (writable (write.addition_fields set) (low_addition set) few)

additions_read : IsReadAgain → (sets : List Additions) → All IsAddition sets → AreWritable (map write.addition_field sets)
    → each (λ value. message_of field.Additions value >>= addition_told) (field_values_at 5 (map write.addition_field sets)) ≡ Ok sets
additions_read law [] are fits = refl
additions_read law (set ∷ sets) are fits =
    let head = addition_in law set (All-head IsAddition set sets are) fits.0.1 in
    let tail = additions_read law sets (All-tail IsAddition set sets are) fits.1 in
    ap (λ (r : Result Additions PartFault). r >>= λ a.
    each (λ value. message_of field.Additions value >>= addition_told) (field_values_at 5 (map write.addition_field sets)) >>= λ more. Ok (a ∷ more)) head
    ∙ ap (λ (r : Result (List Additions) PartFault). r >>= λ more. Ok (set ∷ more)) tail

removal_in : IsReadAgain → ArePackedAgain → (set : Removals) → IsRemoval set → length (written_fields (write.removal_fields set)) < 2 ^ 64
    → (message_of field.Removals (BytesValue (written_fields (write.removal_fields set))) >>= removal_told) ≡ Ok set
removal_in law packed set is few =
    ap (λ (r : Result (List WireField) PartFault). r >>= removal_told) (fields_again law field.Removals (write.removal_fields set) (low_removal set) few)
    ∙ removal_read law packed set is (writable (write.removal_fields set) (low_removal set) few)

removals_read : IsReadAgain → ArePackedAgain → (sets : List Removals) → All IsRemoval sets → AreWritable (map write.removal_field sets)
    → each (λ value. message_of field.Removals value >>= removal_told) (field_values_at 6 (map write.removal_field sets)) ≡ Ok sets
removals_read law packed [] are fits = refl
removals_read law packed (set ∷ sets) are fits =
    let head = removal_in law packed set (All-head IsRemoval set sets are) fits.0.1 in
    let tail = removals_read law packed sets (All-tail IsRemoval set sets are) fits.1 in
    ap (λ (r : Result Removals PartFault). r >>= λ a.
    each (λ value. message_of field.Removals value >>= removal_told) (field_values_at 6 (map write.removal_field sets)) >>= λ more. Ok (a ∷ more)) head
    ∙ ap (λ (r : Result (List Removals) PartFault). r >>= λ more. Ok (set ∷ more)) tail

sent_are : (full : Bool) (sets : List Additions) → All IsAddition sets → All IsAddition (write.sent_additions full sets)
sent_are true [] are = All-cons IsAddition (added.Raw 4 []) [] (record { low = omega arith; high = omega arith; whole = refl }) (All-nil IsAddition)
sent_are true (set ∷ sets) are = are
sent_are false sets are = are

sent_told : (full : Bool) (sets : List Additions) → write.sent_additions full sets ≡ told_additions full sets
sent_told true [] = refl
sent_told true (set ∷ sets) = refl
sent_told false sets = refl

-- ---- the fields of an update
no_additions : (number : ℕ) (sets : List Additions) → nat_eq 5 number ≡ false → field_values_at number (map write.addition_field sets) ≡ []
no_additions number [] differs = refl
no_additions number (set ∷ sets) differs = rw differs (no_additions number sets differs)

no_removals : (number : ℕ) (sets : List Removals) → nat_eq 6 number ≡ false → field_values_at number (map write.removal_field sets) ≡ []
no_removals number [] differs = refl
no_removals number (set ∷ sets) differs = rw differs (no_removals number sets differs)

low_additions : (sets : List Additions) → AreLow (map write.addition_field sets)
low_additions [] = tt
low_additions (set ∷ sets) = (((omega arith, omega arith), tt), low_additions sets)

low_removals : (sets : List Removals) → AreLow (map write.removal_field sets)
low_removals [] = tt
low_removals (set ∷ sets) = (((omega arith, omega arith), tt), low_removals sets)

-- the values behind the first four fields, by those of each kind of set and of the last fields
set_values : (number : ℕ) (update : UpdatedList) → field_values_at number (write.set_fields update ++ write.end_fields update)
    ≡ (field_values_at number (map write.addition_field (write.sent_additions update.full update.additions)) ++ field_values_at number (map write.removal_field update.removals))
    ++ field_values_at number (write.end_fields update)
set_values number update =
    let additions = map write.addition_field (write.sent_additions update.full update.additions) in
    let removals = map write.removal_field update.removals in
    values_both number (additions ++ removals) (write.end_fields update)
    ∙ ap (λ (l : List WireValue). l ++ field_values_at number (write.end_fields update)) (values_both number additions removals)

no_sets : (number : ℕ) (update : UpdatedList) → nat_eq 5 number ≡ false → nat_eq 6 number ≡ false
    → field_values_at number (write.set_fields update ++ write.end_fields update) ≡ field_values_at number (write.end_fields update)
no_sets number update five six =
    let sent = write.sent_additions update.full update.additions in
    set_values number update
    ∙ ap (λ (l : List WireValue). (l ++ field_values_at number (map write.removal_field update.removals)) ++ field_values_at number (write.end_fields update)) (no_additions number sent five)
    ∙ ap (λ (l : List WireValue). l ++ field_values_at number (write.end_fields update)) (no_removals number update.removals six)

response_low : (full : Bool) → write.response_number full < 2 ^ 64
response_low true = omega arith
response_low false = omega arith

full_read : (full : Bool) → full_by_number (write.response_number full) ≡ Ok full
full_read true = refl
full_read false = refl

low_update : (number : ℕ) (update : UpdatedList) → number < 2 ^ 64 → AreLow (write.update_fields number update)
low_update number update low = (
  ((omega arith, omega arith), low),
  (
    ((omega arith, omega arith), low_entry update.name.entry),
    (
      ((omega arith, omega arith), low_platform update.name.platform),
      (
        ((omega arith, omega arith), response_low update.full),
        low_both (write.set_fields update) (write.end_fields update)
            (low_both (map write.addition_field (write.sent_additions update.full update.additions)) (map write.removal_field update.removals)
            (low_additions (write.sent_additions update.full update.additions)) (low_removals update.removals))
            (((omega arith, omega arith), tt), (((omega arith, omega arith), tt), tt)),
      ),
    ),
  ),
)

-- the sets of an update are read again
sets_read : IsReadAgain → ArePackedAgain → (update : UpdatedList) → IsUpdatedList update → AreWritable (write.set_fields update)
    → (each (λ value. message_of field.Additions value >>= addition_told) (field_values_at 5 (write.set_fields update ++ write.end_fields update))
    ≡ Ok (told_additions update.full update.additions))
    × (each (λ value. message_of field.Removals value >>= removal_told) (field_values_at 6 (write.set_fields update ++ write.end_fields update)) ≡ Ok update.removals)
sets_read law packed update is fits =
    let sent = write.sent_additions update.full update.additions in
    let additions = map write.addition_field sent in
    let removals = map write.removal_field update.removals in (
      ap (each (λ value. message_of field.Additions value >>= addition_told))
          (set_values 5 update ∙ append-nil (field_values_at 5 additions ++ field_values_at 5 removals)
          ∙ ap (λ (l : List WireValue). field_values_at 5 additions ++ l) (no_removals 5 update.removals refl) ∙ append-nil (field_values_at 5 additions))
          ∙ additions_read law sent (sent_are update.full update.additions is.additions) (writable_left additions removals fits)
          ∙ ap (λ (l : List Additions). Ok l) (sent_told update.full update.additions),
      ap (each (λ value. message_of field.Removals value >>= removal_told))
          (set_values 6 update ∙ append-nil (field_values_at 6 additions ++ field_values_at 6 removals)
          ∙ ap (λ (l : List WireValue). l ++ field_values_at 6 removals) (no_additions 6 sent refl))
          ∙ removals_read law packed update.removals is.removals (writable_right additions removals fits),
    )

update_read : IsReadAgain → ArePackedAgain → (number : ℕ) (update : UpdatedList) → IsUpdatedList update → AreWritable (write.update_fields number update)
    → update_told (write.update_fields number update) ≡ Ok (told_update number update)
unfolding update_told
update_read law packed number update is fits =
    let fields = write.update_fields number update in
    let digest = bytes_field 1 update.checksum ∷ [] in
    let later = fits.1.1.1.1 in
    let sets = sets_read law packed update is (writable_left (write.set_fields update) (write.end_fields update) later) in
    let end = writable_right (write.set_fields update) (write.end_fields update) later in
    let one : number_row field.ThreatType 1 fields ≡ Ok number =
    number_is field.ThreatType 1 number fields (ap (λ (l : List WireValue). VarintValue number ∷ l) (no_sets 1 update refl refl)) in
    let two : number_row field.ThreatEntryType 2 fields ≡ Ok (entry_code update.name.entry) =
    number_is field.ThreatEntryType 2 (entry_code update.name.entry) fields (ap (λ (l : List WireValue). VarintValue (entry_code update.name.entry) ∷ l) (no_sets 2 update refl refl)) in
    let three : number_row field.PlatformType 3 fields ≡ Ok (platform_code update.name.platform) =
    number_is field.PlatformType 3 (platform_code update.name.platform) fields (ap (λ (l : List WireValue). VarintValue (platform_code update.name.platform) ∷ l) (no_sets 3 update refl refl)) in
    let four : number_row field.ResponseType 4 fields ≡ Ok (write.response_number update.full) =
    number_is field.ResponseType 4 (write.response_number update.full) fields (ap (λ (l : List WireValue). VarintValue (write.response_number update.full) ∷ l) (no_sets 4 update refl refl)) in
    let seven : bytes_row field.NewClientState 7 fields ≡ Ok update.new_state =
    bytes_is field.NewClientState 7 update.new_state fields (no_sets 7 update refl refl) in
    let eight : message_row field.Checksum 8 fields ≡ Ok digest =
    message_is law field.Checksum 8 digest fields (no_sets 8 update refl refl) (((omega arith, omega arith), tt), tt) end.1.0.1 in
    let sha : bytes_row field.Sha256 1 digest ≡ Ok update.checksum = bytes_is field.Sha256 1 update.checksum digest refl in
    rw (one, two, three, four, full_read update.full, sets.0, sets.1, seven, eight, sha) refl

-- ---- the updates of an answer
abbrev IsNumber : ℕ → Type 0
IsNumber number = number < 2 ^ 64

low_code : (t : ThreatType) → threat_code t < 2 ^ 64
low_code threat.Malware = omega arith
low_code threat.SocialEngineering = omega arith
low_code threat.UnwantedSoftware = omega arith
low_code threat.PotentiallyHarmfulApplication = omega arith

low_first : (threats : List ℕ) (update : UpdatedList) → All (λ threat. threat < 2 ^ 64) threats → write.first_number threats update < 2 ^ 64
low_first [] update low = low_code update.name.threat
low_first (number ∷ numbers) update low = All-head IsNumber number numbers low

low_later : (threats : List ℕ) → All (λ threat. threat < 2 ^ 64) threats → All (λ threat. threat < 2 ^ 64) (write.numbers_after_first threats)
low_later [] low = low
low_later (number ∷ numbers) low = All-tail IsNumber number numbers low

update_in : IsReadAgain → ArePackedAgain → (number : ℕ) (update : UpdatedList) → number < 2 ^ 64 → IsUpdatedList update
    → length (written_fields (write.update_fields number update)) < 2 ^ 64
    → (message_of field.ListUpdateResponses (BytesValue (written_fields (write.update_fields number update))) >>= update_told) ≡ Ok (told_update number update)
update_in law packed number update low is few =
    ap (λ (r : Result (List WireField) PartFault). r >>= update_told) (fields_again law field.ListUpdateResponses (write.update_fields number update) (low_update number update low) few)
    ∙ update_read law packed number update is (writable (write.update_fields number update) (low_update number update low) few)

updates_read : IsReadAgain → ArePackedAgain → (threats : List ℕ) (updates : List UpdatedList) → All (λ threat. threat < 2 ^ 64) threats → All IsUpdatedList updates
    → AreWritable (write.updates_written threats updates)
    → each (λ value. message_of field.ListUpdateResponses value >>= update_told) (field_values_at 1 (write.updates_written threats updates)) ≡ Ok (told_updates threats updates)
updates_read law packed threats [] low are fits = refl
updates_read law packed threats (update ∷ updates) low are fits =
    let number = write.first_number threats update in
    let numbers = write.numbers_after_first threats in
    let head = update_in law packed number update (low_first threats update low) (All-head IsUpdatedList update updates are) fits.0.1 in
    let tail = updates_read law packed numbers updates (low_later threats low) (All-tail IsUpdatedList update updates are) fits.1 in
    ap (λ (r : Result ToldUpdate PartFault). r >>= λ a.
    each (λ value. message_of field.ListUpdateResponses value >>= update_told) (field_values_at 1 (write.updates_written numbers updates)) >>= λ more. Ok (a ∷ more)) head
    ∙ ap (λ (r : Result (List ToldUpdate) PartFault). r >>= λ more. Ok (told_update number update ∷ more)) tail

low_updates : (threats : List ℕ) (updates : List UpdatedList) → AreLow (write.updates_written threats updates)
low_updates threats [] = tt
low_updates threats (update ∷ updates) = (((omega arith, omega arith), tt), low_updates (write.numbers_after_first threats) updates)

no_updates : (number : ℕ) (threats : List ℕ) (updates : List UpdatedList) → nat_eq 1 number ≡ false → field_values_at number (write.updates_written threats updates) ≡ []
no_updates number threats [] differs = refl
no_updates number threats (update ∷ updates) differs = rw differs (no_updates number (write.numbers_after_first threats) updates differs)

-- ---- an answer
pub fetch_read : IsReadAgain → ArePackedAgain → (threats : List ℕ) (message : FetchResponse) → CanBeToldWith threats message
    → TellsFetch (write.fetch_answer_bytes threats message) (told_fetch threats message)
unfolding write.fetch_answer_bytes fetch_told
fetch_read law packed threats message can =
    let fields = write.fetch_answer_fields threats message in
    let updates = write.updates_written threats message.items in
    let waits = write.duration_field 2 message.wait in
    let low : AreLow fields = low_both updates waits (low_updates threats message.items) (low_duration 2 message.wait (omega arith, omega arith)) in
    let fits : AreWritable fields = writable fields low can.size in
    let items : each (λ value. message_of field.ListUpdateResponses value >>= update_told) (field_values_at 1 fields) ≡ Ok (told_updates threats message.items) =
    ap (each (λ value. message_of field.ListUpdateResponses value >>= update_told))
    (values_both 1 updates waits ∙ ap (λ (l : List WireValue). field_values_at 1 updates ++ l) (no_duration 1 2 message.wait refl) ∙ append-nil (field_values_at 1 updates))
    ∙ updates_read law packed threats message.items can.threats_fit can.updates (writable_left updates waits fits) in
    let wait : duration_row field.MinimumWaitDuration 2 fields ≡ Ok message.wait =
    duration_read law field.MinimumWaitDuration 2 message.wait fields refl can.wait
    (values_both 2 updates waits ∙ ap (λ (l : List WireValue). l ++ field_values_at 2 waits) (no_updates 2 threats message.items refl))
    (writable_right updates waits fits) in
    ap (λ (r : Result (List WireField) PartFault). r >>= fetch_told) (fields_again law field.Root fields low can.size)
    ∙ rw (items, wait) refl
