-- What is written of an answer is read again.
use Rattle.std.proofs.Common.{◌≡◌, ◌↔◌, ℕ, ◌+◌, ◌*◌, ◌/◌, ◌%◌, ◌^◌, ◌<◌, ◌≤◌, Bool, true, false, nat_eq, if◌then◌else◌, List, [], ◌∷◌, ◌++◌, length, map, All, None, Result, Ok, refl, sym, ap, subst, ◌∙◌, length-append, arith}
use Rattle.std.specs.List.{AllByRecursion, flat_map}
use Rattle.std.proofs.lemmas.Bool.{eqb-true}
use Rattle.std.proofs.lemmas.List.{append-nil}
use Rattle.std.proofs.lemmas.List.Elements.{All-head, All-tail}
use Rattle.proto_wire.specs.Wire.{WireValue, VarintValue, Fixed64Value, BytesValue, Fixed32Value, WireField, number_field, bytes_field, IsFieldNumber, ReadsFields}
use Rattle.proto_wire.specs.Spelling.{written_field, written_fields, HasSpelling, AreWritable}
use Rattle.proto_wire.specs.Reading.{WireReading, wire_fields}
use Rattle.sb_json.specs.Values.{◌>>=◌}
use Rattle.sb_json.specs.declared.fields.Field.{Field}
use Rattle.sb_json.specs.declared.fields.Field.TheVariants as field
use Rattle.sb_model.specs.declared.names.ThreatType.{ThreatType}
use Rattle.sb_model.specs.declared.names.ThreatType.TheVariants as threat
use Rattle.sb_model.specs.declared.names.PlatformType.{PlatformType}
use Rattle.sb_model.specs.declared.names.PlatformType.TheVariants as platform
use Rattle.sb_model.specs.declared.names.EntryType.{EntryType}
use Rattle.sb_model.specs.declared.names.EntryType.TheVariants as entry
use Rattle.sb_model.specs.Names.{platform_code, entry_code}
use Rattle.hash_messages.specs.declared.response.Match.{Match}
use Rattle.hash_messages.specs.declared.response.FindResponse.{FindResponse}
use Rattle.proto_messages.specs.declared.fault.PartFault.{PartFault}
use Rattle.proto_messages.specs.Fields.{field_values_at, fields_in, whole, fields_of, message_of, number_in_field, bytes_in_field, each, last_value_of, number_row, bytes_row, message_row}
use Rattle.proto_messages.specs.Writing.{number_unless_zero, message_field, duration_fields, duration_field, threat_number, match_fields, match_field, find_answer_fields, find_answer_bytes}
use Rattle.proto_messages.specs.Answers.{ToldMatch, duration_row, match_told, find_told, TellsFind, told_match, told_find, CanBeTold}
use Rattle.proto_messages.proofs.WritingFacts.{length_of_field}

-- What the laws of the wire form say of fields that are written.
pub record IsReadAgain : Type 0 where
  pub written : (fields : List WireField) → AreWritable fields → ReadsFields (written_fields fields) fields
  pub read : (text : List ℕ) (fields : List WireField) → (wire_fields text ≡ record { items = fields; fault = None }) ↔ ReadsFields text fields

-- ---- fields that are written

-- the numbers of a value have spellings; its bytes have one if they are few
abbrev pub IsLow : WireValue → Type 0
IsLow (VarintValue number) = number < 2 ^ 64
IsLow (Fixed64Value number) = number < 2 ^ 64
IsLow (BytesValue bytes) = Unit {0}
IsLow (Fixed32Value number) = number < 2 ^ 32

abbrev pub AreLow : List WireField → Type 0
AreLow fields = AllByRecursion (λ field. IsFieldNumber field.number × IsLow field.value) fields

spelled : (number : ℕ) (value : WireValue) → IsLow value → length (written_field (record { number = number; value = value })) < 2 ^ 64 → HasSpelling value
spelled number (VarintValue n) low few = low
spelled number (Fixed64Value n) low few = low
spelled number (BytesValue bytes) low few = omega (arith, few, length_of_field number bytes)
spelled number (Fixed32Value n) low few = low

pub writable : (fields : List WireField) → AreLow fields → length (written_fields fields) < 2 ^ 64 → AreWritable fields
writable [] low few = tt
writable (f ∷ fields) low few =
    let all = length-append (written_field f) (written_fields fields) in
    ((low.0.0, spelled f.number f.value low.0.1 (omega (arith, few, all))), writable fields low.1 (omega (arith, few, all)))

reading_again : IsReadAgain → (fields : List WireField) → AreLow fields → length (written_fields fields) < 2 ^ 64
    → wire_fields (written_fields fields) ≡ record { items = fields; fault = None }
reading_again law fields low few = (law.read (written_fields fields) fields).1 (law.written fields (writable fields low few))

pub fields_again : IsReadAgain → (name : Field) (fields : List WireField) → AreLow fields → length (written_fields fields) < 2 ^ 64
    → fields_of name (written_fields fields) ≡ Ok fields
fields_again law name fields low few = ap (λ (r : WireReading WireField). whole name r.items r.fault) (reading_again law fields low few)

pub writable_left : (xs ys : List WireField) → AreWritable (xs ++ ys) → AreWritable xs
writable_left [] ys all = tt
writable_left (x ∷ xs) ys all = (all.0, writable_left xs ys all.1)

pub writable_right : (xs ys : List WireField) → AreWritable (xs ++ ys) → AreWritable ys
writable_right [] ys all = all
writable_right (x ∷ xs) ys all = writable_right xs ys all.1

pub low_both : (xs ys : List WireField) → AreLow xs → AreLow ys → AreLow (xs ++ ys)
low_both [] ys left right = right
low_both (x ∷ xs) ys left right = (left.0, low_both xs ys left.1 right)

-- ---- rows by the values of a number
pub values_both : (number : ℕ) (xs ys : List WireField) → field_values_at number (xs ++ ys) ≡ field_values_at number xs ++ field_values_at number ys
values_both number [] ys = refl
values_both number (x ∷ xs) ys = go (nat_eq x.number number) refl (values_both number xs ys) where
  go : (b : Bool) → nat_eq x.number number ≡ b → field_values_at number (xs ++ ys) ≡ field_values_at number xs ++ field_values_at number ys
      → field_values_at number ((x ∷ xs) ++ ys) ≡ field_values_at number (x ∷ xs) ++ field_values_at number ys
  go true is later = rw is (ap (λ (l : List WireValue). x.value ∷ l) later)
  go false is later = rw is later

pub number_is : (name : Field) (number n : ℕ) (fields : List WireField) → field_values_at number fields ≡ VarintValue n ∷ [] → number_row name number fields ≡ Ok n
unfolding number_row
number_is name number n fields is = ap (last_value_of (number_in_field name) 0) is

number_none : (name : Field) (number : ℕ) (fields : List WireField) → field_values_at number fields ≡ [] → number_row name number fields ≡ Ok 0
unfolding number_row
number_none name number fields is = ap (last_value_of (number_in_field name) 0) is

pub bytes_is : (name : Field) (number : ℕ) (bytes : List ℕ) (fields : List WireField) → field_values_at number fields ≡ BytesValue bytes ∷ [] → bytes_row name number fields ≡ Ok bytes
unfolding bytes_row
bytes_is name number bytes fields is = ap (last_value_of (bytes_in_field name) []) is

message_none : (name : Field) (number : ℕ) (fields : List WireField) → field_values_at number fields ≡ [] → message_row name number fields ≡ Ok []
unfolding message_row
message_none name number fields is = ap (λ (values : List WireValue). each (message_of name) values >>= λ _. Ok (flat_map fields_in values)) is

pub message_is : IsReadAgain → (name : Field) (number : ℕ) (inner fields : List WireField) → field_values_at number fields ≡ BytesValue (written_fields inner) ∷ []
    → AreLow inner → length (written_fields inner) < 2 ^ 64 → message_row name number fields ≡ Ok inner
unfolding message_row
message_is law name number inner fields is low few =
    ap (λ (values : List WireValue). each (message_of name) values >>= λ _. Ok (flat_map fields_in values)) is
    ∙ ap (λ (r : WireReading WireField). (whole name r.items r.fault >>= λ a. Ok (a ∷ [])) >>= λ _. Ok (r.items ++ [])) (reading_again law inner low few)
    ∙ ap (λ (l : List WireField). Ok l) (append-nil inner)

-- ---- durations
low_unless : (number n : ℕ) → IsFieldNumber number → n < 2 ^ 64 → AreLow (number_unless_zero number n)
low_unless number n numbered low = go (nat_eq n 0) refl where
  go : (b : Bool) → nat_eq n 0 ≡ b → AreLow (number_unless_zero number n)
  go true is = rw is tt
  go false is = rw is ((numbered, low), tt)

-- the two numbers of a duration, whatever they are
low_parts : (s n : ℕ) → s < 2 ^ 64 → n < 2 ^ 64 → AreLow (number_unless_zero 1 s ++ number_unless_zero 2 n)
low_parts s n low few =
    low_both (number_unless_zero 1 s) (number_unless_zero 2 n) (low_unless 1 s (omega arith, omega arith) low) (low_unless 2 n (omega arith, omega arith) few)

own_part : (name : Field) (number n : ℕ) → nat_eq number number ≡ true → number_row name number (number_unless_zero number n) ≡ Ok n
own_part name number n same = go (nat_eq n 0) refl where
  go : (b : Bool) → nat_eq n 0 ≡ b → number_row name number (number_unless_zero number n) ≡ Ok n
  go true is = rw is (number_none name number [] refl ∙ ap (λ (m : ℕ). Ok m) (sym (eqb-true n 0 is)))
  go false is = rw is (number_is name number n (number_field number n ∷ []) (rw same refl))

no_part : (number other n : ℕ) → nat_eq other number ≡ false → field_values_at number (number_unless_zero other n) ≡ []
no_part number other n differs = go (nat_eq n 0) refl where
  go : (b : Bool) → nat_eq n 0 ≡ b → field_values_at number (number_unless_zero other n) ≡ []
  go true is = rw is refl
  go false is = rw is (rw differs refl)

number_same : (name : Field) (number : ℕ) (fields others : List WireField) → field_values_at number fields ≡ field_values_at number others
    → number_row name number fields ≡ number_row name number others
unfolding number_row
number_same name number fields others is = ap (last_value_of (number_in_field name) 0) is

seconds_read : (name : Field) (s n : ℕ) → number_row name 1 (number_unless_zero 1 s ++ number_unless_zero 2 n) ≡ Ok s
seconds_read name s n =
    number_same name 1 _ (number_unless_zero 1 s)
    (values_both 1 (number_unless_zero 1 s) (number_unless_zero 2 n)
    ∙ ap (λ (l : List WireValue). field_values_at 1 (number_unless_zero 1 s) ++ l) (no_part 1 2 n refl) ∙ append-nil (field_values_at 1 (number_unless_zero 1 s)))
    ∙ own_part name 1 s refl

nanos_read : (name : Field) (s n : ℕ) → number_row name 2 (number_unless_zero 1 s ++ number_unless_zero 2 n) ≡ Ok n
nanos_read name s n =
    number_same name 2 _ (number_unless_zero 2 n)
    (values_both 2 (number_unless_zero 1 s) (number_unless_zero 2 n)
    ∙ ap (λ (l : List WireValue). l ++ field_values_at 2 (number_unless_zero 2 n)) (no_part 2 1 s refl))
    ∙ own_part name 2 n refl

duration_parts : (name : Field) (number : ℕ) (fields duration : List WireField) (s n : ℕ) → message_row name number fields ≡ Ok duration
    → number_row name 1 duration ≡ Ok s → number_row name 2 duration ≡ Ok n → duration_row name number fields ≡ Ok (s * 1000000000 + n)
unfolding duration_row
duration_parts name number fields duration s n is one two =
    ap (λ (r : Result (List WireField) PartFault). r >>= λ d. number_row name 1 d >>= λ a. number_row name 2 d >>= λ b. Ok (a * 1000000000 + b)) is
    ∙ ap (λ (r : Result ℕ PartFault). r >>= λ a. number_row name 2 duration >>= λ b. Ok (a * 1000000000 + b)) one
    ∙ ap (λ (r : Result ℕ PartFault). r >>= λ b. Ok (s * 1000000000 + b)) two

-- a duration is read again, wherever its field stands, if there is no other field of its number
pub duration_read : IsReadAgain → (name : Field) (number d : ℕ) (fields : List WireField) → nat_eq number number ≡ true → d ≤ 315576000000000000000
    → field_values_at number fields ≡ field_values_at number (duration_field number d) → AreWritable (duration_field number d) → duration_row name number fields ≡ Ok d
duration_read law name number d fields same bound is fits = go (nat_eq d 0) refl where
  go : (b : Bool) → nat_eq d 0 ≡ b → duration_row name number fields ≡ Ok d
  go true zero =
      duration_parts name number fields [] 0 0 (message_none name number fields (is ∙ ap (λ (b : Bool). field_values_at number (if b then [] else (message_field number (duration_fields d) ∷ []))) zero))
      (number_none name 1 [] refl) (number_none name 2 [] refl)
      ∙ ap (λ (m : ℕ). Ok m) (sym (eqb-true d 0 zero))
  go false some =
      let field_is : duration_field number d ≡ message_field number (duration_fields d) ∷ [] =
      ap (λ (b : Bool). if b then [] else (message_field number (duration_fields d) ∷ [])) some in
      let spelling : AreWritable (message_field number (duration_fields d) ∷ []) = subst AreWritable field_is fits in
      duration_parts name number fields (duration_fields d) (d / 1000000000) (d % 1000000000)
      (message_is law name number (duration_fields d) fields
      (is ∙ ap (field_values_at number) field_is ∙ ap (λ (b : Bool). if b then (BytesValue (written_fields (duration_fields d)) ∷ []) else []) same)
      (low_parts (d / 1000000000) (d % 1000000000) (omega arith) (omega arith)) spelling.0.1)
      (seconds_read name (d / 1000000000) (d % 1000000000)) (nanos_read name (d / 1000000000) (d % 1000000000))
      ∙ ap (λ (m : ℕ). Ok m) (omega arith)

pub no_duration : (number other d : ℕ) → nat_eq other number ≡ false → field_values_at number (duration_field other d) ≡ []
no_duration number other d differs = go (nat_eq d 0) refl where
  go : (b : Bool) → nat_eq d 0 ≡ b → field_values_at number (duration_field other d) ≡ []
  go true is = rw is refl
  go false is = rw is (rw differs refl)

pub low_duration : (number d : ℕ) → IsFieldNumber number → AreLow (duration_field number d)
low_duration number d numbered = go (nat_eq d 0) refl where
  go : (b : Bool) → nat_eq d 0 ≡ b → AreLow (duration_field number d)
  go true is = rw is tt
  go false is = rw is ((numbered, tt), tt)

-- ---- a match
low_threat : (social : ℕ) (t : ThreatType) → social < 2 ^ 64 → threat_number social t < 2 ^ 64
low_threat social threat.Malware low = omega arith
low_threat social threat.SocialEngineering low = low
low_threat social threat.UnwantedSoftware low = omega arith
low_threat social threat.PotentiallyHarmfulApplication low = omega arith

pub low_platform : (p : PlatformType) → platform_code p < 2 ^ 64
low_platform platform.Windows = omega arith
low_platform platform.Linux = omega arith
low_platform platform.Android = omega arith
low_platform platform.Osx = omega arith
low_platform platform.Ios = omega arith
low_platform platform.AnyPlatform = omega arith
low_platform platform.AllPlatforms = omega arith
low_platform platform.Chrome = omega arith

pub low_entry : (e : EntryType) → entry_code e < 2 ^ 64
low_entry entry.Url = omega arith
low_entry entry.Executable = omega arith

low_match : (social : ℕ) (found : Match) → social < 2 ^ 64 → AreLow (match_fields social found)
low_match social found low = (
  ((omega arith, omega arith), low_threat social found.name.threat low),
  (
    ((omega arith, omega arith), low_platform found.name.platform),
    (
      ((omega arith, omega arith), tt),
      low_both (duration_field 5 found.cache) (number_field 6 (entry_code found.name.entry) ∷ []) (low_duration 5 found.cache (omega arith, omega arith))
          (((omega arith, omega arith), low_entry found.name.entry), tt),
    ),
  ),
)

-- the values of a number of a match, by those of its last fields
last_values : (number d e : ℕ) → field_values_at number (duration_field 5 d ++ number_field 6 e ∷ []) ≡ field_values_at number (duration_field 5 d) ++ field_values_at number (number_field 6 e ∷ [])
last_values number d e = values_both number (duration_field 5 d) (number_field 6 e ∷ [])

match_read : IsReadAgain → (social : ℕ) (found : Match) → found.cache ≤ 315576000000000000000 → AreWritable (match_fields social found)
    → match_told (match_fields social found) ≡ Ok (told_match social found)
unfolding match_told
match_read law social found bound fits =
    let d = found.cache in
    let e = entry_code found.name.entry in
    let hash = bytes_field 1 found.hash.bytes ∷ [] in
    let one : number_row field.ThreatType 1 (match_fields social found) ≡ Ok (threat_number social found.name.threat) =
    number_is field.ThreatType 1 _ (match_fields social found)
    (ap (λ (l : List WireValue). VarintValue (threat_number social found.name.threat) ∷ l)
    (last_values 1 d e ∙ ap (λ (l : List WireValue). l ++ []) (no_duration 1 5 d refl))) in
    let two : number_row field.PlatformType 2 (match_fields social found) ≡ Ok (platform_code found.name.platform) =
    number_is field.PlatformType 2 _ (match_fields social found)
    (ap (λ (l : List WireValue). VarintValue (platform_code found.name.platform) ∷ l)
    (last_values 2 d e ∙ ap (λ (l : List WireValue). l ++ []) (no_duration 2 5 d refl))) in
    let three : message_row field.Threat 3 (match_fields social found) ≡ Ok hash =
    message_is law field.Threat 3 hash (match_fields social found)
    (ap (λ (l : List WireValue). BytesValue (written_fields hash) ∷ l)
    (last_values 3 d e ∙ ap (λ (l : List WireValue). l ++ []) (no_duration 3 5 d refl)))
    (((omega arith, omega arith), tt), tt) fits.1.1.0.1 in
    let four : bytes_row field.ThreatHash 1 hash ≡ Ok found.hash.bytes = bytes_is field.ThreatHash 1 found.hash.bytes hash refl in
    let five : duration_row field.CacheDuration 5 (match_fields social found) ≡ Ok d =
    duration_read law field.CacheDuration 5 d (match_fields social found) refl bound
    (last_values 5 d e ∙ append-nil (field_values_at 5 (duration_field 5 d)))
    (writable_left (duration_field 5 d) (number_field 6 e ∷ []) fits.1.1.1) in
    let six : number_row field.ThreatEntryType 6 (match_fields social found) ≡ Ok e =
    number_is field.ThreatEntryType 6 e (match_fields social found)
    (last_values 6 d e ∙ ap (λ (l : List WireValue). l ++ VarintValue e ∷ []) (no_duration 6 5 d refl)) in
    rw (one, two, three, four, five, six) refl

-- ---- the matches of an answer
abbrev IsShort : Match → Type 0
IsShort found = found.cache ≤ 315576000000000000000

value_read : IsReadAgain → (social : ℕ) (found : Match) → social < 2 ^ 64 → found.cache ≤ 315576000000000000000
    → length (written_fields (match_fields social found)) < 2 ^ 64
    → (message_of field.Matches (BytesValue (written_fields (match_fields social found))) >>= match_told) ≡ Ok (told_match social found)
value_read law social found low bound few =
    ap (λ (r : Result (List WireField) PartFault). r >>= match_told) (fields_again law field.Matches (match_fields social found) (low_match social found low) few)
    ∙ match_read law social found bound (writable (match_fields social found) (low_match social found low) few)

each_read : IsReadAgain → (social : ℕ) (matches : List Match) → social < 2 ^ 64 → All (λ m. m.cache ≤ 315576000000000000000) matches
    → AreWritable (map (match_field social) matches)
    → each (λ value. message_of field.Matches value >>= match_told) (field_values_at 1 (map (match_field social) matches)) ≡ Ok (map (told_match social) matches)
each_read law social [] low bounds fits = refl
each_read law social (m ∷ ms) low bounds fits =
    let head = value_read law social m low (All-head IsShort m ms bounds) fits.0.1 in
    let tail = each_read law social ms low (All-tail IsShort m ms bounds) fits.1 in
    ap (λ (r : Result ToldMatch PartFault). r >>= λ a.
    each (λ value. message_of field.Matches value >>= match_told) (field_values_at 1 (map (match_field social) ms)) >>= λ more. Ok (a ∷ more)) head
    ∙ ap (λ (r : Result (List ToldMatch) PartFault). r >>= λ more. Ok (told_match social m ∷ more)) tail

low_matches : (social : ℕ) (matches : List Match) → AreLow (map (match_field social) matches)
low_matches social [] = tt
low_matches social (m ∷ ms) = (((omega arith, omega arith), tt), low_matches social ms)

no_matches : (social number : ℕ) (matches : List Match) → nat_eq 1 number ≡ false → field_values_at number (map (match_field social) matches) ≡ []
no_matches social number [] differs = refl
no_matches social number (m ∷ ms) differs = rw differs (no_matches social number ms differs)

-- ---- an answer
answer_values : (social number : ℕ) (message : FindResponse) → field_values_at number (find_answer_fields social message)
    ≡ field_values_at number (map (match_field social) message.matches) ++ (field_values_at number (duration_field 2 message.wait) ++ field_values_at number (duration_field 3 message.negative))
answer_values social number message =
    values_both number (map (match_field social) message.matches) (duration_field 2 message.wait ++ duration_field 3 message.negative)
    ∙ ap (λ (l : List WireValue). field_values_at number (map (match_field social) message.matches) ++ l) (values_both number (duration_field 2 message.wait) (duration_field 3 message.negative))

pub find_read : IsReadAgain → (social : ℕ) (message : FindResponse) → CanBeTold social message → TellsFind (find_answer_bytes social message) (told_find social message)
unfolding find_answer_bytes find_told
find_read law social message can =
    let fields = find_answer_fields social message in
    let matches = map (match_field social) message.matches in
    let waits = duration_field 2 message.wait in
    let negatives = duration_field 3 message.negative in
    let low : AreLow fields =
    low_both matches (waits ++ negatives) (low_matches social message.matches)
    (low_both waits negatives (low_duration 2 message.wait (omega arith, omega arith)) (low_duration 3 message.negative (omega arith, omega arith))) in
    let fits : AreWritable fields = writable fields low can.size in
    let later = writable_right matches (waits ++ negatives) fits in
    let found : each (λ value. message_of field.Matches value >>= match_told) (field_values_at 1 fields) ≡ Ok (map (told_match social) message.matches) =
    ap (each (λ value. message_of field.Matches value >>= match_told))
    (answer_values social 1 message
    ∙ ap (λ (l : List WireValue). field_values_at 1 matches ++ (l ++ field_values_at 1 negatives)) (no_duration 1 2 message.wait refl)
    ∙ ap (λ (l : List WireValue). field_values_at 1 matches ++ l) (no_duration 1 3 message.negative refl) ∙ append-nil (field_values_at 1 matches))
    ∙ each_read law social message.matches can.social_fits can.caches (writable_left matches (waits ++ negatives) fits) in
    let wait : duration_row field.MinimumWaitDuration 2 fields ≡ Ok message.wait =
    duration_read law field.MinimumWaitDuration 2 message.wait fields refl can.wait
    (answer_values social 2 message
    ∙ ap (λ (l : List WireValue). l ++ (field_values_at 2 waits ++ field_values_at 2 negatives)) (no_matches social 2 message.matches refl)
    ∙ ap (λ (l : List WireValue). field_values_at 2 waits ++ l) (no_duration 2 3 message.negative refl) ∙ append-nil (field_values_at 2 waits))
    (writable_left waits negatives later) in
    let negative : duration_row field.NegativeCacheDuration 3 fields ≡ Ok message.negative =
    duration_read law field.NegativeCacheDuration 3 message.negative fields refl can.negative
    (answer_values social 3 message
    ∙ ap (λ (l : List WireValue). l ++ (field_values_at 3 waits ++ field_values_at 3 negatives)) (no_matches social 3 message.matches refl)
    ∙ ap (λ (l : List WireValue). l ++ field_values_at 3 negatives) (no_duration 3 2 message.wait refl))
    (writable_right waits negatives later) in
    ap (λ (r : Result (List WireField) PartFault). r >>= find_told) (fields_again law field.Root fields low can.size)
    ∙ rw (found, wait, negative) refl
