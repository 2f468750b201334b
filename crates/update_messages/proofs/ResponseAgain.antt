-- What is written of a response reads as it.
use Rattle.std.proofs.Common.{◌≡◌, ℕ, ◌≤◌, ◌%◌, Bool, true, false, List, [], ◌∷◌, length, map, Option, Some, None, Result, Ok, refl, sym, ap, ◌∙◌, subst, arith, All}
use Rattle.std.specs.Prelude.{codes}
use Rattle.std.proofs.lemmas.Bool.{eq-eqb}
use Rattle.std.proofs.lemmas.List.Elements.{All-nil, All-cons, All-head, All-tail}
use Rattle.std.proofs.lemmas.Bool.Decides.{nat_tests}
use Rattle.serde_json.specs.Data.{Data, number, string, unsigned}
use Rattle.serde_json.specs.View.{items_of}
use Rattle.base64.specs.GeneralPurpose.{IsBytes}
use Rattle.sb_json.specs.Values.{◌>>=◌, or_field_fault, object_of}
use Rattle.sb_json.specs.declared.fields.Field.{Field}
use Rattle.sb_json.specs.declared.fields.Field.TheVariants as field
use Rattle.sb_json.specs.declared.faults.FieldFault.{FieldFault}
use Rattle.sb_json.specs.declared.faults.FieldFault.TheVariants.{Name}
use Rattle.sb_model.specs.Names.{threat_word, platform_word, entry_word}
use Rattle.sb_members.specs.Laws.{AreReadAgain}
use Rattle.sb_members.specs.Parts.{Parts, made, or_later}
use Rattle.sb_members.specs.Writing.{bytes_written, number_written, long_written, duration_written, list_written}
use Rattle.rice_coding.specs.declared.record.RiceRecord.{RiceRecord}
use Rattle.update_messages.specs.declared.sets.Compression.{Compression}
use Rattle.update_messages.specs.declared.sets.Compression.TheVariants as compression
use Rattle.update_messages.specs.declared.sets.Additions.{Additions}
use Rattle.update_messages.specs.declared.sets.Additions.TheVariants as added
use Rattle.update_messages.specs.declared.sets.Removals.{Removals}
use Rattle.update_messages.specs.declared.sets.Removals.TheVariants as removed
use Rattle.update_messages.specs.declared.response.FetchResponse.{FetchResponse}
use Rattle.update_messages.specs.Messages.{UpdatedList, IsRiceSet, IsRawSet, IsAddition, IsRemoval, most_i32, most_i64}
use Rattle.update_messages.specs.ResponseRows as row
use Rattle.update_messages.specs.Ranges.{IsAdditionOfBytes, IsRemovalOfBytes, IsUpdateInRange, IsResponseInRange}
use Rattle.update_messages.specs.Reading.{ReadsRice, ReadsRaw, ReadsIndex, ReadsAddition, ReadsRemoval, ReadsUpdatedList, ReadsResponse}
use Rattle.update_messages.specs.Writing as spec
use Rattle.update_messages.proofs.WrittenRows.{state_found}
use Rattle.update_messages.proofs.WrittenLists.{list_again}

-- ---- Rice records

abbrev pub rice_parts : RiceRecord → Parts
rice_parts r =
    (field.EncodedData, bytes_written r.coded)
    ∷ (field.FirstValue, long_written r.first)
    ∷ (field.NumEntries, number_written r.count)
    ∷ (field.RiceParameter, number_written r.parameter) ∷ []

rice_again : AreReadAgain → (r : RiceRecord) → IsRiceSet r → IsBytes r.coded → ReadsRice (Ok (spec.rice_written r)) r
rice_again law r h bytes = record {
  first = law.defaults.longs field.FirstValue most_i64 (rice_parts r) r.first h.first (omega arith) refl;
  parameter = law.defaults.numbers field.RiceParameter most_i32 (rice_parts r) r.parameter h.parameter refl;
  count = law.defaults.numbers field.NumEntries most_i32 (rice_parts r) r.count h.count refl;
  coded = law.defaults.bytes field.EncodedData (rice_parts r) r.coded bytes refl;
}

-- ---- entry sets

-- the fields of a set
abbrev pub set_parts : List ℕ → Field → Data → Parts
set_parts word name value = (field.CompressionType, Some (string word)) ∷ (name, Some value) ∷ []

-- what stands first is found, whatever comes after it
first_there : (d : Data) (later : Option Data) → or_later (Some d) later ≡ Some d
first_there d None = refl
first_there d (Some later) = refl

word_row : AreReadAgain → (word : List ℕ) (name : Field) (value : Data) (c : Compression) → row.compression_of word ≡ Some c → row.compression_row (spec.set_written word name value) ≡ Ok c
word_row law word name value c e =
    ap (λ r. r >>= λ w. or_field_fault (Name field.CompressionType) (row.compression_of w)) (law.needed.strings field.CompressionType (set_parts word name value) word (first_there (string word) _))
    ∙ ap (or_field_fault (Name field.CompressionType)) e

abbrev pub hashes_parts : ℕ → List ℕ → Parts
hashes_parts size bytes = (field.PrefixSize, number_written size) ∷ (field.RawHashBytes, bytes_written bytes) ∷ []

size_again : AreReadAgain → (size : ℕ) (bytes : List ℕ) → 4 ≤ size → size ≤ 32 → row.prefix_size_row (spec.hashes_written size bytes) ≡ Ok size
size_again law size bytes low high =
    ap (λ r. r >>= row.prefix_size)
    (law.needed.numbers field.PrefixSize 32 (hashes_parts size bytes) size (omega arith) high refl)
    ∙ enough
  where
    enough : row.prefix_size size ≡ Ok size
    enough = grind (arith, nat_tests)

raw_bytes_again : AreReadAgain → (size : ℕ) (bytes : List ℕ) → IsBytes bytes → length bytes % size ≡ 0 → row.raw_bytes_row size (spec.hashes_written size bytes) ≡ Ok bytes
raw_bytes_again law size bytes h whole =
    ap (λ r. r >>= row.whole_prefixes size) (law.defaults.bytes field.RawHashBytes (hashes_parts size bytes) bytes h refl)
    ∙ rw (eq-eqb (length bytes % size) 0 whole) refl

raw_again : AreReadAgain → (size : ℕ) (bytes : List ℕ) → IsRawSet size bytes → IsBytes bytes → ReadsRaw (Ok (spec.hashes_written size bytes)) size bytes
raw_again law size bytes h b = record { size_read = size_again law size bytes h.low h.high; bytes_read = raw_bytes_again law size bytes b h.whole }

abbrev IsAdditionInRange : Additions → Type 0
IsAdditionInRange a = IsAddition a × IsAdditionOfBytes a

abbrev IsRemovalInRange : Removals → Type 0
IsRemovalInRange a = IsRemoval a × IsRemovalOfBytes a

rice_in : AreReadAgain → (set : Data) (name : Field) (r : RiceRecord) → object_of name set ≡ Ok (spec.rice_written r) → IsRiceSet r → IsBytes r.coded → ReadsRice (object_of name set) r
rice_in law set name r e h b = subst (λ (holder : Result Data FieldFault). ReadsRice holder r) (sym e) (rice_again law r h b)

addition_again : AreReadAgain → (a : Additions) → IsAdditionInRange a → ReadsAddition (spec.addition_written a) a
addition_again law (added.Raw size bytes) h = (
  refl,
  record {
    compression = word_row law (codes "RAW") field.RawHashes (spec.hashes_written size bytes) compression.Raw refl;
    raw_read = subst (λ (holder : Result Data FieldFault). ReadsRaw holder size bytes)
        (sym (law.needed.objects field.RawHashes (set_parts (codes "RAW") field.RawHashes (spec.hashes_written size bytes)) (made (hashes_parts size bytes)) refl))
        (raw_again law size bytes h.0 h.1);
  },
)
addition_again law (added.Rice r) h = (
  refl,
  record {
    compression = word_row law (codes "RICE") field.RiceHashes (spec.rice_written r) compression.Rice refl;
    rice_read = rice_in law (spec.addition_written (added.Rice r)) field.RiceHashes r
        (law.needed.objects field.RiceHashes (set_parts (codes "RICE") field.RiceHashes (spec.rice_written r)) (made (rice_parts r)) refl) h.0 h.1;
  },
)

index_again : AreReadAgain → (n : ℕ) → n ≤ most_i32 → ReadsIndex (number (unsigned n)) n
index_again law n h = law.items.numbers field.Indices most_i32 n h

abbrev pub indices_parts : List ℕ → Parts
indices_parts places = (field.Indices, list_written (λ index. number (unsigned index)) places) ∷ []

indices_found : AreReadAgain → (places : List ℕ)
    → (row.raw_indices_row (spec.removal_written (removed.Raw places)) >>= row.indices_row) ≡ Ok (items_of (map (λ (n : ℕ). number (unsigned n)) places))
indices_found law places =
    ap (λ r. r >>= row.indices_row)
    (law.needed.objects field.RawIndices (set_parts (codes "RAW") field.RawIndices (spec.indices_written places)) (made (indices_parts places)) refl)
    ∙ law.defaults.lists field.Indices (indices_parts places) (map (λ (n : ℕ). number (unsigned n)) places) refl

removal_again : AreReadAgain → (a : Removals) → IsRemovalInRange a → ReadsRemoval (spec.removal_written a) a
removal_again law (removed.Raw places) h = (
  refl,
  record {
    compression = word_row law (codes "RAW") field.RawIndices (spec.indices_written places) compression.Raw refl;
    indices_read = list_again ReadsIndex (λ (n : ℕ). number (unsigned n)) (λ (n : ℕ). n ≤ most_i32) (index_again law) places h.0
        (row.raw_indices_row (spec.removal_written (removed.Raw places)) >>= row.indices_row) (indices_found law places);
  },
)
removal_again law (removed.Rice r) h = (
  refl,
  record {
    compression = word_row law (codes "RICE") field.RiceIndices (spec.rice_written r) compression.Rice refl;
    rice_read = rice_in law (spec.removal_written (removed.Rice r)) field.RiceIndices r
        (law.needed.objects field.RiceIndices (set_parts (codes "RICE") field.RiceIndices (spec.rice_written r)) (made (rice_parts r)) refl) h.0 h.1;
  },
)

-- ---- updates

abbrev pub later_parts : UpdatedList → Parts
later_parts u =
    (field.PlatformType, Some (string (platform_word u.name.platform)))
    ∷ (field.Removals, list_written spec.removal_written u.removals)
    ∷ (field.ResponseType, Some (string (spec.response_type_word u.full)))
    ∷ (field.ThreatEntryType, Some (string (entry_word u.name.entry)))
    ∷ (field.ThreatType, Some (string (threat_word u.name.threat))) ∷ []

abbrev pub update_parts : UpdatedList → Parts
update_parts u =
    (field.Additions, list_written spec.addition_written u.additions)
    ∷ (field.BaseState, bytes_written u.base)
    ∷ (field.Checksum, Some (spec.checksum_written u.checksum))
    ∷ (field.NewClientState, bytes_written u.new_state) ∷ later_parts u

full_back : (full : Bool) → row.fullness_of (spec.response_type_word full) ≡ Some full
full_back true = refl
full_back false = refl

full_again : AreReadAgain → (u : UpdatedList) → row.response_type_row (spec.update_written u) ≡ Ok u.full
full_again law u =
    ap (λ r. r >>= λ word. or_field_fault (Name field.ResponseType) (row.fullness_of word)) (law.needed.strings field.ResponseType (update_parts u) (spec.response_type_word u.full) refl)
    ∙ ap (or_field_fault (Name field.ResponseType)) (full_back u.full)

abbrev pub checksum_parts : List ℕ → Parts
checksum_parts digest = (field.Sha256, bytes_written digest) ∷ []

digest_back : AreReadAgain → (digest : List ℕ) → IsBytes digest → length digest ≡ 32 → row.sha256_row (spec.checksum_written digest) ≡ Ok digest
digest_back law [] h size = absurd (omega (arith, size))
digest_back law (b ∷ bs) h size =
    ap (λ r. r >>= row.digest) (law.needed.bytes field.Sha256 (checksum_parts (b ∷ bs)) b bs h refl)
    ∙ rw (eq-eqb (length (b ∷ bs)) 32 size) refl

digest_again : AreReadAgain → (u : UpdatedList) → IsBytes u.checksum → length u.checksum ≡ 32 → row.digest_row (spec.update_written u) ≡ Ok u.checksum
digest_again law u h size =
    ap (λ r. r >>= row.sha256_row) (law.needed.objects field.Checksum (update_parts u) (made (checksum_parts u.checksum)) refl)
    ∙ digest_back law u.checksum h size

all_both : {A : Type 0} (P Q : A → Type 0) (xs : List A) → All P xs → All Q xs → All (λ x. P x × Q x) xs
all_both P Q [] p q = All-nil (λ x. P x × Q x)
all_both P Q (x ∷ xs) p q =
    All-cons (λ x. P x × Q x) x xs (All-head P x xs p, All-head Q x xs q) (all_both P Q xs (All-tail P x xs p) (All-tail Q x xs q))

update_again : AreReadAgain → (u : UpdatedList) → IsUpdateInRange u → ReadsUpdatedList (spec.update_written u) u
update_again law u h = record {
  object = refl;
  threat = law.names.threats (update_parts u) u.name.threat refl;
  platform = law.names.platforms (update_parts u) u.name.platform refl;
  entry = law.names.entries (update_parts u) u.name.entry refl;
  full = full_again law u;
  additions =
      list_again ReadsAddition spec.addition_written IsAdditionInRange (addition_again law) u.additions (all_both IsAddition IsAdditionOfBytes u.additions h.limits.additions h.additions)
      (row.additions_row (spec.update_written u)) (law.defaults.lists field.Additions (update_parts u) (map spec.addition_written u.additions) refl);
  removals =
      list_again ReadsRemoval spec.removal_written IsRemovalInRange (removal_again law) u.removals (all_both IsRemoval IsRemovalOfBytes u.removals h.limits.removals h.removals)
      (row.removals_row (spec.update_written u)) (law.defaults.lists field.Removals (update_parts u) (map spec.removal_written u.removals) refl);
  new_state = state_found law field.NewClientState (update_parts u) u.new_state h.new_state h.limits.new_state refl;
  base = state_found law field.BaseState (update_parts u) u.base h.base h.limits.base refl;
  checksum = digest_again law u h.checksum h.limits.checksum;
}

abbrev pub response_parts : FetchResponse → Parts
response_parts m = (field.ListUpdateResponses, list_written spec.update_written m.items) ∷ (field.MinimumWaitDuration, duration_written m.wait) ∷ []

pub response_again : AreReadAgain → (m : FetchResponse) → IsResponseInRange m → ReadsResponse (spec.response_written m) m
response_again law m h = record {
  object = refl;
  items =
      list_again ReadsUpdatedList spec.update_written IsUpdateInRange (update_again law) m.items h.items
      (row.updates_row (spec.response_written m)) (law.defaults.lists field.ListUpdateResponses (response_parts m) (map spec.update_written m.items) refl);
  wait = law.defaults.durations field.MinimumWaitDuration (response_parts m) m.wait h.wait refl;
}
