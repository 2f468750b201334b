-- What is written of a request reads as it.
use Rattle.std.proofs.Common.{◌≡◌, ℕ, ◌≤◌, ◌&&◌, true, List, [], ◌∷◌, length, map, Option, Some, Result, Ok, refl, ap, ◌∙◌, arith, All}
use Rattle.std.specs.Prelude.{nat_le}
use Rattle.std.proofs.lemmas.Bool.Decides.{nat_tests}
use Rattle.serde_json.specs.Data.{Data, null, object, Members, no_members, member}
use Rattle.serde_json.specs.View.{items_of}
use Rattle.base64.specs.GeneralPurpose.{IsBytes}
use Rattle.sb_json.specs.Values.{◌>>=◌}
use Rattle.sb_json.specs.declared.fields.Field.{Field}
use Rattle.sb_json.specs.declared.fields.Field.TheVariants as field
use Rattle.sb_json.specs.declared.faults.FieldFault.{FieldFault}
use Rattle.sb_model.specs.declared.names.ThreatType.{ThreatType}
use Rattle.sb_model.specs.declared.names.PlatformType.{PlatformType}
use Rattle.sb_model.specs.declared.names.EntryType.{EntryType}
use Rattle.sb_members.specs.Laws.{AreReadAgain, NamesReadAgain}
use Rattle.sb_members.specs.Parts.{Parts, made, found, or_null}
use Rattle.update_messages.specs.declared.client.ClientInfo.{ClientInfo}
use Rattle.update_messages.specs.Ranges.{IsClientInRange}
use Rattle.sb_members.specs.Lists.{ReadsList}
use Rattle.sb_members.specs.Somes.{ReadsSome}
use Rattle.sb_members.specs.Rows.{object_or_null, items_or_none}
use Rattle.sb_members.specs.Writing.{text_written, bytes_written, values_written, list_written, unless_bare}
use Rattle.update_messages.specs.RequestRows.{client_row, client_id_row, client_version_row}
use Rattle.update_messages.specs.Reading.{ReadsClient}
use Rattle.update_messages.specs.Writing.{client_members}
use Rattle.hash_messages.specs.Messages.{AskedHashes}
use Rattle.hash_messages.specs.Ranges.{IsPrefix, IsFindRequestInRange}
use Rattle.hash_messages.specs.RequestRows as row
use Rattle.hash_messages.specs.Reading.{ReadsAs, ReadsOutsideItems, ReadsFindRequest}
use Rattle.hash_messages.specs.Writing.{state_written, threat_written, platform_written, entry_written, prefix_written, info_written, find_request_written}
use Rattle.hash_messages.proofs.WrittenLists.{list_again, somes_again, somes_always_again}

abbrev pub client_parts : ClientInfo → Parts
client_parts c = (field.ClientId, text_written c.id) ∷ (field.ClientVersion, text_written c.version) ∷ []

abbrev pub prefix_parts : List ℕ → Parts
prefix_parts prefix = (field.Hash, bytes_written prefix) ∷ []

abbrev pub info_parts : AskedHashes → Parts
info_parts m =
    (field.PlatformTypes, list_written platform_written m.platforms)
    ∷ (field.ThreatEntries, list_written prefix_written m.prefixes)
    ∷ (field.ThreatEntryTypes, list_written entry_written m.entries)
    ∷ (field.ThreatTypes, list_written threat_written m.threats) ∷ []

abbrev pub request_parts : AskedHashes → Parts
request_parts m =
    (field.Client, unless_bare (client_members m.client))
    ∷ (field.ClientStates, list_written state_written m.states)
    ∷ (field.ThreatInfo, Some (info_written m)) ∷ []

-- an object that is left out where it is bare has the same rows
bare_row : {A : Type 0} (ms : Members) (read : Data → Result A FieldFault) → read null ≡ read (object no_members) → read (or_null ms) ≡ read (object ms)
bare_row no_members read h = h
bare_row (member k d ms) read h = refl

bare_found : AreReadAgain → (f : Field) (ps : Parts) (ms : Members) {A : Type 0} (read : Data → Result A FieldFault) → read null ≡ read (object no_members)
    → found f ps ≡ unless_bare ms → (object_or_null f (object (made ps)) >>= read) ≡ read (object ms)
bare_found law f ps ms read h e = ap (λ r. r >>= read) (law.defaults.objects f ps ms e) ∙ bare_row ms read h

client_again : AreReadAgain → (m : AskedHashes) → IsClientInRange m.client → ReadsClient (client_row (find_request_written m)) m.client
client_again law m h = record {
  id =
      bare_found law field.Client (request_parts m) (client_members m.client) client_id_row refl refl
      ∙ law.defaults.texts field.ClientId (client_parts m.client) m.client.id h.id refl;
  version =
      bare_found law field.Client (request_parts m) (client_members m.client) client_version_row refl refl
      ∙ law.defaults.texts field.ClientVersion (client_parts m.client) m.client.version h.version refl;
}

-- ---- a prefix

is_prefix : (prefix : List ℕ) → 4 ≤ length prefix → length prefix ≤ 32 → row.prefix prefix ≡ Ok prefix
is_prefix prefix low high =
    let both : (nat_le 4 (length prefix) && nat_le (length prefix) 32) ≡ true = grind (arith, nat_tests) in
    rw both refl

prefix_again : AreReadAgain → (prefix : List ℕ) → IsPrefix prefix → row.prefix_row (prefix_written prefix) ≡ Ok prefix
prefix_again law [] h = absurd (omega (arith, h.low))
prefix_again law (b ∷ bs) h =
    ap (λ r. r >>= row.prefix) (law.needed.bytes field.Hash (prefix_parts (b ∷ bs)) b bs h.bytes refl) ∙ is_prefix (b ∷ bs) h.low h.high

-- ---- the lists of `threatInfo`

threat_again : NamesReadAgain → (t : ThreatType) → row.asked_threat_row (threat_written t) ≡ Ok (Some t)
threat_again names t = ap (λ (o : Option ThreatType). Ok o) (names.threat_words t)

platform_again : NamesReadAgain → (p : PlatformType) → row.asked_platform_row (platform_written p) ≡ Ok (Some p)
platform_again names p = ap (λ (o : Option PlatformType). Ok o) (names.platform_words p)

entry_again : NamesReadAgain → (e : EntryType) → row.asked_entry_row (entry_written e) ≡ Ok (Some e)
entry_again names e = ap (λ (o : Option EntryType). Ok o) (names.entry_words e)

info_again : AreReadAgain → (m : AskedHashes) → row.info_row (find_request_written m) ≡ Ok (info_written m)
info_again law m = law.needed.objects field.ThreatInfo (request_parts m) (made (info_parts m)) refl

found_in_info : AreReadAgain → (m : AskedHashes) (f : Field) (ds : List Data) → found f (info_parts m) ≡ values_written ds
    → row.in_info (items_or_none f) (find_request_written m) ≡ Ok (items_of ds)
found_in_info law m f ds e = ap (λ r. r >>= items_or_none f) (info_again law m) ∙ law.defaults.lists f (info_parts m) ds e

threats_again : AreReadAgain → (m : AskedHashes) → ReadsSome (ReadsAs row.asked_threat_row) (row.in_info row.threats_row (find_request_written m)) m.threats
threats_again law m = somes_always_again (ReadsAs row.asked_threat_row) threat_written (threat_again law.names) m.threats _ (found_in_info law m field.ThreatTypes (map threat_written m.threats) refl)

platforms_again : AreReadAgain → (m : AskedHashes) → ReadsSome (ReadsAs row.asked_platform_row) (row.in_info row.platforms_row (find_request_written m)) m.platforms
platforms_again law m = somes_always_again (ReadsAs row.asked_platform_row) platform_written (platform_again law.names) m.platforms _ (found_in_info law m field.PlatformTypes (map platform_written m.platforms) refl)

entries_again : AreReadAgain → (m : AskedHashes) → ReadsSome (ReadsAs row.asked_entry_row) (row.in_info row.entries_row (find_request_written m)) m.entries
entries_again law m = somes_always_again (ReadsAs row.asked_entry_row) entry_written (entry_again law.names) m.entries _ (found_in_info law m field.ThreatEntryTypes (map entry_written m.entries) refl)

prefixes_again : AreReadAgain → (m : AskedHashes) → All IsPrefix m.prefixes → ReadsList (ReadsAs row.prefix_row) (row.in_info row.prefixes_row (find_request_written m)) m.prefixes
prefixes_again law m h = list_again (ReadsAs row.prefix_row) prefix_written IsPrefix (prefix_again law) m.prefixes h _ (found_in_info law m field.ThreatEntries (map prefix_written m.prefixes) refl)

-- ---- the whole

state_again : AreReadAgain → (state : List ℕ) → IsBytes state → row.asked_state_row (state_written state) ≡ Ok (Some state)
state_again law state h = ap (λ (r : Result (List ℕ) FieldFault). r >>= λ bytes. Ok (Some bytes)) (law.items.bytes field.ClientStates state h)

states_again : AreReadAgain → (m : AskedHashes) → All IsBytes m.states → ReadsSome (ReadsAs row.asked_state_row) (row.states_row (find_request_written m)) m.states
states_again law m h =
    somes_again (ReadsAs row.asked_state_row) state_written IsBytes (state_again law) m.states h _
    (law.defaults.lists field.ClientStates (request_parts m) (map state_written m.states) refl)

outside_again : AreReadAgain → (m : AskedHashes) → IsFindRequestInRange m → ReadsOutsideItems (find_request_written m) m
outside_again law m h = record {
  object = refl;
  client = client_again law m h.client;
  states = states_again law m h.states;
  threats = threats_again law m;
  platforms = platforms_again law m;
  entries = entries_again law m;
}

pub request_again : AreReadAgain → (m : AskedHashes) → IsFindRequestInRange m → ReadsFindRequest (find_request_written m) m
request_again law m h = record {
  outside = outside_again law m h;
  few = h.limits.few;
  prefixes = prefixes_again law m h.prefixes;
}
