-- What is written of a request reads as it.
use Rattle.std.proofs.Common.{◌≡◌, ℕ, List, [], ◌∷◌, map, Option, Some, Result, Ok, refl, ap, ◌∙◌, All, encode_utf8_all}
use Rattle.std.specs.Str.{chars}
use Rattle.serde_json.specs.Data.{Data, null, object, Members, no_members, member, string}
use Rattle.serde_json.specs.View.{items_of}
use Rattle.sb_json.specs.Values.{◌>>=◌, text_chars_of}
use Rattle.sb_json.specs.declared.fields.Field.{Field}
use Rattle.sb_json.specs.declared.fields.Field.TheVariants as field
use Rattle.sb_json.specs.declared.faults.FieldFault.{FieldFault}
use Rattle.sb_model.specs.declared.names.ThreatType.{ThreatType}
use Rattle.sb_model.specs.declared.names.PlatformType.{PlatformType}
use Rattle.sb_model.specs.declared.names.EntryType.{EntryType}
use Rattle.sb_members.specs.Laws.{AreReadAgain, NamesReadAgain}
use Rattle.sb_members.specs.Lists.{ReadsList}
use Rattle.sb_members.specs.Parts.{Parts, made, found, or_null}
use Rattle.sb_members.specs.Ranges.{IsText}
use Rattle.sb_members.specs.Rows.{object_or_null, items_or_none}
use Rattle.sb_members.specs.Somes.{ReadsSome}
use Rattle.sb_members.specs.Writing.{text_written, values_written, list_written, unless_bare}
use Rattle.update_messages.specs.declared.client.ClientInfo.{ClientInfo}
use Rattle.update_messages.specs.Ranges.{IsClientInRange}
use Rattle.update_messages.specs.RequestRows.{client_row, client_id_row, client_version_row}
use Rattle.update_messages.specs.Reading.{ReadsClient}
use Rattle.update_messages.specs.Writing.{client_members}
use Rattle.hash_messages.specs.RequestRows as find
use Rattle.hash_messages.specs.Reading.{ReadsAs}
use Rattle.hash_messages.specs.Writing.{threat_written, platform_written, entry_written}
use Rattle.lookup_messages.specs.Messages.{AskedUrls}
use Rattle.lookup_messages.specs.Ranges.{IsLookupInRange}
use Rattle.lookup_messages.specs.RequestRows as row
use Rattle.lookup_messages.specs.Reading.{ReadsLookupOutsideItems, ReadsLookup}
use Rattle.lookup_messages.specs.Writing.{url_written, lookup_info_written, lookup_written}
use Rattle.lookup_messages.proofs.WrittenLists.{list_again, somes_always_again}

abbrev pub client_parts : ClientInfo → Parts
client_parts c = (field.ClientId, text_written c.id) ∷ (field.ClientVersion, text_written c.version) ∷ []

abbrev pub url_parts : List ℕ → Parts
url_parts url = (field.Url, Some (string (encode_utf8_all url))) ∷ []

abbrev pub info_parts : AskedUrls → Parts
info_parts m =
    (field.PlatformTypes, list_written platform_written m.platforms)
    ∷ (field.ThreatEntries, list_written url_written m.urls)
    ∷ (field.ThreatEntryTypes, list_written entry_written m.entries)
    ∷ (field.ThreatTypes, list_written threat_written m.threats) ∷ []

abbrev pub request_parts : AskedUrls → Parts
request_parts m = (field.Client, unless_bare (client_members m.client)) ∷ (field.ThreatInfo, Some (lookup_info_written m)) ∷ []

-- an object that is left out if it is bare has the same rows
bare_row : {A : Type 0} (ms : Members) (read : Data → Result A FieldFault) → read null ≡ read (object no_members) → read (or_null ms) ≡ read (object ms)
bare_row no_members read h = h
bare_row (member k d ms) read h = refl

bare_found : AreReadAgain → (f : Field) (ps : Parts) (ms : Members) {A : Type 0} (read : Data → Result A FieldFault) → read null ≡ read (object no_members)
    → found f ps ≡ unless_bare ms → (object_or_null f (object (made ps)) >>= read) ≡ read (object ms)
bare_found law f ps ms read h e = ap (λ r. r >>= read) (law.defaults.objects f ps ms e) ∙ bare_row ms read h

client_again : AreReadAgain → (m : AskedUrls) → IsClientInRange m.client → ReadsClient (client_row (lookup_written m)) m.client
client_again law m h = record {
  id =
      bare_found law field.Client (request_parts m) (client_members m.client) client_id_row refl refl
      ∙ law.defaults.texts field.ClientId (client_parts m.client) m.client.id h.id refl;
  version =
      bare_found law field.Client (request_parts m) (client_members m.client) client_version_row refl refl
      ∙ law.defaults.texts field.ClientVersion (client_parts m.client) m.client.version h.version refl;
}

-- ---- a URL

pub text_again : AreReadAgain → (url : List ℕ) → IsText url → text_chars_of field.Url (url_written url) ≡ Ok url
text_again law url h =
    ap (λ (r : Result (List ℕ) FieldFault). r >>= λ s. Ok (chars s)) (law.needed.strings field.Url (url_parts url) (encode_utf8_all url) refl)
    ∙ ap (λ (cs : List ℕ). Ok cs) h

url_again : AreReadAgain → (url : List ℕ) → IsText url → row.url_row (url_written url) ≡ Ok url
url_again law url h = text_again law url h

-- ---- the lists of `threatInfo`

threat_again : NamesReadAgain → (t : ThreatType) → find.asked_threat_row (threat_written t) ≡ Ok (Some t)
threat_again names t = ap (λ (o : Option ThreatType). Ok o) (names.threat_words t)

platform_again : NamesReadAgain → (p : PlatformType) → find.asked_platform_row (platform_written p) ≡ Ok (Some p)
platform_again names p = ap (λ (o : Option PlatformType). Ok o) (names.platform_words p)

entry_again : NamesReadAgain → (e : EntryType) → find.asked_entry_row (entry_written e) ≡ Ok (Some e)
entry_again names e = ap (λ (o : Option EntryType). Ok o) (names.entry_words e)

info_again : AreReadAgain → (m : AskedUrls) → find.info_row (lookup_written m) ≡ Ok (lookup_info_written m)
info_again law m = law.needed.objects field.ThreatInfo (request_parts m) (made (info_parts m)) refl

found_in_info : AreReadAgain → (m : AskedUrls) (f : Field) (ds : List Data) → found f (info_parts m) ≡ values_written ds
    → find.in_info (items_or_none f) (lookup_written m) ≡ Ok (items_of ds)
found_in_info law m f ds e = ap (λ r. r >>= items_or_none f) (info_again law m) ∙ law.defaults.lists f (info_parts m) ds e

threats_again : AreReadAgain → (m : AskedUrls) → ReadsSome (ReadsAs find.asked_threat_row) (find.in_info find.threats_row (lookup_written m)) m.threats
threats_again law m = somes_always_again (ReadsAs find.asked_threat_row) threat_written (threat_again law.names) m.threats _ (found_in_info law m field.ThreatTypes (map threat_written m.threats) refl)

platforms_again : AreReadAgain → (m : AskedUrls) → ReadsSome (ReadsAs find.asked_platform_row) (find.in_info find.platforms_row (lookup_written m)) m.platforms
platforms_again law m = somes_always_again (ReadsAs find.asked_platform_row) platform_written (platform_again law.names) m.platforms _ (found_in_info law m field.PlatformTypes (map platform_written m.platforms) refl)

entries_again : AreReadAgain → (m : AskedUrls) → ReadsSome (ReadsAs find.asked_entry_row) (find.in_info find.entries_row (lookup_written m)) m.entries
entries_again law m = somes_always_again (ReadsAs find.asked_entry_row) entry_written (entry_again law.names) m.entries _ (found_in_info law m field.ThreatEntryTypes (map entry_written m.entries) refl)

urls_again : AreReadAgain → (m : AskedUrls) → All IsText m.urls → ReadsList (ReadsAs row.url_row) (find.in_info row.urls_row (lookup_written m)) m.urls
urls_again law m h = list_again (ReadsAs row.url_row) url_written IsText (url_again law) m.urls h _ (found_in_info law m field.ThreatEntries (map url_written m.urls) refl)

-- ---- the whole

outside_again : AreReadAgain → (m : AskedUrls) → IsLookupInRange m → ReadsLookupOutsideItems (lookup_written m) m
outside_again law m h = record {
  object = refl;
  client = client_again law m h.client;
  threats = threats_again law m;
  platforms = platforms_again law m;
  entries = entries_again law m;
}

pub request_again : AreReadAgain → (m : AskedUrls) → IsLookupInRange m → ReadsLookup (lookup_written m) m
request_again law m h = record {
  outside = outside_again law m h;
  few = h.limits.few;
  urls = urls_again law m h.urls;
}
