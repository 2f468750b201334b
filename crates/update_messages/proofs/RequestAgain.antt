-- What is written of a request reads as it.
use Rattle.std.proofs.Common.{◌≡◌, ℕ, ◌≤◌, Bool, true, false, List, [], ◌∷◌, ◌++◌, map, Some, Result, Ok, refl, sym, ◌∙◌, subst}
use Rattle.std.specs.Prelude.{codes}
use Rattle.serde_json.specs.Data.{Data, string, Items}
use Rattle.serde_json.specs.View.{items_of}
use Rattle.sb_json.specs.Values.{◌>>=◌}
use Rattle.sb_json.specs.declared.fields.Field.TheVariants as field
use Rattle.sb_json.specs.declared.faults.FieldFault.{FieldFault}
use Rattle.sb_model.specs.Names.{threat_word, threat_of, platform_word, platform_of, entry_word, entry_of}
use Rattle.sb_model.specs.declared.names.ListName.{ListName}
use Rattle.sb_members.specs.Laws.{AreReadAgain}
use Rattle.sb_members.specs.Parts.{Parts}
use Rattle.sb_members.specs.Writing.{text_written, bytes_written, number_written, list_written, unless_bare}
use Rattle.update_messages.specs.declared.client.ClientInfo.{ClientInfo}
use Rattle.update_messages.specs.Messages.{AskedList, AskedItem, Request, most_i32}
use Rattle.update_messages.specs.Ranges.{IsClientInRange, IsAskedInRange, IsRequestInRange}
use Rattle.update_messages.specs.RequestRows.{name_of_types, asked_name_row, client_row, client_id_row, client_version_row, constraints_row, max_update_row, max_database_row, compressions_row, requests_row}
use Rattle.update_messages.specs.Reading.{TakesCompressions, ReadsAskedItem, ReadsAsked, ReadsClient, ReadsRequest}
use Rattle.update_messages.specs.Writing.{word_if, compressions_written, client_members, constraint_members, asked_written, request_written}
use Rattle.update_messages.proofs.WrittenRows.{bare_found, state_found}
use Rattle.update_messages.proofs.WrittenLists.{some_again}

abbrev pub constraint_parts : AskedList → Parts
constraint_parts a =
    (field.MaxDatabaseEntries, number_written a.max_database)
    ∷ (field.MaxUpdateEntries, number_written a.max_update)
    ∷ (field.SupportedCompressions, compressions_written a.raw a.rice) ∷ []

abbrev pub asked_parts : AskedList → Parts
asked_parts a =
    (field.Constraints, unless_bare (constraint_members a))
    ∷ (field.PlatformType, Some (string (platform_word a.name.platform)))
    ∷ (field.State, bytes_written a.state)
    ∷ (field.ThreatEntryType, Some (string (entry_word a.name.entry)))
    ∷ (field.ThreatType, Some (string (threat_word a.name.threat))) ∷ []

abbrev pub client_parts : ClientInfo → Parts
client_parts c = (field.ClientId, text_written c.id) ∷ (field.ClientVersion, text_written c.version) ∷ []

abbrev pub request_parts : Request → Parts
request_parts m = (field.Client, unless_bare (client_members m.client)) ∷ (field.ListUpdateRequests, list_written asked_written m.items) ∷ []

-- the item of a list that has a name
abbrev item_of_list : AskedList → AskedItem
item_of_list a = record {
  name = Some a.name;
  state = a.state;
  max_update = a.max_update;
  max_database = a.max_database;
  raw = a.raw;
  rice = a.rice;
}

abbrev words : Bool → Bool → List Data
words raw rice = word_if raw (codes "RAW") ++ word_if rice (codes "RICE")

-- the words that are written are those that are taken
words_taken : (raw rice : Bool) → TakesCompressions (Ok (items_of (words raw rice))) raw rice
words_taken true true = record { names = codes "RAW" ∷ codes "RICE" ∷ []; names_read = (refl, (refl, tt)); raw_taken = refl; rice_taken = refl }
words_taken true false = record { names = codes "RAW" ∷ []; names_read = (refl, tt); raw_taken = refl; rice_taken = refl }
words_taken false true = record { names = codes "RICE" ∷ []; names_read = (refl, tt); raw_taken = refl; rice_taken = refl }
words_taken false false = record { names = []; names_read = tt; raw_taken = refl; rice_taken = refl }

words_found : AreReadAgain → (a : AskedList) → (constraints_row (asked_written a) >>= compressions_row) ≡ Ok (items_of (words a.raw a.rice))
words_found law a =
    bare_found law field.Constraints (asked_parts a) (constraint_members a) compressions_row refl refl
    ∙ law.defaults.lists field.SupportedCompressions (constraint_parts a) (words a.raw a.rice) refl

compressions_again : AreReadAgain → (a : AskedList) → TakesCompressions (constraints_row (asked_written a) >>= compressions_row) a.raw a.rice
compressions_again law a = subst (λ (r : Result Items FieldFault). TakesCompressions r a.raw a.rice) (sym (words_found law a)) (words_taken a.raw a.rice)

max_update_again : AreReadAgain → (a : AskedList) → a.max_update ≤ most_i32 → (constraints_row (asked_written a) >>= max_update_row) ≡ Ok a.max_update
max_update_again law a h =
    bare_found law field.Constraints (asked_parts a) (constraint_members a) max_update_row refl refl
    ∙ law.defaults.numbers field.MaxUpdateEntries most_i32 (constraint_parts a) a.max_update h refl

max_database_again : AreReadAgain → (a : AskedList) → a.max_database ≤ most_i32 → (constraints_row (asked_written a) >>= max_database_row) ≡ Ok a.max_database
max_database_again law a h =
    bare_found law field.Constraints (asked_parts a) (constraint_members a) max_database_row refl refl
    ∙ law.defaults.numbers field.MaxDatabaseEntries most_i32 (constraint_parts a) a.max_database h refl

three_words : (t p e : Result (List ℕ) FieldFault) (name : ListName)
    → t ≡ Ok (threat_word name.threat) → p ≡ Ok (platform_word name.platform) → e ≡ Ok (entry_word name.entry)
    → threat_of (threat_word name.threat) ≡ Some name.threat → platform_of (platform_word name.platform) ≡ Some name.platform → entry_of (entry_word name.entry) ≡ Some name.entry
    → (t >>= λ threat. p >>= λ platform. e >>= λ entry. Ok (name_of_types (threat_of threat) (platform_of platform) (entry_of entry))) ≡ Ok (Some name)
three_words t p e name ht hp he kt kp ke = rw (ht, hp, he, kt, kp, ke) refl

name_again : AreReadAgain → (a : AskedList) → asked_name_row (asked_written a) ≡ Ok (Some a.name)
name_again law a =
    three_words _ _ _ a.name
    (law.needed.strings field.ThreatType (asked_parts a) (threat_word a.name.threat) refl)
    (law.needed.strings field.PlatformType (asked_parts a) (platform_word a.name.platform) refl)
    (law.needed.strings field.ThreatEntryType (asked_parts a) (entry_word a.name.entry) refl)
    (law.names.threat_words a.name.threat) (law.names.platform_words a.name.platform) (law.names.entry_words a.name.entry)

item_again : AreReadAgain → (a : AskedList) → IsAskedInRange a → ReadsAskedItem (asked_written a) (item_of_list a)
item_again law a h = record {
  object = refl;
  name = name_again law a;
  state = state_found law field.State (asked_parts a) a.state h.state h.limits.state refl;
  max_update = max_update_again law a h.limits.max_update;
  max_database = max_database_again law a h.limits.max_database;
  compressions = compressions_again law a;
}

asked_again : AreReadAgain → (a : AskedList) → IsAskedInRange a → ReadsAsked (asked_written a) (Some a)
asked_again law a h = record { item = item_of_list a; item_read = item_again law a h; kept = refl }

client_again : AreReadAgain → (m : Request) → IsClientInRange m.client → ReadsClient (client_row (request_written m)) m.client
client_again law m h = record {
  id =
      bare_found law field.Client (request_parts m) (client_members m.client) client_id_row refl refl
      ∙ law.defaults.texts field.ClientId (client_parts m.client) m.client.id h.id refl;
  version =
      bare_found law field.Client (request_parts m) (client_members m.client) client_version_row refl refl
      ∙ law.defaults.texts field.ClientVersion (client_parts m.client) m.client.version h.version refl;
}

pub request_again : AreReadAgain → (m : Request) → IsRequestInRange m → ReadsRequest (request_written m) m
request_again law m h = record {
  object = refl;
  client = client_again law m h.client;
  few = h.limits.few;
  items =
      some_again ReadsAsked asked_written IsAskedInRange (asked_again law) m.items h.items (requests_row (request_written m))
      (law.defaults.lists field.ListUpdateRequests (request_parts m) (map asked_written m.items) refl);
}
