-- A value reads as at most one message.
use Rattle.std.proofs.Common.{◌≡◌, List, [], ◌∷◌, Option, Result, Ok, Err, refl, sym, ap, ◌∙◌}
use Rattle.serde_json.specs.Data.{Data, Items, no_items, item}
use Rattle.sb_json.specs.declared.faults.FieldFault.{FieldFault}
use Rattle.sb_members.specs.Lists.{EachReads, ReadsList}
use Rattle.sb_members.specs.Somes.{somes, ReadsSome}
use Rattle.hash_messages.specs.RequestRows as find
use Rattle.hash_messages.specs.ResponseRows.{matches_row}
use Rattle.hash_messages.specs.Reading.{ReadsAs}
use Rattle.lookup_messages.specs.declared.response.LookupResponse.{LookupResponse}
use Rattle.lookup_messages.specs.Messages.{AskedUrls}
use Rattle.lookup_messages.specs.RequestRows as request
use Rattle.lookup_messages.specs.Reading.{ReadsLookup, ReadsLookupMatch, ReadsLookupResponse}

same : {A : Type 0} (r : Result A FieldFault) (a b : A) → r ≡ Ok a → r ≡ Ok b → a ≡ b
same r a b e f = cc

-- a relation that gives a value at most one other
abbrev IsOneToAny : {A : Type 0} → (Data → A → Type 0) → Type 0
IsOneToAny {A = A} Reads = (d : Data) (a b : A) → Reads d a → Reads d b → a ≡ b

each_one : {A : Type 0} (Reads : Data → A → Type 0) → IsOneToAny Reads → (ds : Items) (xs ys : List A) → EachReads Reads ds xs → EachReads Reads ds ys → xs ≡ ys
each_one Reads one no_items [] [] h k = refl
each_one Reads one no_items [] (y ∷ ys) h k = absurd k
each_one Reads one no_items (x ∷ xs) ys h k = absurd h
each_one Reads one (item d ds) [] ys h k = absurd h
each_one Reads one (item d ds) (x ∷ xs) [] h k = absurd k
each_one Reads one (item d ds) (x ∷ xs) (y ∷ ys) h k = λ i. one d x y h.0 k.0 i ∷ each_one Reads one ds xs ys h.1 k.1 i

list_one : {A : Type 0} (Reads : Data → A → Type 0) → IsOneToAny Reads → (r : Result Items FieldFault) (xs ys : List A) → ReadsList Reads r xs → ReadsList Reads r ys → xs ≡ ys
list_one Reads one (Ok ds) xs ys h k = each_one Reads one ds xs ys h k
list_one Reads one (Err f) xs ys h k = absurd h

rows_one : {A : Type 0} (row : Data → Result A FieldFault) (r : Result Items FieldFault) (xs ys : List A) → ReadsList (ReadsAs row) r xs → ReadsList (ReadsAs row) r ys → xs ≡ ys
rows_one row r xs ys h k = list_one (ReadsAs row) (λ d a b. same (row d) a b) r xs ys h k

some_one : {A : Type 0} (row : Data → Result (Option A) FieldFault) (r : Result Items FieldFault) (xs ys : List A) → ReadsSome (ReadsAs row) r xs → ReadsSome (ReadsAs row) r ys → xs ≡ ys
some_one {A = A} row r xs ys h k = h.kept ∙ ap (somes {A = A}) (rows_one row r h.all k.all h.all_read k.all_read) ∙ sym k.kept

pub request_one : (d : Data) (a b : AskedUrls) → ReadsLookup d a → ReadsLookup d b → a ≡ b
request_one d a b h k = λ i. record {
  client = record {
    id = same _ a.client.id b.client.id h.outside.client.id k.outside.client.id i;
    version = same _ a.client.version b.client.version h.outside.client.version k.outside.client.version i;
  };
  threats = some_one find.asked_threat_row (find.in_info find.threats_row d) a.threats b.threats h.outside.threats k.outside.threats i;
  platforms = some_one find.asked_platform_row (find.in_info find.platforms_row d) a.platforms b.platforms h.outside.platforms k.outside.platforms i;
  entries = some_one find.asked_entry_row (find.in_info find.entries_row d) a.entries b.entries h.outside.entries k.outside.entries i;
  urls = rows_one request.url_row (find.in_info request.urls_row d) a.urls b.urls h.urls k.urls i;
}

match_one : IsOneToAny ReadsLookupMatch
match_one d a b h k = λ i. record {
  name = record {
    threat = same _ a.name.threat b.name.threat h.threat k.threat i;
    platform = same _ a.name.platform b.name.platform h.platform k.platform i;
    entry = same _ a.name.entry b.name.entry h.entry k.entry i;
  };
  url = same _ a.url b.url h.url k.url i;
  cache = same _ a.cache b.cache h.cache k.cache i;
}

pub response_one : (d : Data) (a b : LookupResponse) → ReadsLookupResponse d a → ReadsLookupResponse d b → a ≡ b
response_one d a b h k = λ i. record { matches = list_one ReadsLookupMatch match_one (matches_row d) a.matches b.matches h.matches k.matches i }
