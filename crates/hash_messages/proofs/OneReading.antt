-- A value reads as at most one message.
use Rattle.std.proofs.Common.{◌≡◌, List, [], ◌∷◌, Option, Result, Ok, Err, refl, sym, ap, ◌∙◌}
use Rattle.serde_json.specs.Data.{Data, Items, no_items, item}
use Rattle.sb_json.specs.declared.faults.FieldFault.{FieldFault}
use Rattle.sb_members.specs.Lists.{EachReads, ReadsList}
use Rattle.sb_members.specs.Somes.{somes, ReadsSome}
use Rattle.hash_messages.specs.declared.response.FindResponse.{FindResponse}
use Rattle.hash_messages.specs.Messages.{AskedHashes}
use Rattle.hash_messages.specs.RequestRows as request
use Rattle.hash_messages.specs.ResponseRows as response
use Rattle.hash_messages.specs.Reading.{ReadsAs, ReadsFindRequest, ReadsMatch, ReadsFindResponse}

same : {A : Type 0} (r : Result A FieldFault) (a b : A) → r ≡ Ok a → r ≡ Ok b → a ≡ b
same r a b e f = cc

-- a relation that gives a value at most one other
abbrev IsOneToAny : {A : Type 0} → (Data → A → Type 0) → Type 0
IsOneToAny {A = A} Reads = (d : Data) (a b : A) → Reads d a → Reads d b → a ≡ b

each_one : {A : Type 0} (Reads : Data → A → Type 0) → IsOneToAny Reads → (ds : Items) (xs ys : List A) → EachReads Reads ds xs → EachReads Reads ds ys → xs ≡ ys
each_one Reads one no_items [] [] h k = refl
each_one Reads one no_items [] (y ∷ ys) h k = absurd k
each_one Reads one no_items (x ∷ xs) ys h k = absurd h
each_one Reads one (item d ds) [] ys h k = absurd h
each_one Reads one (item d ds) (x ∷ xs) [] h k = absurd k
each_one Reads one (item d ds) (x ∷ xs) (y ∷ ys) h k = λ i. one d x y h.0 k.0 i ∷ each_one Reads one ds xs ys h.1 k.1 i

list_one : {A : Type 0} (Reads : Data → A → Type 0) → IsOneToAny Reads → (r : Result Items FieldFault) (xs ys : List A) → ReadsList Reads r xs → ReadsList Reads r ys → xs ≡ ys
list_one Reads one (Ok ds) xs ys h k = each_one Reads one ds xs ys h k
list_one Reads one (Err f) xs ys h k = absurd h

rows_one : {A : Type 0} (row : Data → Result A FieldFault) (r : Result Items FieldFault) (xs ys : List A) → ReadsList (ReadsAs row) r xs → ReadsList (ReadsAs row) r ys → xs ≡ ys
rows_one row r xs ys h k = list_one (ReadsAs row) (λ d a b. same (row d) a b) r xs ys h k

some_one : {A : Type 0} (row : Data → Result (Option A) FieldFault) (r : Result Items FieldFault) (xs ys : List A) → ReadsSome (ReadsAs row) r xs → ReadsSome (ReadsAs row) r ys → xs ≡ ys
some_one {A = A} row r xs ys h k = h.kept ∙ ap (somes {A = A}) (rows_one row r h.all k.all h.all_read k.all_read) ∙ sym k.kept

pub request_one : (d : Data) (a b : AskedHashes) → ReadsFindRequest d a → ReadsFindRequest d b → a ≡ b
request_one d a b h k = λ i. record {
  client = record {
    id = same _ a.client.id b.client.id h.outside.client.id k.outside.client.id i;
    version = same _ a.client.version b.client.version h.outside.client.version k.outside.client.version i;
  };
  states = some_one request.asked_state_row (request.states_row d) a.states b.states h.outside.states k.outside.states i;
  threats = some_one request.asked_threat_row (request.in_info request.threats_row d) a.threats b.threats h.outside.threats k.outside.threats i;
  platforms = some_one request.asked_platform_row (request.in_info request.platforms_row d) a.platforms b.platforms h.outside.platforms k.outside.platforms i;
  entries = some_one request.asked_entry_row (request.in_info request.entries_row d) a.entries b.entries h.outside.entries k.outside.entries i;
  prefixes = rows_one request.prefix_row (request.in_info request.prefixes_row d) a.prefixes b.prefixes h.prefixes k.prefixes i;
}

match_one : IsOneToAny ReadsMatch
match_one d a b h k = λ i. record {
  name = record {
    threat = same _ a.name.threat b.name.threat h.threat k.threat i;
    platform = same _ a.name.platform b.name.platform h.platform k.platform i;
    entry = same _ a.name.entry b.name.entry h.entry k.entry i;
  };
  hash = record { bytes = same _ a.hash.bytes b.hash.bytes h.hash k.hash i };
  cache = same _ a.cache b.cache h.cache k.cache i;
}

pub response_one : (d : Data) (a b : FindResponse) → ReadsFindResponse d a → ReadsFindResponse d b → a ≡ b
response_one d a b h k = λ i. record {
  matches = list_one ReadsMatch match_one (response.matches_row d) a.matches b.matches h.matches k.matches i;
  wait = same _ a.wait b.wait h.wait k.wait i;
  negative = same _ a.negative b.negative h.negative k.negative i;
}
