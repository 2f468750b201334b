-- A value reads as at most one message.
use Rattle.std.proofs.Common.{◌≡◌, ℕ, List, [], ◌∷◌, Option, Result, Ok, Err, Bool, refl, sym, ap, ◌∙◌, subst}
use Rattle.serde_json.specs.Data.{Data, Items, no_items, item}
use Rattle.sb_json.specs.Values.{◌>>=◌}
use Rattle.sb_json.specs.declared.faults.FieldFault.{FieldFault}
use Rattle.rice_coding.specs.declared.record.RiceRecord.{RiceRecord}
use Rattle.update_messages.specs.declared.sets.Additions.TheVariants as added
use Rattle.update_messages.specs.declared.sets.Removals.TheVariants as removed
use Rattle.update_messages.specs.declared.response.FetchResponse.{FetchResponse}
use Rattle.update_messages.specs.Messages.{list_of_item, Request}
use Rattle.update_messages.specs.RequestRows as request
use Rattle.update_messages.specs.ResponseRows as response
use Rattle.sb_members.specs.Lists.{EachReads, ReadsList}
use Rattle.sb_members.specs.Somes.{somes, ReadsSome}
use Rattle.update_messages.specs.Reading.{ReadsName, TakesCompressions, ReadsAskedItem, ReadsAsked, ReadsRequest, ReadsRice, ReadsRaw, ReadsIndex, ReadsAddition, ReadsRemoval, ReadsUpdatedList, ReadsResponse}

pub same : {A : Type 0} (r : Result A FieldFault) (a b : A) → r ≡ Ok a → r ≡ Ok b → a ≡ b
same r a b e f = cc

-- a relation that gives a value at most one other
abbrev pub IsOneToAny : {A : Type 0} → (Data → A → Type 0) → Type 0
IsOneToAny {A = A} Reads = (d : Data) (a b : A) → Reads d a → Reads d b → a ≡ b

pub each_one : {A : Type 0} (Reads : Data → A → Type 0) → IsOneToAny Reads → (ds : Items) (xs ys : List A) → EachReads Reads ds xs → EachReads Reads ds ys → xs ≡ ys
each_one Reads one no_items [] [] h k = refl
each_one Reads one no_items [] (y ∷ ys) h k = absurd k
each_one Reads one no_items (x ∷ xs) ys h k = absurd h
each_one Reads one (item d ds) [] ys h k = absurd h
each_one Reads one (item d ds) (x ∷ xs) [] h k = absurd k
each_one Reads one (item d ds) (x ∷ xs) (y ∷ ys) h k = λ i. one d x y h.0 k.0 i ∷ each_one Reads one ds xs ys h.1 k.1 i

pub list_one : {A : Type 0} (Reads : Data → A → Type 0) → IsOneToAny Reads → (r : Result Items FieldFault) (xs ys : List A) → ReadsList Reads r xs → ReadsList Reads r ys → xs ≡ ys
list_one Reads one (Ok ds) xs ys h k = each_one Reads one ds xs ys h k
list_one Reads one (Err f) xs ys h k = absurd h

rice_one : (holder : Result Data FieldFault) (a b : RiceRecord) → ReadsRice holder a → ReadsRice holder b → a ≡ b
rice_one holder a b h k = λ i. record {
  first = same (holder >>= response.first_value_row) a.first b.first h.first k.first i;
  parameter = same (holder >>= response.rice_parameter_row) a.parameter b.parameter h.parameter k.parameter i;
  count = same (holder >>= response.entry_count_row) a.count b.count h.count k.count i;
  coded = same (holder >>= response.encoded_row) a.coded b.coded h.coded k.coded i;
}

index_one : IsOneToAny ReadsIndex
index_one d a b h k = same (response.index_row d) a b h k

name_one : IsOneToAny ReadsName
name_one d a b h k = same (request.compression_name_row d) a b h k

raw_one : (holder : Result Data FieldFault) (s t : ℕ) (x y : List ℕ) → ReadsRaw holder s x → ReadsRaw holder t y → added.Raw s x ≡ added.Raw t y
raw_one holder s t x y h k =
    let size : s ≡ t = same (holder >>= response.prefix_size_row) s t h.size_read k.size_read in
    let again : (holder >>= response.raw_bytes_row s) ≡ Ok y = subst (λ (n : ℕ). (holder >>= response.raw_bytes_row n) ≡ Ok y) (sym size) k.bytes_read in
    let bytes : x ≡ y = same (holder >>= response.raw_bytes_row s) x y h.bytes_read again in
    λ i. added.Raw (size i) (bytes i)

addition_one : IsOneToAny ReadsAddition
addition_one set (added.Raw s x) (added.Raw t y) h k = raw_one (response.raw_hashes_row set) s t x y h.1.raw_read k.1.raw_read
addition_one set (added.Raw s x) (added.Rice q) h k = cc (h.1.compression, k.1.compression)
addition_one set (added.Rice r) (added.Raw t y) h k = cc (h.1.compression, k.1.compression)
addition_one set (added.Rice r) (added.Rice q) h k = λ i. added.Rice (rice_one (response.rice_hashes_row set) r q h.1.rice_read k.1.rice_read i)

removal_one : IsOneToAny ReadsRemoval
removal_one set (removed.Raw x) (removed.Raw y) h k =
    λ i. removed.Raw (list_one ReadsIndex index_one (response.raw_indices_row set >>= response.indices_row) x y h.1.indices_read k.1.indices_read i)
removal_one set (removed.Raw x) (removed.Rice q) h k = cc (h.1.compression, k.1.compression)
removal_one set (removed.Rice r) (removed.Raw y) h k = cc (h.1.compression, k.1.compression)
removal_one set (removed.Rice r) (removed.Rice q) h k = λ i. removed.Rice (rice_one (response.rice_indices_row set) r q h.1.rice_read k.1.rice_read i)

update_one : IsOneToAny ReadsUpdatedList
update_one d a b h k = λ i. record {
  name = record {
    threat = same _ a.name.threat b.name.threat h.threat k.threat i;
    platform = same _ a.name.platform b.name.platform h.platform k.platform i;
    entry = same _ a.name.entry b.name.entry h.entry k.entry i;
  };
  full = same _ a.full b.full h.full k.full i;
  base = same _ a.base b.base h.base k.base i;
  additions = list_one ReadsAddition addition_one (response.additions_row d) a.additions b.additions h.additions k.additions i;
  removals = list_one ReadsRemoval removal_one (response.removals_row d) a.removals b.removals h.removals k.removals i;
  new_state = same _ a.new_state b.new_state h.new_state k.new_state i;
  checksum = same _ a.checksum b.checksum h.checksum k.checksum i;
}

pub response_one : (d : Data) (a b : FetchResponse) → ReadsResponse d a → ReadsResponse d b → a ≡ b
response_one d a b h k = λ i. record {
  items = list_one ReadsUpdatedList update_one (response.updates_row d) a.items b.items h.items k.items i;
  wait = same _ a.wait b.wait h.wait k.wait i;
}

taken_one : (r : Result Items FieldFault) (raw rice raw' rice' : Bool) → TakesCompressions r raw rice → TakesCompressions r raw' rice' → (raw ≡ raw') × (rice ≡ rice')
taken_one r raw rice raw' rice' h k =
    let names : h.names ≡ k.names = list_one ReadsName name_one r h.names k.names h.names_read k.names_read in
    (cc (names, h.raw_taken, k.raw_taken), cc (names, h.rice_taken, k.rice_taken))

item_one : IsOneToAny ReadsAskedItem
item_one d a b h k =
    let taken = taken_one _ a.raw a.rice b.raw b.rice h.compressions k.compressions in
    λ i. record {
      name = same _ a.name b.name h.name k.name i;
      state = same _ a.state b.state h.state k.state i;
      max_update = same _ a.max_update b.max_update h.max_update k.max_update i;
      max_database = same _ a.max_database b.max_database h.max_database k.max_database i;
      raw = taken.0 i;
      rice = taken.1 i;
    }

asked_one : IsOneToAny ReadsAsked
asked_one d a b h k = h.kept ∙ ap list_of_item (item_one d h.item k.item h.item_read k.item_read) ∙ sym k.kept

pub some_one : {A : Type 0} (Reads : Data → Option A → Type 0) → IsOneToAny Reads → (r : Result Items FieldFault) (xs ys : List A) → ReadsSome Reads r xs → ReadsSome Reads r ys → xs ≡ ys
some_one {A = A} Reads one r xs ys h k = h.kept ∙ ap (somes {A = A}) (list_one Reads one r h.all k.all h.all_read k.all_read) ∙ sym k.kept

pub request_one : (d : Data) (a b : Request) → ReadsRequest d a → ReadsRequest d b → a ≡ b
request_one d a b h k = λ i. record {
  client = record {
    id = same _ a.client.id b.client.id h.client.id k.client.id i;
    version = same _ a.client.version b.client.version h.client.version k.client.version i;
  };
  items = some_one ReadsAsked asked_one (request.requests_row d) a.items b.items h.items k.items i;
}
