-- What has no fault reads as a message.
use Rattle.std.proofs.Common.{◌≡◌, ℕ, ◌+◌, ◌≤◌, Bool, true, false, nat_le, cond, List, [], ◌∷◌, length, Option, Some, None, Result, Ok, Err, refl, subst, arith}
use Rattle.std.specs.Prelude.{codes}
use Rattle.std.proofs.lemmas.Bool.{leb-true}
use Rattle.serde_json.specs.Data.{Data, null, boolean, number, string, array, object, Items, no_items, item}
use Rattle.sb_json.specs.Values.{◌>>=◌, object_in}
use Rattle.sb_json.specs.declared.fields.Field.{Field}
use Rattle.sb_json.specs.declared.fields.Field.TheVariants as field
use Rattle.sb_json.specs.declared.faults.FieldFault.{FieldFault}
use Rattle.sb_json.specs.declared.faults.MessageFault.TheVariants.{TooManyItems}
use Rattle.rice_coding.specs.declared.record.RiceRecord.{RiceRecord}
use Rattle.update_messages.specs.declared.client.ClientInfo.{ClientInfo}
use Rattle.update_messages.specs.declared.sets.Compression.{Compression}
use Rattle.update_messages.specs.declared.sets.Compression.TheVariants as compression
use Rattle.update_messages.specs.declared.sets.Additions.{Additions}
use Rattle.update_messages.specs.declared.sets.Additions.TheVariants as added
use Rattle.update_messages.specs.declared.sets.Removals.{Removals}
use Rattle.update_messages.specs.declared.sets.Removals.TheVariants as removed
use Rattle.update_messages.specs.declared.response.FetchResponse.{FetchResponse}
use Rattle.update_messages.specs.Messages.{AskedList, list_of_item, Request, UpdatedList, most_items}
use Rattle.sb_members.specs.Lists.{EachReads, ReadsList, fault_of_row, first, first_of_items, fault_of_list, first_from, in_item}
use Rattle.sb_members.specs.Somes.{somes, ReadsSome}
use Rattle.sb_members.specs.Rows.{threat_row, platform_row, entry_row}
use Rattle.update_messages.specs.RequestRows as request
use Rattle.update_messages.specs.ResponseRows as response
use Rattle.update_messages.specs.Reading.{ReadsRice, ReadsRaw, ReadsIndex, ReadsAddition, ReadsRemoval, ReadsUpdatedList, ReadsResponse, ReadsName, TakesCompressions, ReadsAskedItem, ReadsAsked, ReadsClient, ReadsRequest}
use Rattle.update_messages.specs.Faults.{faults_of_rice, faults_of_raw_hashes, faults_of_hashes, faults_of_indices, fault_of_index, faults_of_addition, fault_of_addition, faults_of_removal, fault_of_removal, faults_of_update, fault_of_update, fault_of_updates, faults_of_response, fault_of_response, fault_of_name, faults_of_asked, fault_of_asked, faults_of_client, named_count, fault_of_requests, faults_of_request, fault_of_request}
use Rattle.update_messages.proofs.NamedItems.{named_are_read}

-- none of them is there
abbrev AllNone : {F : Type 0} → List (Option F) → Type 0
AllNone [] = Unit {0}
AllNone (o ∷ os) = (o ≡ None) × AllNone os

all_none : {F : Type 0} (os : List (Option F)) → first os ≡ None → AllNone os
all_none [] e = tt
all_none (None ∷ os) e = (refl, all_none os e)
all_none (Some f ∷ os) e = absurd (cc e)

row_read : {A : Type 0} (r : Result A FieldFault) → fault_of_row r ≡ None → (a : A) × (r ≡ Ok a)
row_read (Ok a) e = (a, refl)
row_read (Err f) e = absurd (cc e)

-- a row that goes by what another is read as
abbrev Both : {A B : Type 0} → Result A FieldFault → (A → Result B FieldFault) → Type 0
Both {A = A} {B = B} r f = (a : A) × (b : B) × (r ≡ Ok a) × (f a ≡ Ok b)

both_read : {A B : Type 0} (r : Result A FieldFault) (f : A → Result B FieldFault) → fault_of_row (r >>= f) ≡ None → Both r f
both_read (Ok a) f e = let b = row_read (f a) e in (a, b.0, refl, b.1)
both_read (Err g) f e = absurd (cc e)

object_same : (f : Field) (d e : Data) → object_in f d ≡ Ok e → object_in f d ≡ Ok d
object_same f null e h = absurd (cc h)
object_same f (boolean b) e h = absurd (cc h)
object_same f (number n) e h = absurd (cc h)
object_same f (string s) e h = absurd (cc h)
object_same f (array ds) e h = absurd (cc h)
object_same f (object ms) e h = refl

is_object : (f : Field) (d : Data) → fault_of_row (object_in f d) ≡ None → object_in f d ≡ Ok d
is_object f d e = let o = row_read (object_in f d) e in object_same f d o.0 o.1

-- a relation that holds for something wherever there is no fault
abbrev IsThereIfClean : {A : Type 0} → (Data → A → Type 0) → (Data → Option FieldFault) → Type 0
IsThereIfClean {A = A} Reads fault = (d : Data) → fault d ≡ None → (a : A) × Reads d a

each_there : {A : Type 0} (Reads : Data → A → Type 0) (fault : Data → Option FieldFault) → IsThereIfClean Reads fault → (ds : Items) → first_of_items fault ds ≡ None → (xs : List A) × EachReads Reads ds xs
each_there Reads fault there no_items e = ([], tt)
each_there Reads fault there (item d ds) e =
    let h : AllNone (fault d ∷ first_of_items fault ds ∷ []) = all_none (fault d ∷ first_of_items fault ds ∷ []) e in
    let x = there d h.0 in
    let xs = each_there Reads fault there ds h.1.0 in
    (x.0 ∷ xs.0, (x.1, xs.1))

list_there : {A : Type 0} (Reads : Data → A → Type 0) (fault : Data → Option FieldFault) → IsThereIfClean Reads fault → (r : Result Items FieldFault) → fault_of_list fault r ≡ None → (xs : List A) × ReadsList Reads r xs
list_there Reads fault there (Ok ds) e = each_there Reads fault there ds e
list_there Reads fault there (Err f) e = absurd (cc e)

not_in_item : (n : ℕ) (o : Option FieldFault) → in_item n o ≡ None → o ≡ None
not_in_item n None e = refl
not_in_item n (Some f) e = absurd (cc e)

numbered_there : {A : Type 0} (Reads : Data → A → Type 0) (fault : Data → Option FieldFault) → IsThereIfClean Reads fault → (n : ℕ) (ds : Items) → first_from fault n ds ≡ None → (xs : List A) × EachReads Reads ds xs
numbered_there Reads fault there n no_items e = ([], tt)
numbered_there Reads fault there n (item d ds) e =
    let h : AllNone (in_item n (fault d) ∷ first_from fault (n + 1) ds ∷ []) = all_none (in_item n (fault d) ∷ first_from fault (n + 1) ds ∷ []) e in
    let x = there d (not_in_item n (fault d) h.0) in
    let xs = numbered_there Reads fault there (n + 1) ds h.1.0 in
    (x.0 ∷ xs.0, (x.1, xs.1))

rice_there : (holder : Result Data FieldFault) → AllNone (faults_of_rice holder) → (r : RiceRecord) × ReadsRice holder r
rice_there holder h =
    let a = row_read (holder >>= response.first_value_row) h.0 in
    let b = row_read (holder >>= response.rice_parameter_row) h.1.0 in
    let c = row_read (holder >>= response.entry_count_row) h.1.1.0 in
    let d = row_read (holder >>= response.encoded_row) h.1.1.1.0 in
    (record { first = a.0; parameter = b.0; count = c.0; coded = d.0 }, record { first = a.1; parameter = b.1; count = c.1; coded = d.1 })

raw_there : (holder : Result Data FieldFault) → AllNone (faults_of_raw_hashes holder) → (size : ℕ) × (bytes : List ℕ) × ReadsRaw holder size bytes
raw_there holder h =
    let b = both_read (holder >>= response.prefix_size_row) (λ size. holder >>= response.raw_bytes_row size) h.1.0 in
    (b.0, b.1, record { size_read = b.2; bytes_read = b.3 })

index_there : IsThereIfClean ReadsIndex fault_of_index
index_there d e = row_read (response.index_row d) e

name_there : IsThereIfClean ReadsName fault_of_name
name_there d e = row_read (request.compression_name_row d) e

hashes_there : (set : Data) (k : Compression) → response.addition_row set ≡ Ok set → response.compression_row set ≡ Ok k → AllNone (faults_of_hashes set (Ok k)) → (a : Additions) × ReadsAddition set a
hashes_there set compression.Raw o e h =
    let raw = raw_there (response.raw_hashes_row set) h in
    (added.Raw raw.0 raw.1, (o, record { compression = e; raw_read = raw.2 }))
hashes_there set compression.Rice o e h =
    let rice = rice_there (response.rice_hashes_row set) h in
    (added.Rice rice.0, (o, record { compression = e; rice_read = rice.1 }))

addition_there : IsThereIfClean ReadsAddition fault_of_addition
addition_there set e =
    let h : AllNone (faults_of_addition set) = all_none (faults_of_addition set) e in
    let k = row_read (response.compression_row set) h.1.0 in
    let P : Result Compression FieldFault → Type 0 = λ r. AllNone (faults_of_hashes set r) in
    hashes_there set k.0 (is_object field.Additions set h.0) k.1 (subst P k.1 h.1.1)

indices_there : (set : Data) (k : Compression) → response.removal_row set ≡ Ok set → response.compression_row set ≡ Ok k → AllNone (faults_of_indices set (Ok k)) → (a : Removals) × ReadsRemoval set a
indices_there set compression.Raw o e h =
    let places = list_there ReadsIndex fault_of_index index_there (response.raw_indices_row set >>= response.indices_row) h.0 in
    (removed.Raw places.0, (o, record { compression = e; indices_read = places.1 }))
indices_there set compression.Rice o e h =
    let rice = rice_there (response.rice_indices_row set) h in
    (removed.Rice rice.0, (o, record { compression = e; rice_read = rice.1 }))

removal_there : IsThereIfClean ReadsRemoval fault_of_removal
removal_there set e =
    let h : AllNone (faults_of_removal set) = all_none (faults_of_removal set) e in
    let k = row_read (response.compression_row set) h.1.0 in
    let P : Result Compression FieldFault → Type 0 = λ r. AllNone (faults_of_indices set r) in
    indices_there set k.0 (is_object field.Removals set h.0) k.1 (subst P k.1 h.1.1)

update_there : IsThereIfClean ReadsUpdatedList fault_of_update
update_there d e =
    let h : AllNone (faults_of_update d) = all_none (faults_of_update d) e in
    let threat = row_read (threat_row d) h.1.0 in
    let platform = row_read (platform_row d) h.1.1.0 in
    let entry = row_read (entry_row d) h.1.1.1.0 in
    let full = row_read (response.response_type_row d) h.1.1.1.1.0 in
    let additions = list_there ReadsAddition fault_of_addition addition_there (response.additions_row d) h.1.1.1.1.1.0 in
    let removals = list_there ReadsRemoval fault_of_removal removal_there (response.removals_row d) h.1.1.1.1.1.1.0 in
    let state = row_read (response.new_state_row d) h.1.1.1.1.1.1.1.0 in
    let base = row_read (response.base_state_row d) h.1.1.1.1.1.1.1.1.0 in
    let checksum = row_read (response.digest_row d) h.1.1.1.1.1.1.1.1.1.0 in (
      record {
        name = record { threat = threat.0; platform = platform.0; entry = entry.0 };
        full = full.0;
        base = base.0;
        additions = additions.0;
        removals = removals.0;
        new_state = state.0;
        checksum = checksum.0;
      },
      record {
        object = is_object field.ListUpdateResponses d h.0;
        threat = threat.1;
        platform = platform.1;
        entry = entry.1;
        full = full.1;
        additions = additions.1;
        removals = removals.1;
        new_state = state.1;
        base = base.1;
        checksum = checksum.1;
      },
    )

updates_there : (r : Result Items FieldFault) → fault_of_updates r ≡ None → (xs : List UpdatedList) × ReadsList ReadsUpdatedList r xs
updates_there (Ok ds) e = numbered_there ReadsUpdatedList fault_of_update update_there 1 ds e
updates_there (Err f) e = absurd (cc e)

pub response_there : (d : Data) → fault_of_response d ≡ None → (m : FetchResponse) × ReadsResponse d m
response_there d e =
    let h : AllNone (faults_of_response d) = all_none (faults_of_response d) e in
    let items = updates_there (response.updates_row d) h.1.0 in
    let wait = row_read (response.wait_row d) (not_in_item 0 _ h.1.1.0) in (
      record { items = items.0; wait = wait.0 },
      record { object = is_object field.Root d (not_in_item 0 _ h.0); items = items.1; wait = wait.1 },
    )

taken_there : (r : Result Items FieldFault) → fault_of_list fault_of_name r ≡ None → (raw : Bool) × (rice : Bool) × TakesCompressions r raw rice
taken_there r e =
    let names = list_there ReadsName fault_of_name name_there r e in (
      request.is_among names.0 (codes "RAW"),
      request.is_among names.0 (codes "RICE"),
      record { names = names.0; names_read = names.1; raw_taken = refl; rice_taken = refl },
    )

item_there : IsThereIfClean ReadsAskedItem fault_of_asked
item_there d e =
    let h : AllNone (faults_of_asked d) = all_none (faults_of_asked d) e in
    let name = row_read (request.asked_name_row d) h.1.0 in
    let state = row_read (request.state_row d) h.1.1.0 in
    let max_update = row_read (request.constraints_row d >>= request.max_update_row) h.1.1.1.0 in
    let max_database = row_read (request.constraints_row d >>= request.max_database_row) h.1.1.1.1.0 in
    let taken = taken_there (request.constraints_row d >>= request.compressions_row) h.1.1.1.1.1.0 in (
      record {
        name = name.0;
        state = state.0;
        max_update = max_update.0;
        max_database = max_database.0;
        raw = taken.0;
        rice = taken.1;
      },
      record {
        object = is_object field.ListUpdateRequests d h.0;
        name = name.1;
        state = state.1;
        max_update = max_update.1;
        max_database = max_database.1;
        compressions = taken.2;
      },
    )

asked_there : IsThereIfClean ReadsAsked fault_of_asked
asked_there d e =
    let a = item_there d e in
    (list_of_item a.0, record { item = a.0; item_read = a.1; kept = refl })

client_there : (holder : Result Data FieldFault) → first (faults_of_client holder) ≡ None → (c : ClientInfo) × ReadsClient holder c
client_there holder e =
    let h : AllNone (faults_of_client holder) = all_none (faults_of_client holder) e in
    let id = row_read (holder >>= request.client_id_row) h.0 in
    let version = row_read (holder >>= request.client_version_row) h.1.0 in
    (record { id = id.0; version = version.0 }, record { id = id.1; version = version.1 })

chosen : {F : Type 0} (b : Bool) (o : Option F) (f : F) → cond b o (Some f) ≡ None → (b ≡ true) × (o ≡ None)
chosen true o f e = (refl, e)
chosen false o f e = absurd (cc e)

requests_there : (r : Result Items FieldFault) → fault_of_requests r ≡ None → (xs : List AskedList) × (length xs ≤ most_items) × ReadsSome ReadsAsked r xs
requests_there (Ok ds) e =
    let c = chosen (nat_le (named_count ds) most_items) (first_from fault_of_asked 1 ds) (TooManyItems (named_count ds)) e in
    let few : named_count ds ≤ most_items = leb-true (named_count ds) most_items c.0 in
    let all = numbered_there ReadsAsked fault_of_asked asked_there 1 ds c.1 in
    let same : named_count ds ≡ length (somes all.0) = named_are_read ds all.0 all.1 in
    (somes all.0, omega arith, record { all = all.0; all_read = all.1; kept = refl })
requests_there (Err f) e = absurd (cc e)

pub request_there : (d : Data) → fault_of_request d ≡ None → (m : Request) × ReadsRequest d m
request_there d e =
    let h : AllNone (faults_of_request d) = all_none (faults_of_request d) e in
    let client = client_there (request.client_row d) (not_in_item 0 _ h.1.0) in
    let items = requests_there (request.requests_row d) h.1.1.0 in (
      record { client = client.0; items = items.0 },
      record { object = is_object field.Root d (not_in_item 0 _ h.0); client = client.1; few = items.1; items = items.2 },
    )
