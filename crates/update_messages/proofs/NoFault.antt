-- What reads as a message has no fault.
use Rattle.std.proofs.Common.{◌≡◌, ℕ, ◌+◌, ◌≤◌, List, [], ◌∷◌, length, Option, None, Result, Ok, Err, refl, ◌∙◌, subst, arith}
use Rattle.serde_json.specs.Data.{Data, Items, no_items, item}
use Rattle.sb_json.specs.Values.{◌>>=◌}
use Rattle.sb_json.specs.declared.faults.FieldFault.{FieldFault}
use Rattle.sb_json.specs.declared.faults.MessageFault.{MessageFault}
use Rattle.rice_coding.specs.declared.record.RiceRecord.{RiceRecord}
use Rattle.update_messages.specs.declared.client.ClientInfo.{ClientInfo}
use Rattle.update_messages.specs.declared.sets.Additions.TheVariants as added
use Rattle.update_messages.specs.declared.sets.Removals.TheVariants as removed
use Rattle.update_messages.specs.declared.response.FetchResponse.{FetchResponse}
use Rattle.update_messages.specs.Messages.{AskedList, Request, UpdatedList, most_items}
use Rattle.sb_members.specs.Lists.{EachReads, ReadsList, fault_of_row, first, first_of_items, fault_of_list, first_from, in_item}
use Rattle.sb_members.specs.Somes.{somes, ReadsSome}
use Rattle.update_messages.specs.Reading.{ReadsRice, ReadsRaw, ReadsIndex, ReadsAddition, ReadsRemoval, ReadsUpdatedList, ReadsResponse, ReadsName, ReadsAskedItem, ReadsAsked, ReadsClient, ReadsRequest}
use Rattle.update_messages.specs.Faults.{faults_of_rice, faults_of_raw_hashes, fault_of_index, fault_of_addition, fault_of_removal, fault_of_update, fault_of_updates, fault_of_response, fault_of_name, fault_of_asked, faults_of_client, fault_of_requests, fault_of_request}
use Rattle.update_messages.proofs.NamedItems.{few_clean, named_are_read}

pub passes : {A : Type 0} (r : Result A FieldFault) (a : A) (os : List (Option FieldFault)) → r ≡ Ok a → first (fault_of_row r ∷ os) ≡ first os
passes r a os e = rw e refl

pub passes_by : {F : Type 0} (o : Option F) (os : List (Option F)) → o ≡ None → first (o ∷ os) ≡ first os
passes_by o os e = rw e refl

-- a relation that holds only where there is no fault
abbrev pub IsWithoutFault : {A : Type 0} → (Data → A → Type 0) → (Data → Option FieldFault) → Type 0
IsWithoutFault {A = A} Reads fault = (d : Data) (a : A) → Reads d a → fault d ≡ None

pub each_clean : {A : Type 0} (Reads : Data → A → Type 0) (fault : Data → Option FieldFault) → IsWithoutFault Reads fault → (ds : Items) (xs : List A) → EachReads Reads ds xs → first_of_items fault ds ≡ None
each_clean Reads fault clean no_items [] h = refl
each_clean Reads fault clean no_items (x ∷ xs) h = absurd h
each_clean Reads fault clean (item d ds) [] h = absurd h
each_clean Reads fault clean (item d ds) (x ∷ xs) h = rw (clean d x h.0, each_clean Reads fault clean ds xs h.1) refl

pub list_clean : {A : Type 0} (Reads : Data → A → Type 0) (fault : Data → Option FieldFault) → IsWithoutFault Reads fault → (r : Result Items FieldFault) (xs : List A) → ReadsList Reads r xs → fault_of_list fault r ≡ None
list_clean Reads fault clean (Ok ds) xs h = each_clean Reads fault clean ds xs h
list_clean Reads fault clean (Err f) xs h = absurd h

pub numbered_clean : {A : Type 0} (Reads : Data → A → Type 0) (fault : Data → Option FieldFault) → IsWithoutFault Reads fault → (n : ℕ) (ds : Items) (xs : List A) → EachReads Reads ds xs → first_from fault n ds ≡ None
numbered_clean Reads fault clean n no_items [] h = refl
numbered_clean Reads fault clean n no_items (x ∷ xs) h = absurd h
numbered_clean Reads fault clean n (item d ds) [] h = absurd h
numbered_clean Reads fault clean n (item d ds) (x ∷ xs) h = rw (clean d x h.0, numbered_clean Reads fault clean (n + 1) ds xs h.1) refl

rice_clean : (holder : Result Data FieldFault) (r : RiceRecord) → ReadsRice holder r → first (faults_of_rice holder) ≡ None
rice_clean holder r h = passes _ _ _ h.first ∙ passes _ _ _ h.parameter ∙ passes _ _ _ h.count ∙ passes _ _ _ h.coded

two_rows : {A B : Type 0} (r : Result A FieldFault) (a : A) (f : A → Result B FieldFault) (b : B) → r ≡ Ok a → f a ≡ Ok b → first (fault_of_row r ∷ fault_of_row (r >>= f) ∷ []) ≡ None
two_rows r a f b e g = rw (e, g) refl

raw_clean : (holder : Result Data FieldFault) (size : ℕ) (bytes : List ℕ) → ReadsRaw holder size bytes → first (faults_of_raw_hashes holder) ≡ None
raw_clean holder size bytes h = two_rows _ size _ bytes h.size_read h.bytes_read

index_clean : IsWithoutFault ReadsIndex fault_of_index
index_clean d a h = rw h refl

addition_clean : IsWithoutFault ReadsAddition fault_of_addition
addition_clean set (added.Raw size bytes) h = passes _ _ _ h.0 ∙ passes _ _ _ h.1.compression ∙ rw h.1.compression (raw_clean _ size bytes h.1.raw_read)
addition_clean set (added.Rice r) h = passes _ _ _ h.0 ∙ passes _ _ _ h.1.compression ∙ rw h.1.compression (rice_clean _ r h.1.rice_read)

removal_clean : IsWithoutFault ReadsRemoval fault_of_removal
removal_clean set (removed.Raw places) h =
    passes _ _ _ h.0 ∙ passes _ _ _ h.1.compression
    ∙ rw h.1.compression (passes_by _ _ (list_clean ReadsIndex fault_of_index index_clean _ places h.1.indices_read))
removal_clean set (removed.Rice r) h = passes _ _ _ h.0 ∙ passes _ _ _ h.1.compression ∙ rw h.1.compression (rice_clean _ r h.1.rice_read)

update_clean : IsWithoutFault ReadsUpdatedList fault_of_update
update_clean d u h =
    passes _ _ _ h.object ∙ passes _ _ _ h.threat ∙ passes _ _ _ h.platform ∙ passes _ _ _ h.entry ∙ passes _ _ _ h.full
    ∙ passes_by _ _ (list_clean ReadsAddition fault_of_addition addition_clean _ u.additions h.additions)
    ∙ passes_by _ _ (list_clean ReadsRemoval fault_of_removal removal_clean _ u.removals h.removals)
    ∙ passes _ _ _ h.new_state ∙ passes _ _ _ h.base ∙ passes _ _ _ h.checksum

updates_clean : (r : Result Items FieldFault) (xs : List UpdatedList) → ReadsList ReadsUpdatedList r xs → fault_of_updates r ≡ None
updates_clean (Ok ds) xs h = numbered_clean ReadsUpdatedList fault_of_update update_clean 1 ds xs h
updates_clean (Err f) xs h = absurd h

pub top_clean : {A : Type 0} (r : Result A FieldFault) (a : A) (os : List (Option MessageFault)) → r ≡ Ok a → first (in_item 0 (fault_of_row r) ∷ os) ≡ first os
top_clean r a os e = rw e refl

pub response_clean : (d : Data) (m : FetchResponse) → ReadsResponse d m → fault_of_response d ≡ None
response_clean d m h = top_clean _ _ _ h.object ∙ passes_by _ _ (updates_clean _ m.items h.items) ∙ top_clean _ _ _ h.wait

name_clean : IsWithoutFault ReadsName fault_of_name
name_clean d a h = rw h refl

client_clean : (holder : Result Data FieldFault) (client : ClientInfo) → ReadsClient holder client → first (faults_of_client holder) ≡ None
client_clean holder client h = passes _ _ _ h.id ∙ passes _ _ _ h.version

item_clean : IsWithoutFault ReadsAskedItem fault_of_asked
item_clean d a h =
    passes _ _ _ h.object ∙ passes _ _ _ h.name ∙ passes _ _ _ h.state ∙ passes _ _ _ h.max_update ∙ passes _ _ _ h.max_database
    ∙ passes_by _ _ (list_clean ReadsName fault_of_name name_clean _ h.compressions.names h.compressions.names_read)

asked_clean : IsWithoutFault ReadsAsked fault_of_asked
asked_clean d a h = item_clean d h.item h.item_read

few_are_clean : (ds : Items) (all : List (Option AskedList)) → length (somes all) ≤ most_items → EachReads ReadsAsked ds all → fault_of_requests (Ok ds) ≡ None
few_are_clean ds all few h =
    few_clean ds (omega (arith, named_are_read ds all h)) ∙ numbered_clean ReadsAsked fault_of_asked asked_clean 1 ds all h

all_clean : (r : Result Items FieldFault) (all : List (Option AskedList)) → length (somes all) ≤ most_items → ReadsList ReadsAsked r all → fault_of_requests r ≡ None
all_clean (Ok ds) all few h = few_are_clean ds all few h
all_clean (Err f) all few h = absurd h

requests_clean : (r : Result Items FieldFault) (xs : List AskedList) → length xs ≤ most_items → ReadsSome ReadsAsked r xs → fault_of_requests r ≡ None
requests_clean r xs few h = all_clean r h.all (subst (λ (l : List AskedList). length l ≤ most_items) h.kept few) h.all_read

none_in_item : (n : ℕ) (o : Option FieldFault) → o ≡ None → in_item n o ≡ None
none_in_item n o e = rw e refl

pub request_clean : (d : Data) (m : Request) → ReadsRequest d m → fault_of_request d ≡ None
request_clean d m h =
    top_clean _ _ _ h.object ∙ passes_by _ _ (none_in_item 0 _ (client_clean _ m.client h.client)) ∙ passes_by _ _ (requests_clean _ m.items h.few h.items)
