-- What reads as a message has no fault.
use Rattle.std.proofs.Common.{◌≡◌, ℕ, ◌+◌, ◌≤◌, List, [], ◌∷◌, length, Option, None, Result, Ok, Err, refl, ◌∙◌, arith}
use Rattle.serde_json.specs.Data.{Data, Items, no_items, item}
use Rattle.sb_json.specs.declared.faults.FieldFault.{FieldFault}
use Rattle.sb_json.specs.declared.faults.MessageFault.{MessageFault}
use Rattle.update_messages.specs.declared.client.ClientInfo.{ClientInfo}
use Rattle.sb_members.specs.Lists.{EachReads, ReadsList, fault_of_row, first, first_of_items, fault_of_list, first_from, in_item, item_count}
use Rattle.sb_members.specs.Somes.{ReadsSome}
use Rattle.update_messages.specs.Reading.{ReadsClient}
use Rattle.update_messages.specs.Faults.{faults_of_client}
use Rattle.hash_messages.specs.declared.response.Match.{Match}
use Rattle.hash_messages.specs.declared.response.FindResponse.{FindResponse}
use Rattle.hash_messages.specs.Messages.{AskedHashes, most_prefixes}
use Rattle.hash_messages.specs.RequestRows.{prefix_row}
use Rattle.hash_messages.specs.Reading.{ReadsAs, ReadsOutsideItems, ReadsFindRequest, ReadsMatch, ReadsFindResponse}
use Rattle.hash_messages.specs.Faults.{fault_by, faults_outside_items, fault_of_prefixes, fault_of_find_request, fault_of_match, fault_of_matches, fault_of_find_response}

passes : {A : Type 0} (r : Result A FieldFault) (a : A) (os : List (Option FieldFault)) → r ≡ Ok a → first (fault_of_row r ∷ os) ≡ first os
passes r a os e = rw e refl

passes_by : {F : Type 0} (o : Option F) (os : List (Option F)) → o ≡ None → first (o ∷ os) ≡ first os
passes_by o os e = rw e refl

-- a relation that holds only where there is no fault
abbrev IsWithoutFault : {A : Type 0} → (Data → A → Type 0) → (Data → Option FieldFault) → Type 0
IsWithoutFault {A = A} Reads fault = (d : Data) (a : A) → Reads d a → fault d ≡ None

each_clean : {A : Type 0} (Reads : Data → A → Type 0) (fault : Data → Option FieldFault) → IsWithoutFault Reads fault → (ds : Items) (xs : List A) → EachReads Reads ds xs → first_of_items fault ds ≡ None
each_clean Reads fault clean no_items [] h = refl
each_clean Reads fault clean no_items (x ∷ xs) h = absurd h
each_clean Reads fault clean (item d ds) [] h = absurd h
each_clean Reads fault clean (item d ds) (x ∷ xs) h = rw (clean d x h.0, each_clean Reads fault clean ds xs h.1) refl

list_clean : {A : Type 0} (Reads : Data → A → Type 0) (fault : Data → Option FieldFault) → IsWithoutFault Reads fault → (r : Result Items FieldFault) (xs : List A) → ReadsList Reads r xs → fault_of_list fault r ≡ None
list_clean Reads fault clean (Ok ds) xs h = each_clean Reads fault clean ds xs h
list_clean Reads fault clean (Err f) xs h = absurd h

numbered_clean : {A : Type 0} (Reads : Data → A → Type 0) (fault : Data → Option FieldFault) → IsWithoutFault Reads fault → (n : ℕ) (ds : Items) (xs : List A) → EachReads Reads ds xs → first_from fault n ds ≡ None
numbered_clean Reads fault clean n no_items [] h = refl
numbered_clean Reads fault clean n no_items (x ∷ xs) h = absurd h
numbered_clean Reads fault clean n (item d ds) [] h = absurd h
numbered_clean Reads fault clean n (item d ds) (x ∷ xs) h = rw (clean d x h.0, numbered_clean Reads fault clean (n + 1) ds xs h.1) refl

row_clean : {A : Type 0} (row : Data → Result A FieldFault) → IsWithoutFault (ReadsAs row) (fault_by row)
row_clean row d a h = rw h refl

-- ---- the request

client_clean : (holder : Result Data FieldFault) (client : ClientInfo) → ReadsClient holder client → first (faults_of_client holder) ≡ None
client_clean holder client h = passes _ _ _ h.id ∙ passes _ _ _ h.version

list_passes : {A : Type 0} (row : Data → Result A FieldFault) (r : Result Items FieldFault) (xs : List A) (os : List (Option FieldFault)) → ReadsList (ReadsAs row) r xs
    → first (fault_of_list (fault_by row) r ∷ os) ≡ first os
list_passes row r xs os h = passes_by _ os (list_clean (ReadsAs row) (fault_by row) (row_clean row) r xs h)

some_passes : {A : Type 0} (row : Data → Result (Option A) FieldFault) (r : Result Items FieldFault) (xs : List A) (os : List (Option FieldFault)) → ReadsSome (ReadsAs row) r xs
    → first (fault_of_list (fault_by row) r ∷ os) ≡ first os
some_passes row r xs os h = list_passes row r h.all os h.all_read

outside_clean : (d : Data) (m : AskedHashes) → ReadsOutsideItems d m → first (faults_outside_items d) ≡ None
outside_clean d m h =
    passes _ _ _ h.object ∙ passes_by _ _ (client_clean _ m.client h.client)
    ∙ some_passes _ _ m.states _ h.states ∙ some_passes _ _ m.threats _ h.threats
    ∙ some_passes _ _ m.platforms _ h.platforms ∙ some_passes _ _ m.entries _ h.entries

pub count_of_each : {A : Type 0} (Reads : Data → A → Type 0) (ds : Items) (xs : List A) → EachReads Reads ds xs → item_count ds ≡ length xs
count_of_each Reads no_items [] h = refl
count_of_each Reads no_items (x ∷ xs) h = absurd h
count_of_each Reads (item d ds) [] h = absurd h
count_of_each Reads (item d ds) (x ∷ xs) h = omega (arith, count_of_each Reads ds xs h.1)

few_items : (ds : Items) → item_count ds ≤ most_prefixes → fault_of_prefixes (Ok ds) ≡ first_from (fault_by prefix_row) 1 ds
few_items ds le = grind arith

prefixes_clean : (r : Result Items FieldFault) (xs : List (List ℕ)) → length xs ≤ most_prefixes → ReadsList (ReadsAs prefix_row) r xs → fault_of_prefixes r ≡ None
prefixes_clean (Ok ds) xs few h =
    few_items ds (omega (arith, count_of_each (ReadsAs prefix_row) ds xs h)) ∙ numbered_clean (ReadsAs prefix_row) (fault_by prefix_row) (row_clean prefix_row) 1 ds xs h
prefixes_clean (Err f) xs few h = absurd h

none_in_item : (n : ℕ) (o : Option FieldFault) → o ≡ None → in_item n o ≡ None
none_in_item n o e = rw e refl

pub request_clean : (d : Data) (m : AskedHashes) → ReadsFindRequest d m → fault_of_find_request d ≡ None
request_clean d m h = passes_by _ _ (none_in_item 0 _ (outside_clean d m h.outside)) ∙ passes_by _ _ (prefixes_clean _ m.prefixes h.few h.prefixes)

-- ---- the response

match_clean : IsWithoutFault ReadsMatch fault_of_match
match_clean d found h =
    passes _ _ _ h.object ∙ passes _ _ _ h.threat ∙ passes _ _ _ h.platform ∙ passes _ _ _ h.entry ∙ passes _ _ _ h.hash ∙ passes _ _ _ h.cache

matches_clean : (r : Result Items FieldFault) (xs : List Match) → ReadsList ReadsMatch r xs → fault_of_matches r ≡ None
matches_clean (Ok ds) xs h = numbered_clean ReadsMatch fault_of_match match_clean 1 ds xs h
matches_clean (Err f) xs h = absurd h

top_clean : {A : Type 0} (r : Result A FieldFault) (a : A) (os : List (Option MessageFault)) → r ≡ Ok a → first (in_item 0 (fault_of_row r) ∷ os) ≡ first os
top_clean r a os e = rw e refl

pub response_clean : (d : Data) (m : FindResponse) → ReadsFindResponse d m → fault_of_find_response d ≡ None
response_clean d m h =
    top_clean _ _ _ h.object ∙ passes_by _ _ (matches_clean _ m.matches h.matches) ∙ top_clean _ _ _ h.wait ∙ top_clean _ _ _ h.negative
