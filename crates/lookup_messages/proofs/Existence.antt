-- What has no fault reads as a message.
use Rattle.std.proofs.Common.{◌≡◌, ℕ, ◌+◌, ◌≤◌, Bool, true, false, nat_le, cond, List, [], ◌∷◌, length, Option, Some, None, Result, Ok, Err, refl, arith}
use Rattle.std.proofs.lemmas.Bool.{leb-true}
use Rattle.serde_json.specs.Data.{Data, null, boolean, number, string, array, object, Items, no_items, item}
use Rattle.sb_json.specs.Values.{◌>>=◌, object_in}
use Rattle.sb_json.specs.declared.fields.Field.{Field}
use Rattle.sb_json.specs.declared.fields.Field.TheVariants as field
use Rattle.sb_json.specs.declared.faults.FieldFault.{FieldFault}
use Rattle.sb_json.specs.declared.faults.MessageFault.TheVariants.{TooManyItems}
use Rattle.update_messages.specs.declared.client.ClientInfo.{ClientInfo}
use Rattle.sb_members.specs.Lists.{EachReads, ReadsList, fault_of_row, first, first_of_items, fault_of_list, first_from, in_item, item_count}
use Rattle.sb_members.specs.Somes.{somes, ReadsSome}
use Rattle.sb_members.specs.Rows.{threat_row, platform_row, entry_row}
use Rattle.update_messages.specs.RequestRows.{client_row, client_id_row, client_version_row}
use Rattle.update_messages.specs.Reading.{ReadsClient}
use Rattle.update_messages.specs.Faults.{faults_of_client}
use Rattle.hash_messages.specs.RequestRows as find
use Rattle.hash_messages.specs.ResponseRows.{matches_row, cache_row}
use Rattle.hash_messages.specs.Reading.{ReadsAs}
use Rattle.hash_messages.specs.Faults.{fault_by}
use Rattle.lookup_messages.specs.declared.response.LookupMatch.{LookupMatch}
use Rattle.lookup_messages.specs.declared.response.LookupResponse.{LookupResponse}
use Rattle.lookup_messages.specs.Messages.{AskedUrls, most_urls}
use Rattle.lookup_messages.specs.RequestRows as request
use Rattle.lookup_messages.specs.ResponseRows as response
use Rattle.lookup_messages.specs.Reading.{ReadsLookupOutsideItems, ReadsLookup, ReadsLookupMatch, ReadsLookupResponse}
use Rattle.lookup_messages.specs.Faults.{lookup_faults_outside_items, fault_of_urls, faults_of_lookup, fault_of_lookup, faults_of_lookup_match, fault_of_lookup_match, fault_of_lookup_matches, faults_of_lookup_response, fault_of_lookup_response}
use Rattle.lookup_messages.proofs.NoFault.{count_of_each}

-- none of them is there
abbrev AllNone : {F : Type 0} → List (Option F) → Type 0
AllNone [] = Unit {0}
AllNone (o ∷ os) = (o ≡ None) × AllNone os

all_none : {F : Type 0} (os : List (Option F)) → first os ≡ None → AllNone os
all_none [] e = tt
all_none (None ∷ os) e = (refl, all_none os e)
all_none (Some f ∷ os) e = absurd (cc e)

row_read : {A : Type 0} (r : Result A FieldFault) → fault_of_row r ≡ None → (a : A) × (r ≡ Ok a)
row_read (Ok a) e = (a, refl)
row_read (Err f) e = absurd (cc e)

object_same : (f : Field) (d e : Data) → object_in f d ≡ Ok e → object_in f d ≡ Ok d
object_same f null e h = absurd (cc h)
object_same f (boolean b) e h = absurd (cc h)
object_same f (number n) e h = absurd (cc h)
object_same f (string s) e h = absurd (cc h)
object_same f (array ds) e h = absurd (cc h)
object_same f (object ms) e h = refl

is_object : (f : Field) (d : Data) → fault_of_row (object_in f d) ≡ None → object_in f d ≡ Ok d
is_object f d e = let o = row_read (object_in f d) e in object_same f d o.0 o.1

-- a relation that holds for something if there is no fault
abbrev IsThereIfClean : {A : Type 0} → (Data → A → Type 0) → (Data → Option FieldFault) → Type 0
IsThereIfClean {A = A} Reads fault = (d : Data) → fault d ≡ None → (a : A) × Reads d a

each_there : {A : Type 0} (Reads : Data → A → Type 0) (fault : Data → Option FieldFault) → IsThereIfClean Reads fault → (ds : Items) → first_of_items fault ds ≡ None → (xs : List A) × EachReads Reads ds xs
each_there Reads fault there no_items e = ([], tt)
each_there Reads fault there (item d ds) e =
    let h : AllNone (fault d ∷ first_of_items fault ds ∷ []) = all_none (fault d ∷ first_of_items fault ds ∷ []) e in
    let x = there d h.0 in
    let xs = each_there Reads fault there ds h.1.0 in
    (x.0 ∷ xs.0, (x.1, xs.1))

list_there : {A : Type 0} (Reads : Data → A → Type 0) (fault : Data → Option FieldFault) → IsThereIfClean Reads fault → (r : Result Items FieldFault) → fault_of_list fault r ≡ None → (xs : List A) × ReadsList Reads r xs
list_there Reads fault there (Ok ds) e = each_there Reads fault there ds e
list_there Reads fault there (Err f) e = absurd (cc e)

rows_there : {A : Type 0} (row : Data → Result A FieldFault) (r : Result Items FieldFault) → fault_of_list (fault_by row) r ≡ None → (xs : List A) × ReadsList (ReadsAs row) r xs
rows_there row r e = list_there (ReadsAs row) (fault_by row) (λ d. row_read (row d)) r e

somes_there : {A : Type 0} (row : Data → Result (Option A) FieldFault) (r : Result Items FieldFault) → fault_of_list (fault_by row) r ≡ None → (xs : List A) × ReadsSome (ReadsAs row) r xs
somes_there row r e =
    let all = rows_there row r e in
    (somes all.0, record { all = all.0; all_read = all.1; kept = refl })

not_in_item : (n : ℕ) (o : Option FieldFault) → in_item n o ≡ None → o ≡ None
not_in_item n None e = refl
not_in_item n (Some f) e = absurd (cc e)

numbered_there : {A : Type 0} (Reads : Data → A → Type 0) (fault : Data → Option FieldFault) → IsThereIfClean Reads fault → (n : ℕ) (ds : Items) → first_from fault n ds ≡ None → (xs : List A) × EachReads Reads ds xs
numbered_there Reads fault there n no_items e = ([], tt)
numbered_there Reads fault there n (item d ds) e =
    let h : AllNone (in_item n (fault d) ∷ first_from fault (n + 1) ds ∷ []) = all_none (in_item n (fault d) ∷ first_from fault (n + 1) ds ∷ []) e in
    let x = there d (not_in_item n (fault d) h.0) in
    let xs = numbered_there Reads fault there (n + 1) ds h.1.0 in
    (x.0 ∷ xs.0, (x.1, xs.1))

-- ---- the request

client_there : (holder : Result Data FieldFault) → first (faults_of_client holder) ≡ None → (c : ClientInfo) × ReadsClient holder c
client_there holder e =
    let h : AllNone (faults_of_client holder) = all_none (faults_of_client holder) e in
    let id = row_read (holder >>= client_id_row) h.0 in
    let version = row_read (holder >>= client_version_row) h.1.0 in
    (record { id = id.0; version = version.0 }, record { id = id.1; version = version.1 })

chosen : {F : Type 0} (b : Bool) (o : Option F) (f : F) → cond b o (Some f) ≡ None → (b ≡ true) × (o ≡ None)
chosen true o f e = (refl, e)
chosen false o f e = absurd (cc e)

urls_there : (r : Result Items FieldFault) → fault_of_urls r ≡ None → (xs : List (List ℕ)) × (length xs ≤ most_urls) × ReadsList (ReadsAs request.url_row) r xs
urls_there (Ok ds) e =
    let c = chosen (nat_le (item_count ds) most_urls) (first_from (fault_by request.url_row) 1 ds) (TooManyItems (item_count ds)) e in
    let few : item_count ds ≤ most_urls = leb-true (item_count ds) most_urls c.0 in
    let xs = numbered_there (ReadsAs request.url_row) (fault_by request.url_row) (λ d. row_read (request.url_row d)) 1 ds c.1 in
    let same : item_count ds ≡ length xs.0 = count_of_each (ReadsAs request.url_row) ds xs.0 xs.1 in
    (xs.0, omega arith, xs.1)
urls_there (Err f) e = absurd (cc e)

-- a message with any URLs
outside_there : (d : Data) → first (lookup_faults_outside_items d) ≡ None → (urls : List (List ℕ)) → (m : AskedUrls) × ReadsLookupOutsideItems d m × (m.urls ≡ urls)
outside_there d e urls =
    let h : AllNone (lookup_faults_outside_items d) = all_none (lookup_faults_outside_items d) e in
    let client = client_there (client_row d) h.1.0 in
    let threats = somes_there find.asked_threat_row (find.in_info find.threats_row d) h.1.1.0 in
    let platforms = somes_there find.asked_platform_row (find.in_info find.platforms_row d) h.1.1.1.0 in
    let entries = somes_there find.asked_entry_row (find.in_info find.entries_row d) h.1.1.1.1.0 in (
      record {
        client = client.0;
        threats = threats.0;
        platforms = platforms.0;
        entries = entries.0;
        urls = urls;
      },
      record {
        object = is_object field.Root d h.0;
        client = client.1;
        threats = threats.1;
        platforms = platforms.1;
        entries = entries.1;
      },
      refl,
    )

with_urls : (d : Data) (m : AskedUrls) (urls : List (List ℕ)) → ReadsLookupOutsideItems d m → m.urls ≡ urls → length urls ≤ most_urls
    → ReadsList (ReadsAs request.url_row) (find.in_info request.urls_row d) urls → ReadsLookup d m
with_urls d m urls h same few reads = record {
  outside = h;
  few = rw same few;
  urls = rw same reads;
}

pub request_there : (d : Data) → fault_of_lookup d ≡ None → (m : AskedUrls) × ReadsLookup d m
request_there d e =
    let h : AllNone (faults_of_lookup d) = all_none (faults_of_lookup d) e in
    let urls = urls_there (find.in_info request.urls_row d) h.1.0 in
    let outside = outside_there d (not_in_item 0 _ h.0) urls.0 in
    (outside.0, with_urls d outside.0 urls.0 outside.1 outside.2 urls.1 urls.2)

-- ---- the response

match_there : IsThereIfClean ReadsLookupMatch fault_of_lookup_match
match_there d e =
    let h : AllNone (faults_of_lookup_match d) = all_none (faults_of_lookup_match d) e in
    let threat = row_read (threat_row d) h.1.0 in
    let platform = row_read (platform_row d) h.1.1.0 in
    let entry = row_read (entry_row d) h.1.1.1.0 in
    let url = row_read (response.found_url_row d) h.1.1.1.1.0 in
    let cache = row_read (cache_row d) h.1.1.1.1.1.0 in (
      record {
        name = record { threat = threat.0; platform = platform.0; entry = entry.0 };
        url = url.0;
        cache = cache.0;
      },
      record {
        object = is_object field.Matches d h.0;
        threat = threat.1;
        platform = platform.1;
        entry = entry.1;
        url = url.1;
        cache = cache.1;
      },
    )

matches_there : (r : Result Items FieldFault) → fault_of_lookup_matches r ≡ None → (xs : List LookupMatch) × ReadsList ReadsLookupMatch r xs
matches_there (Ok ds) e = numbered_there ReadsLookupMatch fault_of_lookup_match match_there 1 ds e
matches_there (Err f) e = absurd (cc e)

pub response_there : (d : Data) → fault_of_lookup_response d ≡ None → (m : LookupResponse) × ReadsLookupResponse d m
response_there d e =
    let h : AllNone (faults_of_lookup_response d) = all_none (faults_of_lookup_response d) e in
    let matches = matches_there (matches_row d) h.1.0 in
    (record { matches = matches.0 }, record { object = is_object field.Root d (not_in_item 0 _ h.0); matches = matches.1 })
