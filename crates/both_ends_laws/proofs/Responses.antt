-- What a server writes of its answer reads as it.
use Rattle.std.proofs.Common.{◌≡◌, ℕ, ◌≤◌, ◌/◌, ◌%◌, ◌*◌, List, [], ◌∷◌, ◌++◌, Bool, true, false, cond, length, map, refl, sym, subst, Option, Some, None, Ok, Err, arith}
use Rattle.std.specs.Prelude.{◌==◌, codes, decimal, nat_le, All}
use Rattle.std.specs.List.{AllByRecursion}
use Rattle.std.specs.Str.{IsUtf8}
use Rattle.std.proofs.lemmas.Fmt.{IsAscii-decimal}
use Rattle.std.proofs.lemmas.List.Elements.{All-head, All-tail}
use Rattle.std.proofs.lemmas.Str.{IsUtf8-append, IsUtf8-from_ascii}
use Rattle.json.proofs.Printed.Utf8.{IsUtf8-are_ascii}
use Rattle.serde_json.specs.Data.{Data, string, number, unsigned, Members, no_members}
use Rattle.sb_model.specs.Names.{threat_word, platform_word, entry_word}
use Rattle.sb_model.specs.History.{History}
use Rattle.sb_model.specs.Naming.{Naming}
use Rattle.sb_model.specs.Time.{duration_text, nanos_text, nanos_in, duration_within, most_nanos, unit}
use Rattle.sb_model.specs.declared.time.DurationFault.TheVariants as fault
use Rattle.sb_json.specs.Density.{too_dense}
use Rattle.sb_json.specs.Fields.{key_of}
use Rattle.sb_json.specs.declared.fields.Field.{Field}
use Rattle.sb_json.specs.declared.fields.Field.TheVariants as field
use Rattle.sb_members.specs.Ranges.{IsDuration}
use Rattle.sb_members.specs.Writing.{with_member_if_any, bytes_written, number_written, long_written, duration_written, list_written}
use Rattle.rice_coding.specs.declared.record.RiceRecord.{RiceRecord}
use Rattle.update_messages.specs.Answer.{fetch_answer}
use Rattle.update_messages.specs.Messages.{Request, UpdatedList, IsRiceSet, IsAddition, IsRemoval, most_i32, most_i64}
use Rattle.update_messages.specs.Ranges.{IsUpdateInRange, IsResponseInRange}
use Rattle.update_messages.specs.ReadAgain.{WrittenResponsesRead, ResponsesNestWithin}
use Rattle.update_messages.specs.Reading.{IsTextOf, ReadsResponse}
use Rattle.update_messages.specs.Writing.{rice_written, hashes_written, indices_written, set_written, addition_written, removal_written, response_type_word, checksum_written, later_members, update_written, response_written, spelling_of_response}
use Rattle.update_messages.specs.declared.response.FetchResponse.{FetchResponse}
use Rattle.update_messages.specs.declared.sets.Additions.{Additions}
use Rattle.update_messages.specs.declared.sets.Additions.TheVariants as added
use Rattle.update_messages.specs.declared.sets.Removals.{Removals}
use Rattle.update_messages.specs.declared.sets.Removals.TheVariants as removed
use Rattle.both_ends_laws.specs.Answered.{WrittenAnswersReadAgain}
use Rattle.both_ends_laws.proofs.Plain.{IsPlain, MembersArePlain, value_again}
use Rattle.both_ends_laws.proofs.Requests.{PlainOr, with_plain, bytes_plain, if_plain, number_plain, values_plain, threat_plain, platform_plain, entry_plain}

-- ---- sets

long_plain : (n : ℕ) → n ≤ most_i64 → PlainOr (long_written n)
long_plain n h = if_plain (n == 0) (string (decimal n)) (IsUtf8-from_ascii (decimal n) (IsAscii-decimal n (omega (arith, h))))

abbrev from_parameter : RiceRecord → Members
from_parameter rice = with_member_if_any field.RiceParameter (number_written rice.parameter) no_members

abbrev from_count : RiceRecord → Members
from_count rice = with_member_if_any field.NumEntries (number_written rice.count) (from_parameter rice)

abbrev from_first : RiceRecord → Members
from_first rice = with_member_if_any field.FirstValue (long_written rice.first) (from_count rice)

rice_plain : (rice : RiceRecord) → IsRiceSet rice → IsPlain (rice_written rice)
rice_plain rice h =
    with_plain field.EncodedData (bytes_written rice.coded) (from_first rice) (IsUtf8-are_ascii (key_of field.EncodedData) refl) (bytes_plain rice.coded)
    (with_plain field.FirstValue (long_written rice.first) (from_count rice) (IsUtf8-are_ascii (key_of field.FirstValue) refl) (long_plain rice.first h.first)
    (with_plain field.NumEntries (number_written rice.count) (from_parameter rice) (IsUtf8-are_ascii (key_of field.NumEntries) refl) (number_plain rice.count h.count)
    (with_plain field.RiceParameter (number_written rice.parameter) no_members (IsUtf8-are_ascii (key_of field.RiceParameter) refl) (number_plain rice.parameter h.parameter) tt)))

hashes_plain : (size : ℕ) (bytes : List ℕ) → size ≤ 32 → IsPlain (hashes_written size bytes)
hashes_plain size bytes h =
    with_plain field.PrefixSize (number_written size) (with_member_if_any field.RawHashBytes (bytes_written bytes) no_members) (IsUtf8-are_ascii (key_of field.PrefixSize) refl) (number_plain size (omega (arith, h)))
    (with_plain field.RawHashBytes (bytes_written bytes) no_members (IsUtf8-are_ascii (key_of field.RawHashBytes) refl) (bytes_plain bytes) tt)

places_plain : (places : List ℕ) → All (λ index. index ≤ most_i32) places → AllByRecursion IsPlain (map (λ index. number (unsigned index)) places)
places_plain [] h = tt
places_plain (place ∷ places) h =
    (omega (arith, All-head (λ index. index ≤ most_i32) place places h), places_plain places (All-tail (λ index. index ≤ most_i32) place places h))

indices_plain : (places : List ℕ) → All (λ index. index ≤ most_i32) places → IsPlain (indices_written places)
indices_plain places h =
    with_plain field.Indices (list_written (λ index. number (unsigned index)) places) no_members (IsUtf8-are_ascii (key_of field.Indices) refl)
    (values_plain (map (λ index. number (unsigned index)) places) (places_plain places h)) tt

set_plain : (word : List ℕ) (name : Field) (value : Data) → IsUtf8 word → IsUtf8 (key_of name) → IsPlain value → IsPlain (set_written word name value)
set_plain word name value text key h =
    with_plain field.CompressionType (Some (string word)) (with_member_if_any name (Some value) no_members) (IsUtf8-are_ascii (key_of field.CompressionType) refl) text
    (with_plain name (Some value) no_members key h tt)

addition_plain : (set : Additions) → IsAddition set → IsPlain (addition_written set)
addition_plain (added.Raw size bytes) h =
    set_plain (codes "RAW") field.RawHashes (hashes_written size bytes) (IsUtf8-are_ascii (codes "RAW") refl) (IsUtf8-are_ascii (key_of field.RawHashes) refl) (hashes_plain size bytes h.high)
addition_plain (added.Rice rice) h = set_plain (codes "RICE") field.RiceHashes (rice_written rice) (IsUtf8-are_ascii (codes "RICE") refl) (IsUtf8-are_ascii (key_of field.RiceHashes) refl) (rice_plain rice h)

removal_plain : (set : Removals) → IsRemoval set → IsPlain (removal_written set)
removal_plain (removed.Raw places) h =
    set_plain (codes "RAW") field.RawIndices (indices_written places) (IsUtf8-are_ascii (codes "RAW") refl) (IsUtf8-are_ascii (key_of field.RawIndices) refl) (indices_plain places h)
removal_plain (removed.Rice rice) h = set_plain (codes "RICE") field.RiceIndices (rice_written rice) (IsUtf8-are_ascii (codes "RICE") refl) (IsUtf8-are_ascii (key_of field.RiceIndices) refl) (rice_plain rice h)

all_plain : {A : Type 0} (P : A → Type 0) (write : A → Data) → ((item : A) → P item → IsPlain (write item)) → (items : List A) → All P items → AllByRecursion IsPlain (map write items)
all_plain P write one [] h = tt
all_plain P write one (item ∷ items) h = (one item (All-head P item items h), all_plain P write one items (All-tail P item items h))

-- ---- updates

type_plain : (full : Bool) → IsUtf8 (response_type_word full)
type_plain true = IsUtf8-are_ascii (codes "FULL_UPDATE") refl
type_plain false = IsUtf8-are_ascii (codes "PARTIAL_UPDATE") refl

abbrev from_threat : UpdatedList → Members
from_threat update = with_member_if_any field.ThreatType (Some (string (threat_word update.name.threat))) no_members

abbrev from_entry : UpdatedList → Members
from_entry update = with_member_if_any field.ThreatEntryType (Some (string (entry_word update.name.entry))) (from_threat update)

abbrev from_type : UpdatedList → Members
from_type update = with_member_if_any field.ResponseType (Some (string (response_type_word update.full))) (from_entry update)

abbrev from_removals : UpdatedList → Members
from_removals update = with_member_if_any field.Removals (list_written removal_written update.removals) (from_type update)

later_plain : (update : UpdatedList) → IsUpdateInRange update → MembersArePlain (later_members update)
later_plain update h =
    with_plain field.PlatformType (Some (string (platform_word update.name.platform))) (from_removals update) (IsUtf8-are_ascii (key_of field.PlatformType) refl) (platform_plain update.name.platform)
    (with_plain field.Removals (list_written removal_written update.removals) (from_type update) (IsUtf8-are_ascii (key_of field.Removals) refl)
    (values_plain (map removal_written update.removals) (all_plain IsRemoval removal_written removal_plain update.removals h.limits.removals))
    (with_plain field.ResponseType (Some (string (response_type_word update.full))) (from_entry update) (IsUtf8-are_ascii (key_of field.ResponseType) refl) (type_plain update.full)
    (with_plain field.ThreatEntryType (Some (string (entry_word update.name.entry))) (from_threat update) (IsUtf8-are_ascii (key_of field.ThreatEntryType) refl) (entry_plain update.name.entry)
    (with_plain field.ThreatType (Some (string (threat_word update.name.threat))) no_members (IsUtf8-are_ascii (key_of field.ThreatType) refl) (threat_plain update.name.threat) tt))))

abbrev from_state : UpdatedList → Members
from_state update = with_member_if_any field.NewClientState (bytes_written update.new_state) (later_members update)

abbrev from_checksum : UpdatedList → Members
from_checksum update = with_member_if_any field.Checksum (Some (checksum_written update.checksum)) (from_state update)

abbrev from_base : UpdatedList → Members
from_base update = with_member_if_any field.BaseState (bytes_written update.base) (from_checksum update)

checksum_plain : (digest : List ℕ) → IsPlain (checksum_written digest)
checksum_plain digest = with_plain field.Sha256 (bytes_written digest) no_members (IsUtf8-are_ascii (key_of field.Sha256) refl) (bytes_plain digest) tt

update_plain : (update : UpdatedList) → IsUpdateInRange update → IsPlain (update_written update)
update_plain update h =
    with_plain field.Additions (list_written addition_written update.additions) (from_base update) (IsUtf8-are_ascii (key_of field.Additions) refl)
    (values_plain (map addition_written update.additions) (all_plain IsAddition addition_written addition_plain update.additions h.limits.additions))
    (with_plain field.BaseState (bytes_written update.base) (from_checksum update) (IsUtf8-are_ascii (key_of field.BaseState) refl) (bytes_plain update.base)
    (with_plain field.Checksum (Some (checksum_written update.checksum)) (from_state update) (IsUtf8-are_ascii (key_of field.Checksum) refl) (checksum_plain update.checksum)
    (with_plain field.NewClientState (bytes_written update.new_state) (later_members update) (IsUtf8-are_ascii (key_of field.NewClientState) refl) (bytes_plain update.new_state) (later_plain update h))))

duration_plain : (nanos : ℕ) → IsUtf8 (duration_text nanos) → PlainOr (duration_written nanos)
duration_plain nanos h = if_plain (nanos == 0) (string (duration_text nanos)) h

response_plain : (message : FetchResponse) → IsResponseInRange message → IsUtf8 (duration_text message.wait) → IsPlain (response_written message)
response_plain message h wait =
    with_plain field.ListUpdateResponses (list_written update_written message.items) (with_member_if_any field.MinimumWaitDuration (duration_written message.wait) no_members)
    (IsUtf8-are_ascii (key_of field.ListUpdateResponses) refl) (values_plain (map update_written message.items) (all_plain IsUpdateInRange update_written update_plain message.items h.items))
    (with_plain field.MinimumWaitDuration (duration_written message.wait) no_members (IsUtf8-are_ascii (key_of field.MinimumWaitDuration) refl) (duration_plain message.wait wait) tt)

pub response_reads_again : WrittenResponsesRead → ResponsesNestWithin 7 → (message : FetchResponse) → IsResponseInRange message → IsUtf8 (duration_text message.wait) → too_dense (spelling_of_response message) ≡ None
    → IsTextOf ReadsResponse (spelling_of_response message) message
unfolding spelling_of_response
response_reads_again again nest message h wait thin =
    (response_written message, value_again (response_written message) (response_plain message h wait) (omega (arith, nest message)) thin, again message h)

-- ---- the answer of a server

bounded : (found : Option ℕ) (n : ℕ) → duration_within found ≡ Ok n → n ≤ most_nanos
bounded None n h = absurd (cc h)
bounded (Some nanos) n h = go (nat_le nanos most_nanos) (λ e. grind (arith, e)) h
  where
    go : (b : Bool) → (b ≡ true → nanos ≤ most_nanos) → cond b (Ok nanos) (Err fault.Range) ≡ Ok n → n ≤ most_nanos
    go true few is = let found : nanos ≡ n = cc is in omega (arith, found, few refl)
    go false few is = absurd (cc is)

seconds_utf8 : (wait : ℕ) → IsDuration (wait * 1000000000) → IsUtf8 (duration_text (wait * 1000000000))
seconds_utf8 wait h =
    let few : wait * 1000000000 ≤ most_nanos = bounded (nanos_in (duration_text (wait * 1000000000))) (wait * 1000000000) h in
    let none : (wait * 1000000000) % 1000000000 ≡ 0 = omega arith in
    IsUtf8-append (decimal ((wait * 1000000000) / 1000000000) ++ nanos_text ((wait * 1000000000) % 1000000000)) (unit ∷ [])
    (IsUtf8-append (decimal ((wait * 1000000000) / 1000000000)) (nanos_text ((wait * 1000000000) % 1000000000))
    (IsUtf8-from_ascii (decimal ((wait * 1000000000) / 1000000000)) (IsAscii-decimal ((wait * 1000000000) / 1000000000) (omega (arith, few))))
    (subst (λ (n : ℕ). IsUtf8 (nanos_text n)) (sym none) (IsUtf8-are_ascii [] refl)))
    (IsUtf8-are_ascii (unit ∷ []) refl)

-- An answer to at most 8 items is not too dense.
abbrev pub AnswersAreThin : Type 0
AnswersAreThin = (history : History) (token_at : Naming) (wait : ℕ) (request : Request) → length request.items ≤ 8 → too_dense (spelling_of_response (fetch_answer history token_at wait request)) ≡ None

pub answers_read_again : WrittenResponsesRead → ResponsesNestWithin 7 → AnswersAreThin → WrittenAnswersReadAgain
answers_read_again again nest thin history token_at wait request few range =
    response_reads_again again nest (fetch_answer history token_at wait request) range (seconds_utf8 wait range.wait) (thin history token_at wait request few)
