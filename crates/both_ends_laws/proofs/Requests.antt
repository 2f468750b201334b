-- What a client writes of its request reads as it.
use Rattle.std.proofs.Common.{◌≡◌, ℕ, ◌≤◌, List, [], ◌∷◌, ◌++◌, Bool, true, false, cond, length, map, refl, Option, Some, None, arith}
use Rattle.std.specs.Prelude.{⊤, ◌==◌, codes, All}
use Rattle.std.specs.List.{AllByRecursion}
use Rattle.std.specs.Str.{IsUtf8}
use Rattle.std.proofs.lemmas.List.Elements.{All-head, All-tail}
use Rattle.std.proofs.lemmas.Str.{IsUtf8-from_ascii}
use Rattle.json.proofs.Printed.Utf8.{IsUtf8-are_ascii}
use Rattle.base64.specs.Engines.{standard}
use Rattle.base64.specs.GeneralPurpose.{encode_of}
use Rattle.base64.proofs.EngineFacts.{IsAscii-encode_of}
use Rattle.serde_json.specs.Data.{Data, string, number, unsigned, Members, no_members, member}
use Rattle.sb_model.specs.Names.{threat_word, platform_word, entry_word}
use Rattle.sb_model.specs.declared.names.ThreatType.{ThreatType}
use Rattle.sb_model.specs.declared.names.ThreatType.TheVariants as threat
use Rattle.sb_model.specs.declared.names.PlatformType.{PlatformType}
use Rattle.sb_model.specs.declared.names.PlatformType.TheVariants as platform
use Rattle.sb_model.specs.declared.names.EntryType.{EntryType}
use Rattle.sb_model.specs.declared.names.EntryType.TheVariants as entry
use Rattle.sb_json.specs.Density.{too_dense}
use Rattle.sb_json.specs.Fields.{key_of}
use Rattle.sb_json.specs.declared.fields.Field.{Field}
use Rattle.sb_json.specs.declared.fields.Field.TheVariants as field
use Rattle.sb_members.specs.Writing.{with_member_if_any, text_written, bytes_written, number_written, values_written, list_written, unless_bare}
use Rattle.update_messages.specs.Messages.{AskedList, Request, most_i32}
use Rattle.update_messages.specs.Ranges.{IsAskedInRange, IsRequestInRange}
use Rattle.update_messages.specs.ReadAgain.{WrittenRequestsRead, RequestsNestWithin}
use Rattle.update_messages.specs.Reading.{IsTextOf, ReadsRequest}
use Rattle.update_messages.specs.Writing.{client_members, word_if, compressions_written, constraint_members, asked_written, request_written, spelling_of_request}
use Rattle.update_client.specs.Asked.{request_asked}
use Rattle.update_client.specs.Held.{Held}
use Rattle.update_client.specs.declared.options.FetchOptions.{FetchOptions}
use Rattle.both_ends_laws.proofs.Plain.{IsPlain, MembersArePlain, value_again, put_plain, items_plain}

-- ---- what is written of a field

abbrev pub PlainOr : Option Data → Type 0
PlainOr None = ⊤
PlainOr (Some value) = IsPlain value

pub with_plain : (name : Field) (value : Option Data) (ms : Members) → IsUtf8 (key_of name) → PlainOr value → MembersArePlain ms → MembersArePlain (with_member_if_any name value ms)
with_plain name None ms key value h = h
with_plain name (Some d) ms key value h = put_plain (key_of name) d ms key value h

pub bytes_plain : (bytes : List ℕ) → PlainOr (bytes_written bytes)
bytes_plain [] = tt
bytes_plain (b ∷ bytes) = IsUtf8-from_ascii (encode_of standard (b ∷ bytes)) (IsAscii-encode_of standard (b ∷ bytes))

pub if_plain : (b : Bool) (d : Data) → IsPlain d → PlainOr (cond b None (Some d))
if_plain true d h = tt
if_plain false d h = h

pub number_plain : (n : ℕ) → n ≤ most_i32 → PlainOr (number_written n)
number_plain n h = if_plain (n == 0) (number (unsigned n)) (omega (arith, h))

pub values_plain : (ds : List Data) → AllByRecursion IsPlain ds → PlainOr (values_written ds)
values_plain [] h = tt
values_plain (d ∷ ds) h = items_plain (d ∷ ds) h

bare_plain : (ms : Members) → MembersArePlain ms → PlainOr (unless_bare ms)
bare_plain no_members h = tt
bare_plain (member k d ms) h = h

pub threat_plain : (t : ThreatType) → IsUtf8 (threat_word t)
threat_plain threat.Malware = IsUtf8-are_ascii (codes "MALWARE") refl
threat_plain threat.SocialEngineering = IsUtf8-are_ascii (codes "SOCIAL_ENGINEERING") refl
threat_plain threat.UnwantedSoftware = IsUtf8-are_ascii (codes "UNWANTED_SOFTWARE") refl
threat_plain threat.PotentiallyHarmfulApplication = IsUtf8-are_ascii (codes "POTENTIALLY_HARMFUL_APPLICATION") refl

pub platform_plain : (p : PlatformType) → IsUtf8 (platform_word p)
platform_plain platform.Windows = IsUtf8-are_ascii (platform_word platform.Windows) refl
platform_plain platform.Linux = IsUtf8-are_ascii (platform_word platform.Linux) refl
platform_plain platform.Android = IsUtf8-are_ascii (platform_word platform.Android) refl
platform_plain platform.Osx = IsUtf8-are_ascii (platform_word platform.Osx) refl
platform_plain platform.Ios = IsUtf8-are_ascii (platform_word platform.Ios) refl
platform_plain platform.AnyPlatform = IsUtf8-are_ascii (platform_word platform.AnyPlatform) refl
platform_plain platform.AllPlatforms = IsUtf8-are_ascii (platform_word platform.AllPlatforms) refl
platform_plain platform.Chrome = IsUtf8-are_ascii (platform_word platform.Chrome) refl

pub entry_plain : (e : EntryType) → IsUtf8 (entry_word e)
entry_plain entry.Url = IsUtf8-are_ascii (entry_word entry.Url) refl
entry_plain entry.Executable = IsUtf8-are_ascii (entry_word entry.Executable) refl

-- ---- a request

words_plain : (raw rice : Bool) → AllByRecursion IsPlain (word_if raw (codes "RAW") ++ word_if rice (codes "RICE"))
words_plain true true = (IsUtf8-are_ascii (codes "RAW") refl, (IsUtf8-are_ascii (codes "RICE") refl, tt))
words_plain true false = (IsUtf8-are_ascii (codes "RAW") refl, tt)
words_plain false true = (IsUtf8-are_ascii (codes "RICE") refl, tt)
words_plain false false = tt

constraints_plain : (asked : AskedList) → IsAskedInRange asked → MembersArePlain (constraint_members asked)
constraints_plain asked h =
    with_plain field.MaxDatabaseEntries (number_written asked.max_database) (with_member_if_any field.MaxUpdateEntries (number_written asked.max_update) (with_member_if_any field.SupportedCompressions (compressions_written asked.raw asked.rice) no_members))
    (IsUtf8-are_ascii (key_of field.MaxDatabaseEntries) refl) (number_plain asked.max_database h.limits.max_database)
    (with_plain field.MaxUpdateEntries (number_written asked.max_update) (with_member_if_any field.SupportedCompressions (compressions_written asked.raw asked.rice) no_members)
    (IsUtf8-are_ascii (key_of field.MaxUpdateEntries) refl) (number_plain asked.max_update h.limits.max_update)
    (with_plain field.SupportedCompressions (compressions_written asked.raw asked.rice) no_members
    (IsUtf8-are_ascii (key_of field.SupportedCompressions) refl) (values_plain _ (words_plain asked.raw asked.rice)) tt))

-- the members of an asked list, from the last one back
abbrev from_type : AskedList → Members
from_type asked = with_member_if_any field.ThreatType (Some (string (threat_word asked.name.threat))) no_members

abbrev from_entry : AskedList → Members
from_entry asked = with_member_if_any field.ThreatEntryType (Some (string (entry_word asked.name.entry))) (from_type asked)

abbrev from_state : AskedList → Members
from_state asked = with_member_if_any field.State (bytes_written asked.state) (from_entry asked)

abbrev from_platform : AskedList → Members
from_platform asked = with_member_if_any field.PlatformType (Some (string (platform_word asked.name.platform))) (from_state asked)

asked_plain : (asked : AskedList) → IsAskedInRange asked → IsPlain (asked_written asked)
asked_plain asked h =
    with_plain field.Constraints (unless_bare (constraint_members asked)) (from_platform asked) (IsUtf8-are_ascii (key_of field.Constraints) refl) (bare_plain (constraint_members asked) (constraints_plain asked h))
    (with_plain field.PlatformType (Some (string (platform_word asked.name.platform))) (from_state asked) (IsUtf8-are_ascii (key_of field.PlatformType) refl) (platform_plain asked.name.platform)
    (with_plain field.State (bytes_written asked.state) (from_entry asked) (IsUtf8-are_ascii (key_of field.State) refl) (bytes_plain asked.state)
    (with_plain field.ThreatEntryType (Some (string (entry_word asked.name.entry))) (from_type asked) (IsUtf8-are_ascii (key_of field.ThreatEntryType) refl) (entry_plain asked.name.entry)
    (with_plain field.ThreatType (Some (string (threat_word asked.name.threat))) no_members (IsUtf8-are_ascii (key_of field.ThreatType) refl) (threat_plain asked.name.threat) tt))))

all_plain : (items : List AskedList) → All IsAskedInRange items → AllByRecursion IsPlain (map asked_written items)
all_plain [] h = tt
all_plain (asked ∷ items) h = (asked_plain asked (All-head IsAskedInRange asked items h), all_plain items (All-tail IsAskedInRange asked items h))

client_plain : MembersArePlain (client_members (record { id = codes "sblist"; version = codes "1" }))
client_plain =
    with_plain field.ClientId (text_written (codes "sblist")) (with_member_if_any field.ClientVersion (text_written (codes "1")) no_members) (IsUtf8-are_ascii (key_of field.ClientId) refl) (codes "sblist", (refl, refl))
    (with_plain field.ClientVersion (text_written (codes "1")) no_members (IsUtf8-are_ascii (key_of field.ClientVersion) refl) (codes "1", (refl, refl)) tt)

request_plain : (lists : List Held) (options : FetchOptions) → IsRequestInRange (request_asked lists options) → IsPlain (request_written (request_asked lists options))
request_plain lists options h =
    let m = request_asked lists options in
    with_plain field.Client (unless_bare (client_members m.client)) (with_member_if_any field.ListUpdateRequests (list_written asked_written m.items) no_members) (IsUtf8-are_ascii (key_of field.Client) refl)
    (bare_plain (client_members m.client) client_plain)
    (with_plain field.ListUpdateRequests (list_written asked_written m.items) no_members (IsUtf8-are_ascii (key_of field.ListUpdateRequests) refl) (values_plain (map asked_written m.items) (all_plain m.items h.items)) tt)

-- A request of at most 1,024 items is not too dense.
abbrev pub RequestsAreThin : Type 0
RequestsAreThin = (message : Request) → length message.items ≤ 1024 → too_dense (spelling_of_request message) ≡ None

pub asked_reads_again : WrittenRequestsRead → RequestsNestWithin 5 → RequestsAreThin → (lists : List Held) (options : FetchOptions) → IsRequestInRange (request_asked lists options)
    → IsTextOf ReadsRequest (spelling_of_request (request_asked lists options)) (request_asked lists options)
unfolding spelling_of_request
asked_reads_again again nest thin lists options h =
    let m = request_asked lists options in (
      request_written m,
      value_again (request_written m) (request_plain lists options h) (omega (arith, nest m)) (thin m (omega (arith, h.limits.few))),
      again m h,
    )
