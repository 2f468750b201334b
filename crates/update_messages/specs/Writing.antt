-- The one spelling of each message: the compact JSON of a value whose members stand in the byte order of their keys.
use Rattle.std.specs.Prelude.{ℕ, Bool, true, false, List, [], ◌∷◌, ◌++◌, Option, Some, codes}
use Rattle.serde_json.specs.Data.{Data, string, number, object, unsigned, Members, no_members}
use Rattle.serde_json.specs.Written.{compact_text}
use Rattle.sb_json.specs.declared.fields.Field.{Field}
use Rattle.sb_json.specs.declared.fields.Field.TheVariants as field
use Rattle.sb_model.specs.Names.{threat_word, platform_word, entry_word}
use Rattle.sb_members.specs.Writing.{with_member_if_any, bytes_written, text_written, number_written, long_written, duration_written, values_written, list_written, unless_bare}
use Rattle.rice_coding.specs.declared.record.RiceRecord.{RiceRecord}
use Rattle.update_messages.specs.declared.client.ClientInfo.{ClientInfo}
use Rattle.update_messages.specs.declared.sets.Additions.{Additions}
use Rattle.update_messages.specs.declared.sets.Additions.TheVariants as added
use Rattle.update_messages.specs.declared.sets.Removals.{Removals}
use Rattle.update_messages.specs.declared.sets.Removals.TheVariants as removed
use Rattle.update_messages.specs.declared.response.FetchResponse.{FetchResponse}
use Rattle.update_messages.specs.Messages.{AskedList, Request, UpdatedList}

-- ---- the response

abbrev pub rice_written : RiceRecord → Data
rice_written rice = object (
    with_member_if_any field.EncodedData (bytes_written rice.coded) (
    with_member_if_any field.FirstValue (long_written rice.first) (
    with_member_if_any field.NumEntries (number_written rice.count) (
    with_member_if_any field.RiceParameter (number_written rice.parameter) no_members))))

abbrev pub hashes_written : ℕ → List ℕ → Data
hashes_written size bytes = object (
    with_member_if_any field.PrefixSize (number_written size) (
    with_member_if_any field.RawHashBytes (bytes_written bytes) no_members))

abbrev pub indices_written : List ℕ → Data
indices_written indices = object (with_member_if_any field.Indices (list_written (λ index. number (unsigned index)) indices) no_members)

-- an entry set, with the word of its compression
abbrev pub set_written : List ℕ → Field → Data → Data
set_written word name value = object (with_member_if_any field.CompressionType (Some (string word)) (with_member_if_any name (Some value) no_members))

abbrev pub addition_written : Additions → Data
addition_written (added.Raw size bytes) = set_written (codes "RAW") field.RawHashes (hashes_written size bytes)
addition_written (added.Rice rice) = set_written (codes "RICE") field.RiceHashes (rice_written rice)

abbrev pub removal_written : Removals → Data
removal_written (removed.Raw indices) = set_written (codes "RAW") field.RawIndices (indices_written indices)
removal_written (removed.Rice rice) = set_written (codes "RICE") field.RiceIndices (rice_written rice)

abbrev pub response_type_word : Bool → List ℕ
response_type_word true = codes "FULL_UPDATE"
response_type_word false = codes "PARTIAL_UPDATE"

abbrev pub checksum_written : List ℕ → Data
checksum_written digest = object (with_member_if_any field.Sha256 (bytes_written digest) no_members)

-- the members of an update from `platformType` on, and all of them
abbrev pub later_members : UpdatedList → Members
later_members update =
    with_member_if_any field.PlatformType (Some (string (platform_word update.name.platform))) (
    with_member_if_any field.Removals (list_written removal_written update.removals) (
    with_member_if_any field.ResponseType (Some (string (response_type_word update.full))) (
    with_member_if_any field.ThreatEntryType (Some (string (entry_word update.name.entry))) (
    with_member_if_any field.ThreatType (Some (string (threat_word update.name.threat))) no_members))))

abbrev pub update_written : UpdatedList → Data
update_written update = object (
    with_member_if_any field.Additions (list_written addition_written update.additions) (
    with_member_if_any field.BaseState (bytes_written update.base) (
    with_member_if_any field.Checksum (Some (checksum_written update.checksum)) (
    with_member_if_any field.NewClientState (bytes_written update.new_state) (later_members update)))))

abbrev pub response_written : FetchResponse → Data
response_written message = object (
    with_member_if_any field.ListUpdateResponses (list_written update_written message.items) (
    with_member_if_any field.MinimumWaitDuration (duration_written message.wait) no_members))

-- ---- the request

abbrev pub client_members : ClientInfo → Members
client_members client =
    with_member_if_any field.ClientId (text_written client.id) (
    with_member_if_any field.ClientVersion (text_written client.version) no_members)

abbrev pub word_if : Bool → List ℕ → List Data
word_if true word = string word ∷ []
word_if false word = []

-- RAW before RICE
abbrev pub compressions_written : Bool → Bool → Option Data
compressions_written raw rice = values_written (word_if raw (codes "RAW") ++ word_if rice (codes "RICE"))

abbrev pub constraint_members : AskedList → Members
constraint_members asked =
    with_member_if_any field.MaxDatabaseEntries (number_written asked.max_database) (
    with_member_if_any field.MaxUpdateEntries (number_written asked.max_update) (
    with_member_if_any field.SupportedCompressions (compressions_written asked.raw asked.rice) no_members))

abbrev pub asked_written : AskedList → Data
asked_written asked = object (
    with_member_if_any field.Constraints (unless_bare (constraint_members asked)) (
    with_member_if_any field.PlatformType (Some (string (platform_word asked.name.platform))) (
    with_member_if_any field.State (bytes_written asked.state) (
    with_member_if_any field.ThreatEntryType (Some (string (entry_word asked.name.entry))) (
    with_member_if_any field.ThreatType (Some (string (threat_word asked.name.threat))) no_members)))))

abbrev pub request_written : Request → Data
request_written message = object (
    with_member_if_any field.Client (unless_bare (client_members message.client)) (
    with_member_if_any field.ListUpdateRequests (list_written asked_written message.items) no_members))

-- ---- the spellings

unfoldable pub spelling_of_request : Request → List ℕ
spelling_of_request message = compact_text (request_written message)

unfoldable pub spelling_of_response : FetchResponse → List ℕ
spelling_of_response message = compact_text (response_written message)
