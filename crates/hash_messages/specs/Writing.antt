-- The one spelling of each message: the compact JSON of a value whose members stand in the byte order
-- of their keys.
use Rattle.std.specs.Prelude.{ℕ, List, Some}
use Rattle.serde_json.specs.Data.{Data, string, object, no_members}
use Rattle.serde_json.specs.Written.{compact_text}
use Rattle.base64.specs.Engines.{standard}
use Rattle.base64.specs.GeneralPurpose.{encode_of}
use Rattle.sb_json.specs.declared.fields.Field.TheVariants as field
use Rattle.sb_model.specs.declared.names.ThreatType.{ThreatType}
use Rattle.sb_model.specs.declared.names.PlatformType.{PlatformType}
use Rattle.sb_model.specs.declared.names.EntryType.{EntryType}
use Rattle.sb_model.specs.Names.{threat_word, platform_word, entry_word}
use Rattle.sb_members.specs.Writing.{with_member_if_any, bytes_written, duration_written, list_written, unless_bare}
use Rattle.update_messages.specs.Writing.{client_members}
use Rattle.hash_messages.specs.Messages.{AskedHashes}
use Rattle.hash_messages.specs.declared.response.Match.{Match}
use Rattle.hash_messages.specs.declared.response.FindResponse.{FindResponse}

-- ---- the request

-- a state in the list of states, where an empty one stands too
abbrev pub state_written : List ℕ → Data
state_written state = string (encode_of standard state)

abbrev pub threat_written : ThreatType → Data
threat_written threat = string (threat_word threat)

abbrev pub platform_written : PlatformType → Data
platform_written platform = string (platform_word platform)

abbrev pub entry_written : EntryType → Data
entry_written entry = string (entry_word entry)

abbrev pub prefix_written : List ℕ → Data
prefix_written prefix = object (with_member_if_any field.Hash (bytes_written prefix) no_members)

abbrev pub info_written : AskedHashes → Data
info_written message = object (
    with_member_if_any field.PlatformTypes (list_written platform_written message.platforms) (
    with_member_if_any field.ThreatEntries (list_written prefix_written message.prefixes) (
    with_member_if_any field.ThreatEntryTypes (list_written entry_written message.entries) (
    with_member_if_any field.ThreatTypes (list_written threat_written message.threats) no_members))))

abbrev pub find_request_written : AskedHashes → Data
find_request_written message = object (
    with_member_if_any field.Client (unless_bare (client_members message.client)) (
    with_member_if_any field.ClientStates (list_written state_written message.states) (
    with_member_if_any field.ThreatInfo (Some (info_written message)) no_members)))

-- ---- the response

abbrev pub hash_written : List ℕ → Data
hash_written hash = object (with_member_if_any field.ThreatHash (bytes_written hash) no_members)

abbrev pub match_written : Match → Data
match_written found = object (
    with_member_if_any field.CacheDuration (duration_written found.cache) (
    with_member_if_any field.PlatformType (Some (platform_written found.name.platform)) (
    with_member_if_any field.Threat (Some (hash_written found.hash.bytes)) (
    with_member_if_any field.ThreatEntryType (Some (entry_written found.name.entry)) (
    with_member_if_any field.ThreatType (Some (threat_written found.name.threat)) no_members)))))

abbrev pub find_response_written : FindResponse → Data
find_response_written message = object (
    with_member_if_any field.Matches (list_written match_written message.matches) (
    with_member_if_any field.MinimumWaitDuration (duration_written message.wait) (
    with_member_if_any field.NegativeCacheDuration (duration_written message.negative) no_members)))

-- ---- the spellings

unfoldable pub spelling_of_find_request : AskedHashes → List ℕ
spelling_of_find_request message = compact_text (find_request_written message)

unfoldable pub spelling_of_find_response : FindResponse → List ℕ
spelling_of_find_response message = compact_text (find_response_written message)
