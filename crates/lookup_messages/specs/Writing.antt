-- The one spelling of each message: the compact JSON of a value whose members stand in the byte order of their keys.
use Rattle.std.specs.Prelude.{ℕ, List, Some, encode_utf8_all}
use Rattle.serde_json.specs.Data.{Data, string, object, no_members}
use Rattle.serde_json.specs.Written.{compact_text}
use Rattle.sb_json.specs.declared.fields.Field.TheVariants as field
use Rattle.sb_members.specs.Writing.{with_member_if_any, duration_written, list_written, unless_bare}
use Rattle.update_messages.specs.Writing.{client_members}
use Rattle.hash_messages.specs.Writing.{threat_written, platform_written, entry_written}
use Rattle.lookup_messages.specs.Messages.{AskedUrls}
use Rattle.lookup_messages.specs.declared.response.LookupMatch.{LookupMatch}
use Rattle.lookup_messages.specs.declared.response.LookupResponse.{LookupResponse}

-- an object of a URL alone, which is written even if it is empty
abbrev pub url_written : List ℕ → Data
url_written url = object (with_member_if_any field.Url (Some (string (encode_utf8_all url))) no_members)

-- ---- the request

abbrev pub lookup_info_written : AskedUrls → Data
lookup_info_written message = object (
    with_member_if_any field.PlatformTypes (list_written platform_written message.platforms) (
    with_member_if_any field.ThreatEntries (list_written url_written message.urls) (
    with_member_if_any field.ThreatEntryTypes (list_written entry_written message.entries) (
    with_member_if_any field.ThreatTypes (list_written threat_written message.threats) no_members))))

abbrev pub lookup_written : AskedUrls → Data
lookup_written message = object (
    with_member_if_any field.Client (unless_bare (client_members message.client)) (
    with_member_if_any field.ThreatInfo (Some (lookup_info_written message)) no_members))

-- ---- the response

abbrev pub lookup_match_written : LookupMatch → Data
lookup_match_written found = object (
    with_member_if_any field.CacheDuration (duration_written found.cache) (
    with_member_if_any field.PlatformType (Some (platform_written found.name.platform)) (
    with_member_if_any field.Threat (Some (url_written found.url)) (
    with_member_if_any field.ThreatEntryType (Some (entry_written found.name.entry)) (
    with_member_if_any field.ThreatType (Some (threat_written found.name.threat)) no_members)))))

abbrev pub lookup_response_written : LookupResponse → Data
lookup_response_written message = object (with_member_if_any field.Matches (list_written lookup_match_written message.matches) no_members)

-- ---- the spellings

unfoldable pub spelling_of_lookup : AskedUrls → List ℕ
spelling_of_lookup message = compact_text (lookup_written message)

unfoldable pub spelling_of_lookup_response : LookupResponse → List ℕ
spelling_of_lookup_response message = compact_text (lookup_response_written message)
