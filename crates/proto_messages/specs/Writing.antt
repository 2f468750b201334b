-- How answers are written: the fields of each message in the order of their numbers, each spelled in the one way of `proto_wire`. A number
-- that is 0, bytes that are empty and a duration that is zero are left out, but for those that each client needs.
use Rattle.std.specs.Prelude.{ℕ, ◌/◌, ◌%◌, nat_eq, if◌then◌else◌, Bool, true, false, List, [], ◌∷◌, ◌++◌, map}
use Rattle.std.specs.List.{flat_map}
use Rattle.proto_wire.specs.Wire.{WireField, number_field, bytes_field}
use Rattle.proto_wire.specs.Spelling.{shortest_varint, written_fields}
use Rattle.sb_model.specs.declared.names.ThreatType.{ThreatType}
use Rattle.sb_model.specs.declared.names.ThreatType.TheVariants as threat
use Rattle.sb_model.specs.Names.{threat_code, platform_code, entry_code}
use Rattle.rice_coding.specs.declared.record.RiceRecord.{RiceRecord}
use Rattle.update_messages.specs.declared.sets.Additions.{Additions}
use Rattle.update_messages.specs.declared.sets.Additions.TheVariants as added
use Rattle.update_messages.specs.declared.sets.Removals.{Removals}
use Rattle.update_messages.specs.declared.sets.Removals.TheVariants as removed
use Rattle.update_messages.specs.declared.response.FetchResponse.{FetchResponse}
use Rattle.update_messages.specs.Messages.{UpdatedList}
use Rattle.hash_messages.specs.declared.response.Match.{Match}
use Rattle.hash_messages.specs.declared.response.FindResponse.{FindResponse}
use Rattle.proto_messages.specs.Numbers.{raw_number, rice_number}

-- a number, unless it is 0
abbrev pub number_unless_zero : ℕ → ℕ → List WireField
number_unless_zero field number = if nat_eq number 0 then [] else (number_field field number ∷ [])

-- bytes, unless there are none
abbrev pub bytes_unless_none : ℕ → List ℕ → List WireField
bytes_unless_none field [] = []
bytes_unless_none field (byte ∷ bytes) = bytes_field field (byte ∷ bytes) ∷ []

-- a message that stands in another
abbrev pub message_field : ℕ → List WireField → WireField
message_field field fields = bytes_field field (written_fields fields)

-- `Duration`: its seconds, field 1, and the nanoseconds of a further one, field 2
abbrev pub duration_fields : ℕ → List WireField
duration_fields nanos = number_unless_zero 1 (nanos / 1000000000) ++ number_unless_zero 2 (nanos % 1000000000)

abbrev pub duration_field : ℕ → ℕ → List WireField
duration_field field nanos = if nat_eq nanos 0 then [] else (message_field field (duration_fields nanos) ∷ [])

-- ---- the answer to a find request: `FindFullHashesResponse`

-- the number of a threat type, if this is that of SOCIAL_ENGINEERING; the others have their codes
abbrev pub threat_number : ℕ → ThreatType → ℕ
threat_number social threat.SocialEngineering = social
threat_number social other = threat_code other

-- `ThreatMatch`: threat 1, platform 2, `threat` 3 with its `hash` 1, `cache_duration` 5, entry 6
abbrev pub match_fields : ℕ → Match → List WireField
match_fields social found =
    number_field 1 (threat_number social found.name.threat)
    ∷ number_field 2 (platform_code found.name.platform)
    ∷ message_field 3 (bytes_field 1 found.hash.bytes ∷ [])
    ∷ (duration_field 5 found.cache ++ number_field 6 (entry_code found.name.entry) ∷ [])

abbrev pub match_field : ℕ → Match → WireField
match_field social found = message_field 1 (match_fields social found)

-- `matches` 1, `minimum_wait_duration` 2, `negative_cache_duration` 3
abbrev pub find_answer_fields : ℕ → FindResponse → List WireField
find_answer_fields social message =
    map (match_field social) message.matches ++ (duration_field 2 message.wait ++ duration_field 3 message.negative)

unfoldable pub find_answer_bytes : ℕ → FindResponse → List ℕ
find_answer_bytes social message = written_fields (find_answer_fields social message)

-- ---- the answer to a fetch request: `FetchThreatListUpdatesResponse`

-- `RiceDeltaEncoding`: `first_value` 1, `rice_parameter` 2, `num_entries` 3, `encoded_data` 4; each is written, a 0 too
abbrev pub rice_fields : RiceRecord → List WireField
rice_fields rice =
    number_field 1 rice.first ∷ number_field 2 rice.parameter ∷ number_field 3 rice.count ∷ bytes_field 4 rice.coded ∷ []

-- numbers in a packed field
abbrev pub packed_varint_bytes : List ℕ → List ℕ
packed_varint_bytes numbers = flat_map shortest_varint numbers

-- `RawHashes`: `prefix_size` 1 and `raw_hashes` 2
abbrev pub raw_fields : ℕ → List ℕ → List WireField
raw_fields size bytes = number_field 1 size ∷ bytes_unless_none 2 bytes

-- `ThreatEntrySet`: `compression_type` 1; then `raw_hashes` 2, or `rice_hashes` 4
abbrev pub addition_fields : Additions → List WireField
addition_fields (added.Raw size bytes) =
    number_field 1 raw_number ∷ message_field 2 (raw_fields size bytes) ∷ []
addition_fields (added.Rice rice) = number_field 1 rice_number ∷ message_field 4 (rice_fields rice) ∷ []

-- `RawIndices`: `indices` 1, packed
abbrev pub indices_fields : List ℕ → List WireField
indices_fields indices = bytes_field 1 (packed_varint_bytes indices) ∷ []

-- `raw_indices` 3, or `rice_indices` 5
abbrev pub removal_fields : Removals → List WireField
removal_fields (removed.Raw indices) = number_field 1 raw_number ∷ message_field 3 (indices_fields indices) ∷ []
removal_fields (removed.Rice rice) = number_field 1 rice_number ∷ message_field 5 (rice_fields rice) ∷ []

-- The sets that are sent. A whole update without any has one without hashes: a browser keeps what it has if there is none.
abbrev pub sent_additions : Bool → List Additions → List Additions
sent_additions true [] = added.Raw 4 [] ∷ []
sent_additions full sets = sets

-- `response_type`: PARTIAL_UPDATE or FULL_UPDATE
abbrev pub response_number : Bool → ℕ
response_number false = 1
response_number true = 2

abbrev pub addition_field : Additions → WireField
addition_field set = message_field 5 (addition_fields set)

abbrev pub removal_field : Removals → WireField
removal_field set = message_field 6 (removal_fields set)

-- the sets of an update: `additions` 5 and `removals` 6
abbrev pub set_fields : UpdatedList → List WireField
set_fields update =
    map addition_field (sent_additions update.full update.additions) ++ map removal_field update.removals

-- what stands before the sets of an update: threat 1, entry 2, platform 3 and `response_type` 4
abbrev pub kind_fields : ℕ → UpdatedList → List WireField
kind_fields threat update =
    number_field 1 threat ∷ number_field 2 (entry_code update.name.entry) ∷ number_field 3 (platform_code update.name.platform)
    ∷ number_field 4 (response_number update.full) ∷ []

-- what stands behind them: `new_client_state` 7, an empty one too, and `checksum` 8 with its `sha256` 1
abbrev pub end_fields : UpdatedList → List WireField
end_fields update = bytes_field 7 update.new_state ∷ message_field 8 (bytes_field 1 update.checksum ∷ []) ∷ []

-- `ListUpdateResponse`, with the number of its threat
abbrev pub update_fields : ℕ → UpdatedList → List WireField
update_fields threat update = kind_fields threat update ++ (set_fields update ++ end_fields update)

abbrev pub update_field : ℕ → UpdatedList → WireField
update_field threat update = message_field 1 (update_fields threat update)

-- the first of some numbers, and a threat's own code if there is none; and the numbers after it
abbrev pub first_number : List ℕ → UpdatedList → ℕ
first_number [] update = threat_code update.name.threat
first_number (threat ∷ threats) update = threat

abbrev pub numbers_after_first : List ℕ → List ℕ
numbers_after_first [] = []
numbers_after_first (threat ∷ threats) = threats

-- the updates, each with the number with which its threat was asked
abbrev pub updates_written : List ℕ → List UpdatedList → List WireField
updates_written threats [] = []
updates_written threats (update ∷ updates) = update_field (first_number threats update) update ∷ updates_written (numbers_after_first threats) updates

-- `list_update_responses` 1, `minimum_wait_duration` 2
abbrev pub fetch_answer_fields : List ℕ → FetchResponse → List WireField
fetch_answer_fields threats message = updates_written threats message.items ++ duration_field 2 message.wait

unfoldable pub fetch_answer_bytes : List ℕ → FetchResponse → List ℕ
fetch_answer_bytes threats message = written_fields (fetch_answer_fields threats message)
