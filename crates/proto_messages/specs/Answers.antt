-- How an answer to a find is read. No program of this project reads one: this says what the bytes tell those who do.
use Rattle.std.specs.Prelude.{ℕ, ◌+◌, ◌*◌, ◌^◌, ◌<◌, ◌≤◌, ◌≡◌, List, length, map, All, Result, Ok}
use Rattle.proto_wire.specs.Wire.{WireField}
use Rattle.sb_json.specs.Values.{◌>>=◌}
use Rattle.sb_json.specs.declared.fields.Field.{Field}
use Rattle.sb_json.specs.declared.fields.Field.TheVariants as field
use Rattle.sb_model.specs.Names.{platform_code, entry_code}
use Rattle.hash_messages.specs.declared.response.Match.{Match}
use Rattle.hash_messages.specs.declared.response.FindResponse.{FindResponse}
use Rattle.proto_messages.specs.declared.fault.PartFault.{PartFault}
use Rattle.proto_messages.specs.Fields.{field_values_at, each, fields_of, message_of, number_row, bytes_row, message_row}
use Rattle.proto_messages.specs.Writing.{threat_number, find_answer_bytes}

-- A match, as its bytes tell it: its types are numbers.
pub record ToldMatch : Type 0 where
  pub threat : ℕ
  pub platform : ℕ
  pub entry : ℕ
  pub hash : List ℕ
  pub cache : ℕ

-- an answer to a find, as its bytes tell it; durations are nanoseconds
pub record ToldFind : Type 0 where
  pub matches : List ToldMatch
  pub wait : ℕ
  pub negative : ℕ

-- `seconds`, field 1 of a duration, and `nanos`, field 2; a duration that is absent is zero
unfoldable pub duration_row : Field → ℕ → List WireField → Result ℕ PartFault
duration_row field number fields = do
  duration ← message_row field number fields
  seconds ← number_row field 1 duration
  nanos ← number_row field 2 duration
  Ok (seconds * 1000000000 + nanos)

-- the fields of a match
unfoldable pub match_told : List WireField → Result ToldMatch PartFault
match_told fields = do
  threat ← number_row field.ThreatType 1 fields
  platform ← number_row field.PlatformType 2 fields
  hash ← message_row field.Threat 3 fields >>= bytes_row field.ThreatHash 1
  cache ← duration_row field.CacheDuration 5 fields
  entry ← number_row field.ThreatEntryType 6 fields
  Ok (record { threat = threat; platform = platform; entry = entry; hash = hash; cache = cache })

-- the fields of an answer: `matches`, field 1, and its two durations, fields 2 and 3
unfoldable pub find_told : List WireField → Result ToldFind PartFault
find_told fields = do
  matches ← each (λ value. message_of field.Matches value >>= match_told) (field_values_at 1 fields)
  wait ← duration_row field.MinimumWaitDuration 2 fields
  negative ← duration_row field.NegativeCacheDuration 3 fields
  Ok (record { matches = matches; wait = wait; negative = negative })

-- bytes that are an answer to a find
abbrev pub TellsFind : List ℕ → ToldFind → Type 0
TellsFind text told = (fields_of field.Root text >>= find_told) ≡ Ok told

-- what an answer tells, if SOCIAL_ENGINEERING has this number
abbrev pub told_match : ℕ → Match → ToldMatch
told_match social found = record {
  threat = threat_number social found.name.threat;
  platform = platform_code found.name.platform;
  entry = entry_code found.name.entry;
  hash = found.hash.bytes;
  cache = found.cache;
}

abbrev pub told_find : ℕ → FindResponse → ToldFind
told_find social message = record { matches = map (told_match social) message.matches; wait = message.wait; negative = message.negative }

-- The numbers and the bytes of an answer are those that it can have: durations are no longer than theirs, and the bytes fit in memory.
pub record CanBeTold (social : ℕ) (message : FindResponse) : Type 0 where
  pub social_fits : social < 2 ^ 64
  pub caches : All (λ found. found.cache ≤ 315576000000000000000) message.matches
  pub wait : message.wait ≤ 315576000000000000000
  pub negative : message.negative ≤ 315576000000000000000
  pub size : length (find_answer_bytes social message) < 2 ^ 64

-- what is written of an answer is read as what it tells
abbrev pub WrittenFindsAreRead : Type 0
WrittenFindsAreRead = (social : ℕ) (message : FindResponse) → CanBeTold social message → TellsFind (find_answer_bytes social message) (told_find social message)
