-- A small run that meets every premise of the headline: a server with three changes, and six bodies, of which some come twice or damaged.
use Rattle.std.specs.Prelude.{ℕ, true, false, List, [], ◌∷◌, ◌++◌, Ok, Err, codes, replicate}
use Rattle.sb_model.specs.declared.history.Added.{Added}
use Rattle.sb_model.specs.declared.history.Change.{Change}
use Rattle.sb_model.specs.declared.names.ThreatType.TheVariants as threat
use Rattle.sb_model.specs.declared.names.PlatformType.TheVariants as platform
use Rattle.sb_model.specs.declared.names.EntryType.TheVariants as entry
use Rattle.sb_model.specs.declared.names.ListName.{ListName}
use Rattle.sb_model.specs.History.{History}
use Rattle.sb_model.specs.Naming.{Naming}
use Rattle.sb_json.specs.declared.faults.MessageFault.TheVariants.{NotJson}
use Rattle.update_messages.specs.declared.sets.Additions.TheVariants as added
use Rattle.update_messages.specs.declared.sets.Removals.TheVariants as removed
use Rattle.update_messages.specs.Messages.{UpdatedList}
use Rattle.update_client.specs.Held.{Held}
use Rattle.update_replay.specs.Readings.{ResponseReading}

-- ---- the server

-- the list MALWARE/ANY_PLATFORM/URL
abbrev pub example_name : ListName
example_name = record { threat = threat.Malware; platform = platform.AnyPlatform; entry = entry.Url }

-- full hashes that begin with these four bytes, each published by them
abbrev pub example_hash : List ℕ → List ℕ
example_hash front = front ++ replicate 28 0

abbrev pub example_entry : List ℕ → Added
example_entry front = record { hash = example_hash front; size = 4 }

-- The server declares the list with prefixes of 4 bytes. It adds `1234` and `5678`, then removes `5678`, and then adds `9abc`.
abbrev pub first_change : Change
first_change = record { list = example_name; adds = example_entry (codes "1234") ∷ example_entry (codes "5678") ∷ []; removes = [] }

abbrev pub second_change : Change
second_change = record { list = example_name; adds = []; removes = example_hash (codes "5678") ∷ [] }

abbrev pub third_change : Change
third_change = record { list = example_name; adds = example_entry (codes "9abc") ∷ []; removes = [] }

abbrev pub example_history : History
example_history = record { epoch = 1; declared = (example_name, 4) ∷ []; changes = first_change ∷ second_change ∷ third_change ∷ [] }

-- The token of a version is one byte, its number.
abbrev pub example_tokens : Naming
example_tokens list version = version ∷ []

-- the prefixes after each change
abbrev pub first_set : List (List ℕ)
first_set = codes "1234" ∷ codes "5678" ∷ []

abbrev pub second_set : List (List ℕ)
second_set = codes "1234" ∷ []

abbrev pub third_set : List (List ℕ)
third_set = codes "1234" ∷ codes "9abc" ∷ []

-- SHA-256 of `12345678`, of `1234`, and of `12349abc`, the last without its first byte
abbrev pub first_digest : List ℕ
first_digest =
    0xef ∷ 0x79 ∷ 0x7c ∷ 0x81 ∷ 0x18 ∷ 0xf0 ∷ 0x2d ∷ 0xfb ∷ 0x64 ∷ 0x96 ∷ 0x07 ∷ 0xdd ∷ 0x5d ∷ 0x3f ∷ 0x8c ∷ 0x76 ∷
    0x23 ∷ 0x04 ∷ 0x8c ∷ 0x9c ∷ 0x06 ∷ 0x3d ∷ 0x53 ∷ 0x2c ∷ 0xc9 ∷ 0x5c ∷ 0x5e ∷ 0xd7 ∷ 0xa8 ∷ 0x98 ∷ 0xa6 ∷ 0x4f ∷ []

abbrev pub second_digest : List ℕ
second_digest =
    0x03 ∷ 0xac ∷ 0x67 ∷ 0x42 ∷ 0x16 ∷ 0xf3 ∷ 0xe1 ∷ 0x5c ∷ 0x76 ∷ 0x1e ∷ 0xe1 ∷ 0xa5 ∷ 0xe2 ∷ 0x55 ∷ 0xf0 ∷ 0x67 ∷
    0x95 ∷ 0x36 ∷ 0x23 ∷ 0xc8 ∷ 0xb3 ∷ 0x88 ∷ 0xb4 ∷ 0x45 ∷ 0x9e ∷ 0x13 ∷ 0xf9 ∷ 0x78 ∷ 0xd7 ∷ 0xc8 ∷ 0x46 ∷ 0xf4 ∷ []

abbrev pub third_digest_rest : List ℕ
third_digest_rest =
    0xcf ∷ 0xc3 ∷ 0x3b ∷ 0xc5 ∷ 0xe2 ∷ 0x79 ∷ 0x49 ∷ 0x10 ∷ 0xf3 ∷ 0x13 ∷ 0x3b ∷ 0xa2 ∷ 0xc8 ∷ 0x2a ∷ 0x51 ∷
    0x2a ∷ 0x38 ∷ 0x03 ∷ 0x8a ∷ 0xe7 ∷ 0x6b ∷ 0x35 ∷ 0xec ∷ 0x26 ∷ 0xc5 ∷ 0x73 ∷ 0x67 ∷ 0x5f ∷ 0xe4 ∷ 0x4c ∷ 0x71 ∷ []

abbrev pub third_digest : List ℕ
third_digest = 0x57 ∷ third_digest_rest

-- ---- the bodies

-- The whole of the first set, Rice coded: its numbers are 875770417 and 67372036 more.
abbrev pub example_whole_update : UpdatedList
example_whole_update = record {
  name = example_name;
  full = true;
  base = [];
  additions = added.Rice (record { first = 875770417; parameter = 25; count = 1; coded = 0x23 ∷ 0x20 ∷ 0x20 ∷ 0x00 ∷ [] }) ∷ [];
  removals = [];
  new_state = 1 ∷ [];
  checksum = first_digest;
}

-- what leads from the first set to the second, made for the token of the first
abbrev pub based_update : UpdatedList
based_update = record {
  name = example_name;
  full = false;
  base = 1 ∷ [];
  additions = [];
  removals = removed.Raw (1 ∷ []) ∷ [];
  new_state = 2 ∷ [];
  checksum = second_digest;
}

-- what leads from the second set to the third, without a base state, and with this checksum
abbrev pub later_update : List ℕ → UpdatedList
later_update checksum = record {
  name = example_name;
  full = false;
  base = [];
  additions = added.Raw 4 (codes "9abc") ∷ [];
  removals = [];
  new_state = 3 ∷ [];
  checksum = checksum;
}

abbrev pub example_response_body : UpdatedList → ResponseReading
example_response_body update = Ok (record { items = update ∷ []; wait = 0 })

-- The second body comes twice, so that its base state is stale the second time. Of the next two the first has a wrong
-- first byte in its checksum, and the other was cut short. Then comes the last update whole.
abbrev pub example_readings : List ResponseReading
example_readings =
    example_response_body example_whole_update ∷ example_response_body based_update ∷ example_response_body based_update
    ∷ example_response_body (later_update (0x07 ∷ third_digest_rest)) ∷ Err NotJson ∷ example_response_body (later_update third_digest) ∷ []

-- the list as it is held in the end
abbrev pub example_held : Held
example_held = record { name = example_name; token = 3 ∷ []; set = third_set; resync = false }
