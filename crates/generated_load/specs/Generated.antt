-- What a seed makes: numbers, a host of each, the history in which the hashes of the hosts come and go, and URLs of further hosts.
use Rattle.std.specs.Prelude.{ℕ, zero, suc, ◌+◌, ◌-◌, ◌*◌, ◌/◌, ◌%◌, ◌^◌, ◌==◌, if◌then◌else◌, List, [], ◌∷◌, ◌++◌, map, codes, decimal}
use Rattle.std.specs.List.{flat_map, range_with_len}
use Rattle.sha2.specs.Sha256.{sha256}
use Rattle.sb_model.specs.declared.history.Added.{Added}
use Rattle.sb_model.specs.declared.history.Change.{Change}
use Rattle.sb_model.specs.declared.names.EntryType.TheVariants as entry
use Rattle.sb_model.specs.declared.names.ListName.{ListName}
use Rattle.sb_model.specs.declared.names.PlatformType.TheVariants as platform
use Rattle.sb_model.specs.declared.names.ThreatType.TheVariants as threat
use Rattle.sb_model.specs.History.{History}
use Rattle.list_versions.specs.Lines.{newline}

-- ---- numbers and hosts

-- the number after a number, of 64 bits
unfoldable pub number_after : ℕ → ℕ
number_after number = (number * 6364136223846793005 + 1442695040888963407) % 2 ^ 64

-- the numbers of a seed, which is itself the one at place 0
unfoldable pub seed_number_at : ℕ → ℕ → ℕ
seed_number_at seed zero = seed
seed_number_at seed (suc place) = number_after (seed_number_at seed place)

-- the host of a number: `h`, the number divided by 2^48 and rounded down, and `.example`
unfoldable pub generated_host : ℕ → List ℕ
generated_host number = codes "h" ++ decimal (number / 2 ^ 48) ++ codes ".example"

-- the full hash of the host's first page
unfoldable pub generated_hash : ℕ → List ℕ
generated_hash number = sha256 (generated_host number ++ codes "/")

abbrev pub hash_at : ℕ → ℕ → List ℕ
hash_at seed place = generated_hash (seed_number_at seed place)

-- ---- the history

abbrev pub generated_list : ListName
generated_list = record { threat = threat.Malware; platform = platform.AnyPlatform; entry = entry.Url }

-- The change at a place adds a hash. Where the place is a multiple of 4, it removes another, that of the host before.
unfoldable pub generated_change : ℕ → List ℕ → List ℕ → Change
generated_change place before hash = record {
  list = generated_list;
  adds = record { hash = hash; size = 4 } ∷ [];
  removes = if place % 4 == 0 then before ∷ [] else [];
}

abbrev pub change_at : ℕ → ℕ → Change
change_at seed place = generated_change place (hash_at seed (place - 1)) (hash_at seed place)

-- one list with prefixes of 4 bytes, the seed as the epoch, and so many changes, at the places from 1 on
unfoldable pub generated : ℕ → ℕ → History
generated count seed = record {
  epoch = seed;
  declared = (generated_list, 4) ∷ [];
  changes = map (change_at seed) (range_with_len 1 count);
}

-- ---- URLs: a line for each place from 1 on, with a host of the numbers of the seed after this one

abbrev pub url_line : ℕ → ℕ → List ℕ
url_line number place = codes "http://" ++ generated_host number ++ codes "/p" ++ decimal place ++ newline ∷ []

abbrev pub other_seed : ℕ → ℕ
other_seed seed = (seed + 1) % 2 ^ 64

abbrev pub generated_url_at : ℕ → ℕ → List ℕ
generated_url_at seed place = url_line (seed_number_at (other_seed seed) place) place

unfoldable pub urls_text : ℕ → ℕ → List ℕ
urls_text count seed = flat_map (generated_url_at seed) (range_with_len 1 count)
