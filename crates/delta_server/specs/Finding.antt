-- Parts of the answer to a find request.
use Rattle.std.specs.Prelude.{ℕ, ◌&&◌, List, length, take, map, filter}
use Rattle.std.specs.List.{flat_map}
use Rattle.std.specs.Str.{bytes_eq}
use Rattle.sb_model.specs.declared.names.ThreatType.{ThreatType}
use Rattle.sb_model.specs.declared.names.PlatformType.{PlatformType}
use Rattle.sb_model.specs.declared.names.EntryType.{EntryType}
use Rattle.sb_model.specs.declared.names.ListName.{ListName}
use Rattle.sb_model.specs.Names.{platforms, entries}
use Rattle.sb_model.specs.History.{History, version_count, declares, full_hashes_at}
use Rattle.sb_model.specs.Prefixes.{set_of}
use Rattle.hash_messages.specs.Messages.{AskedHashes}
use Rattle.hash_messages.specs.Matches.{asks_list, matches_in}
use Rattle.hash_messages.specs.declared.response.Match.{Match}

-- the name of three types
abbrev pub name_of_three_types : ThreatType → PlatformType → EntryType → ListName
name_of_three_types t p e = record { threat = t; platform = p; entry = e }

-- the names of a threat type, rising by the two other codes
abbrev pub names_of_threat : ThreatType → List ListName
names_of_threat t = flat_map (λ p. map (name_of_three_types t p) entries) platforms

-- the newest full hashes of a list that begin with a prefix, rising
abbrev pub hashes_begun : History → ListName → List ℕ → List (List ℕ)
hashes_begun history list prefix =
    set_of (filter (λ hash. bytes_eq (take (length prefix) hash) prefix) (full_hashes_at history list (version_count history)))

-- the match of a full hash of a list, to be kept for so many nanoseconds
abbrev pub match_of_hash : ListName → ℕ → List ℕ → Match
match_of_hash list cache hash = record { name = list; hash = record { bytes = hash }; cache = cache }

-- the matches of some lists: of those that are declared and asked, in the order in which they stand
abbrev pub matches_among : History → ℕ → AskedHashes → List ListName → List Match
matches_among history cache asked lists =
    flat_map (matches_in history cache asked) (filter (λ list. declares history list && asks_list asked list) lists)
