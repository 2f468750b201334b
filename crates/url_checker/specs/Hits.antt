-- The hits of a URL: which prefixes on the lists of a client begin the full hashes of its expressions (Safe Browsing v4,
-- "URLs and Hashing").
use Rattle.std.specs.Prelude.{◌≡◌, ℕ, ◌<◌, ◌≤◌, Bool, true, false, List, length, take, map, filter, All, Contains, slice_index_or}
use Rattle.std.specs.List.{flat_map, list_any, range_with_len}
use Rattle.std.specs.Str.{bytes_eq}
use Rattle.sb_model.specs.declared.names.ListName.{ListName}
use Rattle.sb_model.specs.Prefixes.{set_of}
use Rattle.hash_prefixes.specs.declared.hashes.FullHash.{FullHash}
use Rattle.url_canon.specs.Url.{Url}
use Rattle.url_hashes.specs.Hashes.{hashes_of}
use Rattle.hash_messages.specs.Messages.{most_prefixes}
use Rattle.update_client.specs.Held.{Held}
use Rattle.url_checker.specs.declared.findings.Hit.{Hit}

-- the sizes that a prefix may have, from 4 to 32 bytes
abbrev pub prefix_sizes : List ℕ
prefix_sizes = range_with_len 4 29

-- whether a set has the first bytes of a hash, so many of them
abbrev pub has_front : List (List ℕ) → FullHash → ℕ → Bool
has_front set hash size = list_any (bytes_eq (take size hash.bytes)) set

abbrev pub hit_of : ListName → FullHash → ℕ → Hit
hit_of list hash size = record { list = list; prefix = take size hash.bytes; hash = hash }

-- one for each of these sizes at which the first bytes of the hash are a member of the list's set
abbrev pub hits_at : Held → FullHash → List ℕ → List Hit
hits_at held hash sizes = map (hit_of held.name hash) (filter (has_front held.set hash) sizes)

-- the hits of a hash on a list, the sizes rising
abbrev pub hits_with : Held → FullHash → List Hit
hits_with held hash = hits_at held hash prefix_sizes

-- the hits of some hashes on a list, in the order of the hashes
abbrev pub hits_on : List FullHash → Held → List Hit
hits_on hashes held = flat_map (hits_with held) hashes

-- the hits of a URL: for each list in order, and each expression in order
abbrev pub hits_of : List Held → Url → List Hit
hits_of lists url = flat_map (hits_on (hashes_of url)) lists

-- ---- which sizes are looked up

-- each size up to 32 that a member of a list's set has is marked
abbrev pub Marks : List Bool → Held → Type 0
Marks marks held = (member : List ℕ) → Contains held.set member → length member < 33 → slice_index_or marks (length member) false ≡ true

-- those of each list are
abbrev pub MarksAll : List Bool → List Held → Type 0
MarksAll marks lists = All (Marks marks) lists

-- no size from this one on is marked
abbrev pub IsPastMarks : List Bool → ℕ → Type 0
IsPastMarks marks past = (size : ℕ) → past ≤ size → slice_index_or marks size false ≡ false

-- ---- what is asked of hits

-- the prefix begins the hash
abbrev pub BeginsHash : Hit → Type 0
BeginsHash hit = take (length hit.prefix) hit.hash.bytes ≡ hit.prefix

-- the prefixes of hits, rising, each once
abbrev pub prefixes_hit : List Hit → List (List ℕ)
prefixes_hit hits = set_of (map (λ (hit : Hit). hit.prefix) hits)

-- Hits that one request can ask for: each prefix begins its hash, and there are no more of them than a request may have.
pub record AreAskable (hits : List Hit) : Type 0 where
  pub begin : All BeginsHash hits
  pub few : length (prefixes_hit hits) ≤ most_prefixes
