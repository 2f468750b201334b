-- How the newest full hashes of a list are kept: in buckets, one for each four bytes that a hash begins with.
use Rattle.std.specs.Prelude.{◌≡◌, ℕ, ◌+◌, ◌^◌, ◌<◌, ◌≤◌, Bool, List, [], length, map, filter, take, All, Option, cond, min, max}
use Rattle.std.specs.List.{flat_map}
use Rattle.std.specs.Map.{lookup}
use Rattle.std.specs.Option.{unwrap_or}
use Rattle.sb_model.specs.declared.history.Added.{Added}
use Rattle.sb_model.specs.declared.history.Change.{Change}
use Rattle.sb_model.specs.declared.names.ListName.{ListName}
use Rattle.sb_model.specs.History.{prefix_of}
use Rattle.list_versions.specs.Limits.{has_head, prefix_bytes}
use Rattle.list_versions.specs.declared.live.Live.{Live}
use Rattle.list_versions.specs.declared.bucket.Standing.{Standing}
use Rattle.list_versions.specs.Buckets.{added_of}
use Rattle.list_versions.specs.Ends.{Line, HasEnds, placed, restored}
use Rattle.std.specs.Str.{bytes_eq}

-- the entries of a map from four bytes to a bucket
abbrev pub Buckets : Type 0
Buckets = List (List ℕ × List Standing)

abbrev pub found_in : Buckets → List ℕ → Option (List Standing)
found_in buckets head = lookup (bytes_eq head) buckets

-- a bucket that is not there is empty
abbrev pub lines_in : Buckets → List ℕ → List Standing
lines_in buckets head = unwrap_or (found_in buckets head) []

-- the full hashes of a bucket
abbrev pub bucket_in : Buckets → List ℕ → List Added
bucket_in buckets head = added_of (lines_in buckets head)

-- what a map becomes where a bucket is put
abbrev pub PutsBucket : Buckets → Buckets → List ℕ → List Standing → Type 0
PutsBucket before after head next = (other : List ℕ) → lines_in after other ≡ cond (bytes_eq head other) next (lines_in before other)

-- at least four bytes of a hash are published, and no more than it has
pub record IsPublishable (entry : Added) : Type 0 where
  pub low : 4 ≤ entry.size
  pub short : length (prefix_of entry) ≤ 32

-- These are the full hashes that are kept.
pub record Holds (live : Live) (entries : List Added) : Type 0 where
  pub buckets : (head : List ℕ) → bucket_in live.buckets.entries head ≡ filter (has_head head) entries
  pub count : live.count ≡ length entries
  pub bytes : live.bytes ≡ prefix_bytes entries
  pub sizes : All IsPublishable entries
  pub alike : (head : List ℕ) → length (lines_in live.buckets.entries head) ≤ live.most

-- a line begins with these bytes
abbrev pub has_line : List ℕ → Standing → Bool
has_line head line = has_head head line.added

-- The lines that have no end stand in the buckets with their places.
pub record IsPlaced (live : Live) (lines : List Line) : Type 0 where
  pub ends : live.ends.items ≡ map (λ line. line.1) lines
  pub places : (head : List ℕ) → lines_in live.buckets.entries head ≡ filter (has_line head) (placed 0 lines)

-- The ends of a list are those of its lines.
pub record HasRead (name : ListName) (changes : List Change) (live : Live) : Type 0 where
  pub lines : List Line
  pub are : HasEnds name changes lines
  pub ends : live.ends.items ≡ map (λ line. line.1) lines

-- The same, and the lines that have no end stand in the buckets.
pub record HasPlaced (name : ListName) (changes : List Change) (live : Live) : Type 0 where
  pub lines : List Line
  pub are : HasEnds name changes lines
  pub placed : IsPlaced live lines

-- What stays of the ends where a change is refused: of the lines that there were, those that no version before it had are
-- the same.
abbrev pub KeepsEnds : (version few : ℕ) (before after : Live) → Type 0
KeepsEnds version few before after = (lines : List Line) → IsPlaced before lines → length lines + few < 2 ^ 32
    → (earlier count : ℕ) → earlier < version → count ≤ length lines
    → restored earlier count after.ends.items ≡ restored earlier count before.ends.items

-- a bucket took the place of another
pub record Replaces (before after : Live) (head : List ℕ) (next : List Standing) : Type 0 where
  pub buckets : PutsBucket before.buckets.entries after.buckets.entries head next
  pub count : length (lines_in before.buckets.entries head) ≤ before.count → before.count < 2 ^ 63
      → after.count + length (lines_in before.buckets.entries head) ≡ before.count + length next
  pub bytes : prefix_bytes (bucket_in before.buckets.entries head) ≤ before.bytes → before.bytes < 2 ^ 63
      → after.bytes + prefix_bytes (bucket_in before.buckets.entries head) ≡ before.bytes + prefix_bytes (added_of next)
  pub most : before.most ≤ after.most
  pub alike : length next ≤ after.most
  pub ends : after.ends ≡ before.ends

-- the prefix that is made of a full hash; where its size is from 4 to 32, the one that is published
abbrev pub shown : Added → List ℕ
shown entry = take (min (max entry.size 4) 32) entry.hash

-- the full hashes of some buckets, one after the other
abbrev pub in_buckets : List (List Standing) → List Added
in_buckets buckets = flat_map added_of buckets
