-- The lines of a bucket: those of a list that add, while their full hashes stand.
use Rattle.std.specs.Prelude.{◌≡◌, ℕ, ◌+◌, ◌^◌, ◌<◌, ◌≤◌, not, List, [], ◌∷◌, ◌++◌, length, map, filter}
use Rattle.std.specs.Str.{bytes_eq}
use Rattle.sb_model.specs.declared.history.Added.{Added}
use Rattle.list_versions.specs.Limits.{prefix_bytes}
use Rattle.list_versions.specs.declared.bucket.Entries.{Entries}
use Rattle.list_versions.specs.declared.bucket.Entries.TheVariants.{Nothing, One, More}
use Rattle.list_versions.specs.declared.bucket.Standing.{Standing}
use Rattle.list_versions.specs.declared.bucket.Tally.{Tally}

abbrev pub entries_of : Entries → List Standing
entries_of Nothing = []
entries_of (One line) = line ∷ []
entries_of (More lines) = lines.items

-- the full hashes of lines, with their sizes
abbrev pub added_of : List Standing → List Added
added_of lines = map (λ line. line.added) lines

-- the lines without those of a hash
abbrev pub without : List Standing → List ℕ → List Standing
without lines hash = filter (λ line. not (bytes_eq line.added.hash hash)) lines

-- a line comes in place of that which its hash had
abbrev pub with_line : List Standing → Standing → List Standing
with_line lines line = without lines line.added.hash ++ line ∷ []

-- what came in and what went out, where a bucket changed
pub record IsTally (before after : List Standing) (tally : Tally) : Type 0 where
  pub hashes : length after + tally.hashes_out ≡ length before + tally.hashes_in
  pub bytes : prefix_bytes (added_of before) < 2 ^ 64
      → prefix_bytes (added_of after) + tally.bytes_out ≡ prefix_bytes (added_of before) + tally.bytes_in
  pub left : tally.hashes ≡ length after
  pub few : tally.hashes_in ≤ 1
  pub short : tally.bytes_in ≤ 32
