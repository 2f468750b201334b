-- How the set of a list goes from one version to another.
use Rattle.std.specs.Prelude.{◌≡◌, ◌≢◌, ℕ, ◌<◌, ◌≤◌, ◌&&◌, Bool, false, nat_lt, List, [], ◌++◌, length, take, slice_get, slice_index_or, Some, Contains}
use Rattle.std.specs.List.{list_any}
use Rattle.std.specs.Str.{bytes_eq}
use Rattle.std.specs.declared.cmp.Ordering.TheVariants.{Less}
use Rattle.sb_model.specs.History.{prefix_of}
use Rattle.sb_model.specs.Prefixes.{bytes_cmp, set_of}
use Rattle.prefix_set.specs.Search.{AreBefore}
use Rattle.list_versions.specs.Live.{Buckets, lines_in}
use Rattle.list_versions.specs.declared.bucket.Standing.{Standing}

-- the members in front of a place come before a prefix, and the one that stands there does not
pub record IsFirstAt (members : List (List ℕ)) (prefix : List ℕ) (place : ℕ) : Type 0 where
  pub within : place ≤ length members
  pub before : AreBefore (take place members) prefix
  pub here : place < length members → bytes_cmp (slice_index_or members place []) prefix ≢ Less

-- whether one of the first lines publishes a prefix
abbrev pub publishes : ℕ → List ℕ → Standing → Bool
publishes count prefix line = nat_lt line.place count && bytes_eq (prefix_of line.added) prefix

abbrev pub is_published : ℕ → List Standing → List ℕ → Bool
is_published count lines prefix = list_any (publishes count prefix) lines

-- Where a prefix leaves a set: its place, unless one of the first lines publishes it too, or the set does not have it.
pub record Goes (set : List (List ℕ)) (buckets : Buckets) (count : ℕ) (prefix : List ℕ) (before after : List ℕ) : Type 0 where
  pub more : List ℕ
  pub is : after ≡ before ++ more
  pub only : (place : ℕ) → Contains more place
      → (slice_get set place ≡ Some prefix) × (is_published count (lines_in buckets (take 4 prefix)) prefix ≡ false)
  pub all : (place : ℕ) → slice_get set place ≡ Some prefix → is_published count (lines_in buckets (take 4 prefix)) prefix ≡ false → Contains more place

-- The places of the prefixes that leave a set and that none of the first lines publishes.
pub record AreGoing (set : List (List ℕ)) (buckets : Buckets) (count : ℕ) (leaving : List (List ℕ)) (places : List ℕ) : Type 0 where
  pub only : (place : ℕ) (prefix : List ℕ) → Contains places place → slice_get set place ≡ Some prefix
      → is_published count (lines_in buckets (take 4 prefix)) prefix ≡ false
  pub all : (place : ℕ) (prefix : List ℕ) → Contains leaving prefix → slice_get set place ≡ Some prefix
      → is_published count (lines_in buckets (take 4 prefix)) prefix ≡ false → Contains places place

-- Two sets share some prefixes. The older one has those that went besides, and the newer one those that came.
pub record AreShifted (older newer went came : List (List ℕ)) : Type 0 where
  pub both : List (List ℕ)
  pub before : older ≡ set_of (both ++ went)
  pub after : newer ≡ set_of (both ++ came)
