-- How many prefixes a list has at each version from a first one on, told by its stretches in order.
use Rattle.std.specs.Prelude.{◌≡◌, ◌↔◌, ℕ, ◌+◌, ◌-◌, ◌^◌, ◌<◌, ◌≤◌, ◌==◌, ◌&&◌, Bool, not, nat_le, nat_lt, List, length, take, map, filter, slice_index, sum, All}
use Rattle.std.specs.List.{list_any}
use Rattle.sb_model.specs.Difference.{has_member}
use Rattle.sb_model.specs.Prefixes.{set_of}
use Rattle.list_versions.specs.declared.stretch.Stretch.{Stretch}
use Rattle.list_versions.specs.Stretches.{prefix_in}
use Rattle.delta_server.specs.declared.covered.Covered.{Covered}
use Rattle.delta_server.specs.declared.marks.Marks.{Marks}
use Rattle.delta_server.specs.declared.sweeping.Level.{Level}
use Rattle.delta_server.specs.declared.sweeping.Sweep.{Sweep}

-- ---- what stretches show

abbrev pub has_version : ℕ → Stretch → Bool
has_version version stretch = nat_le stretch.from version && nat_lt version stretch.until

-- the prefixes of the stretches that have a version, as a set
abbrev pub shown_at : List Stretch → ℕ → List (List ℕ)
shown_at stretches version = set_of (map prefix_in (filter (has_version version) stretches))

-- whether one of the stretches of a prefix has a version
abbrev pub is_head_shown : List Stretch → ℕ → ℕ → Bool
is_head_shown stretches head version = list_any (λ stretch. stretch.head == head && has_version version stretch) stretches

-- whether a stretch has a version, and none of its prefix that came before it has
abbrev pub shows_first : List Stretch → Stretch → ℕ → Bool
shows_first earlier stretch version = has_version version stretch && not (is_head_shown earlier stretch.head version)

-- ---- what is covered

-- This is covered by some stretches. Their greatest prefix is the present one. From where the last of its stretches begins
-- on, they cover the versions before `reach`.
pub record Covers (now : Covered) (first end : ℕ) (done : List Stretch) : Type 0 where
  pub low : first ≤ now.reach
  pub high : now.reach ≤ end
  pub greatest : (head : ℕ) → All (λ stretch. stretch.head ≤ head) done ↔ (now.head ≤ head)
  pub covered : (version : ℕ) → first ≤ version → version < end → All (λ stretch. stretch.head ≡ now.head → stretch.from ≤ version) done
      → is_head_shown done now.head version ≡ nat_lt version now.reach
  pub held : now.held ≡ is_head_shown done now.head first

-- this is covered of the prefix of a stretch that comes next
pub record StandsBefore (now : Covered) (first end : ℕ) (done : List Stretch) (stretch : Stretch) : Type 0 where
  pub covered : (version : ℕ) → first ≤ version → version < end → stretch.from ≤ version → is_head_shown done stretch.head version ≡ nat_lt version now.reach
  pub held : now.held ≡ is_head_shown done stretch.head first

-- ---- marks

pub record HasPlaces (marks : Marks) (places : ℕ) : Type 0 where
  pub begins : length marks.begins.items ≡ places
  pub stops : length marks.stops.items ≡ places

-- Up to each place but the last, as many stretches begin as stop, and beside these as many as have the place. At no place
-- do more than so many begin or stop.
pub record TellsCounts (marks : Marks) (most : ℕ) (count : ℕ → ℕ) : Type 0 where
  pub sums : (place : ℕ) → place + 1 < length marks.begins.items
      → sum (take (place + 1) marks.begins.items) ≡ sum (take (place + 1) marks.stops.items) + count place
  pub begins : (place : ℕ) → slice_index marks.begins.items place ≤ most
  pub stops : (place : ℕ) → slice_index marks.stops.items place ≤ most

-- ---- a sweep

-- There are places for the versions from a first one to an end, and for the end, and no more is covered.
pub record HasPlacesBetween (sweep : Sweep) (first end : ℕ) : Type 0 where
  pub all : HasPlaces sweep.all (end - first + 1)
  pub shared : HasPlaces sweep.shared (end - first + 1)
  pub low : first ≤ sweep.covered.reach
  pub high : sweep.covered.reach ≤ end

-- A sweep from a first version to an end came past some stretches. It counts the prefixes that they show at each version, and
-- those of them that are held.
pub record HasSwept (sweep : Sweep) (first end : ℕ) (held : List (List ℕ)) (done : List Stretch) : Type 0 where
  pub covered : Covers sweep.covered first end done
  pub all : TellsCounts sweep.all (length done) (λ place. length (shown_at done (first + place)))
  pub shared : TellsCounts sweep.shared (length done) (λ place. length (filter (has_member held) (shown_at done (first + place))))

-- So many of the prefixes and of the shared ones were counted before a place.
pub record IsLevel (level : Level) (sweep : Sweep) (place : ℕ) : Type 0 where
  pub len : level.len + sum (take place sweep.all.stops.items) ≡ sum (take place sweep.all.begins.items)
  pub shared : level.shared + sum (take place sweep.shared.stops.items) ≡ sum (take place sweep.shared.begins.items)

-- as many prefixes as stretches show at a version, and as many of the held ones among them
pub record IsLevelOf (level : Level) (held shown : List (List ℕ)) : Type 0 where
  pub len : level.len ≡ length shown
  pub shared : level.shared ≡ length (filter (has_member held) shown)

-- each names a prefix of four bytes
abbrev pub NameFourBytes : List Stretch → Type 0
NameFourBytes stretches = All (λ stretch. stretch.head < 2 ^ 32) stretches
