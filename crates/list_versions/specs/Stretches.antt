-- At which versions a list publishes its prefixes of four bytes. Each line that adds has a stretch of versions, which may be
-- empty, and the stretches of one prefix may overlap.
use Rattle.std.specs.Prelude.{◌≡◌, ◌⊎◌, ℕ, ◌<◌, ◌≤◌, ◌^◌, ◌&&◌, Bool, nat_le, nat_lt, List, [], ◌∷◌, All}
use Rattle.std.specs.Int.{w32, to_be_bytes}
use Rattle.std.specs.List.{list_any}
use Rattle.std.specs.Str.{bytes_eq}
use Rattle.sb_model.specs.declared.names.ListName.{ListName}
use Rattle.sb_model.specs.Difference.{has_member}
use Rattle.sb_model.specs.History.{History, prefixes_at, version_count}
use Rattle.list_versions.specs.declared.stretch.Stretch.{Stretch}

-- the prefix of a stretch
abbrev pub prefix_in : Stretch → List ℕ
prefix_in stretch = to_be_bytes w32 stretch.head

-- whether a stretch has a prefix, and a version
abbrev pub shows_at : ℕ → List ℕ → Stretch → Bool
shows_at version prefix stretch = bytes_eq (prefix_in stretch) prefix && (nat_le stretch.from version && nat_lt version stretch.until)

-- One stretch stands in front of another: its prefix is lower, or it is the same and begins no later.
abbrev pub ComesBefore : Stretch → Stretch → Type 0
ComesBefore first second = (first.head < second.head) ⊎ ((first.head ≡ second.head) × (first.from ≤ second.from))

-- Each stands in front of those behind it.
abbrev pub AreInOrder : List Stretch → Type 0
AreInOrder [] = Unit {0}
AreInOrder (stretch ∷ stretches) = All (ComesBefore stretch) stretches × AreInOrder stretches

-- its prefix has four bytes, and it begins at a version that there is
pub record IsStretch (versions : History) (stretch : Stretch) : Type 0 where
  pub head : stretch.head < 2 ^ 32
  pub from : stretch.from ≤ version_count versions

-- These are the stretches of a list, in order: a prefix is published at a version exactly where one of them has it and the version.
pub record AreStretches (versions : History) (list : ListName) (stretches : List Stretch) : Type 0 where
  pub order : AreInOrder stretches
  pub each : All (IsStretch versions) stretches
  pub published : (version : ℕ) → version ≤ version_count versions → (prefix : List ℕ)
      → has_member (prefixes_at versions list version) prefix ≡ list_any (shows_at version prefix) stretches
