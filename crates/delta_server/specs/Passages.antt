-- What leads from the prefixes of one version of a list to those of another, told by its stretches in order.
use Rattle.std.specs.Prelude.{◌≡◌, ℕ, ◌+◌, ◌-◌, ◌^◌, ◌<◌, ◌&&◌, Bool, not, min, if◌then◌else◌, List, [], ◌∷◌, ◌++◌, length, All}
use Rattle.sb_model.specs.Difference.{removed_places, added_members}
use Rattle.sb_model.specs.Prefixes.{concatenation}
use Rattle.list_versions.specs.declared.stretch.Stretch.{Stretch}
use Rattle.delta_server.specs.declared.passages.Passage.{Passage}
use Rattle.delta_server.specs.Sweeping.{shown_at, NameFourBytes}

-- Stretches of one prefix stand behind those of lower prefixes and in front of those of higher ones.
pub record StandsBetween (done run later : List Stretch) (head : ℕ) : Type 0 where
  pub own : All (λ stretch. stretch.head ≡ head) run
  pub before : All (λ stretch. stretch.head < head) done
  pub after : All (λ stretch. head < stretch.head) later
  pub fits : head < 2 ^ 32
  pub heads : NameFourBytes later

-- It was noted of a prefix whether an older version has it, and whether a newer one does.
pub record Passes (before after : Passage) (prefix : List ℕ) (stood stays : Bool) : Type 0 where
  pub rank : after.rank ≡ (if stood then min (before.rank + 1) (2 ^ 32 - 1) else before.rank)
  pub removals : after.removals ≡ before.removals ++ (if stood && not stays then before.rank ∷ [] else [])
  pub additions : after.additions ≡ before.additions ++ (if stays && not stood then prefix ∷ [] else [])
  pub bytes : after.bytes ≡ before.bytes ++ (if stays then prefix else [])

-- Some stretches were passed. Of the prefixes that they show at an older version the places of those are noted that the newer
-- set lacks; of those that they show at a newer one the bytes are, and which of them the older set lacks.
pub record HasPassed (passage : Passage) (old newer : List (List ℕ)) (held version : ℕ) (done : List Stretch) : Type 0 where
  pub rank : passage.rank ≡ length (shown_at done held)
  pub removals : passage.removals ≡ removed_places (shown_at done held) newer
  pub additions : passage.additions ≡ added_members old (shown_at done version)
  pub bytes : passage.bytes ≡ concatenation (shown_at done version)
