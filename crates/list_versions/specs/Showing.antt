-- The stretches of the lines of a list.
use Rattle.std.specs.Prelude.{◌≡◌, ℕ, ◌==◌, ◌&&◌, ◌||◌, not, Bool, nat_lt, List, length, take}
use Rattle.std.specs.List.{list_all, list_any}
use Rattle.std.specs.Str.{bytes_eq}
use Rattle.sb_model.specs.declared.history.Change.{Change}
use Rattle.sb_model.specs.declared.names.ListName.{ListName}
use Rattle.sb_model.specs.Names.{same_name}
use Rattle.list_versions.specs.declared.stretch.Stretch.{Stretch}
use Rattle.list_versions.specs.Ends.{Line, adds_of}
use Rattle.list_versions.specs.Stretches.{shows_at}

-- whether a change is of another list, or each of its adds is published with four bytes
abbrev pub publishes_four : ListName → Change → Bool
publishes_four list change = not (same_name change.list list) || list_all (λ added. added.size == 4) change.adds

-- whether the hash of a line begins with these bytes, of which there are four, and its end is above a version
abbrev pub is_shown : ℕ → List ℕ → Line → Bool
is_shown version prefix line = bytes_eq (take 4 line.0.hash) prefix && nat_lt version line.1

-- At each version the stretches have the prefixes of the lines up to it whose end is above it.
abbrev pub ShowLines : ListName → List Change → List Line → List Stretch → Type 0
ShowLines list changes lines stretches = (version : ℕ) (prefix : List ℕ)
    → list_any (shows_at version prefix) stretches ≡ list_any (is_shown version prefix) (take (length (adds_of list (take version changes))) lines)
