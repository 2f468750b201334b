-- The full hashes that some changes leave.
use Rattle.std.specs.Prelude.{ℕ, ◌^◌, ◌<◌, ◌≤◌, List, [], length, take, fold, All}
use Rattle.sb_model.specs.declared.history.Added.{Added}
use Rattle.sb_model.specs.declared.history.Change.{Change}
use Rattle.sb_model.specs.declared.names.ListName.{ListName}
use Rattle.sb_model.specs.History.{after_change}

-- the full hashes of a list after these changes, where there were none before
abbrev pub after_changes : ListName → List Change → List Added
after_changes list changes = fold (after_change list) [] changes

-- what is known of each change
pub record IsFoldable (change : Change) : Type 0 where
  pub sizes : All (λ added. 4 ≤ added.size) change.adds
  pub few : length change.adds < 2 ^ 32

-- there are never too many to be counted
pub record StaysSmall (list : ListName) (changes : List Change) : Type 0 where
  pub small : (k : ℕ) → length (after_changes list (take k changes)) < 2 ^ 32
