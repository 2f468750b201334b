-- Which of the newest sets stay where a history grows.
use Rattle.std.specs.Prelude.{◌≡◌, ℕ, Bool, ◌&&◌, not, nat_lt, List, drop}
use Rattle.std.specs.List.{list_any}
use Rattle.sb_model.specs.declared.history.Change.{Change}
use Rattle.sb_model.specs.declared.names.ListName.{ListName}
use Rattle.sb_model.specs.Names.{same_name}
use Rattle.sb_model.specs.History.{prefixes_at}
use Rattle.list_versions.specs.Draft.{history_of}
use Rattle.list_versions.specs.Numbers.{AreNumbersOf}
use Rattle.list_versions.specs.declared.draft.Draft.{Draft}
use Rattle.list_versions.specs.declared.draft.Listed.{Listed}
use Rattle.list_versions.specs.declared.newest.Newest.{Newest}
use Rattle.list_versions.specs.declared.renewing.Before.{Before}

-- whether one of the changes is of a list
abbrev pub concerns : List Change → ListName → Bool
concerns changes list = list_any (λ change. same_name change.list list) changes

-- whether the set of the list at a place stays: the list was there, and no change that came is of it
abbrev pub stays : List Change → Before → ℕ → ListName → Bool
stays changes before i list = nat_lt i before.lists && not (concerns (drop before.changes changes) list)

-- A set was the newest of a list when there were these changes alone. Its numbers stand beside it.
pub record WasNewest (draft : Draft) (before : Before) (listed : Listed) (newest : Newest) : Type 0 where
  pub name : newest.name ≡ listed.name
  pub set : newest.set ≡ prefixes_at (history_of draft) listed.name before.changes
  pub numbers : AreNumbersOf newest.set newest.numbers.items
