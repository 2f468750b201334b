-- What a list update proposes.
use Rattle.std.specs.Prelude.{ℕ, ◌==◌, Bool, not, List, map, filter, ◌++◌, if◌then◌else◌}
use Rattle.std.specs.List.{list_any, enumerate_from}
use Rattle.sb_model.specs.declared.names.ListName.{ListName}
use Rattle.sb_model.specs.Prefixes.{set_of}

-- One update of one list. A full update replaces the set. A partial one takes out the members at the places that it names,
-- which count the rising members from 0, and puts in its additions. `base` is the state that a partial update was made for, empty where it names none.
pub record Update : Type 0 where
  pub list : ListName
  pub full : Bool
  pub base : List ℕ
  pub additions : List (List ℕ)
  pub removals : List ℕ
  pub new_state : List ℕ
  pub checksum : List ℕ

-- the members whose places are not named
abbrev pub without_places : List (List ℕ) → List ℕ → List (List ℕ)
without_places set places = map (λ member. member.1) (filter (λ member. not (list_any (λ place. place == member.0) places)) (enumerate_from 0 set))

-- the set that an update proposes to one who holds a set
abbrev pub candidate : Update → List (List ℕ) → List (List ℕ)
candidate update set =
    if update.full
    then set_of update.additions
    else set_of (without_places set update.removals ++ update.additions)
