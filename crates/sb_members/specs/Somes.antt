-- Lists in which an item may stand for nothing, and is then skipped.
use Rattle.std.specs.Prelude.{◌≡◌, ℕ, ◌+◌, Bool, true, false, if◌then◌else◌, List, [], ◌∷◌, Option, Some, None, Result, Ok, Err}
use Rattle.serde_json.specs.Data.{Data, Items, no_items, item}
use Rattle.sb_json.specs.declared.faults.FieldFault.{FieldFault}
use Rattle.sb_members.specs.Lists.{ReadsList}

-- those that are there, in order
abbrev pub somes : {A : Type 0} → List (Option A) → List A
somes [] = []
somes (None ∷ more) = somes more
somes (Some a ∷ more) = a ∷ somes more

-- A list that is read: each item is something or nothing, and the values are what is something, in order.
pub record ReadsSome {A : Type 0} (Reads : Data → Option A → Type 0) (items : Result Items FieldFault) (values : List A) : Type 0 where
  pub all : List (Option A)
  pub all_read : ReadsList Reads items all
  pub kept : values ≡ somes all

-- whether a value is read, as nothing
abbrev pub is_nothing : {A : Type 0} → Result (Option A) FieldFault → Bool
is_nothing (Ok None) = true
is_nothing (Ok (Some a)) = false
is_nothing (Err fault) = false

-- whether a value is read, as something
abbrev pub is_something : {A : Type 0} → Result (Option A) FieldFault → Bool
is_something (Ok None) = false
is_something (Ok (Some a)) = true
is_something (Err fault) = false

-- how many items a row reads as something
abbrev pub something_count : {A : Type 0} → (Data → Result (Option A) FieldFault) → Items → ℕ
something_count row no_items = 0
something_count row (item d ds) = if is_something (row d) then something_count row ds + 1 else something_count row ds

-- the items without those that a row reads as nothing
abbrev pub without_nothing : {A : Type 0} → (Data → Result (Option A) FieldFault) → Items → Items
without_nothing row no_items = no_items
without_nothing row (item d ds) = if is_nothing (row d) then without_nothing row ds else item d (without_nothing row ds)
