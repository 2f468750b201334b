-- What lists of items are read as, and the first fault of one that is not read.
use Rattle.std.specs.Prelude.{ℕ, ◌+◌, List, [], ◌∷◌, Option, Some, None, Result, Ok, Err}
use Rattle.serde_json.specs.Data.{Data, Items, no_items, item}
use Rattle.sb_json.specs.Faults.{fault_in_item}
use Rattle.sb_json.specs.declared.faults.FieldFault.{FieldFault}
use Rattle.sb_json.specs.declared.faults.MessageFault.{MessageFault}

-- the items of a list and what they are, in order
abbrev pub EachReads : {A : Type 0} → (Data → A → Type 0) → Items → List A → Type 0
EachReads Reads no_items [] = Unit {0}
EachReads Reads no_items (a ∷ rest) = ⊥
EachReads Reads (item d ds) [] = ⊥
EachReads Reads (item d ds) (a ∷ rest) = Reads d a × EachReads Reads ds rest

-- a list that is read, and its items
abbrev pub ReadsList : {A : Type 0} → (Data → A → Type 0) → Result Items FieldFault → List A → Type 0
ReadsList Reads (Ok items) values = EachReads Reads items values
ReadsList Reads (Err fault) values = ⊥

-- ---- faults

-- the fault of a row, where it has one
abbrev pub fault_of_row : {A : Type 0} → Result A FieldFault → Option FieldFault
fault_of_row (Ok a) = None
fault_of_row (Err fault) = Some fault

-- the first that is there
abbrev pub first : {F : Type 0} → List (Option F) → Option F
first [] = None
first (None ∷ more) = first more
first (Some fault ∷ more) = Some fault

-- the first fault of the items
abbrev pub first_of_items : (Data → Option FieldFault) → Items → Option FieldFault
first_of_items fault no_items = None
first_of_items fault (item d ds) = first (fault d ∷ first_of_items fault ds ∷ [])

-- the fault of a list, or the first of its items
abbrev pub fault_of_list : (Data → Option FieldFault) → Result Items FieldFault → Option FieldFault
fault_of_list fault (Ok items) = first_of_items fault items
fault_of_list fault (Err f) = Some f

-- A fault in the item with a number. Items count from 1, and 0 is outside them.
abbrev pub in_item : ℕ → Option FieldFault → Option MessageFault
in_item number None = None
in_item number (Some fault) = Some (fault_in_item fault number)

-- the first fault of the items from the one with a number on
abbrev pub first_from : (Data → Option FieldFault) → ℕ → Items → Option MessageFault
first_from fault number no_items = None
first_from fault number (item d ds) = first (in_item number (fault d) ∷ first_from fault (number + 1) ds ∷ [])

-- how many items there are
abbrev pub item_count : Items → ℕ
item_count no_items = 0
item_count (item d ds) = item_count ds + 1
