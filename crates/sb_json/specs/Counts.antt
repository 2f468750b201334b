-- How many lists and objects a JSON value opens, and how many values there are in its compact text, by the commas, colons
-- and openings.
use Rattle.std.specs.Prelude.{ℕ, ◌+◌, Bool, true, false, if◌then◌else◌}
use Rattle.serde_json.specs.Data.{Data, null, boolean, number, string, array, object, Items, no_items, item, Members, no_members, member}

abbrev mutual
  pub openings_in : Data → ℕ
  openings_in null = 0
  openings_in (boolean b) = 0
  openings_in (number n) = 0
  openings_in (string s) = 0
  openings_in (array ds) = 1 + openings_in_items ds
  openings_in (object ms) = 1 + openings_in_members ms

  pub openings_in_items : Items → ℕ
  openings_in_items no_items = 0
  openings_in_items (item d ds) = openings_in d + openings_in_items ds

  pub openings_in_members : Members → ℕ
  openings_in_members no_members = 0
  openings_in_members (member k d ms) = openings_in d + openings_in_members ms

-- one for a comma, where something stands before
abbrev pub if_later : Bool → ℕ
if_later later = if later then 1 else 0

abbrev mutual
  pub values_in : Data → ℕ
  values_in null = 0
  values_in (boolean b) = 0
  values_in (number n) = 0
  values_in (string s) = 0
  values_in (array ds) = 1 + values_in_items false ds
  values_in (object ms) = 1 + values_in_members false ms

  pub values_in_items : Bool → Items → ℕ
  values_in_items later no_items = 0
  values_in_items later (item d ds) = if_later later + values_in d + values_in_items true ds

  pub values_in_members : Bool → Members → ℕ
  values_in_members later no_members = 0
  values_in_members later (member k d ms) = if_later later + 1 + values_in d + values_in_members true ms
