-- The lists that are kept beside those that are printed.
use Rattle.std.specs.Prelude.{◌≡◌, ℕ, false, List, map, Some, Ok}
use Rattle.update_client.specs.Held.{Held}
use Rattle.client_store.specs.Reading.{store_reading}
use Rattle.update_run.specs.Run.{Seen}

-- a list with no word on whether an update was refused since the last that was installed
abbrev pub at_rest : Held → Held
at_rest held = record held { resync = false }

-- Lists of the same names have the same tokens and the same sets.
abbrev pub AreSameLists : List Held → List Held → Type 0
AreSameLists first second = map at_rest first ≡ map at_rest second

-- The keeper keeps a store that reads as lists with the tokens and sets of these.
pub record KeepsStoreOf (lists : List Held) (after : Seen) : Type 0 where
  pub text : List ℕ
  pub kept : after.keeper.kept ≡ Some (Some text)
  pub stored : List Held
  pub reads : store_reading text ≡ Ok stored
  pub same : AreSameLists stored lists
