-- The names of lists through updates, and at the beginning of a run.
use Rattle.std.proofs.Common.{◌≡◌, ℕ, List, [], ◌∷◌, Bool, true, false, Option, Some, None, Result, Ok, Err, map, refl, ap, ◌∙◌}
use Rattle.std.specs.Prelude.{IsTrue, unwrap_or, if◌then◌else◌}
use Rattle.sb_model.specs.Names.{same_name}
use Rattle.sb_model.specs.declared.names.ListName.{ListName}
use Rattle.update_messages.specs.Messages.{UpdatedList}
use Rattle.update_client.specs.Held.{Held, nothing_held, in_order}
use Rattle.update_client.specs.Step.{first_fault, held_after, list_step, list_named, after_update, after_updates}
use Rattle.update_client.specs.declared.fault.UpdateFault.{UpdateFault}
use Rattle.client_store.specs.Reading.{store_reading}
use Rattle.client_store.specs.Selected.{stored_or_nothing}
use Rattle.client_store.specs.declared.fault.StoreFault.{StoreFault}
use Rattle.sb_round.specs.Run.{lists_after}
use Rattle.update_run.specs.Opening.{lists_from, first_lists}
use Rattle.client_laws.specs.Replicas.{HaveNames}

-- two names with the same codes are one
abbrev pub NamesGo : Type 0
NamesGo = (a b : ListName) → IsTrue (same_name a b) → a ≡ b

abbrev pub name_of_held : Held → ListName
name_of_held held = held.name

-- ---- through updates

step_keeps_name : (held : Held) (update : UpdatedList) (fault : Option UpdateFault) → (held_after held update fault).name ≡ held.name
step_keeps_name held update None = refl
step_keeps_name held update (Some fault) = refl

one_keeps_name : (held : Held) (update : UpdatedList) (same : Bool) → name_of_held (if same then list_step held update else held) ≡ held.name
one_keeps_name held update true = step_keeps_name held update (first_fault held update)
one_keeps_name held update false = refl

pub update_keeps_names : (lists : List Held) (update : UpdatedList) → map name_of_held (after_update lists update) ≡ map name_of_held lists
update_keeps_names [] update = refl
update_keeps_names (held ∷ lists) update =
    ap (λ name. name ∷ map name_of_held (after_update lists update)) (one_keeps_name held update (same_name held.name update.name))
    ∙ ap (λ names. held.name ∷ names) (update_keeps_names lists update)

updates_keep_names : (lists : List Held) (updates : List UpdatedList) → map name_of_held (after_updates lists updates) ≡ map name_of_held lists
updates_keep_names lists [] = refl
updates_keep_names lists (update ∷ updates) = updates_keep_names (after_update lists update) updates ∙ update_keeps_names lists update

pub bodies_keep_names : (lists : List Held) (bodies : List (List UpdatedList)) → map name_of_held (lists_after lists bodies) ≡ map name_of_held lists
bodies_keep_names lists [] = refl
bodies_keep_names lists (updates ∷ bodies) = bodies_keep_names (after_updates lists updates) bodies ∙ updates_keep_names lists updates

-- ---- at the beginning

nothing_named : (names : List ListName) → map name_of_held (map nothing_held names) ≡ names
nothing_named [] = refl
nothing_named (name ∷ names) = ap (λ more. name ∷ more) (nothing_named names)

stored_named : NamesGo → (stored : List Held) (name : ListName) → name_of_held (stored_or_nothing stored name) ≡ name
stored_named go [] name = refl
stored_named go (held ∷ stored) name = either (same_name held.name name) refl (stored_named go stored name)
  where
    either : (same : Bool) → same_name held.name name ≡ same → name_of_held (stored_or_nothing stored name) ≡ name
        → name_of_held (unwrap_or (if same then Some held else list_named name stored) (nothing_held name)) ≡ name
    either true is later = go held.name name is
    either false is later = later

all_stored_named : NamesGo → (stored : List Held) (names : List ListName) → map name_of_held (map (stored_or_nothing stored) names) ≡ names
all_stored_named go stored [] = refl
all_stored_named go stored (name ∷ names) =
    ap (λ first. first ∷ map name_of_held (map (stored_or_nothing stored) names)) (stored_named go stored name)
    ∙ ap (λ more. name ∷ more) (all_stored_named go stored names)

from_named : NamesGo → (names : List ListName) (reading : Result (List Held) StoreFault) → HaveNames names (lists_from names reading)
from_named go names (Ok stored) = all_stored_named go stored (in_order names)
from_named go names (Err fault) = nothing_named (in_order names)

-- A run begins with lists of its names, in their order.
pub first_named : NamesGo → (names : List ListName) (kept : Option (List ℕ)) → HaveNames names (first_lists names kept)
first_named go names None = nothing_named (in_order names)
first_named go names (Some text) = from_named go names (store_reading text)
