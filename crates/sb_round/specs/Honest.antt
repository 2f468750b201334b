-- Honest responses: each update, where it meets a held list, is genuine or visibly damaged.
use Rattle.std.specs.Prelude.{◌≡◌, ℕ, ◌≤◌, ◌⊎◌, false, List, [], ◌∷◌, length, IsSome, IsTrue, All, Contains}
use Rattle.sb_model.specs.declared.names.ListName.{ListName}
use Rattle.sb_model.specs.Names.{same_name}
use Rattle.sb_model.specs.History.{History, version_count, prefixes_at}
use Rattle.sb_model.specs.Naming.{Naming}
use Rattle.update_messages.specs.Messages.{UpdatedList}
use Rattle.update_client.specs.Held.{Held}
use Rattle.update_client.specs.Step.{first_fault, after_update, after_updates}
use Rattle.update_client.specs.Genuine.{IsGenuine}

-- no two prefixes of the list, at any versions, differ in size
abbrev pub UsesOneSize : History → ListName → Type 0
UsesOneSize history list =
    (v w : ℕ) (p q : List ℕ) → v ≤ version_count history → w ≤ version_count history
    → Contains (prefixes_at history list v) p → Contains (prefixes_at history list w) q → length p ≡ length q

-- A partial update that names no base state can be told to be stale by its checksum alone, for a list of one size, or it meets the state that it was made for.
abbrev pub SuitsBase : History → Naming → Held → UpdatedList → ℕ → Type 0
SuitsBase history token_at held update made_from =
    update.full ≡ false → update.base ≡ []
    → UsesOneSize history update.name ⊎ (held.token ≡ token_at update.name made_from)

pub record IsGenuineFor (history : History) (token_at : Naming) (held : Held) (update : UpdatedList) : Type 0 where
  pub made_from : ℕ
  pub genuine : IsGenuine history token_at update made_from
  pub suits : SuitsBase history token_at held update made_from

-- An update is honest where it meets a list if it is genuine, or is visibly damaged: it has a fault there.
abbrev pub IsHonestFor : History → Naming → Held → UpdatedList → Type 0
IsHonestFor history token_at held update = IsSome (first_fault held update) ⊎ IsGenuineFor history token_at held update

-- each held list of the update's name
abbrev pub IsHonestUpdate : History → Naming → List Held → UpdatedList → Type 0
IsHonestUpdate history token_at lists update =
    All (λ held. IsTrue (same_name held.name update.name) → IsHonestFor history token_at held update) lists

-- The updates of a body, and the bodies of a run, are honest each where it is met.
abbrev pub AreHonestUpdates : History → Naming → List Held → List UpdatedList → Type 0
AreHonestUpdates history token_at lists [] = Unit {0}
AreHonestUpdates history token_at lists (update ∷ updates) =
    IsHonestUpdate history token_at lists update × AreHonestUpdates history token_at (after_update lists update) updates

abbrev pub IsHonest : History → Naming → List Held → List (List UpdatedList) → Type 0
IsHonest history token_at lists [] = Unit {0}
IsHonest history token_at lists (updates ∷ bodies) =
    AreHonestUpdates history token_at lists updates × IsHonest history token_at (after_updates lists updates) bodies
