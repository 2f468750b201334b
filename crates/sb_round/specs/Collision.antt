-- What is asked of SHA-256 in a run.
use Rattle.std.specs.Prelude.{◌≡◌, ℕ, ◌≤◌, List, [], ◌∷◌, ◌++◌, Result, Ok, Err, map, filter, IsTrue, Contains}
use Rattle.sb_model.specs.declared.names.ListName.{ListName}
use Rattle.sb_model.specs.Names.{same_name}
use Rattle.sb_model.specs.Prefixes.{concatenation}
use Rattle.sb_model.specs.History.{History, version_count, declares, prefixes_at}
use Rattle.sb_model.specs.Candidate.{Update, candidate}
use Rattle.rice_coding.specs.declared.fault.RiceFault.{RiceFault}
use Rattle.update_messages.specs.Messages.{UpdatedList}
use Rattle.update_client.specs.Held.{Held, digest_of}
use Rattle.update_client.specs.Step.{meaning_of, after_update, after_updates}

-- the sets that an update proposes to these lists; one that says nothing proposes none
abbrev pub proposed_to : List Held → Result Update RiceFault → List (List (List ℕ))
proposed_to lists (Ok update) = map (λ (held : Held). candidate update held.set) lists
proposed_to lists (Err fault) = []

-- the sets that the updates of a run propose to the held lists of their names
abbrev pub candidates_for : List Held → UpdatedList → List (List (List ℕ))
candidates_for lists update = proposed_to (filter (λ held. same_name held.name update.name) lists) (meaning_of update)

abbrev pub candidates_of_updates : List Held → List UpdatedList → List (List (List ℕ))
candidates_of_updates lists [] = []
candidates_of_updates lists (update ∷ updates) = candidates_for lists update ++ candidates_of_updates (after_update lists update) updates

abbrev pub candidates_of : List Held → List (List UpdatedList) → List (List (List ℕ))
candidates_of lists [] = []
candidates_of lists (updates ∷ bodies) = candidates_of_updates lists updates ++ candidates_of (after_updates lists updates) bodies

-- a set that was proposed in the run, or is the server's at some version
pub data IsSetOfRun (history : History) (candidates : List (List (List ℕ))) (set : List (List ℕ)) : Type 0 where
  Proposed : Contains candidates set → IsSetOfRun history candidates set
  Served : (list : ListName) (version : ℕ) → IsTrue (declares history list) → version ≤ version_count history → set ≡ prefixes_at history list version → IsSetOfRun history candidates set

-- No two of them have one digest and different bytes.
abbrev pub HasNoCollision : History → List (List (List ℕ)) → Type 0
HasNoCollision history candidates =
    (a b : List (List ℕ)) → IsSetOfRun history candidates a → IsSetOfRun history candidates b
    → digest_of a ≡ digest_of b → concatenation a ≡ concatenation b
