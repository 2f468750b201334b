-- Lists that are replicas stay replicas through a run of honest bodies.
use Rattle.std.proofs.Common.{◌≡◌, ℕ, zero, suc, List, [], ◌∷◌, ◌++◌, take, Bool, true, false, cond, refl, arith, Result, Ok, Err}
use Rattle.std.specs.Prelude.{Contains, IsTrue, filter}
use Rattle.std.proofs.lemmas.List.Elements.{All-head, All-tail, Contains-append_left, Contains-append_right}
use Rattle.sb_model.specs.Names.{same_name}
use Rattle.sb_model.specs.History.{History, IsWellFormed}
use Rattle.sb_model.specs.Naming.{Naming, IsNaming}
use Rattle.sb_model.specs.Candidate.{Update, candidate}
use Rattle.rice_coding.specs.declared.fault.RiceFault.{RiceFault}
use Rattle.update_messages.specs.Messages.{UpdatedList}
use Rattle.update_client.specs.Held.{Held}
use Rattle.update_client.specs.Step.{meaning_of, list_step, after_update, after_updates}
use Rattle.update_client.specs.Replica.{IsReplicaOf, AreReplicas}
use Rattle.sb_round.specs.Run.{lists_after}
use Rattle.sb_round.specs.Honest.{IsHonestFor, IsHonestUpdate, AreHonestUpdates, IsHonest}
use Rattle.sb_round.specs.Collision.{proposed_to, candidates_for, candidates_of_updates, candidates_of, HasNoCollision}
use Rattle.sb_round.specs.Law.{KeepsReplicas}
use Rattle.sb_round.proofs.SameNames.{equal_from_same_name}
use Rattle.sb_round.proofs.HonestUpdates.{IsProposed, step_stays}

-- the sets of one list are among those of another
abbrev AreAmong : List (List (List ℕ)) → List (List (List ℕ)) → Type 0
AreAmong sets candidates = (set : List (List ℕ)) → Contains sets set → Contains candidates set

among_left : (a b candidates : List (List (List ℕ))) → AreAmong (a ++ b) candidates → AreAmong a candidates
among_left a b candidates among set there = among set (Contains-append_left a b set there)

among_right : (a b candidates : List (List (List ℕ))) → AreAmong (a ++ b) candidates → AreAmong b candidates
among_right a b candidates among set there = among set (Contains-append_right a b set there)

among_head : (set : List (List ℕ)) (sets candidates : List (List (List ℕ))) → AreAmong (set ∷ sets) candidates → Contains candidates set
among_head set sets candidates among = among set (0, omega arith, refl)

among_tail : (set : List (List ℕ)) (sets candidates : List (List (List ℕ))) → AreAmong (set ∷ sets) candidates → AreAmong sets candidates
among_tail set sets candidates among other there = among other (suc there.0, omega (arith, there.1), there.2)

-- what an update proposes to the first of some lists, and to the others
proposed_head : (held : Held) (lists : List Held) (candidates : List (List (List ℕ))) (m : Result Update RiceFault)
    → AreAmong (proposed_to (held ∷ lists) m) candidates → IsProposed candidates held m
proposed_head held lists candidates (Ok meant) among = among_head (candidate meant held.set) (proposed_to lists (Ok meant)) candidates among
proposed_head held lists candidates (Err fault) among = tt

proposed_tail : (held : Held) (lists : List Held) (candidates : List (List (List ℕ))) (m : Result Update RiceFault)
    → AreAmong (proposed_to (held ∷ lists) m) candidates → AreAmong (proposed_to lists m) candidates
proposed_tail held lists candidates (Ok meant) among = among_tail (candidate meant held.set) (proposed_to lists (Ok meant)) candidates among
proposed_tail held lists candidates (Err fault) among = among

module _ (history : History) (token_at : Naming) (formed : IsWellFormed history) (naming : IsNaming history token_at)
    (candidates : List (List (List ℕ))) (apart : HasNoCollision history candidates) where
  update_stays : (lists : List Held) (update : UpdatedList) → AreReplicas history token_at lists → IsHonestUpdate history token_at lists update
      → AreAmong (candidates_for lists update) candidates → AreReplicas history token_at (after_update lists update)
  update_stays [] update replicas honest among = tt
  update_stays (held ∷ lists) update replicas honest among =
      go (same_name held.name update.name) refl among
      (update_stays lists update replicas.1
      (All-tail (λ h. IsTrue (same_name h.name update.name) → IsHonestFor history token_at h update) held lists honest))
    where
      here : IsTrue (same_name held.name update.name) → IsHonestFor history token_at held update
      here = All-head (λ h. IsTrue (same_name h.name update.name) → IsHonestFor history token_at h update) held lists honest

      go : (b : Bool) → same_name held.name update.name ≡ b
          → AreAmong (proposed_to (cond b (held ∷ filter (λ (h : Held). same_name h.name update.name) lists) (filter (λ (h : Held). same_name h.name update.name) lists)) (meaning_of update)) candidates
          → (AreAmong (candidates_for lists update) candidates → AreReplicas history token_at (after_update lists update))
          → IsReplicaOf history token_at (cond b (list_step held update) held) × AreReplicas history token_at (after_update lists update)
      go true e among later = (
        step_stays history token_at formed naming candidates apart held update (equal_from_same_name held.name update.name e) replicas.0
            (proposed_head held (filter (λ (h : Held). same_name h.name update.name) lists) candidates (meaning_of update) among) (here e),
        later (proposed_tail held (filter (λ (h : Held). same_name h.name update.name) lists) candidates (meaning_of update) among),
      )
      go false e among later = (replicas.0, later among)

  updates_stay : (lists : List Held) (updates : List UpdatedList) → AreReplicas history token_at lists → AreHonestUpdates history token_at lists updates
      → AreAmong (candidates_of_updates lists updates) candidates → AreReplicas history token_at (after_updates lists updates)
  updates_stay lists [] replicas honest among = replicas
  updates_stay lists (update ∷ updates) replicas honest among =
      updates_stay (after_update lists update) updates
      (update_stays lists update replicas honest.0 (among_left (candidates_for lists update) (candidates_of_updates (after_update lists update) updates) candidates among))
      honest.1 (among_right (candidates_for lists update) (candidates_of_updates (after_update lists update) updates) candidates among)

  -- Through each front of the bodies the lists stay replicas.
  pub fronts_stay : (lists : List Held) (bodies : List (List UpdatedList)) (count : ℕ) → AreReplicas history token_at lists → IsHonest history token_at lists bodies
      → AreAmong (candidates_of lists bodies) candidates → AreReplicas history token_at (lists_after lists (take count bodies))
  fronts_stay lists [] zero replicas honest among = replicas
  fronts_stay lists [] (suc count) replicas honest among = replicas
  fronts_stay lists (updates ∷ bodies) zero replicas honest among = replicas
  fronts_stay lists (updates ∷ bodies) (suc count) replicas honest among =
      fronts_stay (after_updates lists updates) bodies count
      (updates_stay lists updates replicas honest.0
      (among_left (candidates_of_updates lists updates) (candidates_of (after_updates lists updates) bodies) candidates among))
      honest.1
      (among_right (candidates_of_updates lists updates) (candidates_of (after_updates lists updates) bodies) candidates among)

all_among : (sets : List (List (List ℕ))) → AreAmong sets sets
all_among sets set there = there

-- The law of the run.
pub keeps_replicas : (lists : List Held) (bodies : List (List UpdatedList)) → KeepsReplicas lists bodies
keeps_replicas lists bodies history token_at formed naming replicas honest apart count =
    fronts_stay history token_at formed naming (candidates_of lists bodies) apart
    lists bodies count replicas honest (all_among (candidates_of lists bodies))
