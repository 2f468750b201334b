-- What is kept safely begins a run with replicas.
use Rattle.std.proofs.Common.{List, [], ◌∷◌, Bool, true, false, Some, None, Result, Ok, Err, map, refl, sym, subst, inl, inr}
use Rattle.std.specs.Prelude.{IsErr, unwrap_or, if◌then◌else◌}
use Rattle.sb_model.specs.History.{History}
use Rattle.sb_model.specs.Names.{same_name}
use Rattle.sb_model.specs.Naming.{Naming}
use Rattle.sb_model.specs.declared.names.ListName.{ListName}
use Rattle.update_client.specs.Held.{Held, nothing_held, in_order}
use Rattle.update_client.specs.Replica.{IsReplicaOf, AreReplicas}
use Rattle.update_client.specs.Step.{list_named}
use Rattle.client_store.specs.Reading.{store_reading}
use Rattle.client_store.specs.Selected.{stored_or_nothing}
use Rattle.client_store.specs.declared.fault.StoreFault.{StoreFault}
use Rattle.update_run.specs.Opening.{lists_from}
use Rattle.client_laws.specs.Runs.{StoresBeginRuns}

module _ (history : History) (token_at : Naming) where
  nothing_is_replica : (name : ListName) → IsReplicaOf history token_at (nothing_held name)
  nothing_is_replica name = inl (record { token = refl; set = refl })

  nothing_are_replicas : (names : List ListName) → AreReplicas history token_at (map nothing_held names)
  nothing_are_replicas [] = tt
  nothing_are_replicas (name ∷ names) = (nothing_is_replica name, nothing_are_replicas names)

  stored_is_replica : (stored : List Held) (name : ListName) → AreReplicas history token_at stored → IsReplicaOf history token_at (stored_or_nothing stored name)
  stored_is_replica [] name replicas = nothing_is_replica name
  stored_is_replica (held ∷ stored) name replicas = either (same_name held.name name) (stored_is_replica stored name replicas.1)
    where
      either : (same : Bool) → IsReplicaOf history token_at (stored_or_nothing stored name)
          → IsReplicaOf history token_at (unwrap_or (if same then Some held else list_named name stored) (nothing_held name))
      either true later = replicas.0
      either false later = later

  stored_are_replicas : (stored : List Held) (names : List ListName) → AreReplicas history token_at stored → AreReplicas history token_at (map (stored_or_nothing stored) names)
  stored_are_replicas stored [] replicas = tt
  stored_are_replicas stored (name ∷ names) replicas = (stored_is_replica stored name replicas, stored_are_replicas stored names replicas)

  none_read : (names : List ListName) (reading : Result (List Held) StoreFault) → IsErr reading → AreReplicas history token_at (lists_from names reading)
  none_read names (Ok stored) none = absurd (cc)
  none_read names (Err fault) none = nothing_are_replicas (in_order names)

pub stores_begin : StoresBeginRuns
stores_begin history token_at None names safe = nothing_are_replicas history token_at (in_order names)
stores_begin history token_at (Some text) names (inl none) = none_read history token_at names (store_reading text) none
stores_begin history token_at (Some text) names (inr (lists, reads, replicas)) =
    subst (λ reading. AreReplicas history token_at (lists_from names reading)) (sym reads) (stored_are_replicas history token_at lists (in_order names) replicas)
