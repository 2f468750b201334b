-- What a run writes.
use Rattle.std.specs.Prelude.{◌≡◌, ◌⊎◌, ℕ, List, Option}
use Rattle.sb_outside.specs.Outside.{Rose, appended}
use Rattle.sb_outside.specs.Writing.{HasFront}

-- What is printed, and the status of the run if it is written whole.
pub record Reply : Type 0 where
  pub text : List ℕ
  pub status : ℕ

-- Nothing was written in a run with this status.
pub record IsSilent (wanted status : ℕ) (held held' : Option (List ℕ)) : Type 0 where
  pub ends : status ≡ wanted
  pub nothing : held' ≡ held

-- A text was written, and the run has the status that goes with it.
pub record IsWhole (reply : Reply) (status : ℕ) (held held' : Option (List ℕ)) : Type 0 where
  pub ends : status ≡ reply.status
  pub whole : held' ≡ appended held reply.text

-- A front of a text that lacks something was written: the output failed.
pub record IsCutShort (reply : Reply) (status : ℕ) (held held' : Option (List ℕ)) : Type 0 where
  pub ends : status ≡ 3
  pub front : HasFront held held' reply.text

abbrev pub IsWritten : Reply → ℕ → (held held' : Option (List ℕ)) → Type 0
IsWritten reply status held held' = IsWhole reply status held held' ⊎ IsCutShort reply status held held'

-- The usage text was written whole, without a fault, or a front of it that lacks something, and the output's count of
-- faults rose.
abbrev pub TellsUsage : List ℕ → (held held' : Option (List ℕ)) → (faults faults' : ℕ) → Type 0
TellsUsage usage held held' faults faults' =
    ((held' ≡ appended held usage) × (faults' ≡ faults)) ⊎ (Rose faults faults' × HasFront held held' usage)
