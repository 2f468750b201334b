-- What an answer changes of the held lists while it is taken.
use Rattle.std.specs.Prelude.{◌≡◌, ℕ, not, List, [], ◌∷◌, Option, Some, None}
use Rattle.std.specs.Str.{bytes_eq}
use Rattle.update_messages.specs.Messages.{UpdatedList}
use Rattle.update_client.specs.declared.fault.UpdateFault.TheVariants.{Checksum}
use Rattle.update_client.specs.declared.pending.Fresh.{Fresh}
use Rattle.update_client.specs.declared.pending.Change.{Change}
use Rattle.update_client.specs.declared.examining.Finding.{Finding}
use Rattle.update_client.specs.declared.examining.Finding.TheVariants.{Fit, Unfit}
use Rattle.update_client.specs.Held.{Held, digest_of}
use Rattle.update_client.specs.Step.{meaning_of, candidate_of, change_fault, first_fault, fault_if}

-- the change of a list that stays as it is
abbrev pub no_change : Held → Change
no_change held = record { fresh = None; resync = held.resync }

-- the held list with what was installed, if something was
abbrev pub with_fresh : Held → Option Fresh → Held
with_fresh held None = held
with_fresh held (Some fresh) = record held { token = fresh.token; set = fresh.set }

-- the held list after a change
abbrev pub changed : Held → Change → Held
changed held change = record (with_fresh held change.fresh) { resync = change.resync }

-- the held lists after their changes, of which the last may be lacking
abbrev pub all_changed : List Held → List Change → List Held
all_changed [] changes = []
all_changed (held ∷ lists) [] = held ∷ lists
all_changed (held ∷ lists) (change ∷ changes) = changed held change ∷ all_changed lists changes

-- a set was checked against a digest
abbrev pub IsChecked : List (List ℕ) → List ℕ → Finding → Type 0
IsChecked proposal given (Fit set) = (set ≡ proposal) × (fault_if (not (bytes_eq (digest_of proposal) given)) (Checksum (digest_of proposal) given) ≡ None)
IsChecked proposal given (Unfit fault) = fault_if (not (bytes_eq (digest_of proposal) given)) (Checksum (digest_of proposal) given) ≡ Some fault

-- what an update says was weighed against a held list
abbrev pub IsWeighed : Held → UpdatedList → Finding → Type 0
IsWeighed held update (Fit set) = (set ≡ candidate_of update held.set) × (change_fault held (meaning_of update) ≡ None)
IsWeighed held update (Unfit fault) = change_fault held (meaning_of update) ≡ Some fault

-- an update was examined where it meets a held list
abbrev pub IsExamined : Held → UpdatedList → Finding → Type 0
IsExamined held update (Fit set) = (set ≡ candidate_of update held.set) × (first_fault held update ≡ None)
IsExamined held update (Unfit fault) = first_fault held update ≡ Some fault
