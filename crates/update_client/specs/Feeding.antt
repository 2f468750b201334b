-- What is written into an edit, and what becomes of a set that is checked.
use Rattle.std.specs.Prelude.{◌≡◌, ◌⊎◌, ℕ, List, ◌++◌, Option, Some, None, Result, Err}
use Rattle.sb_model.specs.Candidate.{Update}
use Rattle.rice_coding.specs.declared.fault.RiceFault.{RiceFault}
use Rattle.rice_coding.specs.declared.fault.RiceFault.TheVariants as rice
use Rattle.prefix_set.specs.Edits.{EditLists}
use Rattle.prefix_set.specs.declared.fault.ApplyFault.{ApplyFault}
use Rattle.prefix_set.specs.declared.fault.ApplyFault.TheVariants as apply
use Rattle.update_messages.specs.Messages.{UpdatedList}
use Rattle.update_client.specs.declared.fault.UpdateFault.{UpdateFault}
use Rattle.update_client.specs.declared.fault.UpdateFault.TheVariants.{IndexRange, TooMany, TooLarge}

-- the edit has these additions more
abbrev pub Adds : EditLists → EditLists → List (List ℕ) → Type 0
Adds old new prefixes = new ≡ record old { additions = old.additions ++ prefixes }

-- the edit has these removals more
abbrev pub Removes : EditLists → EditLists → List ℕ → Type 0
Removes old new places = new ≡ record old { removals = old.removals ++ places }

-- memory was refused, or what was to be read has this fault
abbrev pub IsReadFaultOf : {A : Type 0} → Result A RiceFault → RiceFault → Type 0
IsReadFaultOf outcome fault = (fault ≡ rice.OutOfMemory) ⊎ (outcome ≡ Err fault)

-- an update whose additions and removals were written into an edit
abbrev pub meant_by : UpdatedList → EditLists → Update
meant_by update edit = record {
  list = update.name;
  full = update.full;
  base = update.base;
  additions = edit.additions;
  removals = edit.removals;
  new_state = update.new_state;
  checksum = update.checksum;
}

-- why an update is refused whose change gives no set; none where memory was refused
abbrev pub cause_of_apply : ApplyFault → Option UpdateFault
cause_of_apply (apply.IndexRange index len) = Some (IndexRange index len)
cause_of_apply (apply.TooMany count) = Some (TooMany count)
cause_of_apply (apply.TooLarge bytes) = Some (TooLarge bytes)
cause_of_apply apply.OutOfMemory = None
