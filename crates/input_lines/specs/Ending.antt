-- How a command ends that reads its input whole, and then writes a text of it.
use Rattle.std.specs.Prelude.{◌≡◌, ◌⊎◌, ℕ, Bool, List, Option, Result, Ok, Err}
use Rattle.sb_outside.specs.declared.reading.InputFault.{InputFault}
use Rattle.sb_outside.specs.declared.reading.InputFault.TheVariants as input
use Rattle.input_lines.specs.Input.{GivesWithin, GivesPast}
use Rattle.input_lines.specs.declared.stop.Stop.{Stop}
use Rattle.input_lines.specs.declared.stop.Stop.TheVariants.{ReadFault, WriteFault, PastLimits, OutOfMemory}

-- It came to its end, and told of a refusal or of none, or it stopped before.
abbrev pub InputEnding : Type 0
InputEnding = Result Bool Stop

-- where an input is not read to its end
abbrev pub stop_of_input_fault : InputFault → Stop
stop_of_input_fault input.Failed = ReadFault
stop_of_input_fault input.PastLimit = PastLimits
stop_of_input_fault input.OutOfMemory = OutOfMemory

-- What it did by its end: `Whole` says that the text was written whole, and tells of a refusal or of none, and `Part` that
-- the input was read whole and a front of the text was written, of which something is missing. Before the input is
-- read whole nothing is written.
abbrev pub EndsReading : (Whole : Bool → Type 0) (Part : Type 0) → InputEnding → (left left' : Option (List (List ℕ)))
    → (held held' : Option (List ℕ)) → Type 0
EndsReading Whole Part (Ok refused) left left' held held' = Whole refused
EndsReading Whole Part (Err ReadFault) left left' held held' = GivesWithin left left' × (held' ≡ held)
EndsReading Whole Part (Err PastLimits) left left' held held' = GivesPast left left' × (held' ≡ held)
EndsReading Whole Part (Err WriteFault) left left' held held' = Part
EndsReading Whole Part (Err OutOfMemory) left left' held held' = (held' ≡ held) ⊎ Part
