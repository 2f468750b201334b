-- What the lines of an input are to a client.
use Rattle.std.specs.Prelude.{◌≡◌, ℕ, List, [], ◌∷◌, Some, Result, Ok, Err, map}
use Rattle.sb_json.specs.Values.{value_of}
use Rattle.sb_json.specs.declared.faults.MessageFault.{MessageFault}
use Rattle.update_messages.specs.declared.response.FetchResponse.{FetchResponse}
use Rattle.update_messages.specs.Messages.{UpdatedList}
use Rattle.update_messages.specs.Reading.{ReadsResponse, IsTextOf}
use Rattle.update_messages.specs.Faults.{fault_of_response, fault_of_text}

-- A line is read as a response, or has a first fault.
abbrev pub ResponseReading : Type 0
ResponseReading = Result FetchResponse MessageFault

abbrev pub IsLineReadingOf : List ℕ → ResponseReading → Type 0
IsLineReadingOf line (Ok message) = IsTextOf ReadsResponse line message
IsLineReadingOf line (Err fault) = fault_of_text fault_of_response (value_of line) ≡ Some fault

-- the readings of lines, one by one
abbrev pub AreReadings : List (List ℕ) → List ResponseReading → Type 0
AreReadings [] [] = Unit {0}
AreReadings [] (reading ∷ readings) = ⊥
AreReadings (line ∷ lines) [] = ⊥
AreReadings (line ∷ lines) (reading ∷ readings) = IsLineReadingOf line reading × AreReadings lines readings

-- the updates of a body, in order; one that has no reading has none
abbrev pub updates_of_reading : ResponseReading → List UpdatedList
updates_of_reading (Ok message) = message.items
updates_of_reading (Err fault) = []

abbrev pub bodies_of : List ResponseReading → List (List UpdatedList)
bodies_of readings = map updates_of_reading readings

-- what answers the reading of each line
abbrev pub IsReader : (List ℕ → ResponseReading) → Type 0
IsReader read = (line : List ℕ) → IsLineReadingOf line (read line)
