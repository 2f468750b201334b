-- Each line has one reading.
use Rattle.std.proofs.Common.{◌≡◌, ℕ, List, [], ◌∷◌, refl, sym, ap, ◌∙◌, subst, Option, Some, None, Result, Ok, Err, map}
use Rattle.std.specs.Prelude.{◌↔◌}
use Rattle.serde_json.specs.Data.{Data}
use Rattle.sb_json.specs.Values.{value_of}
use Rattle.sb_json.specs.declared.faults.MessageFault.{MessageFault}
use Rattle.update_messages.specs.declared.response.FetchResponse.{FetchResponse}
use Rattle.update_messages.specs.Reading.{ReadsResponse}
use Rattle.update_messages.specs.Faults.{fault_of_response, fault_of_text}
use Rattle.update_replay.specs.Readings.{ResponseReading, IsLineReadingOf, AreReadings, IsReader}

-- a value reads as some response exactly where it has no first fault
abbrev pub ReadsOrFails : Type 0
ReadsOrFails = (value : Data) → ((message : FetchResponse) × ReadsResponse value message) ↔ (fault_of_response value ≡ None)

-- a value reads as one response
abbrev pub ReadsOneWay : Type 0
ReadsOneWay = (value : Data) (a b : FetchResponse) → ReadsResponse value a → ReadsResponse value b → a ≡ b

-- ---- there is one

by_fault : ReadsOrFails → (line : List ℕ) (value : Data) → value_of line ≡ Ok value → (fault : Option MessageFault) → fault_of_response value ≡ fault → (reading : ResponseReading) × IsLineReadingOf line reading
by_fault law line value e None h = let message = (law value).1 h in (Ok message.0, (value, e, message.1))
by_fault law line value e (Some fault) h = (Err fault, ap (fault_of_text fault_of_response) e ∙ h)

by_value : ReadsOrFails → (line : List ℕ) (value : Result Data MessageFault) → value_of line ≡ value → (reading : ResponseReading) × IsLineReadingOf line reading
by_value law line (Err why) e = (Err why, ap (fault_of_text fault_of_response) e)
by_value law line (Ok value) e = by_fault law line value e _ refl

pub reader : ReadsOrFails → List ℕ → ResponseReading
reader law line = (by_value law line _ refl).0

pub reader_reads : (law : ReadsOrFails) → IsReader (reader law)
unfolding reader
reader_reads law line = (by_value law line _ refl).1

-- ---- and no other

one_value : (line : List ℕ) (v w : Data) → value_of line ≡ Ok v → value_of line ≡ Ok w → v ≡ w
one_value line v w e h = cc

-- a value that reads as a response has no fault
no_fault : ReadsOrFails → (line : List ℕ) (value : Data) (message : FetchResponse) (fault : MessageFault) → value_of line ≡ Ok value → ReadsResponse value message → fault_of_text fault_of_response (value_of line) ≡ Some fault → ⊥
no_fault law line value message fault e reads h =
    let none : fault_of_response value ≡ None = (law value).0 (message, reads) in
    let some : fault_of_response value ≡ Some fault = sym (ap (fault_of_text fault_of_response) e) ∙ h in
    cc

pub one_reading : ReadsOneWay → ReadsOrFails → (line : List ℕ) (a b : ResponseReading) → IsLineReadingOf line a → IsLineReadingOf line b → a ≡ b
one_reading once law line (Ok a) (Ok b) h k =
    let reads : ReadsResponse h.0 b = subst (λ (value : Data). ReadsResponse value b) (one_value line k.0 h.0 k.1 h.1) k.2 in
    ap Ok (once h.0 a b h.2 reads)
one_reading once law line (Ok a) (Err f) h k = absurd (no_fault law line h.0 a f h.1 h.2 k)
one_reading once law line (Err f) (Ok b) h k = absurd (no_fault law line k.0 b f k.1 k.2 h)
one_reading once law line (Err f) (Err g) h k = cc

-- the readings of lines
pub read_each : (read : List ℕ → ResponseReading) → IsReader read → (lines : List (List ℕ)) → AreReadings lines (map read lines)
read_each read reads [] = tt
read_each read reads (line ∷ lines) = (reads line, read_each read reads lines)

pub same_readings : ReadsOneWay → ReadsOrFails → (lines : List (List ℕ)) (a b : List ResponseReading) → AreReadings lines a → AreReadings lines b → a ≡ b
same_readings once law [] [] [] h k = refl
same_readings once law [] [] (b ∷ bs) h k = absurd k
same_readings once law [] (a ∷ more) bs h k = absurd h
same_readings once law (line ∷ lines) [] bs h k = absurd h
same_readings once law (line ∷ lines) (a ∷ more) [] h k = absurd k
same_readings once law (line ∷ lines) (a ∷ more) (b ∷ bs) h k =
    let first : a ≡ b = one_reading once law line a b h.0 k.0 in
    let rest : more ≡ bs = same_readings once law lines more bs h.1 k.1 in
    cc
