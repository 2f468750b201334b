-- What the functions that read fields answer.
use Rattle.std.specs.Prelude.{◌≡◌, ℕ, Result, Ok, Err}
use Rattle.client_store.specs.declared.fields.Stop.{Stop}
use Rattle.client_store.specs.declared.fields.Stop.TheVariants as stop

-- a function stopped where reading does, or for want of memory
abbrev pub StopsAsReading : {Y : Type 0} → Stop → Result Y ℕ → Type 0
StopsAsReading stop.OutOfMemory reading = Unit {0}
StopsAsReading (stop.Broken left) reading = reading ≡ Err left

-- what a function answered, seen by view, is what reading gives, unless memory was refused
abbrev pub GivesReading : {X Y : Type 0} → (X → Y) → Result X Stop → Result Y ℕ → Type 0
GivesReading view (Ok x) reading = reading ≡ Ok (view x)
GivesReading view (Err stop) reading = StopsAsReading stop reading
