-- How fields are read one after the other. `Wire` says what this comes to.
use Rattle.std.specs.Prelude.{ℕ, zero, suc, ◌+◌, ◌-◌, ◌*◌, ◌/◌, ◌%◌, ◌^◌, ◌&&◌, List, [], ◌∷◌, length, take, drop, Option, Some, None, Result, Ok, Err, nat_lt, nat_le, nat_eq, if◌then◌else◌}
use Rattle.std.specs.Int.{w32, w64, from_le_bytes}
use Rattle.proto_wire.specs.declared.fault.WireFault.{WireFault}
use Rattle.proto_wire.specs.declared.fault.WireFault.TheVariants.{Cut, LongVarint, WireType, FieldNumber}
use Rattle.proto_wire.specs.Wire.{WireValue, VarintValue, Fixed64Value, BytesValue, Fixed32Value, WireField}

-- an item and what is left, or a fault
abbrev pub Found : Type 0 → Type 0
Found A = Result (A × List ℕ) WireFault

-- what becomes of an item that was found
abbrev pub found_then : {A B : Type 0} → (A → List ℕ → Found B) → Found A → Found B
found_then next (Ok (item, rest)) = next item rest
found_then next (Err fault) = Err fault

-- another item in the place of the one that was found
abbrev pub found_as : {A B : Type 0} → (A → B) → Found A → Found B
found_as f (Ok (item, rest)) = Ok (f item, rest)
found_as f (Err fault) = Err fault

-- the last byte of a varint is below this if so many bytes may follow
abbrev pub last_below : ℕ → ℕ
last_below room = if nat_eq room 0 then 2 else 128

-- the varint of at most so many bytes with which a text begins
abbrev pub varint_in : ℕ → ℕ → List ℕ → Found ℕ
varint_in zero place text = Err (LongVarint place)
varint_in (suc room) place [] = Err (Cut place)
varint_in (suc room) place (byte ∷ rest) =
    if nat_lt byte (last_below room) then Ok (byte, rest)
    else found_as (λ number. byte % 128 + 128 * number) (varint_in room place rest)

-- the varint with which a text begins
unfoldable pub varint_at : ℕ → List ℕ → Found ℕ
varint_at place text = varint_in 10 place text

-- so many bytes, and what is left
abbrev pub first_bytes_at : ℕ → ℕ → List ℕ → Found (List ℕ)
first_bytes_at place count text =
    if nat_lt (length text) count then Err (Cut place) else Ok (take count text, drop count text)

-- the value of a wire type with which a text begins
unfoldable pub value_at : ℕ → ℕ → List ℕ → Found WireValue
value_at place type text =
    if nat_eq type 0 then found_as VarintValue (varint_at place text)
    else (if nat_eq type 1 then found_as (λ bytes. Fixed64Value (from_le_bytes w64 bytes)) (first_bytes_at place 8 text)
    else (if nat_eq type 2 then found_as BytesValue (found_then (first_bytes_at place) (varint_at place text))
    else (if nat_eq type 5 then found_as (λ bytes. Fixed32Value (from_le_bytes w32 bytes)) (first_bytes_at place 4 text)
    else Err (WireType place))))

-- what stands behind a key
abbrev pub after_key : ℕ → ℕ → List ℕ → Found WireField
after_key place key rest =
    if nat_le 1 (key / 8) && nat_lt (key / 8) (2 ^ 29)
    then found_as (λ value. record { number = key / 8; value = value }) (value_at place (key % 8) rest)
    else Err (FieldNumber place)

-- the field with which a text begins
unfoldable pub field_at : ℕ → List ℕ → Found WireField
field_at place text = found_then (after_key place) (varint_at place text)

-- The items that are still to come, and then the end or a fault.
pub record WireReading (A : Type 0) : Type 0 where
  pub items : List A
  pub fault : Option WireFault

abbrev pub with_item : {A : Type 0} → A → WireReading A → WireReading A
with_item item reading = record { items = item ∷ reading.items; fault = reading.fault }

abbrev pub ended_with : {A : Type 0} → Option WireFault → WireReading A
ended_with fault = record { items = []; fault = fault }

-- what comes of an item: the reading of the rest after it
abbrev pub reading_with : {A : Type 0} → (List ℕ → WireReading A) → Found A → WireReading A
reading_with later (Ok (item, rest)) = with_item item (later rest)
reading_with later (Err fault) = ended_with (Some fault)

-- the reading of a text of at most so many bytes, of which the first has a place
abbrev pub items_within : {A : Type 0} → (ℕ → List ℕ → Found A) → ℕ → ℕ → List ℕ → WireReading A
items_within item_at zero place text = ended_with None
items_within item_at (suc most) place [] = ended_with None
items_within item_at (suc most) place (byte ∷ bytes) =
    reading_with (λ rest. items_within item_at most (place + (length (byte ∷ bytes) - length rest)) rest) (item_at place (byte ∷ bytes))

-- the reading of a text from this place on
unfoldable pub items_from : {A : Type 0} → (ℕ → List ℕ → Found A) → ℕ → List ℕ → WireReading A
items_from item_at place text = items_within item_at (length text) place text

-- the fields of a text, and then its end or its first fault
abbrev pub wire_fields : List ℕ → WireReading WireField
wire_fields text = items_from field_at 0 text

-- the numbers of a packed field, and then its end or its first fault
abbrev pub packed_varints : List ℕ → WireReading ℕ
packed_varints text = items_from varint_at 0 text
