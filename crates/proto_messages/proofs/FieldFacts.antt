-- A message has no more fields than bytes.
use Rattle.std.proofs.Common.{◌≡◌, ◌≤◌, ◌↔◌, ℕ, zero, suc, ◌+◌, ◌-◌, List, [], ◌∷◌, length, length-append, Option, Some, None, Ok, Err, Bool, true, false, nat_eq, refl, ap, arith}
use Rattle.proto_wire.specs.declared.fault.WireFault.{WireFault}
use Rattle.proto_wire.specs.Wire.{WireValue, VarintValue, Fixed64Value, BytesValue, Fixed32Value, WireField, IsValueOf, IsFieldOf, BeginsWithItems, ReadsFields, IsFaultAfterFields}
use Rattle.proto_wire.specs.Reading.{Found, WireReading, reading_with, items_within, items_from, field_at, wire_fields}
use Rattle.proto_messages.specs.Fields.{field_values_at, fields_in, fields_within}

few_with : (most : ℕ) (later : List ℕ → WireReading WireField) → ((rest : List ℕ) → length (later rest).items ≤ most) → (found : Found WireField)
    → length (reading_with later found).items ≤ suc most
few_with most later few (Ok (field, rest)) = omega (arith, few rest)
few_with most later few (Err fault) = omega arith

few_within : (most place : ℕ) (text : List ℕ) → length (items_within field_at most place text).items ≤ most
few_within zero place text = omega arith
few_within (suc most) place [] = omega arith
few_within (suc most) place (byte ∷ bytes) =
    few_with most _ (λ rest. few_within most (place + (length (byte ∷ bytes) - length rest)) rest) (field_at place (byte ∷ bytes))

pub few_fields : (text : List ℕ) → length (wire_fields text).items ≤ length text
unfolding items_from
few_fields text = few_within (length text) 0 text

pub fewer_values : (number : ℕ) (fields : List WireField) → length (field_values_at number fields) ≤ length fields
fewer_values number [] = omega arith
fewer_values number (field ∷ fields) = go (nat_eq field.number number) refl (fewer_values number fields) where
  go : (b : Bool) → nat_eq field.number number ≡ b → length (field_values_at number fields) ≤ length fields
      → length (field_values_at number (field ∷ fields)) ≤ length (field ∷ fields)
  go true is few = rw is (omega (arith, few))
  go false is few = rw is (omega (arith, few))

pub few_values : (number : ℕ) (text : List ℕ) → length (field_values_at number (wire_fields text).items) ≤ length text
few_values number text = omega (arith, fewer_values number (wire_fields text).items, few_fields text)

-- ---- the fields of messages that stand in a message

-- how many bytes a value has
abbrev value_size : WireValue → ℕ
value_size (VarintValue number) = 0
value_size (Fixed64Value number) = 0
value_size (BytesValue bytes) = length bytes
value_size (Fixed32Value number) = 0

abbrev sizes : List WireField → ℕ
sizes [] = 0
sizes (field ∷ fields) = value_size field.value + sizes fields

-- a varint stands before the bytes of a value, and a key before the value
value_fits : (spelling : List ℕ) (value : WireValue) → IsValueOf spelling value → value_size value ≤ length spelling
value_fits spelling (VarintValue number) is = omega arith
value_fits spelling (Fixed64Value number) is = omega arith
value_fits spelling (BytesValue bytes) (opening, same, varint) = omega (arith, ap length same, length-append opening bytes)
value_fits spelling (Fixed32Value number) is = omega arith

field_fits : (spelling : List ℕ) (field : WireField) → IsFieldOf spelling field → value_size field.value ≤ length spelling
field_fits spelling field is = omega (arith, value_fits is.value field.value is.is_value, ap length is.bytes, length-append is.key is.value)

sizes_fit : (text : List ℕ) (fields : List WireField) (rest : List ℕ) → BeginsWithItems IsFieldOf text fields rest → sizes fields ≤ length text
sizes_fit text [] rest is = omega arith
sizes_fit text (field ∷ fields) rest (spelling, more, same, one, later) =
    omega (arith, field_fits spelling field one, sizes_fit more fields rest later, ap length same, length-append spelling more)

few_in : (value : WireValue) → length (fields_in value) ≤ value_size value
few_in (VarintValue number) = omega arith
few_in (Fixed64Value number) = omega arith
few_in (BytesValue bytes) = few_fields bytes
few_in (Fixed32Value number) = omega arith

few_under : (number : ℕ) (fields : List WireField) → length (fields_within number fields) ≤ sizes fields
few_under number [] = omega arith
few_under number (field ∷ fields) = go (nat_eq field.number number) refl (few_under number fields) where
  go : (b : Bool) → nat_eq field.number number ≡ b → length (fields_within number fields) ≤ sizes fields
      → length (fields_within number (field ∷ fields)) ≤ sizes (field ∷ fields)
  go true is few = rw is (omega (arith, length-append (fields_in field.value) (fields_within number fields), few_in field.value, few))
  go false is few = rw is (omega (arith, few))

-- What the wire form's law says of a text: its fields, and then its end or a fault.
pub record IsReadOneWay : Type 0 where
  pub fields : (text : List ℕ) (fields : List WireField) → (wire_fields text ≡ record { items = fields; fault = None }) ↔ ReadsFields text fields
  pub fault : (text : List ℕ) (fields : List WireField) (fault : WireFault)
      → (wire_fields text ≡ record { items = fields; fault = Some fault }) ↔ IsFaultAfterFields text fields fault

begins_with : IsReadOneWay → (text : List ℕ) (fault : Option WireFault) → (wire_fields text).fault ≡ fault
    → (rest : List ℕ) × BeginsWithItems IsFieldOf text (wire_fields text).items rest
begins_with law text None is = ([], (law.fields text (wire_fields text).items).0 (ap (λ (f : Option WireFault). record { items = (wire_fields text).items; fault = f }) is))
begins_with law text (Some fault) is =
    let found : IsFaultAfterFields text (wire_fields text).items fault =
    (law.fault text (wire_fields text).items fault).0 (ap (λ (f : Option WireFault). record { items = (wire_fields text).items; fault = f }) is) in
    (found.0, found.1)

pub few_within_text : IsReadOneWay → (number : ℕ) (text : List ℕ) → length (fields_within number (wire_fields text).items) ≤ length text
few_within_text law number text =
    let begins = begins_with law text (wire_fields text).fault refl in
    omega (arith, few_under number (wire_fields text).items, sizes_fit text (wire_fields text).items begins.0 begins.1)
