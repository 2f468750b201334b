-- What is written is read again, and each varint is the shortest.
use Rattle.std.proofs.Common.{◌≡◌, ◌⊎◌, ℕ, zero, suc, ◌+◌, ◌*◌, ◌/◌, ◌%◌, ◌^◌, ◌<◌, ◌≤◌, List, [], ◌∷◌, ◌++◌, length, inl, inr, refl, sym, ap, subst, append_assoc, arith}
use Rattle.std.proofs.lemmas.Bool.{cases_lt}
use Rattle.std.proofs.lemmas.Nat.{from_le_bytes-to_le_bytes_4, from_le_bytes-to_le_bytes_8}
use Rattle.proto_wire.specs.Wire.{WireValue, VarintValue, Fixed64Value, BytesValue, Fixed32Value, WireField, wire_type, IsFieldNumber, IsVarintOf, IsValueOf, IsFieldOf, ReadsFields}
use Rattle.proto_wire.specs.Spelling.{sevens_of, shortest_varint, written_key, written_opening, written_value, written_field, written_fields, HasSpelling, AreWritable}
use Rattle.proto_wire.proofs.SpellingFacts.{sevens_last, sevens_more, fits_later}
use Rattle.proto_wire.proofs.VarintExact.{VarintIn, below_128, room_128, varint_spelled, spelled_varint}

sevens_in : (room number : ℕ) → number < 2 * 128 ^ room → VarintIn (suc room) (sevens_of room number) number
sevens_in zero number fits = inl (refl, omega (arith, fits), refl)
sevens_in (suc room) number fits = go (cases_lt number 128) (sevens_in room (number / 128)) where
  go : (number < 128) ⊎ (128 ≤ number) → (number / 128 < 2 * 128 ^ room → VarintIn (suc room) (sevens_of room (number / 128)) (number / 128))
      → VarintIn (suc (suc room)) (sevens_of (suc room) number) number
  go (inl small) again =
      subst (λ (s : List ℕ). VarintIn (suc (suc room)) s number) (sym (sevens_last (suc room) number small))
      (inl (refl, omega (arith, room_128 (suc room) (omega arith), small), refl))
  go (inr large) again =
      let byte = number % 128 + 128 in
      let more : VarintIn (suc (suc room)) (byte ∷ sevens_of room (number / 128)) number =
      inr (omega (arith, room_128 (suc room) (omega arith)), number / 128, again (fits_later room number fits), omega arith) in
      subst (λ (s : List ℕ). VarintIn (suc (suc room)) s number) (sym (sevens_more room number large)) more

pub varint_is : (number : ℕ) → number < 2 ^ 64 → IsVarintOf (shortest_varint number) number
unfolding shortest_varint
varint_is number fits = varint_spelled (sevens_of 9 number) number (sevens_in 9 number (omega (arith, fits)))

shorter_in : (room most : ℕ) (spelling : List ℕ) (number : ℕ) → VarintIn room spelling number → length (sevens_of most number) ≤ length spelling
shorter_in zero most spelling number is = absurd is
shorter_in (suc room) most [] number is = absurd is
shorter_in (suc room) zero (byte ∷ bytes) number is = omega arith
shorter_in (suc room) (suc most) (byte ∷ bytes) number is = go (cases_lt number 128) is (shorter_in room most bytes) where
  go : (number < 128) ⊎ (128 ≤ number) → VarintIn (suc room) (byte ∷ bytes) number
      → ((later : ℕ) → VarintIn room bytes later → length (sevens_of most later) ≤ length bytes) → length (sevens_of (suc most) number) ≤ length (byte ∷ bytes)
  go (inl small) is again = omega (arith, ap length (sevens_last (suc most) number small))
  go (inr large) (inl last) again = absurd (omega (arith, below_128 room, last.1, last.2, large))
  go (inr large) (inr more) again =
      let same : number / 128 ≡ more.1 = omega (arith, more.3) in
      omega (arith, ap length (sevens_more most number large), ap (λ (later : ℕ). length (sevens_of most later)) same, again more.1 more.2)

pub varint_shortest : (spelling : List ℕ) (number : ℕ) → IsVarintOf spelling number → length (shortest_varint number) ≤ length spelling
unfolding shortest_varint
varint_shortest spelling number is = shorter_in 10 9 spelling number (spelled_varint spelling number is)

-- ---- fields
value_is : (value : WireValue) → HasSpelling value → IsValueOf (written_value value) value
value_is (VarintValue number) fits = varint_is number fits
value_is (Fixed64Value number) fits = (refl, sym (from_le_bytes-to_le_bytes_8 number fits))
value_is (BytesValue bytes) fits = (shortest_varint (length bytes), refl, varint_is (length bytes) fits)
value_is (Fixed32Value number) fits = (refl, sym (from_le_bytes-to_le_bytes_4 number fits))

key_fits : (number : ℕ) (value : WireValue) → number < 2 ^ 29 → 8 * number + wire_type value < 2 ^ 64
key_fits number (VarintValue n) few = omega (arith, few)
key_fits number (Fixed64Value n) few = omega (arith, few)
key_fits number (BytesValue n) few = omega (arith, few)
key_fits number (Fixed32Value n) few = omega (arith, few)

field_is : (field : WireField) → IsFieldNumber field.number → HasSpelling field.value → IsFieldOf (written_field field) field
unfolding written_field
field_is field number fits = record {
  numbered = number;
  key = written_key field.number (wire_type field.value);
  value = written_value field.value;
  bytes = refl;
  is_key = varint_is (8 * field.number + wire_type field.value) (key_fits field.number field.value number.1);
  is_value = value_is field.value fits;
}

pub written_read : (fields : List WireField) → AreWritable fields → ReadsFields (written_fields fields) fields
written_read [] writable = refl
written_read (field ∷ fields) writable =
    (written_field field, written_fields fields, refl, field_is field writable.0.0 writable.0.1, written_read fields writable.1)

pub opened : (number : ℕ) (bytes : List ℕ) → written_opening number (length bytes) ++ bytes ≡ written_field (record { number = number; value = BytesValue bytes })
unfolding written_field
opened number bytes = append_assoc (written_key number 2) (shortest_varint (length bytes)) bytes
