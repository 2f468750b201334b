-- A field is read exactly where one stands, and otherwise its fault is told.
use Rattle.std.proofs.Common.{◌≡◌, ◌⊎◌, ℕ, zero, suc, ◌+◌, ◌*◌, ◌/◌, ◌%◌, ◌^◌, ◌<◌, ◌≤◌, true, false, ltb, List, ◌++◌, length, take, drop, Ok, Err, inl, inr, refl, sym, ap, ◌∙◌, subst, length-append, arith}
use Rattle.std.specs.Int.{w32, w64, from_le_bytes}
use Rattle.std.proofs.lemmas.Bool.{cases_lt}
use Rattle.std.proofs.lemmas.Bool.Decides.{nat_tests}
use Rattle.std.proofs.lemmas.List.{append_assoc, take-append-drop, take_at, drop_at, length-take-le}
use Rattle.proto_wire.specs.declared.fault.WireFault.{WireFault}
use Rattle.proto_wire.specs.declared.fault.WireFault.TheVariants.{Cut, WireType, FieldNumber}
use Rattle.proto_wire.specs.Wire.{WireValue, VarintValue, Fixed64Value, BytesValue, Fixed32Value, WireField, wire_type, IsFieldNumber, IsVarintOf, HasVarint, IsValueOf, IsFieldOf, IsVarintFault, IsShortOfBytes, IsValueFault, IsFaultAfterKey, IsFieldFault}
use Rattle.proto_wire.specs.Reading.{Found, found_as, found_then, varint_at, first_bytes_at, value_at, after_key, field_at}
use Rattle.proto_wire.proofs.ItemFacts.{IsExact, Shrinks, shrinks}
use Rattle.proto_wire.proofs.ValueFacts.{other_type, key_fits, key_value, key_fault, key_beyond}
use Rattle.proto_wire.proofs.VarintExact.{ok_both, varint_found, varint_finds, varint_fault, varint_faults, varint_some}

-- ---- what was found, by its parts
abbrev FoundAs : {A B : Type 0} → (A → B) → Found A → B → List ℕ → Type 0
FoundAs {A} f found item rest = (before : A) × (found ≡ Ok (before, rest)) × (item ≡ f before)

as_found : {A B : Type 0} (f : A → B) (found : Found A) (item : B) (rest : List ℕ) → found_as f found ≡ Ok (item, rest) → FoundAs f found item rest
as_found f (Ok (before, left)) item rest is =
    let both = ok_both (f before) item left rest is in
    (before, ap (λ (rest : List ℕ). Ok (before, rest)) both.1, sym both.0)
as_found f (Err fault) item rest is = absurd (cc)

as_fault : {A B : Type 0} (f : A → B) (found : Found A) (fault : WireFault) → found_as f found ≡ Err fault → found ≡ Err fault
as_fault f (Ok (before, left)) fault is = absurd (cc)
as_fault f (Err other) fault is = (let same : other ≡ fault = cc in ap (λ (fault : WireFault). Err fault) same)

then_found : {A B : Type 0} (next : A → List ℕ → Found B) (found : Found A) (item : B) (rest : List ℕ) → found_then next found ≡ Ok (item, rest)
    → (before : A) × (left : List ℕ) × (found ≡ Ok (before, left)) × (next before left ≡ Ok (item, rest))
then_found next (Ok (before, left)) item rest is = (before, left, refl, is)
then_found next (Err fault) item rest is = absurd (cc)

then_fault : {A B : Type 0} (next : A → List ℕ → Found B) (found : Found A) (fault : WireFault) → found_then next found ≡ Err fault
    → (found ≡ Err fault) ⊎ ((before : A) × (left : List ℕ) × (found ≡ Ok (before, left)) × (next before left ≡ Err fault))
then_fault next (Ok (before, left)) fault is = inr (before, left, refl, is)
then_fault next (Err other) fault is = (let same : other ≡ fault = cc in inl (ap (λ (fault : WireFault). Err fault) same))

-- ---- so many bytes
bytes_short : (place count : ℕ) (text : List ℕ) → length text < count → first_bytes_at place count text ≡ Err (Cut place)
bytes_short place count text short = (let test : ltb (length text) count ≡ true = grind (arith, nat_tests) in rw test refl)

bytes_enough : (place count : ℕ) (text : List ℕ) → count ≤ length text → first_bytes_at place count text ≡ Ok (take count text, drop count text)
bytes_enough place count text enough = (let test : ltb (length text) count ≡ false = grind (arith, nat_tests) in rw test refl)

bytes_found : (place count : ℕ) (text bytes rest : List ℕ) → first_bytes_at place count text ≡ Ok (bytes, rest) → (text ≡ bytes ++ rest) × (length bytes ≡ count)
bytes_found place count text bytes rest is = go (cases_lt (length text) count) where
  go : (length text < count) ⊎ (count ≤ length text) → (text ≡ bytes ++ rest) × (length bytes ≡ count)
  go (inl short) = (let both : ◌≡◌ {A = Found (List ℕ)} (Err (Cut place)) (Ok (bytes, rest)) = sym (bytes_short place count text short) ∙ is in absurd (cc))
  go (inr enough) =
      let both = ok_both (take count text) bytes (drop count text) rest (sym (bytes_enough place count text enough) ∙ is) in (
        sym (take-append-drop count text) ∙ ap (λ (bytes : List ℕ). bytes ++ drop count text) both.0 ∙ ap (λ (rest : List ℕ). bytes ++ rest) both.1,
        sym (ap length both.0) ∙ length-take-le count text enough,
      )

bytes_finds : (place : ℕ) (bytes rest : List ℕ) → first_bytes_at place (length bytes) (bytes ++ rest) ≡ Ok (bytes, rest)
bytes_finds place bytes rest =
    bytes_enough place (length bytes) (bytes ++ rest) (omega (arith, length-append bytes rest))
    ∙ ap (λ (front : List ℕ). Ok (front, drop (length bytes) (bytes ++ rest))) (take_at bytes rest (length bytes) refl)
    ∙ ap (λ (rest : List ℕ). Ok (bytes, rest)) (drop_at bytes rest (length bytes) refl)

bytes_fault : (place count : ℕ) (text : List ℕ) (fault : WireFault) → first_bytes_at place count text ≡ Err fault → (fault ≡ Cut place) × (length text < count)
bytes_fault place count text fault is = go (cases_lt (length text) count) where
  go : (length text < count) ⊎ (count ≤ length text) → (fault ≡ Cut place) × (length text < count)
  go (inl short) = (let both : ◌≡◌ {A = Found (List ℕ)} (Err (Cut place)) (Err fault) = sym (bytes_short place count text short) ∙ is in (let same : fault ≡ Cut place = cc in (same, short)))
  go (inr enough) = (let both : ◌≡◌ {A = Found (List ℕ)} (Ok (take count text, drop count text)) (Err fault) = sym (bytes_enough place count text enough) ∙ is in absurd (cc))

-- ---- values
-- the wire type of a key
types_of : (type : ℕ) → type < 8 → (type ≡ 0) ⊎ ((type ≡ 1) ⊎ ((type ≡ 2) ⊎ ((type ≡ 5) ⊎ ((type ≡ 3) ⊎ ((type ≡ 4) ⊎ ((type ≡ 6) ⊎ (type ≡ 7)))))))
types_of zero few = inl refl
types_of (suc zero) few = inr (inl refl)
types_of (suc (suc zero)) few = inr (inr (inl refl))
types_of (suc (suc (suc zero))) few = inr (inr (inr (inr (inl refl))))
types_of (suc (suc (suc (suc zero)))) few = inr (inr (inr (inr (inr (inl refl)))))
types_of (suc (suc (suc (suc (suc zero))))) few = inr (inr (inr (inl refl)))
types_of (suc (suc (suc (suc (suc (suc zero)))))) few = inr (inr (inr (inr (inr (inr (inl refl))))))
types_of (suc (suc (suc (suc (suc (suc (suc zero))))))) few = inr (inr (inr (inr (inr (inr (inr refl))))))
types_of (suc (suc (suc (suc (suc (suc (suc (suc type)))))))) few = absurd (omega (arith, few))

-- the value of a type stands at the front of a text
abbrev ValueThere : ℕ → List ℕ → WireValue → List ℕ → Type 0
ValueThere type text value rest = (type ≡ wire_type value) × (spelling : List ℕ) × (text ≡ spelling ++ rest) × IsValueOf spelling value

varint_there : (place : ℕ) (text : List ℕ) (value : WireValue) (rest : List ℕ) → value_at place 0 text ≡ Ok (value, rest) → ValueThere 0 text value rest
unfolding value_at
varint_there place text value rest is =
    let was = as_found VarintValue (varint_at place text) value rest is in
    let found = varint_found place text was.0 rest was.1 in
    subst (λ (value : WireValue). ValueThere 0 text value rest) (sym was.2) (refl, found.0, found.1, found.2)

fixed64_there : (place : ℕ) (text : List ℕ) (value : WireValue) (rest : List ℕ) → value_at place 1 text ≡ Ok (value, rest) → ValueThere 1 text value rest
unfolding value_at
fixed64_there place text value rest is =
    let was = as_found (λ (bytes : List ℕ). Fixed64Value (from_le_bytes w64 bytes)) (first_bytes_at place 8 text) value rest is in
    let found = bytes_found place 8 text was.0 rest was.1 in
    subst (λ (value : WireValue). ValueThere 1 text value rest) (sym was.2) (refl, was.0, found.0, (found.1, refl))

bytes_there : (place : ℕ) (text : List ℕ) (value : WireValue) (rest : List ℕ) → value_at place 2 text ≡ Ok (value, rest) → ValueThere 2 text value rest
unfolding value_at
bytes_there place text value rest is =
    let was = as_found BytesValue (found_then (first_bytes_at place) (varint_at place text)) value rest is in
    let next = then_found (first_bytes_at place) (varint_at place text) was.0 rest was.1 in
    let opening = varint_found place text next.0 next.1 next.2 in
    let found = bytes_found place next.0 next.1 was.0 rest next.3 in
    let whole : text ≡ (opening.0 ++ was.0) ++ rest =
    opening.1 ∙ ap (λ (left : List ℕ). opening.0 ++ left) found.0 ∙ sym (append_assoc opening.0 was.0 rest) in
    subst (λ (value : WireValue). ValueThere 2 text value rest) (sym was.2)
    (refl, opening.0 ++ was.0, whole, (opening.0, refl, subst (λ (n : ℕ). IsVarintOf opening.0 n) (sym found.1) opening.2))

fixed32_there : (place : ℕ) (text : List ℕ) (value : WireValue) (rest : List ℕ) → value_at place 5 text ≡ Ok (value, rest) → ValueThere 5 text value rest
unfolding value_at
fixed32_there place text value rest is =
    let was = as_found (λ (bytes : List ℕ). Fixed32Value (from_le_bytes w32 bytes)) (first_bytes_at place 4 text) value rest is in
    let found = bytes_found place 4 text was.0 rest was.1 in
    subst (λ (value : WireValue). ValueThere 5 text value rest) (sym was.2) (refl, was.0, found.0, (found.1, refl))

refused_type : (place type : ℕ) (text : List ℕ) → (type ≡ 3) ⊎ ((type ≡ 4) ⊎ ((type ≡ 6) ⊎ (type ≡ 7))) → value_at place type text ≡ Err (WireType place)
refused_type place type text (inl is) = other_type place type text (λ h. omega (arith, is, h)) (λ h. omega (arith, is, h)) (λ h. omega (arith, is, h)) (λ h. omega (arith, is, h))
refused_type place type text (inr (inl is)) = other_type place type text (λ h. omega (arith, is, h)) (λ h. omega (arith, is, h)) (λ h. omega (arith, is, h)) (λ h. omega (arith, is, h))
refused_type place type text (inr (inr (inl is))) = other_type place type text (λ h. omega (arith, is, h)) (λ h. omega (arith, is, h)) (λ h. omega (arith, is, h)) (λ h. omega (arith, is, h))
refused_type place type text (inr (inr (inr is))) = other_type place type text (λ h. omega (arith, is, h)) (λ h. omega (arith, is, h)) (λ h. omega (arith, is, h)) (λ h. omega (arith, is, h))

value_found : (place type : ℕ) (text : List ℕ) (value : WireValue) (rest : List ℕ) → type < 8 → value_at place type text ≡ Ok (value, rest) → ValueThere type text value rest
value_found place type text value rest few is = go (types_of type few) where
  at : (known : ℕ) → type ≡ known → value_at place known text ≡ Ok (value, rest)
  at known same = ap (λ (type : ℕ). value_at place type text) (sym same) ∙ is

  back : (known : ℕ) → type ≡ known → ValueThere known text value rest → ValueThere type text value rest
  back known same there = subst (λ (type : ℕ). ValueThere type text value rest) (sym same) there

  go : (type ≡ 0) ⊎ ((type ≡ 1) ⊎ ((type ≡ 2) ⊎ ((type ≡ 5) ⊎ ((type ≡ 3) ⊎ ((type ≡ 4) ⊎ ((type ≡ 6) ⊎ (type ≡ 7))))))) → ValueThere type text value rest
  go (inl same) = back 0 same (varint_there place text value rest (at 0 same))
  go (inr (inl same)) = back 1 same (fixed64_there place text value rest (at 1 same))
  go (inr (inr (inl same))) = back 2 same (bytes_there place text value rest (at 2 same))
  go (inr (inr (inr (inl same)))) = back 5 same (fixed32_there place text value rest (at 5 same))
  go (inr (inr (inr (inr other)))) = (let both : ◌≡◌ {A = Found WireValue} (Err (WireType place)) (Ok (value, rest)) = sym (refused_type place type text other) ∙ is in absurd (cc))

fixed_finds : (place count : ℕ) (bytes rest : List ℕ) → length bytes ≡ count → first_bytes_at place count (bytes ++ rest) ≡ Ok (bytes, rest)
fixed_finds place count bytes rest is = ap (λ (count : ℕ). first_bytes_at place count (bytes ++ rest)) (sym is) ∙ bytes_finds place bytes rest

value_finds : (place : ℕ) (spelling : List ℕ) (value : WireValue) (rest : List ℕ) → IsValueOf spelling value → value_at place (wire_type value) (spelling ++ rest) ≡ Ok (value, rest)
unfolding value_at
value_finds place spelling (VarintValue number) rest is = ap (found_as VarintValue) (varint_finds place spelling number rest is)
value_finds place spelling (Fixed64Value number) rest is =
    ap (found_as (λ (bytes : List ℕ). Fixed64Value (from_le_bytes w64 bytes))) (fixed_finds place 8 spelling rest is.0)
    ∙ ap (λ (number : ℕ). Ok (Fixed64Value number, rest)) (sym is.1)
value_finds place spelling (BytesValue bytes) rest is =
    let text : spelling ++ rest ≡ is.0 ++ (bytes ++ rest) = ap (λ (s : List ℕ). s ++ rest) is.1 ∙ append_assoc is.0 bytes rest in
    ap (λ (text : List ℕ). found_as BytesValue (found_then (first_bytes_at place) (varint_at place text))) text
    ∙ ap (λ (found : Found ℕ). found_as BytesValue (found_then (first_bytes_at place) found)) (varint_finds place is.0 (length bytes) (bytes ++ rest) is.2)
    ∙ ap (found_as BytesValue) (bytes_finds place bytes rest)
value_finds place spelling (Fixed32Value number) rest is =
    ap (found_as (λ (bytes : List ℕ). Fixed32Value (from_le_bytes w32 bytes))) (fixed_finds place 4 spelling rest is.0)
    ∙ ap (λ (number : ℕ). Ok (Fixed32Value number, rest)) (sym is.1)

-- ---- what is wrong with a value
varint_wrong : (place : ℕ) (text : List ℕ) (fault : WireFault) → value_at place 0 text ≡ Err fault → IsVarintFault place text fault
unfolding value_at
varint_wrong place text fault is = varint_fault place text fault (as_fault VarintValue (varint_at place text) fault is)

fixed64_wrong : (place : ℕ) (text : List ℕ) (fault : WireFault) → value_at place 1 text ≡ Err fault → (fault ≡ Cut place) × (length text < 8)
unfolding value_at
fixed64_wrong place text fault is =
    bytes_fault place 8 text fault (as_fault (λ (bytes : List ℕ). Fixed64Value (from_le_bytes w64 bytes)) (first_bytes_at place 8 text) fault is)

fixed32_wrong : (place : ℕ) (text : List ℕ) (fault : WireFault) → value_at place 5 text ≡ Err fault → (fault ≡ Cut place) × (length text < 4)
unfolding value_at
fixed32_wrong place text fault is =
    bytes_fault place 4 text fault (as_fault (λ (bytes : List ℕ). Fixed32Value (from_le_bytes w32 bytes)) (first_bytes_at place 4 text) fault is)

bytes_wrong : (place : ℕ) (text : List ℕ) (fault : WireFault) → value_at place 2 text ≡ Err fault
    → IsVarintFault place text fault ⊎ ((fault ≡ Cut place) × IsShortOfBytes text)
unfolding value_at
bytes_wrong place text fault is = go (then_fault (first_bytes_at place) (varint_at place text) fault (as_fault BytesValue (found_then (first_bytes_at place) (varint_at place text)) fault is)) where
  go : (varint_at place text ≡ Err fault) ⊎ ((count : ℕ) × (left : List ℕ) × (varint_at place text ≡ Ok (count, left)) × (first_bytes_at place count left ≡ Err fault))
      → IsVarintFault place text fault ⊎ ((fault ≡ Cut place) × IsShortOfBytes text)
  go (inl none) = inl (varint_fault place text fault none)
  go (inr some) =
      let short = bytes_fault place some.0 some.1 fault some.3 in
      inr (short.0, (some.0, some.1, varint_found place text some.0 some.1 some.2, short.1))

value_fault : (place type : ℕ) (text : List ℕ) (fault : WireFault) → type < 8 → value_at place type text ≡ Err fault → IsValueFault place type text fault
value_fault place type text fault few is = go (types_of type few) where
  at : (known : ℕ) → type ≡ known → value_at place known text ≡ Err fault
  at known same = ap (λ (type : ℕ). value_at place type text) (sym same) ∙ is

  of_bytes : type ≡ 2 → IsVarintFault place text fault ⊎ ((fault ≡ Cut place) × IsShortOfBytes text) → IsValueFault place type text fault
  of_bytes same (inl wrong) = inl (inr same, wrong)
  of_bytes same (inr short) = inr (inl (short.0, inr (inr (same, short.1))))

  go : (type ≡ 0) ⊎ ((type ≡ 1) ⊎ ((type ≡ 2) ⊎ ((type ≡ 5) ⊎ ((type ≡ 3) ⊎ ((type ≡ 4) ⊎ ((type ≡ 6) ⊎ (type ≡ 7))))))) → IsValueFault place type text fault
  go (inl same) = inl (inl same, varint_wrong place text fault (at 0 same))
  go (inr (inl same)) = (let short = fixed64_wrong place text fault (at 1 same) in inr (inl (short.0, inl (same, short.1))))
  go (inr (inr (inl same))) = of_bytes same (bytes_wrong place text fault (at 2 same))
  go (inr (inr (inr (inl same)))) = (let short = fixed32_wrong place text fault (at 5 same) in inr (inl (short.0, inr (inl (same, short.1)))))
  go (inr (inr (inr (inr other)))) =
      let both : ◌≡◌ {A = Found WireValue} (Err (WireType place)) (Err fault) = sym (refused_type place type text other) ∙ is in
      let same : fault ≡ WireType place = cc in
      inr (inr (same, other))

-- ---- and it is told
varint_told : (place : ℕ) (text : List ℕ) (fault : WireFault) → IsVarintFault place text fault → value_at place 0 text ≡ Err fault
unfolding value_at
varint_told place text fault is = ap (found_as VarintValue) (varint_faults place text fault is)

opening_told : (place : ℕ) (text : List ℕ) (fault : WireFault) → IsVarintFault place text fault → value_at place 2 text ≡ Err fault
unfolding value_at
opening_told place text fault is = ap (λ (found : Found ℕ). found_as BytesValue (found_then (first_bytes_at place) found)) (varint_faults place text fault is)

fixed64_told : (place : ℕ) (text : List ℕ) → length text < 8 → value_at place 1 text ≡ Err (Cut place)
unfolding value_at
fixed64_told place text short = ap (found_as (λ (bytes : List ℕ). Fixed64Value (from_le_bytes w64 bytes))) (bytes_short place 8 text short)

fixed32_told : (place : ℕ) (text : List ℕ) → length text < 4 → value_at place 5 text ≡ Err (Cut place)
unfolding value_at
fixed32_told place text short = ap (found_as (λ (bytes : List ℕ). Fixed32Value (from_le_bytes w32 bytes))) (bytes_short place 4 text short)

bytes_told : (place : ℕ) (text : List ℕ) → IsShortOfBytes text → value_at place 2 text ≡ Err (Cut place)
unfolding value_at
bytes_told place text is =
    let v = is.2 in
    ap (λ (text : List ℕ). found_as BytesValue (found_then (first_bytes_at place) (varint_at place text))) v.1
    ∙ ap (λ (found : Found ℕ). found_as BytesValue (found_then (first_bytes_at place) found)) (varint_finds place v.0 is.0 is.1 v.2)
    ∙ ap (found_as BytesValue) (bytes_short place is.0 is.1 is.3)

value_faults : (place type : ℕ) (text : List ℕ) (fault : WireFault) → IsValueFault place type text fault → value_at place type text ≡ Err fault
value_faults place type text fault (inl (inl same, wrong)) = ap (λ (type : ℕ). value_at place type text) same ∙ varint_told place text fault wrong
value_faults place type text fault (inl (inr same, wrong)) = ap (λ (type : ℕ). value_at place type text) same ∙ opening_told place text fault wrong
value_faults place type text fault (inr (inl (cut, inl (same, short)))) =
    ap (λ (type : ℕ). value_at place type text) same ∙ fixed64_told place text short ∙ ap (λ (fault : WireFault). Err fault) (sym cut)
value_faults place type text fault (inr (inl (cut, inr (inl (same, short))))) =
    ap (λ (type : ℕ). value_at place type text) same ∙ fixed32_told place text short ∙ ap (λ (fault : WireFault). Err fault) (sym cut)
value_faults place type text fault (inr (inl (cut, inr (inr (same, short))))) =
    ap (λ (type : ℕ). value_at place type text) same ∙ bytes_told place text short ∙ ap (λ (fault : WireFault). Err fault) (sym cut)
value_faults place type text fault (inr (inr (refused, other))) = refused_type place type text other ∙ ap (λ (fault : WireFault). Err fault) (sym refused)

-- ---- fields
-- whether a key has a field number
numbered : (number : ℕ) → IsFieldNumber number ⊎ (IsFieldNumber number → ⊥)
numbered number = go (cases_lt number 1) (cases_lt number (2 ^ 29)) where
  go : (number < 1) ⊎ (1 ≤ number) → (number < 2 ^ 29) ⊎ (2 ^ 29 ≤ number) → IsFieldNumber number ⊎ (IsFieldNumber number → ⊥)
  go (inl none) other = inr (λ is. omega (arith, none, is.0))
  go (inr some) (inl few) = inl (some, few)
  go (inr some) (inr many) = inr (λ is. omega (arith, many, is.1))

type_small : (value : WireValue) → wire_type value < 8
type_small (VarintValue number) = omega arith
type_small (Fixed64Value number) = omega arith
type_small (BytesValue bytes) = omega arith
type_small (Fixed32Value number) = omega arith

abbrev FieldThere : List ℕ → WireField → List ℕ → Type 0
FieldThere text field rest = (spelling : List ℕ) × (text ≡ spelling ++ rest) × IsFieldOf spelling field

field_there : (place key : ℕ) (text left : List ℕ) (value : WireValue) (rest : List ℕ) → HasVarint text key left → IsFieldNumber (key / 8)
    → ValueThere (key % 8) left value rest → FieldThere text (record { number = key / 8; value = value }) rest
field_there place key text left value rest v number there =
    let whole : text ≡ (v.0 ++ there.1) ++ rest = v.1 ∙ ap (λ (left : List ℕ). v.0 ++ left) there.2 ∙ sym (append_assoc v.0 there.1 rest) in
    let same : key ≡ 8 * (key / 8) + wire_type value = omega (arith, there.0) in (
      v.0 ++ there.1,
      whole,
      record {
        numbered = number;
        key = v.0;
        value = there.1;
        bytes = refl;
        is_key = subst (λ (n : ℕ). IsVarintOf v.0 n) same v.2;
        is_value = there.3;
      },
    )

field_found : (place : ℕ) (text : List ℕ) (field : WireField) (rest : List ℕ) → field_at place text ≡ Ok (field, rest) → FieldThere text field rest
unfolding field_at
field_found place text field rest is =
    let next = then_found (after_key place) (varint_at place text) field rest is in
    go next.0 next.1 (varint_found place text next.0 next.1 next.2) next.3 (numbered (next.0 / 8)) where
      go : (key : ℕ) (left : List ℕ) → HasVarint text key left → after_key place key left ≡ Ok (field, rest) → IsFieldNumber (key / 8) ⊎ (IsFieldNumber (key / 8) → ⊥)
          → FieldThere text field rest
      go key left v here (inl number) =
          let was = as_found (λ (value : WireValue). record { number = key / 8; value = value }) (value_at place (key % 8) left) field rest
          (sym (key_fits place key left number.0 number.1) ∙ here) in
          subst (λ (field : WireField). FieldThere text field rest) (sym was.2)
          (field_there place key text left was.0 rest v number (value_found place (key % 8) left was.0 rest (omega arith) was.1))
      go key left v here (inr beyond) =
          (let both : ◌≡◌ {A = Found WireField} (Err (FieldNumber place)) (Ok (field, rest)) = sym (key_beyond place key left (λ some few. beyond (some, few))) ∙ here in absurd (cc))

field_finds : (place : ℕ) (spelling : List ℕ) (field : WireField) (rest : List ℕ) → IsFieldOf spelling field → field_at place (spelling ++ rest) ≡ Ok (field, rest)
unfolding field_at
field_finds place spelling field rest is =
    let type = wire_type field.value in
    let key = 8 * field.number + type in
    let small : type < 8 = type_small field.value in
    let text : spelling ++ rest ≡ is.key ++ (is.value ++ rest) = ap (λ (s : List ℕ). s ++ rest) is.bytes ∙ append_assoc is.key is.value rest in
    let number : key / 8 ≡ field.number = omega (arith, small) in
    let kind : key % 8 ≡ type = omega (arith, small) in
    let found : value_at place (key % 8) (is.value ++ rest) ≡ Ok (field.value, rest) =
    ap (λ (type : ℕ). value_at place type (is.value ++ rest)) kind ∙ value_finds place is.value field.value rest is.is_value in
    ap (λ (text : List ℕ). found_then (after_key place) (varint_at place text)) text
    ∙ ap (found_then (after_key place)) (varint_finds place is.key key (is.value ++ rest) is.is_key)
    ∙ key_value place key (is.value ++ rest) field.value rest (omega (arith, number, is.numbered.0)) (omega (arith, number, is.numbered.1)) found
    ∙ ap (λ (n : ℕ). Ok (record { number = n; value = field.value }, rest)) number

field_fault : (place : ℕ) (text : List ℕ) (fault : WireFault) → field_at place text ≡ Err fault → IsFieldFault place text fault
unfolding field_at
field_fault place text fault is = go (then_fault (after_key place) (varint_at place text) fault is) where
  behind : (key : ℕ) (left : List ℕ) → after_key place key left ≡ Err fault → IsFieldNumber (key / 8) ⊎ (IsFieldNumber (key / 8) → ⊥) → IsFaultAfterKey place key left fault
  behind key left here (inl number) =
      inr (
        number,
        value_fault place (key % 8) left fault (omega arith)
            (as_fault (λ (value : WireValue). record { number = key / 8; value = value }) (value_at place (key % 8) left) fault (sym (key_fits place key left number.0 number.1) ∙ here)),
      )
  behind key left here (inr beyond) =
      let both : ◌≡◌ {A = Found WireField} (Err (FieldNumber place)) (Err fault) = sym (key_beyond place key left (λ some few. beyond (some, few))) ∙ here in
      let same : fault ≡ FieldNumber place = cc in
      inl (same, beyond)

  go : (varint_at place text ≡ Err fault) ⊎ ((key : ℕ) × (left : List ℕ) × (varint_at place text ≡ Ok (key, left)) × (after_key place key left ≡ Err fault)) → IsFieldFault place text fault
  go (inl none) = inl (varint_fault place text fault none)
  go (inr some) = inr (some.0, some.1, varint_found place text some.0 some.1 some.2, behind some.0 some.1 some.3 (numbered (some.0 / 8)))

after_faults : (place key : ℕ) (left : List ℕ) (fault : WireFault) → IsFaultAfterKey place key left fault → after_key place key left ≡ Err fault
after_faults place key left fault (inl (same, beyond)) =
    key_beyond place key left (λ some few. beyond (some, few)) ∙ ap (λ (fault : WireFault). Err fault) (sym same)
after_faults place key left fault (inr (number, wrong)) =
    key_fault place key left fault number.0 number.1 (value_faults place (key % 8) left fault wrong)

field_faults : (place : ℕ) (text : List ℕ) (fault : WireFault) → IsFieldFault place text fault → field_at place text ≡ Err fault
unfolding field_at
field_faults place text fault (inl wrong) = ap (found_then (after_key place)) (varint_faults place text fault wrong)
field_faults place text fault (inr (key, left, v, wrong)) =
    ap (λ (text : List ℕ). found_then (after_key place) (varint_at place text)) v.1
    ∙ ap (found_then (after_key place)) (varint_finds place v.0 key left v.2)
    ∙ after_faults place key left fault wrong

field_some : (spelling : List ℕ) (field : WireField) → IsFieldOf spelling field → 0 < length spelling
field_some spelling field is =
    omega (arith, ap length is.bytes, length-append is.key is.value, varint_some is.key (8 * field.number + wire_type field.value) is.is_key)

pub fields_exact : IsExact field_at IsFieldOf IsFieldFault
fields_exact = record { found = field_found; finds = field_finds; fault = field_fault; faults = field_faults; some = field_some }

pub field_shrinks : Shrinks field_at
field_shrinks = shrinks field_at IsFieldOf IsFieldFault fields_exact
