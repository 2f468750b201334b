-- A varint is read exactly where one stands, and otherwise its fault is told.
use Rattle.std.proofs.Common.{◌≡◌, ◌⊎◌, ℕ, zero, suc, ◌+◌, ◌*◌, ◌%◌, ◌^◌, ◌<◌, ◌≤◌, List, [], ◌∷◌, ◌++◌, length, Ok, Err, inl, inr, refl, sym, ap, ◌∙◌, subst, length-append, arith}
use Rattle.std.proofs.lemmas.Bool.{cases_lt}
use Rattle.std.proofs.lemmas.Bool.Decides.{nat_tests}
use Rattle.proto_wire.specs.declared.fault.WireFault.{WireFault}
use Rattle.proto_wire.specs.declared.fault.WireFault.TheVariants.{Cut, LongVarint, WireType, FieldNumber}
use Rattle.proto_wire.specs.Wire.{AllGoOn, number_of_sevens, IsVarintOf, HasVarint, IsVarintFault}
use Rattle.proto_wire.specs.Reading.{Found, found_as, last_below, varint_in, varint_at}
use Rattle.proto_wire.proofs.VarintFacts.{varint_last, varint_more}
use Rattle.proto_wire.proofs.ItemFacts.{IsExact, Shrinks, shrinks}

-- a varint of at most so many bytes, byte by byte
abbrev pub VarintIn : ℕ → List ℕ → ℕ → Type 0
VarintIn zero spelling number = ⊥
VarintIn (suc room) [] number = ⊥
VarintIn (suc room) (byte ∷ bytes) number =
    ((bytes ≡ []) × (byte < last_below room) × (number ≡ byte))
    ⊎ ((last_below room ≤ byte) × (later : ℕ) × VarintIn room bytes later × (number ≡ byte % 128 + 128 * later))

pub ok_both : {A : Type 0} (a b : A) (r s : List ℕ) → ◌≡◌ {A = Found A} (Ok (a, r)) (Ok (b, s)) → (a ≡ b) × (r ≡ s)
ok_both {A} a b r s is =
    let both : ◌≡◌ {A = A × List ℕ} (a, r) (b, s) = cc in
    (ap (λ (p : A × List ℕ). p.0) both, ap (λ (p : A × List ℕ). p.1) both)

found_of : (f : ℕ → ℕ) (found : Found ℕ) (number : ℕ) (rest : List ℕ) → found_as f found ≡ Ok (number, rest) → (later : ℕ) × (found ≡ Ok (later, rest)) × (number ≡ f later)
found_of f (Ok (later, left)) number rest is =
    let both = ok_both (f later) number left rest is in
    (later, ap (λ (rest : List ℕ). Ok (later, rest)) both.1, sym both.0)
found_of f (Err fault) number rest is = absurd (cc)

fault_of : (f : ℕ → ℕ) (found : Found ℕ) (fault : WireFault) → found_as f found ≡ Err fault → found ≡ Err fault
fault_of f (Ok (later, left)) fault is = absurd (cc)
fault_of f (Err other) fault is = is

found_in : (room place : ℕ) (text : List ℕ) (number : ℕ) (rest : List ℕ) → varint_in room place text ≡ Ok (number, rest)
    → (spelling : List ℕ) × (text ≡ spelling ++ rest) × VarintIn room spelling number
found_in zero place text number rest is = absurd (cc)
found_in (suc room) place [] number rest is = absurd (cc)
found_in (suc room) place (byte ∷ bytes) number rest is = go (cases_lt byte (last_below room)) (λ later left. found_in room place bytes later left) where
  go : (byte < last_below room) ⊎ (last_below room ≤ byte)
      → ((later : ℕ) (left : List ℕ) → varint_in room place bytes ≡ Ok (later, left) → (spelling : List ℕ) × (bytes ≡ spelling ++ left) × VarintIn room spelling later)
      → (spelling : List ℕ) × (byte ∷ bytes ≡ spelling ++ rest) × VarintIn (suc room) spelling number
  go (inl below) again =
      let both = ok_both byte number bytes rest (sym (varint_last room place byte bytes below) ∙ is) in
      (byte ∷ [], ap (λ (rest : List ℕ). byte ∷ rest) both.1, inl (refl, below, sym both.0))
  go (inr above) again =
      let later = found_of (λ number. byte % 128 + 128 * number) (varint_in room place bytes) number rest (sym (varint_more room place byte bytes above) ∙ is) in
      let found = again later.0 rest later.1 in
      (byte ∷ found.0, ap (λ (rest : List ℕ). byte ∷ rest) found.1, inr (above, later.0, found.2, later.2))

finds_in : (room place : ℕ) (spelling : List ℕ) (number : ℕ) (rest : List ℕ) → VarintIn room spelling number → varint_in room place (spelling ++ rest) ≡ Ok (number, rest)
finds_in zero place spelling number rest is = absurd is
finds_in (suc room) place [] number rest is = absurd is
finds_in (suc room) place (byte ∷ bytes) number rest (inl last) =
    varint_last room place byte (bytes ++ rest) last.1
    ∙ ap (λ (bytes : List ℕ). Ok (byte, bytes ++ rest)) last.0
    ∙ ap (λ (number : ℕ). Ok (number, rest)) (sym last.2)
finds_in (suc room) place (byte ∷ bytes) number rest (inr more) =
    varint_more room place byte (bytes ++ rest) more.0
    ∙ ap (found_as (λ number. byte % 128 + 128 * number)) (finds_in room place bytes more.1 rest more.2)
    ∙ ap (λ (number : ℕ). Ok (number, rest)) (sym more.3)

pub below_128 : (room : ℕ) → last_below room ≤ 128
below_128 room = grind (arith, nat_tests)

pub room_128 : (room : ℕ) → 0 < room → last_below room ≡ 128
room_128 room some = grind (arith, nat_tests)

power_more : (room : ℕ) → 128 ^ suc room ≡ 128 ^ room * 128
power_more room = grind arith

power_some : (room : ℕ) → 1 ≤ 128 ^ room
power_some zero = omega arith
power_some (suc room) = omega (arith, power_some room, power_more room)

-- a last byte is worth no more than there is room for
last_fits : (room byte : ℕ) → byte < last_below room → byte < 2 * 128 ^ room
last_fits zero byte below = (let small : byte < 2 = below in omega arith)
last_fits (suc room) byte below =
    omega (arith, room_128 (suc room) (omega arith), below, power_some room, power_more room)

-- What a varint is like after whose first byte so many may follow.
pub record Spelled (room : ℕ) (spelling : List ℕ) (number : ℕ) : Type 0 where
  front : List ℕ
  last : ℕ
  bytes : spelling ≡ front ++ last ∷ []
  goes_on : AllGoOn front
  ends : last < 128
  short : length spelling ≤ room + 1
  value : number ≡ number_of_sevens spelling
  fits : number < 2 * 128 ^ room

spelled_in : (room : ℕ) (spelling : List ℕ) (number : ℕ) → VarintIn (suc room) spelling number → Spelled room spelling number
spelled_in room [] number is = absurd is
spelled_in room (byte ∷ bytes) number (inl last) =
    let small : byte < 128 = omega (arith, below_128 room, last.1) in record {
      front = [];
      last = byte;
      bytes = ap (λ (bytes : List ℕ). byte ∷ bytes) last.0;
      goes_on = tt;
      ends = small;
      short = omega (arith, ap length last.0);
      value = (let none : number_of_sevens bytes ≡ 0 = ap number_of_sevens last.0 in omega (arith, last.2));
      fits = subst (λ (n : ℕ). n < 2 * 128 ^ room) (sym last.2) (last_fits room byte last.1);
    }
spelled_in zero (byte ∷ bytes) number (inr more) = absurd more.2
spelled_in (suc room) (byte ∷ bytes) number (inr more) =
    let later = spelled_in room bytes more.1 more.2 in
    let above : 128 ≤ byte = omega (arith, room_128 (suc room) (omega arith), more.0) in record {
      front = byte ∷ later.front;
      last = later.last;
      bytes = ap (λ (bytes : List ℕ). byte ∷ bytes) later.bytes;
      goes_on = (above, later.goes_on);
      ends = later.ends;
      short = omega (arith, later.short);
      value = omega (arith, later.value, more.3);
      fits = omega (arith, later.fits, more.3, power_more room);
    }

-- and what is like this is such a varint
in_spelled : (room : ℕ) (front : List ℕ) (last number : ℕ) → AllGoOn front → last < 128 → length front ≤ room → number ≡ number_of_sevens (front ++ last ∷ []) → number < 2 * 128 ^ room
    → VarintIn (suc room) (front ++ last ∷ []) number
in_spelled zero [] last number goes_on ends short value fits =
    let is : number ≡ last = omega (arith, value, ends) in
    inl (refl, omega (arith, fits, is), is)
in_spelled (suc room) [] last number goes_on ends short value fits =
    let is : number ≡ last = omega (arith, value, ends) in
    inl (refl, omega (arith, room_128 (suc room) (omega arith), ends), is)
in_spelled zero (byte ∷ front) last number goes_on ends short value fits = absurd (omega (arith, short))
in_spelled (suc room) (byte ∷ front) last number goes_on ends short value fits =
    let later = number_of_sevens (front ++ last ∷ []) in
    let less : later < 2 * 128 ^ room = omega (arith, fits, value, power_more room) in
    inr (omega (arith, room_128 (suc room) (omega arith), goes_on.0), later, in_spelled room front last later goes_on.1 ends (omega (arith, short)) refl less, value)

-- a varint within ten bytes is one of the definition
pub varint_spelled : (spelling : List ℕ) (number : ℕ) → VarintIn 10 spelling number → IsVarintOf spelling number
varint_spelled spelling number is =
    let s = spelled_in 9 spelling number is in record {
      front = s.front;
      last = s.last;
      bytes = s.bytes;
      goes_on = s.goes_on;
      ends = s.ends;
      short = omega (arith, s.short);
      value = s.value;
      fits = omega (arith, s.fits);
    }

pub spelled_varint : (spelling : List ℕ) (number : ℕ) → IsVarintOf spelling number → VarintIn 10 spelling number
spelled_varint spelling number s =
    let short : length s.front ≤ 9 = omega (arith, s.short, ap length s.bytes, length-append s.front (s.last ∷ [])) in
    subst (λ (spelling : List ℕ). VarintIn 10 spelling number) (sym s.bytes)
    (in_spelled 9 s.front s.last number s.goes_on s.ends short (s.value ∙ ap number_of_sevens s.bytes) (omega (arith, s.fits)))

-- ---- what is wrong where no varint stands
-- the fault of a text, after whose first byte so many may follow
abbrev FaultIn : ℕ → ℕ → List ℕ → WireFault → Type 0
FaultIn room place text (Cut at) = (at ≡ place) × AllGoOn text × (length text < room + 1)
FaultIn room place text (LongVarint at) =
    (at ≡ place) × (front : List ℕ) × (byte : ℕ) × (rest : List ℕ) × (text ≡ front ++ byte ∷ rest) × (length front ≡ room) × AllGoOn front × (1 < byte)
FaultIn room place text (WireType at) = ⊥
FaultIn room place text (FieldNumber at) = ⊥

-- one byte before a fault
fault_after : (room place byte : ℕ) (bytes : List ℕ) (fault : WireFault) → 128 ≤ byte → FaultIn room place bytes fault → FaultIn (suc room) place (byte ∷ bytes) fault
fault_after room place byte bytes (Cut at) above is = (is.0, (above, is.1), omega (arith, is.2))
fault_after room place byte bytes (LongVarint at) above is =
    (is.0, byte ∷ is.1, is.2, is.3, ap (λ (bytes : List ℕ). byte ∷ bytes) is.4, omega (arith, is.5), (above, is.6), is.7)
fault_after room place byte bytes (WireType at) above is = absurd is
fault_after room place byte bytes (FieldNumber at) above is = absurd is

first_fault : (place : ℕ) (fault : WireFault) → ◌≡◌ {A = Found ℕ} (Err (LongVarint place)) (Err fault) → (byte : ℕ) (bytes : List ℕ) → 1 < byte → FaultIn 0 place (byte ∷ bytes) fault
first_fault place (Cut at) is byte bytes above = absurd (cc)
first_fault place (LongVarint at) is byte bytes above =
    let same : at ≡ place = cc in
    (same, [], byte, bytes, refl, refl, tt, above)
first_fault place (WireType at) is byte bytes above = absurd (cc)
first_fault place (FieldNumber at) is byte bytes above = absurd (cc)

end_fault : (room place : ℕ) (fault : WireFault) → ◌≡◌ {A = Found ℕ} (Err (Cut place)) (Err fault) → FaultIn room place [] fault
end_fault room place (Cut at) is = (let same : at ≡ place = cc in (same, tt, omega arith))
end_fault room place (LongVarint at) is = absurd (cc)
end_fault room place (WireType at) is = absurd (cc)
end_fault room place (FieldNumber at) is = absurd (cc)

fault_in : (room place : ℕ) (text : List ℕ) (fault : WireFault) → varint_in (suc room) place text ≡ Err fault → FaultIn room place text fault
fault_in room place [] fault is = end_fault room place fault is
fault_in zero place (byte ∷ bytes) fault is = go (cases_lt byte (last_below 0)) where
  go : (byte < last_below 0) ⊎ (last_below 0 ≤ byte) → FaultIn 0 place (byte ∷ bytes) fault
  go (inl below) = (let both : ◌≡◌ {A = Found ℕ} (Ok (byte, bytes)) (Err fault) = sym (varint_last 0 place byte bytes below) ∙ is in absurd (cc))
  go (inr above) = first_fault place fault (sym (varint_more 0 place byte bytes above) ∙ is) byte bytes above
fault_in (suc room) place (byte ∷ bytes) fault is =
    go (cases_lt byte (last_below (suc room))) (fault_in room place bytes fault) where
      go : (byte < last_below (suc room)) ⊎ (last_below (suc room) ≤ byte) → (varint_in (suc room) place bytes ≡ Err fault → FaultIn room place bytes fault)
          → FaultIn (suc room) place (byte ∷ bytes) fault
      go (inl below) again = (let both : ◌≡◌ {A = Found ℕ} (Ok (byte, bytes)) (Err fault) = sym (varint_last (suc room) place byte bytes below) ∙ is in absurd (cc))
      go (inr above) again =
          let later = fault_of (λ number. byte % 128 + 128 * number) (varint_in (suc room) place bytes) fault (sym (varint_more (suc room) place byte bytes above) ∙ is) in
          fault_after room place byte bytes fault (omega (arith, room_128 (suc room) (omega arith), above)) (again later)

-- and a fault that is there is told
long_in : (room place byte : ℕ) (front rest : List ℕ) → length front ≡ room → AllGoOn front → 1 < byte → varint_in (suc room) place (front ++ byte ∷ rest) ≡ Err (LongVarint place)
long_in zero place byte [] rest count goes_on above = varint_more 0 place byte rest above
long_in (suc room) place byte [] rest count goes_on above = absurd (omega (arith, count))
long_in zero place byte (first ∷ front) rest count goes_on above = absurd (omega (arith, count))
long_in (suc room) place byte (first ∷ front) rest count goes_on above =
    varint_more (suc room) place first (front ++ byte ∷ rest) (omega (arith, room_128 (suc room) (omega arith), goes_on.0))
    ∙ ap (found_as (λ number. first % 128 + 128 * number)) (long_in room place byte front rest (omega (arith, count)) goes_on.1 above)

cut_in : (room place : ℕ) (text : List ℕ) → AllGoOn text → length text < room + 1 → varint_in (suc room) place text ≡ Err (Cut place)
cut_in room place [] goes_on few = refl
cut_in zero place (byte ∷ bytes) goes_on few = absurd (omega (arith, few))
cut_in (suc room) place (byte ∷ bytes) goes_on few =
    varint_more (suc room) place byte bytes (omega (arith, room_128 (suc room) (omega arith), goes_on.0))
    ∙ ap (found_as (λ number. byte % 128 + 128 * number)) (cut_in room place bytes goes_on.1 (omega (arith, few)))

-- ---- of whole varints
pub varint_found : (place : ℕ) (text : List ℕ) (number : ℕ) (rest : List ℕ) → varint_at place text ≡ Ok (number, rest) → HasVarint text number rest
unfolding varint_at
varint_found place text number rest is =
    let found = found_in 10 place text number rest is in
    (found.0, found.1, varint_spelled found.0 number found.2)

pub varint_finds : (place : ℕ) (spelling : List ℕ) (number : ℕ) (rest : List ℕ) → IsVarintOf spelling number → varint_at place (spelling ++ rest) ≡ Ok (number, rest)
unfolding varint_at
varint_finds place spelling number rest is = finds_in 10 place spelling number rest (spelled_varint spelling number is)

ten_fault : (place : ℕ) (text : List ℕ) (fault : WireFault) → FaultIn 9 place text fault → IsVarintFault place text fault
ten_fault place text (Cut at) is = (is.0, is.1, omega (arith, is.2))
ten_fault place text (LongVarint at) is = is
ten_fault place text (WireType at) is = is
ten_fault place text (FieldNumber at) is = is

pub varint_fault : (place : ℕ) (text : List ℕ) (fault : WireFault) → varint_at place text ≡ Err fault → IsVarintFault place text fault
unfolding varint_at
varint_fault place text fault is = ten_fault place text fault (fault_in 9 place text fault is)

pub varint_faults : (place : ℕ) (text : List ℕ) (fault : WireFault) → IsVarintFault place text fault → varint_at place text ≡ Err fault
unfolding varint_at
varint_faults place text (Cut at) is =
    cut_in 9 place text is.1 (omega (arith, is.2)) ∙ ap (λ (at : ℕ). Err (Cut at)) (sym is.0)
varint_faults place text (LongVarint at) is =
    ap (varint_in 10 place) is.4 ∙ long_in 9 place is.2 is.1 is.3 is.5 is.6 is.7 ∙ ap (λ (at : ℕ). Err (LongVarint at)) (sym is.0)
varint_faults place text (WireType at) is = absurd is
varint_faults place text (FieldNumber at) is = absurd is

pub varint_some : (spelling : List ℕ) (number : ℕ) → IsVarintOf spelling number → 0 < length spelling
varint_some spelling number is = omega (arith, ap length is.bytes, length-append is.front (is.last ∷ []))

pub varints_exact : IsExact varint_at IsVarintOf IsVarintFault
varints_exact = record { found = varint_found; finds = varint_finds; fault = varint_fault; faults = varint_faults; some = varint_some }

pub varint_shrinks : Shrinks varint_at
varint_shrinks = shrinks varint_at IsVarintOf IsVarintFault varints_exact
