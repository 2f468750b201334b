-- What stands behind a key, by its number and its wire type.
use Rattle.std.proofs.Common.{◌≡◌, ◌⊎◌, ℕ, ◌/◌, ◌%◌, ◌^◌, ◌<◌, ◌≤◌, true, false, eqb, ltb, leb, ◌&&◌, List, Ok, Err, inl, inr, refl, ap, ◌∙◌, arith}
use Rattle.std.proofs.lemmas.Bool.{cases_lt}
use Rattle.std.proofs.lemmas.Bool.Decides.{nat_tests}
use Rattle.proto_wire.specs.declared.fault.WireFault.{WireFault}
use Rattle.proto_wire.specs.declared.fault.WireFault.TheVariants.{WireType, FieldNumber}
use Rattle.proto_wire.specs.Wire.{WireValue}
use Rattle.proto_wire.specs.Reading.{found_as, after_key, value_at}

pub other_type : (place type : ℕ) (text : List ℕ) → (type ≡ 0 → ⊥) → (type ≡ 1 → ⊥) → (type ≡ 2 → ⊥) → (type ≡ 5 → ⊥)
    → value_at place type text ≡ Err (WireType place)
unfolding value_at
other_type place type text a b c d =
    let t0 : eqb type 0 ≡ false = grind (arith, nat_tests) in
    let t1 : eqb type 1 ≡ false = grind (arith, nat_tests) in
    let t2 : eqb type 2 ≡ false = grind (arith, nat_tests) in
    let t5 : eqb type 5 ≡ false = grind (arith, nat_tests) in
    rw (t0, t1, t2, t5) refl

at_least : (number limit : ℕ) → (number < limit → ⊥) → limit ≤ number
at_least number limit never = go (cases_lt number limit) where
  go : (number < limit) ⊎ (limit ≤ number) → limit ≤ number
  go (inl below) = absurd (never below)
  go (inr above) = above

-- a key with a field number
pub key_fits : (place key : ℕ) (rest : List ℕ) → 1 ≤ key / 8 → key / 8 < 2 ^ 29
    → after_key place key rest ≡ found_as (λ (value : WireValue). record { number = key / 8; value = value }) (value_at place (key % 8) rest)
key_fits place key rest some few =
    let first : leb 1 (key / 8) ≡ true = grind (arith, nat_tests) in
    let last : ltb (key / 8) (2 ^ 29) ≡ true = grind (arith, nat_tests) in
    rw (first, last) refl

pub key_value : (place key : ℕ) (rest : List ℕ) (value : WireValue) (left : List ℕ) → 1 ≤ key / 8 → key / 8 < 2 ^ 29 → value_at place (key % 8) rest ≡ Ok (value, left)
    → after_key place key rest ≡ Ok (record { number = key / 8; value = value }, left)
key_value place key rest value left some few is =
    key_fits place key rest some few ∙ ap (found_as (λ (value : WireValue). record { number = key / 8; value = value })) is

pub key_fault : (place key : ℕ) (rest : List ℕ) (fault : WireFault) → 1 ≤ key / 8 → key / 8 < 2 ^ 29 → value_at place (key % 8) rest ≡ Err fault
    → after_key place key rest ≡ Err fault
key_fault place key rest fault some few is =
    key_fits place key rest some few ∙ ap (found_as (λ (value : WireValue). record { number = key / 8; value = value })) is

-- a key without one
not_within : (number : ℕ) → (1 ≤ number → number < 2 ^ 29 → ⊥) → (leb 1 number && ltb number (2 ^ 29)) ≡ false
not_within number beyond = go (cases_lt number 1) where
  go : (number < 1) ⊎ (1 ≤ number) → (leb 1 number && ltb number (2 ^ 29)) ≡ false
  go (inl below) = (let first : leb 1 number ≡ false = grind (arith, nat_tests) in rw first refl)
  go (inr some) =
      let first : leb 1 number ≡ true = grind (arith, nat_tests) in
      let above : 2 ^ 29 ≤ number = at_least number (2 ^ 29) (beyond some) in
      let last : ltb number (2 ^ 29) ≡ false = grind (arith, nat_tests) in
      rw (first, last) refl

pub key_beyond : (place key : ℕ) (rest : List ℕ) → (1 ≤ key / 8 → key / 8 < 2 ^ 29 → ⊥) → after_key place key rest ≡ Err (FieldNumber place)
key_beyond place key rest beyond = rw (not_within (key / 8) beyond) refl
