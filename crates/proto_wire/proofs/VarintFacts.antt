-- How a varint is read byte by byte.
use Rattle.std.proofs.Common.{◌≡◌, ◌⊎◌, ℕ, suc, ◌+◌, ◌-◌, ◌*◌, ◌%◌, ◌^◌, ◌<◌, ◌≤◌, true, false, ltb, List, ◌∷◌, length, get_or, drop, Ok, Err, refl, sym, ap, ◌∙◌, add-one, arith}
use Rattle.std.proofs.lemmas.Bool.Decides.{nat_tests}
use Rattle.std.proofs.lemmas.List.{drop_more, drop_all}
use Rattle.std.proofs.Math.Nat.{mul-le-mul_right}
use Rattle.proto_wire.specs.declared.fault.WireFault.TheVariants.{Cut, LongVarint}
use Rattle.proto_wire.specs.Reading.{Found, found_as, last_below, varint_in}

-- a byte that is the last
pub varint_last : (room place byte : ℕ) (rest : List ℕ) → byte < last_below room → varint_in (suc room) place (byte ∷ rest) ≡ Ok (byte, rest)
varint_last room place byte rest below =
    let test : ltb byte (last_below room) ≡ true = grind (arith, nat_tests) in
    rw test refl

-- a byte after which the varint goes on
pub varint_more : (room place byte : ℕ) (rest : List ℕ) → last_below room ≤ byte
    → varint_in (suc room) place (byte ∷ rest) ≡ found_as (λ number. byte % 128 + 128 * number) (varint_in room place rest)
varint_more room place byte rest above =
    let test : ltb byte (last_below room) ≡ false = grind (arith, nat_tests) in
    rw test refl

-- the number of the bytes so far, and the worth of the next one
abbrev pub after_sevens : ℕ → ℕ → Found ℕ → Found ℕ
after_sevens number worth found = found_as (λ later. number + worth * later) found

after_seven_more : (number worth byte : ℕ) (found : Found ℕ)
    → after_sevens number worth (found_as (λ later. byte % 128 + 128 * later) found) ≡ after_sevens (number + byte % 128 * worth) (worth * 128) found
after_seven_more number worth byte (Ok (later, rest)) =
    let same : number + worth * (byte % 128 + 128 * later) ≡ number + byte % 128 * worth + worth * 128 * later = omega arith in
    ap (λ (n : ℕ). Ok (n, rest)) same
after_seven_more number worth byte (Err fault) = refl

pub after_none : (found : Found ℕ) → found ≡ after_sevens 0 1 found
after_none (Ok (later, rest)) =
    let same : later ≡ 0 + 1 * later = omega arith in
    ap (λ (n : ℕ). Ok (n, rest)) same
after_none (Err fault) = refl

byte_next : (bytes : List ℕ) (i : ℕ) → i < length bytes → drop i bytes ≡ get_or bytes i 0 ∷ drop (i + 1) bytes
byte_next bytes i within = drop_more bytes i 0 within

room_left : (i : ℕ) → i ≤ 9 → 10 - i ≡ suc (9 - i)
room_left i few = omega arith

-- the byte at a place is the last one
pub ends_here : (place i number worth byte : ℕ) (bytes : List ℕ) → i < length bytes → i ≤ 9 → byte ≡ get_or bytes i 0 → byte < last_below (9 - i)
    → after_sevens number worth (varint_in (10 - i) place (drop i bytes)) ≡ Ok (number + worth * byte, drop (i + 1) bytes)
ends_here place i number worth byte bytes within few is below =
    let text : drop i bytes ≡ byte ∷ drop (i + 1) bytes = byte_next bytes i within ∙ ap (λ (b : ℕ). b ∷ drop (i + 1) bytes) (sym is) in
    ap (λ (room : ℕ). after_sevens number worth (varint_in room place (drop i bytes))) (room_left i few)
    ∙ ap (λ (text : List ℕ). after_sevens number worth (varint_in (suc (9 - i)) place text)) text
    ∙ ap (after_sevens number worth) (varint_last (9 - i) place byte (drop (i + 1) bytes) below)

-- the varint goes on after the byte at a place
pub goes_on : (place i number worth byte : ℕ) (bytes : List ℕ) → i < length bytes → i ≤ 9 → byte ≡ get_or bytes i 0 → last_below (9 - i) ≤ byte
    → after_sevens number worth (varint_in (10 - i) place (drop i bytes))
    ≡ after_sevens (number + byte % 128 * worth) (worth * 128) (varint_in (9 - i) place (drop (i + 1) bytes))
goes_on place i number worth byte bytes within few is above =
    let text : drop i bytes ≡ byte ∷ drop (i + 1) bytes = byte_next bytes i within ∙ ap (λ (b : ℕ). b ∷ drop (i + 1) bytes) (sym is) in
    ap (λ (room : ℕ). after_sevens number worth (varint_in room place (drop i bytes))) (room_left i few)
    ∙ ap (λ (text : List ℕ). after_sevens number worth (varint_in (suc (9 - i)) place text)) text
    ∙ ap (after_sevens number worth) (varint_more (9 - i) place byte (drop (i + 1) bytes) above)
    ∙ after_seven_more number worth byte (varint_in (9 - i) place (drop (i + 1) bytes))

-- the text ends before the varint does
pub cut_here : (place i number worth : ℕ) (bytes : List ℕ) → length bytes ≤ i → i ≤ 9
    → after_sevens number worth (varint_in (10 - i) place (drop i bytes)) ≡ Err (Cut place)
cut_here place i number worth bytes past few =
    ap (λ (room : ℕ). after_sevens number worth (varint_in room place (drop i bytes))) (room_left i few)
    ∙ ap (λ (text : List ℕ). after_sevens number worth (varint_in (suc (9 - i)) place text)) (drop_all i bytes past)

-- the tenth byte is too great
pub too_long : (place number worth byte : ℕ) (bytes : List ℕ) → 9 < length bytes → byte ≡ get_or bytes 9 0 → 1 < byte
    → after_sevens number worth (varint_in 1 place (drop 9 bytes)) ≡ Err (LongVarint place)
too_long place number worth byte bytes within is above =
    goes_on place 9 number worth byte bytes within (omega arith) is (omega arith)

-- where a byte is the last
pub is_last : (i byte : ℕ) → i ≤ 9 → byte < 128 → ((i ≡ 9) × (byte ≤ 1)) ⊎ (i ≡ 9 → ⊥) → byte < last_below (9 - i)
is_last i byte few below which = grind (arith, nat_tests)

pub is_not_last : (i byte : ℕ) → i ≤ 9 → 128 ≤ byte → last_below (9 - i) ≤ byte
is_not_last i byte few above = grind (arith, nat_tests)

-- one byte more is worth 128 times as much
pub worth_more : (i worth : ℕ) → worth ≡ 128 ^ i → worth * 128 ≡ 128 ^ (i + 1)
worth_more i worth is =
    let power : 128 ^ suc i ≡ 128 ^ i * 128 = grind arith in
    rw add-one (omega (arith, power))

pub number_more : (number worth byte : ℕ) → number < worth → number + byte % 128 * worth < worth * 128
number_more number worth byte below =
    let seven : byte % 128 ≤ 127 = omega arith in
    omega (arith, mul-le-mul_right worth seven)
