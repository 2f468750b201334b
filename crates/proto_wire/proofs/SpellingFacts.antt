-- How a number is spelled byte by byte.
use Rattle.std.proofs.Common.{◌≡◌, ℕ, zero, suc, ◌+◌, ◌-◌, ◌*◌, ◌/◌, ◌%◌, ◌^◌, ◌<◌, ◌≤◌, true, false, ltb, List, [], ◌∷◌, ◌++◌, length, take, set, refl, sym, ap, ◌∙◌, arith}
use Rattle.std.proofs.lemmas.Bool.Decides.{nat_tests}
use Rattle.std.proofs.lemmas.List.{append_assoc, take_more_set}
use Rattle.proto_wire.specs.Spelling.{sevens_of}

-- a number that takes one byte, and one that takes more
pub sevens_last : (more number : ℕ) → number < 128 → sevens_of more number ≡ number ∷ []
sevens_last zero number below = refl
sevens_last (suc more) number below =
    let test : ltb number 128 ≡ true = grind (arith, nat_tests) in
    rw test refl

pub sevens_more : (more number : ℕ) → 128 ≤ number → sevens_of (suc more) number ≡ (number % 128 + 128) ∷ sevens_of more (number / 128)
sevens_more more number above =
    let test : ltb number 128 ≡ false = grind (arith, nat_tests) in
    rw test refl

-- a number of at least 128 has room for one byte more, and fewer bits after it
pub room_more : (last number : ℕ) → last ≤ 9 → number < 2 * 128 ^ (9 - last) → 128 ≤ number → last ≤ 8
room_more last number few fits above = grind arith

pub fits_later : (more number : ℕ) → number < 2 * 128 ^ suc more → number / 128 < 2 * 128 ^ more
fits_later more number fits =
    let power : 128 ^ suc more ≡ 128 ^ more * 128 = grind arith in
    omega (arith, power)

pub fits_more : (last number : ℕ) → last ≤ 8 → number < 2 * 128 ^ (9 - last) → number / 128 < 2 * 128 ^ (9 - (last + 1))
fits_more last number few fits =
    let room : 9 - last ≡ suc (9 - (last + 1)) = omega arith in
    fits_later (9 - (last + 1)) number (rw room at fits)

pub spelled_more : (last number : ℕ) (bytes : List ℕ) → last < length bytes → last ≤ 8 → 128 ≤ number
    → take last bytes ++ sevens_of (9 - last) number ≡ take (last + 1) (set bytes last (number % 128 + 128)) ++ sevens_of (9 - (last + 1)) (number / 128)
spelled_more last number bytes within few above =
    let byte = number % 128 + 128 in
    let later = sevens_of (9 - (last + 1)) (number / 128) in
    let room : 9 - last ≡ suc (9 - (last + 1)) = omega arith in
    ap (λ (more : ℕ). take last bytes ++ sevens_of more number) room
    ∙ ap (λ (spelling : List ℕ). take last bytes ++ spelling) (sevens_more (9 - (last + 1)) number above)
    ∙ sym (append_assoc (take last bytes) (byte ∷ []) later)
    ∙ ap (λ (front : List ℕ). front ++ later) (sym (take_more_set bytes last byte within))
