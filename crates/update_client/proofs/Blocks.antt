-- Numbers of four bytes that stand one after the other.
use Rattle.std.proofs.Common.{◌≡◌, ℕ, zero, suc, ◌+◌, ◌*◌, ◌/◌, ◌%◌, ◌≤◌, List, [], ◌∷◌, ◌++◌, length, take, drop, map, sym, ap, ◌∙◌, arith, length-append, length-drop, append_assoc, Option, Some, None, Ok, Err}
use Rattle.std.proofs.lemmas.List.{take-append-le, drop-append-le, take_all}
use Rattle.prefix_set.specs.Pieces.{pieces, pieces_of}
use Rattle.rice_coding.specs.declared.fault.RiceFault.{RiceFault}
use Rattle.rice_coding.specs.Decoding.{outcome_of}

pieces_more : (n : ℕ) (bytes quad : List ℕ) → length bytes ≡ 4 * n → length quad ≡ 4 → pieces (suc n) 4 (bytes ++ quad) ≡ pieces n 4 bytes ++ quad ∷ []
pieces_more zero [] quad whole four = ap (λ (piece : List ℕ). piece ∷ []) (take_all 4 quad (omega arith))
pieces_more zero (byte ∷ bytes) quad whole four = absurd (omega (arith, whole))
pieces_more (suc n) bytes quad whole four =
    let four_there : 4 ≤ length bytes = omega arith in
    let rest : length (drop 4 bytes) ≡ 4 * n = simp length-drop (omega arith) in
    ap (λ (piece : List ℕ). piece ∷ pieces (suc n) 4 (drop 4 (bytes ++ quad))) (take-append-le 4 bytes quad four_there)
    ∙ ap (λ (more : List ℕ). take 4 bytes ∷ pieces (suc n) 4 more) (drop-append-le 4 bytes quad four_there)
    ∙ ap (λ (more : List (List ℕ)). take 4 bytes ∷ more) (pieces_more n (drop 4 bytes) quad rest four)

-- one piece more
pub pieces_of_more : (bytes quad : List ℕ) → length bytes % 4 ≡ 0 → length quad ≡ 4 → pieces_of 4 (bytes ++ quad) ≡ pieces_of 4 bytes ++ quad ∷ []
pieces_of_more bytes quad whole four =
    let longer : length (bytes ++ quad) ≡ length bytes + 4 = length-append bytes quad ∙ ap (λ n. length bytes + n) four in
    let count : length (bytes ++ quad) / 4 ≡ suc (length bytes / 4) = ap (λ n. n / 4) longer ∙ omega arith in
    ap (λ n. pieces n 4 (bytes ++ quad)) count ∙ pieces_more (length bytes / 4) bytes quad (omega (arith, whole)) four

-- a number was gathered
pub gathered_more : {N : Type 0} (code : N → List ℕ) (old bytes new : List ℕ) (number : N) (all before after : List N) → length bytes % 4 ≡ 0 → length (code number) ≡ 4
    → pieces_of 4 bytes ++ map code before ≡ pieces_of 4 old ++ map code all → before ≡ number ∷ after → new ≡ bytes ++ code number
    → pieces_of 4 new ++ map code after ≡ pieces_of 4 old ++ map code all
gathered_more code old bytes new number all before after whole four so_far taken is =
    ap (λ (b : List ℕ). pieces_of 4 b ++ map code after) is
    ∙ ap (λ (ps : List (List ℕ)). ps ++ map code after) (pieces_of_more bytes (code number) whole four)
    ∙ append_assoc (pieces_of 4 bytes) (code number ∷ []) (map code after)
    ∙ sym (ap (λ ns. pieces_of 4 bytes ++ map code ns) taken)
    ∙ so_far

pub still_whole : (bytes new quad : List ℕ) → length bytes % 4 ≡ 0 → length quad ≡ 4 → new ≡ bytes ++ quad → length new % 4 ≡ 0
still_whole bytes new quad whole four is =
    let longer : length new ≡ length bytes + 4 = ap length is ∙ length-append bytes quad ∙ ap (λ n. length bytes + n) four in
    omega (arith, longer, whole)

-- ---- what a reader gives

pub outcome_ok : (values : List ℕ) (fault : Option RiceFault) → fault ≡ None → outcome_of values fault ≡ Ok values
outcome_ok values fault is = ap (outcome_of values) is

pub outcome_err : (values : List ℕ) (fault : Option RiceFault) (own : RiceFault) → fault ≡ Some own → outcome_of values fault ≡ Err own
outcome_err values fault own is = ap (outcome_of values) is
