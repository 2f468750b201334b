-- Facts on hexadecimal text: pieces of it, what its reading answers, and its first byte that is no digit.
use Rattle.std.proofs.Common.{◌≡◌, ℕ, ◌<◌, ◌≤◌, ◌==◌, Bool, true, false, not, inl, inr, List, [], ◌∷◌, ◌++◌, length, take, get_or, slice_index, Some, Result, Ok, Err, refl, sym, ap, ◌∙◌, zero-add, append_assoc, append-nil, arith}
use Rattle.std.specs.Prelude.{MatchResult, OnOk}
use Rattle.std.specs.Result.{is_err}
use Rattle.std.specs.List.{AllPass, position, position_or_len}
use Rattle.std.proofs.lemmas.Bool.{false≢true, eqb-true}
use Rattle.std.proofs.lemmas.Bool.Decides.{nat_tests}
use Rattle.std.proofs.lemmas.List.{get_or-take, length-take-le, take-append-le, length-take}
use Rattle.std.proofs.lemmas.List.Sums.{position_or_len_is}
use Rattle.std.proofs.lemmas.List.Quantifiers.{position-Some}
use Rattle.hex.specs.Hex.{encode_lower, encode_with, lower_digits, is_hex_digit, decode_of, decode_sized}
use Rattle.hex.specs.declared.error.FromHexError.{FromHexError}
use Rattle.hex.specs.declared.error.FromHexError.TheVariants.{InvalidHexCharacter}
use Rattle.hex.proofs.HexLemmas.{decode_sized-twice, decode_of-err, decode_of-ok}

-- the text of two lists after one another
pub encode_with-append : (digits xs ys : List ℕ) → encode_with digits (xs ++ ys) ≡ encode_with digits xs ++ encode_with digits ys
unfolding encode_with
encode_with-append digits [] ys = refl
encode_with-append digits (x ∷ xs) ys = grind (arith, encode_with-append digits xs ys)

-- the text of the rest is still to be written, and what stood there before stands in front
pub record IsWritten (before out all rest : List ℕ) : Type 0 where
  pub whole : out ++ encode_lower rest ≡ before ++ encode_lower all
  pub kept : take (length before) out ≡ before

-- one more piece
pub IsWritten-more : (before out all rest piece later next : List ℕ) → IsWritten before out all rest
    → piece ++ later ≡ rest → next ≡ out ++ encode_lower piece → IsWritten before next all later
IsWritten-more before out all rest piece later next h split wrote =
    let room : length before ≤ length out = omega (arith, length-take (length before) out, ap length h.kept) in
    record {
      whole = rw (wrote, append_assoc, ← encode_with-append lower_digits piece later, split) h.whole;
      kept = rw wrote (take-append-le (length before) out (encode_lower piece) room ∙ h.kept);
    }

-- the end, where nothing is left
pub IsWritten-end : (before out all rest : List ℕ) → IsWritten before out all rest → (length rest == 0) ≡ true
    → out ≡ before ++ encode_lower all
unfolding encode_with
IsWritten-end before out all [] h none = sym (append-nil out) ∙ h.whole
IsWritten-end before out all (x ∷ rest) h none = absurd (omega (arith, eqb-true (length (x ∷ rest)) 0 none))

-- what an answer that is no error shows
pub on_ok_at_ok : {T E P : Type 0} (r : Result T E) → is_err r ≡ false → OnOk r P → P
on_ok_at_ok (Ok x) is h = h
on_ok_at_ok (Err e) is h = cc is

-- what the decoding of 64 digits into 32 bytes says
abbrev pub IsDecoded : List ℕ → List ℕ → Result (Unit {0}) FromHexError → Type 0
IsDecoded text out r = MatchResult (decode_sized text 32) (λ bytes. (r ≡ Ok tt) × (out ≡ bytes)) (λ e. r ≡ Err e)

-- where it answers `Ok`, the bytes are those of the text, and each byte of the text is a digit
pub decoded-Ok : (text out : List ℕ) (r : Result (Unit {0}) FromHexError) (u : Unit {0}) → length text ≡ 64 → r ≡ Ok u → IsDecoded text out r
    → (decode_of text ≡ Ok out) × AllPass is_hex_digit text
decoded-Ok text out r u len ok h = go (decode_sized text 32) refl h
  where
    go : (d : Result (List ℕ) FromHexError) → decode_sized text 32 ≡ d
        → MatchResult d (λ bytes. (r ≡ Ok tt) × (out ≡ bytes)) (λ e. r ≡ Err e) → (decode_of text ≡ Ok out) × AllPass is_hex_digit text
    go (Ok bytes) is h =
        let decoded : decode_of text ≡ Ok out = sym (decode_sized-twice text 32 len) ∙ is ∙ ap Ok (sym h.1) in
        (decoded, (decode_of-ok text out decoded).1)
    go (Err e) is h = cc (sym ok ∙ h)

-- the first byte of a text that is no digit, as an error names it
pub record FirstBad (text : List ℕ) (fault : FromHexError) : Type 0 where
  pub place : ℕ
  pub named : fault ≡ InvalidHexCharacter (slice_index text place) place
  pub within : place < length text
  pub no_digit : is_hex_digit (slice_index text place) ≡ false
  pub first : position (λ c. not (is_hex_digit c)) text ≡ Some place

-- the first place that fails the test
position-first : (p : ℕ → Bool) (xs : List ℕ) (k : ℕ) → k < length xs → p (slice_index xs k) ≡ false → AllPass p (take k xs)
    → position (λ x. not (p x)) xs ≡ Some k
position-first p xs k lt fails before =
    let earlier : (j : ℕ) → j < k → not (p (get_or xs j 0)) ≡ false = λ j below.
    let passes : p (get_or xs j 0) ≡ true = rw (get_or-take k xs j 0 below) at (before j 0 (rw (length-take-le k xs (omega arith)) below)) in
    ap not passes in
    let place : position_or_len (λ x. not (p x)) xs ≡ k = position_or_len_is (λ x. not (p x)) xs k 0 (omega arith) earlier (λ _. ap not fails) in
    rw place (grind (arith, nat_tests))

-- where it answers an error, that names the first byte that is no digit
pub decoded-Err : (text out : List ℕ) (r : Result (Unit {0}) FromHexError) (fault : FromHexError) → length text ≡ 64 → r ≡ Err fault → IsDecoded text out r
    → FirstBad text fault
decoded-Err text out r fault len err h = go (decode_sized text 32) refl h
  where
    named : decode_of text ≡ Err fault → FirstBad text fault
    named e = elim (decode_of-err text fault e) [
      | inl odd ↦ absurd (omega (arith, odd.0))
      | inr bad ↦ record {
        place = bad.0;
        named = bad.1 ∙ ap (InvalidHexCharacter (slice_index text bad.0)) (zero-add bad.0);
        within = bad.2;
        no_digit = bad.3;
        first = position-first is_hex_digit text bad.0 bad.2 bad.3 bad.4;
      }
    ]

    go : (d : Result (List ℕ) FromHexError) → decode_sized text 32 ≡ d
        → MatchResult d (λ bytes. (r ≡ Ok tt) × (out ≡ bytes)) (λ e. r ≡ Err e) → FirstBad text fault
    go (Ok bytes) is h = cc (sym err ∙ h.0)
    go (Err e) is h =
        let same : e ≡ fault = cc (sym h ∙ err) in
        named (sym (decode_sized-twice text 32 len) ∙ is ∙ ap Err same)

-- a text of digits alone has no byte that is none
pub position-none : (text : List ℕ) (at : ℕ) → AllPass is_hex_digit text → position (λ c. not (is_hex_digit c)) text ≡ Some at → ⊥
position-none text at digits h =
    let found = position-Some (λ c. not (is_hex_digit c)) text at 0 h in
    false≢true (ap not (sym (digits at 0 found.0)) ∙ found.1)
