-- Texts of hexadecimal digits.
use Rattle.std.proofs.Common.{◌≡◌, ℕ, List, Bool, true, false, nat_eq, length, refl, sym, ◌∙◌, eq-eqb, Some, None, Result, Ok, Err, if◌then◌else◌, arith}
use Rattle.std.specs.Int.{w64, from_be_bytes}
use Rattle.std.specs.Option.{option_map}
use Rattle.std.specs.Result.{result_ok, MatchResult}
use Rattle.std.proofs.lemmas.Bool.Decides.{nat_tests}
use Rattle.hex.specs.Hex.{decode_of, decode_sized}
use Rattle.hex.specs.declared.FromHexError.{FromHexError}
use Rattle.list_versions.specs.Lines.{bytes_in_digits}

found : (b : Bool) (r : Result (List ℕ) FromHexError) (bytes : List ℕ) → b ≡ true → r ≡ Ok bytes → (if b then result_ok r else None) ≡ Some bytes
found b r bytes e d = rw (e, d) refl

missed : (b : Bool) (r : Result (List ℕ) FromHexError) (fault : FromHexError) → r ≡ Err fault → (if b then result_ok r else None) ≡ None
missed true r fault d = rw d refl
missed false r fault d = refl

pub bytes_short : (digits : List ℕ) → (length digits ≡ 16 → ⊥) → None ≡ option_map (from_be_bytes w64) (bytes_in_digits 8 digits)
unfolding bytes_in_digits
bytes_short digits h = grind (arith, nat_tests)

sized_is : (digits : List ℕ) → length digits ≡ 16 → decode_sized digits 8 ≡ decode_of digits
sized_is digits h = rw h refl

pub bytes_found : (digits bytes : List ℕ) → length digits ≡ 16 → decode_sized digits 8 ≡ Ok bytes → bytes_in_digits 8 digits ≡ Some bytes
unfolding bytes_in_digits
bytes_found digits bytes h d =
    found (nat_eq (length digits) 16) (decode_of digits) bytes (eq-eqb _ _ h) (sym (sized_is digits h) ∙ d)

pub bytes_lost : (digits : List ℕ) (fault : FromHexError) → length digits ≡ 16 → decode_sized digits 8 ≡ Err fault → bytes_in_digits 8 digits ≡ None
unfolding bytes_in_digits
bytes_lost digits fault h d =
    missed (nat_eq (length digits) 16) (decode_of digits) fault (sym (sized_is digits h) ∙ d)

-- what decoding answered
pub decoded : {A : Type 0} (r : Result (List ℕ) FromHexError) (out : List ℕ) (result : Result A FromHexError) (a : A) → MatchResult r (λ bytes. (result ≡ Ok a) × (out ≡ bytes)) (λ e. result ≡ Err e) → result ≡ Ok a → r ≡ Ok out
decoded (Ok bytes) out result a h is = let e : out ≡ bytes = h.1 in cc
decoded (Err e) out result a h is = absurd (cc)

pub refused : {A : Type 0} (r : Result (List ℕ) FromHexError) (out : List ℕ) (result : Result A FromHexError) (a : A) (fault : FromHexError) → MatchResult r (λ bytes. (result ≡ Ok a) × (out ≡ bytes)) (λ e. result ≡ Err e) → result ≡ Err fault → r ≡ Err fault
refused (Ok bytes) out result a fault h is = let e : result ≡ Ok a = h.0 in absurd (cc)
refused (Err e) out result a fault h is = cc
