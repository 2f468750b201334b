-- The text of a duration is ASCII, and so UTF-8.
use Rattle.std.proofs.Common.{◌≡◌, ℕ, List, [], ◌∷◌, ◌++◌, Option, Some, None, Ok, sym, subst, arith, nat_le, refl, Bool, true, false}
use Rattle.std.specs.Str.{IsAscii, IsUtf8}
use Rattle.std.specs.Str.Parse.{AllDigits}
use Rattle.std.proofs.lemmas.Fmt.{IsAscii-from_digits}
use Rattle.std.proofs.lemmas.Str.{IsAscii-append, IsUtf8-from_ascii}
use Rattle.std.proofs.lemmas.Str.Ascii.{IsAscii-nil, IsAscii-cons}
use Rattle.sb_model.specs.Time.{point, unit, fraction_text, nanos_in, duration_of, duration_within, most_nanos, WritesNanos}
use Rattle.std.specs.Fmt.{digits}
use Rattle.sb_members.specs.Ranges.{IsDuration}

fraction_ascii : (digits : List ℕ) → AllDigits 10 digits → IsAscii (fraction_text digits)
fraction_ascii [] h = IsAscii-nil
fraction_ascii (d ∷ ds) h = IsAscii-cons point (d ∷ ds) (omega arith) (IsAscii-from_digits (d ∷ ds) h)

unit_ascii : IsAscii (unit ∷ [])
unit_ascii = IsAscii-cons unit [] (omega arith) IsAscii-nil

digits_utf8 : (text : List ℕ) (nanos : ℕ) → WritesNanos text nanos → IsUtf8 text
digits_utf8 text nanos w =
    IsUtf8-from_ascii text (
    subst IsAscii (sym w.form) (
    IsAscii-append (w.whole ++ fraction_text w.fraction) (unit ∷ [])
    (IsAscii-append w.whole (fraction_text w.fraction) (IsAscii-from_digits w.whole w.whole_digits) (fraction_ascii w.fraction w.fraction_digits)) unit_ascii
    )
    )

-- no time at all is a duration
pub zero_is_duration : IsDuration 0
unfolding digits
zero_is_duration = refl

-- a text that is read as a duration has its nanoseconds
nanos_of : (text : List ℕ) (d : ℕ) → duration_of text ≡ Ok d → nanos_in text ≡ Some d
nanos_of text d h = go (nanos_in text) refl h
  where
    within : (b : Bool) (n : ℕ) → nat_le n most_nanos ≡ b → duration_within (Some n) ≡ Ok d → Some n ≡ Some d
    within true n e k = cc (e, k)
    within false n e k = absurd (cc (e, k))

    go : (o : Option ℕ) → nanos_in text ≡ o → duration_within o ≡ Ok d → nanos_in text ≡ Some d
    go None e k = absurd (cc k)
    go (Some n) e k = cc (e, within (nat_le n most_nanos) n refl k)

pub duration_utf8 : ((text : List ℕ) (nanos : ℕ) → nanos_in text ≡ Some nanos → WritesNanos text nanos) → (text : List ℕ) (d : ℕ) → duration_of text ≡ Ok d → IsUtf8 text
duration_utf8 writes text d h = digits_utf8 text d (writes text d (nanos_of text d h))
