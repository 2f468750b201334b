-- Durations, which are seen as their nanoseconds, their texts (`google.protobuf.Duration` in JSON), and milliseconds.
use Rattle.std.specs.Prelude.{ℕ, ◌+◌, ◌-◌, ◌*◌, ◌/◌, ◌%◌, ◌^◌, ◌≡◌, ◌≤◌, ◌<◌, ◌==◌, Bool, nat_le, nat_lt, ◌&&◌, if◌then◌else◌, List, [], ◌∷◌, ◌++◌, length, take, drop, slice_index, position, replicate, decimal, min, Option, Some, None, Result, Ok, Err, option_and_then}
use Rattle.std.specs.Option.{option_map}
use Rattle.std.specs.List.{list_all, before_first}
use Rattle.std.specs.Char.{is_ascii_digit}
use Rattle.std.specs.Str.Parse.{AllDigits, digits_value}
use Rattle.sb_model.specs.declared.time.Moment.{Moment}
use Rattle.sb_model.specs.declared.time.Duration.{Duration}
use Rattle.sb_model.specs.declared.time.DurationFault.{DurationFault}
use Rattle.sb_model.specs.declared.time.DurationFault.TheVariants.{Shape, Range}

-- the greatest duration: 315,576,000,000 seconds
abbrev pub most_nanos : ℕ
most_nanos = 315576000000000000000

-- the point before a fraction, and the `s` at the end
abbrev pub point : ℕ
point = 46

abbrev pub unit : ℕ
unit = 115

-- what stands between the seconds and the `s`: nothing, or a point and the digits of a fraction
abbrev pub fraction_text : List ℕ → List ℕ
fraction_text [] = []
fraction_text (digit ∷ digits) = point ∷ digit ∷ digits

-- A text of a duration, and its nanoseconds: digits of seconds, then nothing or a point and one to nine digits of a fraction, then `s`.
pub record WritesNanos (text : List ℕ) (nanos : ℕ) : Type 0 where
  pub whole : List ℕ
  pub fraction : List ℕ
  pub some : 0 < length whole
  pub nine : length fraction ≤ 9
  pub whole_digits : AllDigits 10 whole
  pub fraction_digits : AllDigits 10 fraction
  pub form : text ≡ whole ++ fraction_text fraction ++ unit ∷ []
  pub value : nanos ≡ digits_value 10 whole * 1000000000 + digits_value 10 fraction * 10 ^ (9 - length fraction)

-- what stands before a last `s`
abbrev pub before_unit : List ℕ → Option (List ℕ)
before_unit text = if slice_index text (length text - 1) == unit then Some (take (length text - 1) text) else None

abbrev pub is_point : ℕ → Bool
is_point byte = byte == point

-- what stands before the first point, and after it, if there is one
abbrev pub at_point : List ℕ → List ℕ × Option (List ℕ)
at_point body = (before_first is_point body, option_map (λ place. drop (place + 1) body) (position is_point body))

-- the number that digits write
abbrev pub number_in : List ℕ → Option ℕ
number_in digits = if list_all is_ascii_digit digits then Some (digits_value 10 digits) else None

-- the seconds of at least one digit
abbrev pub seconds_in : List ℕ → Option ℕ
seconds_in digits = if nat_lt 0 (length digits) then number_in digits else None

-- the nanoseconds of a fraction of one to nine digits, and none where there is no point
abbrev pub fraction_in : Option (List ℕ) → Option ℕ
fraction_in None = Some 0
fraction_in (Some digits) = if nat_lt 0 (length digits) && nat_le (length digits) 9 then option_map (λ number. number * 10 ^ (9 - length digits)) (number_in digits) else None

abbrev pub nanos_of_parts : List ℕ × Option (List ℕ) → Option ℕ
nanos_of_parts parts = option_and_then (λ seconds. option_map (λ fraction. seconds * 1000000000 + fraction) (fraction_in parts.1)) (seconds_in parts.0)

-- the nanoseconds of a duration's text, and `None` of any other
abbrev pub nanos_in : List ℕ → Option ℕ
nanos_in text = option_and_then (λ body. nanos_of_parts (at_point body)) (before_unit text)

abbrev pub duration_within : Option ℕ → Result Duration DurationFault
duration_within None = Err Shape
duration_within (Some nanos) = if nat_le nanos most_nanos then Ok nanos else Err Range

-- the duration that a text is, or its fault
abbrev pub duration_of : List ℕ → Result Duration DurationFault
duration_of text = duration_within (nanos_in text)

-- a number in so many digits, with zeros in front
abbrev pub padded : ℕ → ℕ → List ℕ
padded size number = replicate (size - length (decimal number)) 48 ++ decimal number

-- nothing, or a point and 3, 6 or 9 digits, the least that show the nanoseconds
abbrev pub nanos_text : ℕ → List ℕ
nanos_text nanos =
    if nanos == 0 then []
    else if nanos % 1000000 == 0 then point ∷ padded 3 (nanos / 1000000)
    else if nanos % 1000 == 0 then point ∷ padded 6 (nanos / 1000)
    else point ∷ padded 9 nanos

-- the text that is written of a duration
abbrev pub duration_text : Duration → List ℕ
duration_text duration = decimal (duration / 1000000000) ++ nanos_text (duration % 1000000000) ++ unit ∷ []

-- a duration in milliseconds, rounded up and rounded down
abbrev pub wait_of : Duration → ℕ
wait_of duration = (duration + 999999) / 1000000

abbrev pub cache_of : Duration → ℕ
cache_of duration = duration / 1000000

-- the moment so many milliseconds later, at most the greatest u64
abbrev pub later_than : Moment → ℕ → Moment
later_than at ms = record { 0 = min (at.0 + ms) (2 ^ 64 - 1) }
