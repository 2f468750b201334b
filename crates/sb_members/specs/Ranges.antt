-- What texts and durations keep that are written.
use Rattle.std.specs.Prelude.{◌≡◌, ℕ, List, encode_utf8_all, Ok}
use Rattle.std.specs.Str.{chars}
use Rattle.sb_model.specs.Time.{duration_of, duration_text}

-- characters that their UTF-8 spells
abbrev pub IsText : List ℕ → Type 0
IsText text = chars (encode_utf8_all text) ≡ text

-- nanoseconds that their text is read as
abbrev pub IsDuration : ℕ → Type 0
IsDuration nanos = duration_of (duration_text nanos) ≡ Ok nanos
