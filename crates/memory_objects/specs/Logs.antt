-- A log in memory, which has room for so many entries. Where it passes the room it tells nothing from then on.
use Rattle.std.specs.Prelude.{ℕ, List, length, Option, Some, None, nat_lt, option_and_then, if◌then◌else◌}
use Rattle.sb_outside.specs.Outside.{with_entry}

-- the log, where it has room for one more entry
abbrev pub with_room : {A : Type 0} → ℕ → Option (List A) → Option (List A)
with_room room log = option_and_then (λ entries. if nat_lt (length entries) room then Some entries else None) log

-- the log with one more entry
abbrev pub logged : {A : Type 0} → ℕ → Option (List A) → A → Option (List A)
logged room log entry = with_entry (with_room room log) entry
