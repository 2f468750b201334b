-- When a client may send next ("Request Frequency" of the Safe Browsing Update API, version 4). Delays are milliseconds. A drawn word
-- of 32 bits stands for the fraction word / 2^32.
use Rattle.std.specs.Prelude.{ℕ, ◌+◌, ◌-◌, ◌*◌, ◌^◌, min, nat_le, Bool}
use Rattle.std.specs.Int.{div_ceil}
use Rattle.sb_model.specs.declared.time.Moment.{Moment}
use Rattle.sb_model.specs.declared.time.Duration.{Duration}
use Rattle.sb_model.specs.Time.{later_than, wait_of}
use Rattle.wait_rules.specs.declared.waits.WaitState.{WaitState}

-- up to a minute before the first session: the drawn part of 60,000 milliseconds, rounded up
abbrev pub first_delay : ℕ → ℕ
first_delay word = div_ceil (word * 60000) (2 ^ 32)

-- After so many failures in a row: 15 minutes, twice as much with each failure after the first, and the drawn part of that once more,
-- rounded up; at most a day.
abbrev pub failure_delay : ℕ → ℕ → ℕ
failure_delay failures word = min 86400000 (div_ceil (2 ^ (failures - 1) * 900000 * (2 ^ 32 + word)) (2 ^ 32))

-- one failure more; the greatest u32 stays
abbrev pub one_more : ℕ → ℕ
one_more failures = min (failures + 1) (2 ^ 32 - 1)

-- before any session
abbrev pub first_state : Moment → ℕ → WaitState
first_state now word = record { failures = 0; allowed_at = later_than now (first_delay word) }

-- after a session that closed with an answer, which bids to wait so long
abbrev pub after_success : Moment → Duration → WaitState
after_success closed wait = record { failures = 0; allowed_at = later_than closed (wait_of wait) }

-- after a session that closed without one
abbrev pub after_failure : WaitState → Moment → ℕ → WaitState
after_failure state closed word = record { failures = one_more state.failures; allowed_at = later_than closed (failure_delay (one_more state.failures) word) }

-- whether a request may be sent at a moment
abbrev pub may_send_at : WaitState → Moment → Bool
may_send_at state now = nat_le state.allowed_at.0 now.0
