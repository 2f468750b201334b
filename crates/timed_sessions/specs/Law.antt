-- What is done step by step is told step by step; and a session that begins when it may keeps to the waits before it.
use Rattle.std.specs.Prelude.{◌++◌, List, [], ◌∷◌}
use Rattle.timed_sessions.specs.Told.{Outside, Trace, no_trace, then_trace, Grows}
use Rattle.timed_sessions.specs.Waiting.{ClosedSession, KeepToWaits, waits_after_all}
use Rattle.wait_rules.specs.declared.waits.WaitState.{WaitState}
use Rattle.std.specs.Prelude.{◌≤◌}

-- nothing done tells nothing more
abbrev pub BeginsTrace : Type 0
BeginsTrace = (before : Outside) → Grows before before no_trace

-- what is told of one thing and then of another is told of both
abbrev pub GoesOnWithTrace : Type 0
GoesOnWithTrace = (before between after : Outside) (first next : Trace)
    → Grows before between first → Grows between after next → Grows before after (then_trace first next)

-- Sessions that keep to their waits, and one more that begins at or after what they leave, do so.
abbrev pub GoesOnWaiting : Type 0
GoesOnWaiting = (waits : WaitState) (sessions : List ClosedSession) (last : ClosedSession)
    → KeepToWaits waits sessions → (waits_after_all waits sessions).allowed_at.0 ≤ last.session.entry.begun.0
    → KeepToWaits waits (sessions ++ last ∷ [])
