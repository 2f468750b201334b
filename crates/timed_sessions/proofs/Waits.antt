-- Sessions that keep to their waits, and one more; and what a session that was closed leaves.
use Rattle.std.proofs.Common.{◌≡◌, ℕ, [], ◌∷◌, Some, None, refl}
use Rattle.sb_model.specs.declared.time.Moment.{Moment}
use Rattle.sb_model.specs.declared.time.Duration.{Duration}
use Rattle.wait_rules.specs.Waits.{after_success, after_failure}
use Rattle.wait_rules.specs.declared.waits.WaitState.{WaitState}
use Rattle.client_line.specs.Lines.{LineView, Draws}
use Rattle.timed_sessions.specs.Waiting.{HasSettled, waits_after}
use Rattle.timed_sessions.specs.Law.{GoesOnWaiting}
use Rattle.timed_sessions.proofs.Traces.{told_nothing}

pub goes_on_waiting : GoesOnWaiting
goes_on_waiting waits [] last keep begins = (begins, tt)
goes_on_waiting waits (first ∷ sessions) last (first_begins, keep) begins =
    (first_begins, goes_on_waiting (waits_after waits first) sessions last keep begins)

-- no word was drawn
drew_nothing : (before : LineView) → Draws [] before before
drew_nothing before = record { drawn = told_nothing before.told.drawn; log = refl; readings = refl; waits = refl; faults = refl; last = refl; same = refl }

-- with a message
pub succeeded : (waits waits' : WaitState) (closed : Moment) (wait : Duration) (before : LineView)
    → waits' ≡ after_success closed wait → HasSettled waits waits' closed (Some wait) before before
succeeded waits waits' closed wait before leaves = record { word = None; drawn = refl; told = drew_nothing before; leaves = leaves }

-- without one
pub failed : (waits waits' : WaitState) (closed : Moment) (word : ℕ) (before after : LineView)
    → waits' ≡ after_failure waits closed word → Draws (word ∷ []) before after → HasSettled waits waits' closed None before after
failed waits waits' closed word before after leaves told = record { word = Some word; drawn = refl; told = told; leaves = leaves }
