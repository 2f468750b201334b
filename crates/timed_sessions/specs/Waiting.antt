-- What closed sessions leave of the wait, and the moments at which sessions may begin.
use Rattle.std.specs.Prelude.{◌≡◌, ℕ, ◌≤◌, List, [], ◌∷◌, Option, Some, None, IsSome}
use Rattle.std.specs.List.{fold}
use Rattle.sb_model.specs.declared.time.Moment.{Moment}
use Rattle.sb_model.specs.declared.time.Duration.{Duration}
use Rattle.wait_rules.specs.Waits.{after_success, after_failure}
use Rattle.wait_rules.specs.declared.waits.WaitState.{WaitState}
use Rattle.client_line.specs.Lines.{LineView, Draws}
use Rattle.timed_sessions.specs.Timed.{TimedSession}

-- A word is drawn exactly where a session brought no message, which bids to wait.
abbrev pub IsDrawnFor : Option Duration → Option ℕ → Type 0
IsDrawnFor (Some wait) word = word ≡ None
IsDrawnFor None word = IsSome word

-- the words that were drawn
abbrev pub drawn_of : Option ℕ → List ℕ
drawn_of None = []
drawn_of (Some word) = word ∷ []

-- A message bids to wait so long. Without one a word says how long.
abbrev pub waits_at_end : WaitState → Moment → Option Duration → Option ℕ → WaitState
waits_at_end waits closed (Some wait) word = after_success closed wait
waits_at_end waits closed None (Some word) = after_failure waits closed word
waits_at_end waits closed None None = waits

-- A session that was closed: what its message bids, or none, and the word that was drawn.
pub record ClosedSession : Type 0 where
  pub session : TimedSession
  pub bids : Option Duration
  pub word : Option ℕ

-- the state of waiting after a session, and after any number of them
abbrev pub waits_after : WaitState → ClosedSession → WaitState
waits_after waits closed = waits_at_end waits closed.session.closed closed.bids closed.word

abbrev pub waits_after_all : WaitState → List ClosedSession → WaitState
waits_after_all waits sessions = fold waits_after waits sessions

-- No session precedes its allowed moment: each begins, in the link's log too, at or after the moment that those before it left.
abbrev pub KeepToWaits : WaitState → List ClosedSession → Type 0
KeepToWaits waits [] = Unit {0}
KeepToWaits waits (closed ∷ rest) =
    (waits.allowed_at.0 ≤ closed.session.entry.begun.0) × KeepToWaits (waits_after waits closed) rest

-- A session was closed at this moment, with a message or with a word more.
pub record HasSettled (waits waits' : WaitState) (closed : Moment) (bids : Option Duration) (before after : LineView) : Type 0 where
  pub word : Option ℕ
  pub drawn : IsDrawnFor bids word
  pub told : Draws (drawn_of word) before after
  pub leaves : waits' ≡ waits_at_end waits closed bids word
