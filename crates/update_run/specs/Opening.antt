-- What a run begins with: the lists that were kept, and the first moment and the first word.
use Rattle.std.specs.Prelude.{◌≡◌, ℕ, List, [], ◌∷◌, ◌++◌, Option, Some, None, IfSome, Result, Ok, Err}
use Rattle.sb_model.specs.declared.names.ListName.{ListName}
use Rattle.sb_model.specs.declared.time.Moment.{Moment}
use Rattle.wait_rules.specs.Waits.{first_state}
use Rattle.wait_rules.specs.declared.waits.WaitState.{WaitState}
use Rattle.update_client.specs.Held.{Held, nothing_held_of}
use Rattle.client_store.specs.Reading.{store_reading}
use Rattle.client_store.specs.Selected.{selected}
use Rattle.client_store.specs.declared.fault.StoreFault.{StoreFault}
use Rattle.timed_sessions.specs.Told.{Outside, Trace, Grows}
use Rattle.update_run.specs.Printed.{ignored_text}

-- the named lists of a store, and of a text that is none of them nothing
abbrev pub lists_from : List ListName → Result (List Held) StoreFault → List Held
lists_from names (Ok stored) = selected stored names
lists_from names (Err fault) = nothing_held_of names

-- the lists that a run begins with, where this text was kept, or none
abbrev pub first_lists : List ListName → Option (List ℕ) → List Held
first_lists names None = nothing_held_of names
first_lists names (Some text) = lists_from names (store_reading text)

-- what is told more of a beginning: one reading of the clock and one word
abbrev pub trace_of_start : Moment → ℕ → Trace
trace_of_start start word = record { sessions = []; readings = start ∷ []; waits = []; drawn = word ∷ [] }

-- The clock was read and a word was drawn, and the first request has to wait for so long.
pub record HasOpened (waits : WaitState) (before after : Outside) : Type 0 where
  pub start : Moment
  pub word : ℕ
  pub first : waits ≡ first_state start word
  pub told : Grows before after (trace_of_start start word)

-- A keeper gave some text or none, a client has the lists that it begins with then, and the line of a text that is no
-- store waits after what waited before.
pub record HasLoaded (names : List ListName) (known : Option (Option (List ℕ))) (lists : List Held) (waiting waiting' : List ℕ) : Type 0 where
  pub kept : Option (List ℕ)
  pub loaded : IfSome known (λ text. kept ≡ text)
  pub are : lists ≡ first_lists names kept
  pub told : waiting' ≡ waiting ++ ignored_text kept
