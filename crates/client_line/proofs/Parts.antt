-- A session whose two parts come one after the other.
use Rattle.std.proofs.Common.{◌≡◌, ℕ, List, Option, subst, ◌∙◌}
use Rattle.std.specs.Prelude.{Result, Ok, Err, IfOk, OnErr}
use Rattle.sb_model.specs.declared.time.Moment.{Moment}
use Rattle.sb_model.specs.declared.memory.OutOfMemory.{OutOfMemory}
use Rattle.sb_outside.specs.Outside.{IfTold, with_entry}
use Rattle.http_edge.specs.declared.exchanging.Exchanged.{Exchanged}
use Rattle.client_line.specs.Lines.{LineView, KeepsClock, ClosesAt}

-- the first part did not read the clock
closes : (at closed : Moment) (a b c : LineView) → KeepsClock a b → ClosesAt at closed b c → ClosesAt at closed a c
closes at closed a b c keeps is = record {
  read = subst (λ (readings : Option (List Moment)). IfTold c.told.readings (with_entry readings closed)) keeps.readings is.read;
  waits = is.waits ∙ keeps.waits;
  drawn = is.drawn ∙ keeps.drawn;
  rises = is.rises;
  last = is.last;
}

pub closes_if : (at : Moment) (a b c : LineView) (result : Result Exchanged OutOfMemory) → KeepsClock a b
    → IfOk result (λ done. ClosesAt at done.ended b c) → IfOk result (λ done. ClosesAt at done.ended a c)
closes_if at a b c (Ok done) keeps is = closes at done.ended a b c keeps is
closes_if at a b c (Err refused) keeps is = tt

-- The second part was broken off: what is said of it after any first part is said after this one.
pub broken_if : (Opens : Type 0) (Holds : Moment → Type 0) (at : Moment) (a b c : LineView) (result : Result Exchanged OutOfMemory)
    → KeepsClock a b → b.last ≡ at.0 → Opens
    → OnErr result ((ended : Moment) × (Opens → Holds ended) × ((start : Moment) → b.last ≡ start.0 → ClosesAt start ended b c))
    → OnErr result ((ended : Moment) × Holds ended × ClosesAt at ended a c)
broken_if Opens Holds at a b c (Ok done) keeps last opens is = tt
broken_if Opens Holds at a b c (Err refused) keeps last opens (ended, part, closed) = (ended, part opens, closes at ended a b c keeps (closed at last))
