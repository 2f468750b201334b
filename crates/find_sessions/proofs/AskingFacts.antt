-- What the steps of a session come to together.
use Rattle.std.proofs.Common.{ℕ, List, Bool, Result, Ok, Err}
use Rattle.std.specs.Prelude.{OnErr}
use Rattle.sb_model.specs.declared.time.Moment.{Moment}
use Rattle.sb_outside.specs.declared.links.Kind.TheVariants.{Find}
use Rattle.http_edge.specs.declared.messages.Target.{Target}
use Rattle.wait_rules.specs.declared.waits.WaitState.{WaitState}
use Rattle.timed_sessions.specs.Told.{Outside}
use Rattle.timed_sessions.specs.Timed.{HoldsTimed, HoldsTimedPart}
use Rattle.timed_sessions.specs.declared.timing.Talk.{Talk}

pub on_err : {A E : Type 0} (P : Type 0) (r : Result A E) → P → OnErr r P
on_err P (Ok a) p = tt
on_err P (Err e) p = p

-- a session that was held to its end was held
pub held_so_far : (waits : WaitState) (now : Moment) (target : Target) (body : List ℕ) (need : Bool) (before after : Outside) (talk : Talk)
    → HoldsTimed waits now target Find body need before after talk → HoldsTimedPart waits now target Find body before after
held_so_far waits now target body need before after talk holds = record { session = holds.session; is = holds.is; told = holds.told; reading = holds.reading }
