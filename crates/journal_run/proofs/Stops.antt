-- What ended a run, by its exit status.
use Rattle.std.proofs.Common.{◌≡◌, inl, inr, ℕ, refl, sym, ap, ◌∙◌}
use Rattle.std.specs.Prelude.{◌==◌, if◌then◌else◌, Result, Ok}
use Rattle.journal_run.specs.Runs.{IsJournalRunStatus}
use Rattle.journal_run.specs.Stops.{journal_run_status}
use Rattle.journal_run.specs.declared.stop.Stop.{Stop}
use Rattle.journal_run.specs.declared.stop.Stop.TheVariants as stop

pub is_status : (s : Stop) → IsJournalRunStatus (journal_run_status s)
is_status stop.Done = inl refl
is_status stop.NoCommand = inr (inl refl)
is_status stop.ReadFault = inr (inr (inl refl))
is_status stop.WriteFault = inr (inr (inr (inl refl)))
is_status stop.LongInput = inr (inr (inr (inr (inl refl))))
is_status stop.BadJournal = inr (inr (inr (inr (inr (inl refl)))))
is_status stop.OutOfMemory = inr (inr (inr (inr (inr (inr (inl refl))))))
is_status stop.Listed = inr (inr (inr (inr (inr (inr (inr (inl refl)))))))
is_status stop.Refused = inr (inr (inr (inr (inr (inr (inr (inr refl)))))))

-- what ended a run with this status
abbrev stop_of : ℕ → Stop
stop_of n =
    if n == 0 then stop.Done
    else if n == 1 then stop.NoCommand
    else if n == 2 then stop.ReadFault
    else if n == 3 then stop.WriteFault
    else if n == 6 then stop.LongInput
    else if n == 7 then stop.BadJournal
    else if n == 8 then stop.OutOfMemory
    else if n == 20 then stop.Listed
    else stop.Refused

back : (s : Stop) → stop_of (journal_run_status s) ≡ s
back stop.Done = refl
back stop.NoCommand = refl
back stop.ReadFault = refl
back stop.WriteFault = refl
back stop.LongInput = refl
back stop.BadJournal = refl
back stop.OutOfMemory = refl
back stop.Listed = refl
back stop.Refused = refl

-- two that have one status are one
pub one_stop : (s wanted : Stop) → journal_run_status s ≡ journal_run_status wanted → s ≡ wanted
one_stop s wanted e = sym (back s) ∙ ap stop_of e ∙ back wanted

-- the one in an answer
pub one_ending : {E : Type 0} (a b : Stop) → (let ok : Result Stop E = Ok a in ok ≡ Ok b) → a ≡ b
one_ending a b e = cc
