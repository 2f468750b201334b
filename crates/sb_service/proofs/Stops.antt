-- What ended a run, by its exit status.
use Rattle.std.proofs.Common.{◌≡◌, ◌≢◌, ◌⊎◌, inl, inr, ℕ, refl, sym, ap, ◌∙◌, arith, Option, Some}
use Rattle.std.specs.Prelude.{◌==◌, if◌then◌else◌, Result, Ok}
use Rattle.sb_service.specs.Answer.{IsServerStatus}
use Rattle.sb_service.specs.Stops.{status_of}
use Rattle.sb_service.specs.declared.stop.Stop.{Stop}
use Rattle.sb_service.specs.declared.stop.Stop.TheVariants as stop

pub is_status : (s : Stop) → IsServerStatus (status_of s)
is_status stop.Done = inl refl
is_status stop.NoCommand = inr (inl refl)
is_status stop.ReadFault = inr (inr (inl refl))
is_status stop.WriteFault = inr (inr (inr (inl refl)))
is_status stop.BadRequest = inr (inr (inr (inr (inl refl))))
is_status stop.LongInput = inr (inr (inr (inr (inr (inl refl)))))
is_status stop.BadJournal = inr (inr (inr (inr (inr (inr (inl refl))))))
is_status stop.OutOfMemory = inr (inr (inr (inr (inr (inr (inr (inl refl)))))))
is_status stop.DoorFault = inr (inr (inr (inr (inr (inr (inr (inr refl)))))))

-- what ended a run with this status
abbrev stop_of : ℕ → Stop
stop_of n =
    if n == 0 then stop.Done
    else if n == 1 then stop.NoCommand
    else if n == 2 then stop.ReadFault
    else if n == 3 then stop.WriteFault
    else if n == 5 then stop.BadRequest
    else if n == 6 then stop.LongInput
    else if n == 7 then stop.BadJournal
    else if n == 8 then stop.OutOfMemory
    else stop.DoorFault

back : (s : Stop) → stop_of (status_of s) ≡ s
back stop.Done = refl
back stop.NoCommand = refl
back stop.ReadFault = refl
back stop.WriteFault = refl
back stop.BadRequest = refl
back stop.LongInput = refl
back stop.BadJournal = refl
back stop.OutOfMemory = refl
back stop.DoorFault = refl

-- two that have one status are one
pub one_stop : (s wanted : Stop) → status_of s ≡ status_of wanted → s ≡ wanted
one_stop s wanted e = sym (back s) ∙ ap stop_of e ∙ back wanted

-- the one in an answer
pub one_reason : (a b : Stop) → (let some : Option Stop = Some a in some ≡ Some b) → a ≡ b
one_reason a b e = cc

pub one_ending : {E : Type 0} (a b : Stop) → (let ok : Result Stop E = Ok a in ok ≡ Ok b) → a ≡ b
one_ending a b e = cc

-- what ends a run of `answer`
abbrev pub EndsAnswer : Stop → Type 0
EndsAnswer s =
    (s ≡ stop.Done) ⊎ (s ≡ stop.ReadFault) ⊎ (s ≡ stop.WriteFault) ⊎ (s ≡ stop.BadRequest) ⊎ (s ≡ stop.LongInput) ⊎ (s ≡ stop.BadJournal)

-- which is neither words that are no command line, nor want of memory, nor a fault of the door
pub not_of_answer : (s : Stop) → EndsAnswer s → (status_of s ≢ 1) × (status_of s ≢ 8) × (status_of s ≢ 9)
not_of_answer s (inl e) = let is : status_of s ≡ 0 = ap status_of e in (λ h. omega (arith, is, h), λ h. omega (arith, is, h), λ h. omega (arith, is, h))
not_of_answer s (inr (inl e)) = let is : status_of s ≡ 2 = ap status_of e in (λ h. omega (arith, is, h), λ h. omega (arith, is, h), λ h. omega (arith, is, h))
not_of_answer s (inr (inr (inl e))) = let is : status_of s ≡ 3 = ap status_of e in (λ h. omega (arith, is, h), λ h. omega (arith, is, h), λ h. omega (arith, is, h))
not_of_answer s (inr (inr (inr (inl e)))) = let is : status_of s ≡ 5 = ap status_of e in (λ h. omega (arith, is, h), λ h. omega (arith, is, h), λ h. omega (arith, is, h))
not_of_answer s (inr (inr (inr (inr (inl e))))) = let is : status_of s ≡ 6 = ap status_of e in (λ h. omega (arith, is, h), λ h. omega (arith, is, h), λ h. omega (arith, is, h))
not_of_answer s (inr (inr (inr (inr (inr e))))) = let is : status_of s ≡ 7 = ap status_of e in (λ h. omega (arith, is, h), λ h. omega (arith, is, h), λ h. omega (arith, is, h))
