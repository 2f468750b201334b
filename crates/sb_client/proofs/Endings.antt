-- How a run can end.
use Rattle.std.proofs.Common.{◌≡◌, ◌≢◌, ℕ, ◌⊎◌, inl, inr, List, Bool, true, false, refl, sym, ap, ◌∙◌, Option, Ok, Err, arith}
use Rattle.std.specs.Prelude.{IfOk, IsErrOf}
use Rattle.sb_outside.specs.Outside.{Rose}
use Rattle.input_lines.specs.Input.{GivesPast, GivesWithin}
use Rattle.input_lines.specs.declared.stop.Stop.{Stop}
use Rattle.input_lines.specs.declared.stop.Stop.TheVariants.{ReadFault, WriteFault, PastLimits, OutOfMemory}
use Rattle.input_lines.specs.Ending.{InputEnding, EndsReading}
use Rattle.sb_client.specs.Ending.{IsReadingRun, status_after, ending_status_of}
use Rattle.sb_client.specs.Runs.{HasNoFault, IsFaultOfStatus, IsStatus}

-- a count that stayed below its end did not rise
pub not_risen : (before after : ℕ) → HasNoFault before after → Rose before after → ⊥
not_risen before after h rose = omega (arith, h.kept, h.low, rose)

-- ---- the end of a command that reads its input

pub ended : (Whole : Bool → Type 0) (Part : Type 0) (left left' : Option (List (List ℕ))) (held held' : Option (List ℕ)) (ending : InputEnding)
    → IfOk ending Whole
    → (IsErrOf ending ReadFault → GivesWithin left left' × (held' ≡ held)) → (IsErrOf ending PastLimits → GivesPast left left' × (held' ≡ held))
    → (IsErrOf ending WriteFault → Part) → (IsErrOf ending OutOfMemory → (held' ≡ held) ⊎ Part)
    → EndsReading Whole Part ending left left' held held'
ended Whole Part left left' held held' (Ok refused) whole read past write memory = whole
ended Whole Part left left' held held' (Err ReadFault) whole read past write memory = read refl
ended Whole Part left left' held held' (Err PastLimits) whole read past write memory = past refl
ended Whole Part left left' held held' (Err WriteFault) whole read past write memory = write refl
ended Whole Part left left' held held' (Err OutOfMemory) whole read past write memory = memory refl

-- a refusal has the status of no stop
abbrev pub IsRefusal : ℕ → Type 0
IsRefusal refusal = (refusal ≡ 5) ⊎ (refusal ≡ 21)

no_stop : (refusal : ℕ) (refused : Bool) (stop : Stop) (status : ℕ) → IsRefusal refusal → status ≡ ending_status_of refusal (Ok refused) → status ≡ status_after stop → ⊥
no_stop refusal false ReadFault status r told h = cc
no_stop refusal false WriteFault status r told h = cc
no_stop refusal false PastLimits status r told h = cc
no_stop refusal false OutOfMemory status r told h = cc
no_stop refusal true ReadFault status (inl r) told h = cc
no_stop refusal true ReadFault status (inr r) told h = cc
no_stop refusal true WriteFault status (inl r) told h = cc
no_stop refusal true WriteFault status (inr r) told h = cc
no_stop refusal true PastLimits status (inl r) told h = cc
no_stop refusal true PastLimits status (inr r) told h = cc
no_stop refusal true OutOfMemory status (inl r) told h = cc
no_stop refusal true OutOfMemory status (inr r) told h = cc

-- stops have statuses of their own
same_stop : (a b : Stop) → status_after a ≡ status_after b → a ≡ b
same_stop ReadFault ReadFault h = refl
same_stop ReadFault WriteFault h = absurd (cc)
same_stop ReadFault PastLimits h = absurd (cc)
same_stop ReadFault OutOfMemory h = absurd (cc)
same_stop WriteFault ReadFault h = absurd (cc)
same_stop WriteFault WriteFault h = refl
same_stop WriteFault PastLimits h = absurd (cc)
same_stop WriteFault OutOfMemory h = absurd (cc)
same_stop PastLimits ReadFault h = absurd (cc)
same_stop PastLimits WriteFault h = absurd (cc)
same_stop PastLimits PastLimits h = refl
same_stop PastLimits OutOfMemory h = absurd (cc)
same_stop OutOfMemory ReadFault h = absurd (cc)
same_stop OutOfMemory WriteFault h = absurd (cc)
same_stop OutOfMemory PastLimits h = absurd (cc)
same_stop OutOfMemory OutOfMemory h = refl

-- a status that a stop has is of that stop
pub stop_of : (refusal : ℕ) (ending : InputEnding) (stop : Stop) (status : ℕ) → IsRefusal refusal → status ≡ ending_status_of refusal ending → status ≡ status_after stop → IsErrOf ending stop
stop_of refusal (Ok refused) stop status r told h = absurd (no_stop refusal refused stop status r told h)
stop_of refusal (Err other) stop status r told h = ap Err (same_stop other stop (sym told ∙ h))

-- a fault that is counted has its status
pub fault_of : {before after : ℕ} (refusal : ℕ) (ending : InputEnding) (stop : Stop) (status : ℕ) → IsRefusal refusal → status ≡ ending_status_of refusal ending
    → (IsErrOf ending stop → Rose before after) → (ending ≢ Err stop → after ≡ before) → IsFaultOfStatus (status_after stop) status before after
fault_of refusal ending stop status r told rose kept = record {
  rose = λ h. rose (stop_of refusal ending stop status r told h);
  kept = λ other. kept (λ is. other (told ∙ ap (ending_status_of refusal) is));
}

-- and a count that stayed has no fault
pub no_fault : {before after : ℕ} (fault status : ℕ) → status ≢ fault → after ≡ before → IsFaultOfStatus fault status before after
no_fault fault status other same = record { rose = λ h. absurd (other h); kept = λ _. same }

pub unwritten : {Same : Type 0} (refusal : ℕ) (ending : InputEnding) (status : ℕ) → IsRefusal refusal → status ≡ ending_status_of refusal ending
    → (IsErrOf ending ReadFault → Same) → (IsErrOf ending PastLimits → Same) → (status ≡ 2) ⊎ (status ≡ 6) → Same
unwritten refusal ending status r told read past (inl two) = read (stop_of refusal ending ReadFault status r told two)
unwritten refusal ending status r told read past (inr six) = past (stop_of refusal ending PastLimits status r told six)

-- ---- the statuses

pub known_status : (refusal : ℕ) (ending : InputEnding) (status : ℕ) → IsRefusal refusal → status ≡ ending_status_of refusal ending → IsStatus status × (status ≢ 1) × (status ≢ 4)
known_status refusal (Ok false) status r told = (inl told, (λ h. cc), λ h. cc)
known_status refusal (Ok true) status (inl r) told = (inr (inr (inr (inr (inr (inl (told ∙ r)))))), (λ h. cc), λ h. cc)
known_status refusal (Ok true) status (inr r) told = (inr (inr (inr (inr (inr (inr (inr (inr (inr (told ∙ r))))))))), (λ h. cc), λ h. cc)
known_status refusal (Err ReadFault) status r told = (inr (inr (inl told)), (λ h. cc), λ h. cc)
known_status refusal (Err WriteFault) status r told = (inr (inr (inr (inl told))), (λ h. cc), λ h. cc)
known_status refusal (Err PastLimits) status r told = (inr (inr (inr (inr (inr (inr (inl told)))))), (λ h. cc), λ h. cc)
known_status refusal (Err OutOfMemory) status r told = (inr (inr (inr (inr (inr (inr (inr (inl told))))))), (λ h. cc), λ h. cc)

-- where nothing hinders a command that reads, three are left
left_by : (Whole : Bool → Type 0) (Part : Type 0) (left left' : Option (List (List ℕ))) (held held' : Option (List ℕ)) (refusal : ℕ) (ending : InputEnding) (status : ℕ)
    → status ≡ ending_status_of refusal ending → EndsReading Whole Part ending left left' held held'
    → (status ≡ 2 → ⊥) → (status ≡ 3 → ⊥) → (GivesPast left left' → ⊥) → (status ≡ 0) ⊎ (status ≡ refusal) ⊎ (status ≡ 8)
left_by Whole Part left left' held held' refusal (Ok false) status told done two three past = inl told
left_by Whole Part left left' held held' refusal (Ok true) status told done two three past = inr (inl told)
left_by Whole Part left left' held held' refusal (Err ReadFault) status told done two three past = absurd (two told)
left_by Whole Part left left' held held' refusal (Err WriteFault) status told done two three past = absurd (three told)
left_by Whole Part left left' held held' refusal (Err PastLimits) status told done two three past = absurd (past done.0)
left_by Whole Part left left' held held' refusal (Err OutOfMemory) status told done two three past = inr (inr told)

pub left_over : {Whole : Bool → Type 0} {Part : Type 0} {left left' : Option (List (List ℕ))} {held held' : Option (List ℕ)} {refusal status : ℕ}
    → IsReadingRun refusal Whole Part status left left' held held'
    → (status ≡ 2 → ⊥) → (status ≡ 3 → ⊥) → (GivesPast left left' → ⊥) → (status ≡ 0) ⊎ (status ≡ refusal) ⊎ (status ≡ 8)
left_over {refusal = refusal} {status = status} run two three past = left_by _ _ _ _ _ _ refusal run.ending status run.told run.done two three past

-- one that came to its end wrote its text whole
whole_by : (Whole : Bool → Type 0) (Part : Type 0) (left left' : Option (List (List ℕ))) (held held' : Option (List ℕ)) (ending : InputEnding) (status : ℕ)
    → status ≡ ending_status_of 5 ending → EndsReading Whole Part ending left left' held held' → (status ≡ 0) ⊎ (status ≡ 5) → (refused : Bool) × Whole refused
whole_by Whole Part left left' held held' (Ok refused) status told done end = (refused, done)
whole_by Whole Part left left' held held' (Err ReadFault) status told done (inl h) = absurd (cc)
whole_by Whole Part left left' held held' (Err ReadFault) status told done (inr h) = absurd (cc)
whole_by Whole Part left left' held held' (Err WriteFault) status told done (inl h) = absurd (cc)
whole_by Whole Part left left' held held' (Err WriteFault) status told done (inr h) = absurd (cc)
whole_by Whole Part left left' held held' (Err PastLimits) status told done (inl h) = absurd (cc)
whole_by Whole Part left left' held held' (Err PastLimits) status told done (inr h) = absurd (cc)
whole_by Whole Part left left' held held' (Err OutOfMemory) status told done (inl h) = absurd (cc)
whole_by Whole Part left left' held held' (Err OutOfMemory) status told done (inr h) = absurd (cc)

pub whole_of : {Whole : Bool → Type 0} {Part : Type 0} {left left' : Option (List (List ℕ))} {held held' : Option (List ℕ)} {status : ℕ}
    → IsReadingRun 5 Whole Part status left left' held held' → (status ≡ 0) ⊎ (status ≡ 5) → (refused : Bool) × Whole refused
whole_of {status = status} run end = whole_by _ _ _ _ _ _ run.ending status run.told run.done end

-- where memory was refused before anything was done
pub not_begun : {Whole : Bool → Type 0} {Part : Type 0} {left : Option (List (List ℕ))} {held : Option (List ℕ)} (refusal : ℕ) → IsReadingRun refusal Whole Part 8 left left held held
not_begun refusal = record { ending = Err OutOfMemory; told = refl; done = inl refl }
