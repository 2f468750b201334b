-- How a run of a client can end, and how one of any command.
use Rattle.std.proofs.Common.{◌≡◌, ◌≢◌, ◌⊎◌, ℕ, inl, inr, Bool, true, false, not, List, Option, Ok, Err, refl, ap, ◌∙◌, subst}
use Rattle.std.specs.Prelude.{IfOk, IsErrOf, ◌==◌}
use Rattle.sb_model.specs.declared.names.ListName.{ListName}
use Rattle.sb_outside.specs.Outside.{Rose}
use Rattle.update_run.specs.declared.plan.Plan.{Plan}
use Rattle.update_run.specs.Run.{Seen, RunEnding, EndsRun, IsRun}
use Rattle.sb_model.specs.History.{History}
use Rattle.sb_model.specs.Naming.{Naming}
use Rattle.client_laws.specs.Runs.{HoldsOfRuns}
use Rattle.client_laws.specs.Met.{HasTakenBodies}
use Rattle.client_laws.specs.Replicas.{HandsReplicas, TellsReplicas}
use Rattle.client_laws.specs.Rows.{IsHeadline, TellsAtEnd, lacks_memory}
use Rattle.update_run.specs.declared.stop.RunStop.{RunStop}
use Rattle.update_run.specs.declared.stop.RunStop.TheVariants as stop
use Rattle.sb_client.specs.declared.command.Command.{Command}
use Rattle.sb_client.specs.declared.command.Command.TheVariants.{Replay, Run, Judge, Show, Vectors, Tell}
use Rattle.input_lines.specs.declared.stop.Stop.TheVariants.{ReadFault, WriteFault, PastLimits, OutOfMemory}
use Rattle.sb_client.specs.Show.{IsCounted, IsPartlyCounted}
use Rattle.input_lines.specs.Ending.{InputEnding}
use Rattle.sb_client.specs.Ending.{run_status_after, run_status_of}
use Rattle.sb_client.specs.Honest.{HoldsWhereHonest, KeepsStores}
use Rattle.sb_client.specs.Runs.{AreCountedWithKeeper, EndsCounting, IsCountRun, IsFaultOfStatus, IsJudgeRun, IsReplayRun, IsRunOf, IsShowRun, IsStatus, IsTellRun, IsUpdateRun}
use Rattle.judge_run.specs.Run.{Judging}
use Rattle.judge_run.specs.declared.plan.JudgePlan.{JudgePlan}
use Rattle.sb_client.proofs.Endings.{known_status, no_fault}
use Rattle.sb_client.proofs.Judgings.{known_judging}

-- ---- a run of updates

-- a status that a stop has is of that stop
pub write_stop : (ending : RunEnding) (status : ℕ) → status ≡ run_status_of ending → status ≡ 3 → IsErrOf ending stop.WriteFault
write_stop (Ok false) status told h = absurd (cc)
write_stop (Ok true) status told h = absurd (cc)
write_stop (Err stop.WriteFault) status told h = refl
write_stop (Err stop.KeepFault) status told h = absurd (cc)
write_stop (Err stop.OutOfMemory) status told h = absurd (cc)

pub keep_stop : (ending : RunEnding) (status : ℕ) → status ≡ run_status_of ending → status ≡ 4 → IsErrOf ending stop.KeepFault
keep_stop (Ok false) status told h = absurd (cc)
keep_stop (Ok true) status told h = absurd (cc)
keep_stop (Err stop.WriteFault) status told h = absurd (cc)
keep_stop (Err stop.KeepFault) status told h = refl
keep_stop (Err stop.OutOfMemory) status told h = absurd (cc)

-- a fault that is counted has its status
pub run_fault_of : {before after : ℕ} (ending : RunEnding) (stop : RunStop) (status : ℕ) → status ≡ run_status_of ending
    → (status ≡ run_status_after stop → IsErrOf ending stop) → (IsErrOf ending stop → Rose before after) → (ending ≢ Err stop → after ≡ before)
    → IsFaultOfStatus (run_status_after stop) status before after
run_fault_of ending stop status told is rose kept = record {
  rose = λ h. rose (is h);
  kept = λ other. kept (λ e. other (told ∙ ap run_status_of e));
}

-- the last of a run's bodies may not have been taken exactly with the status 8
lacks_by : (ending : RunEnding) (status : ℕ) → status ≡ run_status_of ending → lacks_memory ending ≡ (status == 8)
lacks_by (Ok false) status told = rw told refl
lacks_by (Ok true) status told = rw told refl
lacks_by (Err stop.WriteFault) status told = rw told refl
lacks_by (Err stop.KeepFault) status told = rw told refl
lacks_by (Err stop.OutOfMemory) status told = rw told refl

module _ (law : HoldsOfRuns) (plan : Plan) (status : ℕ) (before after : Seen) (run : IsUpdateRun plan status before after) where
  headline : IsHeadline plan run.ending before after
  headline = law plan run.ending before after run.done

  taken_then : HasTakenBodies (status == 8) before.outside.log after.outside.log headline.taken
  taken_then = subst (λ (lacks : Bool). HasTakenBodies lacks before.outside.log after.outside.log headline.taken) (lacks_by run.ending status run.told) headline.some

  pub run_hands : HoldsWhereHonest plan status before after HandsReplicas
  run_hands = record { taken = headline.taken; some = taken_then; holds = λ history token_at meets. (headline.holds history token_at meets).hands }

  pub run_keeps : HoldsWhereHonest plan status before after KeepsStores
  run_keeps = record { taken = headline.taken; some = taken_then; holds = λ history token_at meets. (headline.holds history token_at meets).keeps }

tells_by : {history : History} {token_at : Naming} {plan : Plan} {before after : Seen} (ending : RunEnding) (status : ℕ) → status ≡ run_status_of ending → (status ≡ 0) ⊎ (status ≡ 5)
    → TellsAtEnd history token_at plan ending before after → TellsReplicas history token_at plan before after
tells_by (Ok refused) status told end tells = tells
tells_by (Err stop.WriteFault) status told (inl h) tells = absurd (cc)
tells_by (Err stop.WriteFault) status told (inr h) tells = absurd (cc)
tells_by (Err stop.KeepFault) status told (inl h) tells = absurd (cc)
tells_by (Err stop.KeepFault) status told (inr h) tells = absurd (cc)
tells_by (Err stop.OutOfMemory) status told (inl h) tells = absurd (cc)
tells_by (Err stop.OutOfMemory) status told (inr h) tells = absurd (cc)

pub run_tells : (law : HoldsOfRuns) (plan : Plan) (status : ℕ) (before after : Seen) → IsUpdateRun plan status before after → (status ≡ 0) ⊎ (status ≡ 5)
    → HoldsWhereHonest plan status before after TellsReplicas
run_tells law plan status before after run end =
    let headline = law plan run.ending before after run.done in
    record {
      taken = headline.taken;
      some = subst (λ (lacks : Bool). HasTakenBodies lacks before.outside.log after.outside.log headline.taken) (lacks_by run.ending status run.told) headline.some;
      holds = λ history token_at meets. tells_by run.ending status run.told end (headline.holds history token_at meets).tells;
    }

whole_by : (plan : Plan) (before after : Seen) (ending : RunEnding) (status : ℕ) → status ≡ run_status_of ending → EndsRun plan ending before after
    → (status ≡ 0) ⊎ (status ≡ 5) → (refused : Bool) × IsRun plan refused before after
whole_by plan before after (Ok refused) status told done end = (refused, done)
whole_by plan before after (Err stop.WriteFault) status told done (inl h) = absurd (cc)
whole_by plan before after (Err stop.WriteFault) status told done (inr h) = absurd (cc)
whole_by plan before after (Err stop.KeepFault) status told done (inl h) = absurd (cc)
whole_by plan before after (Err stop.KeepFault) status told done (inr h) = absurd (cc)
whole_by plan before after (Err stop.OutOfMemory) status told done (inl h) = absurd (cc)
whole_by plan before after (Err stop.OutOfMemory) status told done (inr h) = absurd (cc)

-- one that came to its end is whole
pub whole_run : {plan : Plan} {status : ℕ} {before after : Seen} → IsUpdateRun plan status before after → (status ≡ 0) ⊎ (status ≡ 5)
    → (refused : Bool) × IsRun plan refused before after
whole_run {plan = plan} {status = status} {before = before} {after = after} run end = whole_by plan before after run.ending status run.told run.done end

left_by : (ending : RunEnding) (status : ℕ) → status ≡ run_status_of ending → (status ≡ 3 → ⊥) → (status ≡ 4 → ⊥) → (status ≡ 0) ⊎ (status ≡ 5) ⊎ (status ≡ 8)
left_by (Ok false) status told three four = inl told
left_by (Ok true) status told three four = inr (inl told)
left_by (Err stop.WriteFault) status told three four = absurd (three told)
left_by (Err stop.KeepFault) status told three four = absurd (four told)
left_by (Err stop.OutOfMemory) status told three four = inr (inr told)

-- where nothing fails, three are left
pub left_to_run : {plan : Plan} {status : ℕ} {before after : Seen} → IsUpdateRun plan status before after
    → (status ≡ 3 → ⊥) → (status ≡ 4 → ⊥) → (status ≡ 0) ⊎ (status ≡ 5) ⊎ (status ≡ 8)
left_to_run {status = status} run three four = left_by run.ending status run.told three four

run_status : (ending : RunEnding) (status : ℕ) → status ≡ run_status_of ending → IsStatus status × (status ≢ 1)
run_status (Ok false) status told = (inl told, λ h. cc)
run_status (Ok true) status told = (inr (inr (inr (inr (inr (inl told))))), λ h. cc)
run_status (Err stop.WriteFault) status told = (inr (inr (inr (inl told))), λ h. cc)
run_status (Err stop.KeepFault) status told = (inr (inr (inr (inr (inl told)))), λ h. cc)
run_status (Err stop.OutOfMemory) status told = (inr (inr (inr (inr (inr (inr (inr (inl told))))))), λ h. cc)

-- where memory was refused before anything was done
pub run_not_begun : (plan : Plan) (seen : Seen) → IsUpdateRun plan 8 seen seen
run_not_begun plan seen = record { ending = Err stop.OutOfMemory; told = refl; done = inl refl }

-- ---- a count of examples

pub counted : {held held' : Option (List ℕ)} (ending : InputEnding) → IfOk ending (λ failed. IsCounted (not failed) held held')
    → (IsErrOf ending WriteFault → IsPartlyCounted held held') → (IsErrOf ending OutOfMemory → held' ≡ held)
    → (ending ≢ Err ReadFault) × (ending ≢ Err PastLimits) → EndsCounting ending held held'
counted (Ok failed) whole write memory others = whole
counted (Err ReadFault) whole write memory others = others.0 refl
counted (Err WriteFault) whole write memory others = write refl
counted (Err PastLimits) whole write memory others = others.1 refl
counted (Err OutOfMemory) whole write memory others = memory refl

pub count_not_begun : (held : Option (List ℕ)) → IsCountRun 8 held held
count_not_begun held = record { ending = Err OutOfMemory; told = refl; done = refl }

-- ---- what was asked about a program

told_status : (text : List ℕ) (status : ℕ) (held held' : Option (List ℕ)) → IsTellRun text status held held' → IsStatus status × (status ≢ 1)
told_status text status held held' (inl whole) = (inl whole.0, λ h. let zero = whole.0 in cc)
told_status text status held held' (inr (inl cut)) = (inr (inr (inr (inl cut.0))), λ h. let three = cut.0 in cc)
told_status text status held held' (inr (inr none)) = (inr (inr (inr (inr (inr (inr (inr (inl none.0))))))), λ h. let eight = none.0 in cc)

-- ---- any command

module _ (status : ℕ) (before after : Judging) where
  pub status_of_run : (command : Command) → IsRunOf command status before after → IsStatus status × (status ≢ 1)
  status_of_run (Replay names) run = let known = known_status 5 run.ending status (inl refl) run.told in (known.0, known.1)
  status_of_run (Run plan) run = run_status run.ending status run.told
  status_of_run (Judge plan) run = known_judging run.ending status run.told
  status_of_run Show run = let known = known_status 21 run.ending status (inr refl) run.told in (known.0, known.1)
  status_of_run Vectors run = let known = known_status 21 run.ending status (inr refl) run.told in (known.0, known.1)
  status_of_run (Tell text) run = told_status text status before.seen.output after.seen.output run

  pub run_of_replay : (command : Command) (names : List ListName) → command ≡ Replay names → IsRunOf command status before after
      → IsReplayRun names status before.left after.left before.seen.output after.seen.output
  run_of_replay command names e run = subst (λ (command : Command). IsRunOf command status before after) e run

  pub run_of_plan : (command : Command) (plan : Plan) → command ≡ Run plan → IsRunOf command status before after → IsUpdateRun plan status before.seen after.seen
  run_of_plan command plan e run = subst (λ (command : Command). IsRunOf command status before after) e run

  pub run_of_judge : (command : Command) (plan : JudgePlan) → command ≡ Judge plan → IsRunOf command status before after
      → IsJudgeRun plan status before after
  run_of_judge command plan e run = subst (λ (command : Command). IsRunOf command status before after) e run

  pub run_of_show : (command : Command) → command ≡ Show → IsRunOf command status before after → IsShowRun status before.left after.left before.seen.output after.seen.output
  run_of_show command e run = subst (λ (command : Command). IsRunOf command status before after) e run

  pub run_of_vectors : (command : Command) → command ≡ Vectors → IsRunOf command status before after → IsCountRun status before.seen.output after.seen.output
  run_of_vectors command e run = subst (λ (command : Command). IsRunOf command status before after) e run

  pub run_of_tell : (command : Command) (text : List ℕ) → command ≡ Tell text → IsRunOf command status before after → IsTellRun text status before.seen.output after.seen.output
  run_of_tell command text e run = subst (λ (command : Command). IsRunOf command status before after) e run

-- where no count changed, none rose
pub none_counted : {input out keep : ℕ} (status : ℕ) → status ≢ 2 → (status ≢ 1 → status ≢ 3) → status ≢ 4 → AreCountedWithKeeper status input input out out keep keep
none_counted status two three four = record {
  read = no_fault 2 status two refl;
  written = λ other. no_fault 3 status (three other) refl;
  saved = no_fault 4 status four refl;
}
