-- What runs that judge beside updates save.
use Rattle.std.proofs.Common.{◌≡◌, ◌≤◌, ℕ, List, [], ◌∷◌, ◌++◌, Bool, length, map, refl, sym, ap, subst, inl, inr, Option, Some, None, Ok, Err, arith}
use Rattle.std.specs.Prelude.{All}
use Rattle.std.proofs.lemmas.List.Elements.{All-nil}
use Rattle.sb_model.specs.History.{History, IsWellFormed}
use Rattle.sb_model.specs.Naming.{Naming}
use Rattle.sb_outside.specs.Outside.{IfTold}
use Rattle.sb_outside.specs.declared.links.Session.{Session}
use Rattle.update_client.specs.Held.{Held}
use Rattle.snapshot_publish.specs.Publications.{Publications}
use Rattle.wait_rules.specs.declared.waits.WaitState.{WaitState}
use Rattle.timed_sessions.specs.Told.{Outside, with_more}
use Rattle.sb_round.specs.Round.{Round, RoundState, round_state, BreaksOff}
use Rattle.sb_round.specs.Rounds.{MakesRounds, RoundsAreTheirSessions, round_entry}
use Rattle.update_run.specs.Opening.{first_lists}
use Rattle.update_run.specs.Rounding.{StopsAfterRounds as StopsAfterUpdates, BreaksOffAfterRounds, FailsAfterRounds}
use Rattle.update_run.specs.Run.{IsLoaded, Seen}
use Rattle.update_run.specs.Saved.{Keeping, HasSaved, MayLackLast, ReadsAgain, saved_lists}
use Rattle.update_run.specs.declared.client.Client.{Client}
use Rattle.update_run.specs.declared.stop.RunStop.{RunStop}
use Rattle.update_run.specs.declared.stop.RunStop.TheVariants as run
use Rattle.client_laws.specs.Runs.{SavesReplicas}
use Rattle.client_laws.specs.Met.{AreHonestRounds}
use Rattle.client_laws.specs.Replicas.{AreReplicasOf, HandsReplicas, IsKeptSafely, KeepsSafely}
use Rattle.client_laws.proofs.Logs.{told_both, told_itself, told_nothing}
use Rattle.client_laws.proofs.Saved.{CutsAreNotRead, ReadTextsAreStores, hands_saved, hands_torn, some_of}
use Rattle.http_edge.specs.declared.messages.Target.{Target}
use Rattle.url_checker.specs.Resolved.{StopsResolving, Unresolved}
use Rattle.url_checker.specs.declared.finds.Finds.{Finds}
use Rattle.judge_run.specs.Beside.{StopsBeside}
use Rattle.judge_run.specs.Judging.{BreaksOffLine, StopsJudging, trace_of_cases}
use Rattle.judge_run.specs.Rounds.{PublishesAllRounds, StopsAtPublication}
use Rattle.judge_run.specs.Run.{Judging, JudgeEnding, EndsJudging, EndsOpened, EndsReporting, Opened, Updated, client_at}
use Rattle.judge_run.specs.declared.plan.JudgePlan.{JudgePlan}
use Rattle.judge_run.specs.declared.stop.JudgeStop.TheVariants as stop
use Rattle.client_laws.specs.Saving.{JudgingsSaveReplicas, UpdatesHold}

-- a keeper that was handed nothing
saved_nothing : (keeper : Keeping) → HasSaved [] keeper keeper
saved_nothing keeper = record { handed = told_nothing keeper.handed; keeps = told_itself keeper.kept; reads = All-nil ReadsAgain }

-- ---- the finds, after the updates

-- a log has some sessions more
abbrev GrowsBySome : Outside → Outside → Type 0
GrowsBySome before after = (later : List Session) × IfTold after.log (with_more before.log later)

by_none : (before after : Outside) → after ≡ before → GrowsBySome before after
by_none before after same = ([], subst (λ (o : Outside). IfTold o.log (with_more before.log [])) (sym same) (told_nothing before.log))

by_both : (a b c : Outside) → GrowsBySome a b → GrowsBySome b c → GrowsBySome a c
by_both a b c (more, told) (next, then) = (more ++ next, told_both a.log b.log c.log more next told then)

resolved_in_part : (what : Unresolved) (target : Target) (finds : Finds) (before after : Outside) → StopsResolving what target finds before after → GrowsBySome before after
resolved_in_part what target finds before after stops =
    elim stops.told [
      | inl read ↦ ([], read.log)
      | inr held ↦ (held.session.entry ∷ [], held.told.log)
    ]

broken_off : (plan : JudgePlan) (published : Publications) (finds : Finds) (before after : Outside) (lines : List (List ℕ)) → BreaksOffLine plan published finds before after lines → GrowsBySome before after
broken_off plan published finds before after [] same = by_none before after same
broken_off plan published finds before after (line ∷ lines) (inl same) = by_none before after same
broken_off plan published finds before after (line ∷ lines) (inr breaks) = resolved_in_part _ _ _ before after breaks.stops

stopped_judging : (plan : JudgePlan) (published : Publications) (finds : Finds) (before after : Outside) (lines : List (List ℕ)) → StopsJudging plan published finds before after lines → GrowsBySome before after
stopped_judging plan published finds before after lines stops =
    by_both before stops.between after
    ((trace_of_cases published finds stops.judges.cases).sessions, stops.judges.told.log)
    (broken_off plan published stops.finds_now stops.between after stops.left stops.breaks)

judged_more : (ending : JudgeEnding) (plan : JudgePlan) (published : Publications) (waits : WaitState) (waiting : List ℕ) (lines : List (List ℕ)) (before after : Seen)
    → EndsReporting plan ending published waits waiting lines before after → GrowsBySome before.outside after.outside
judged_more (Ok judgement) plan published waits waiting lines before after ends = ((trace_of_cases published _ ends.judged.judges.cases).sessions, ends.judged.judges.told.log)
judged_more (Err stop.WriteFault) plan published waits waiting lines before after (inl at) = by_none before.outside after.outside at.outside
judged_more (Err stop.WriteFault) plan published waits waiting lines before after (inr at) = ((trace_of_cases published _ at.judged.judges.cases).sessions, at.judged.judges.told.log)
judged_more (Err stop.OutOfMemory) plan published waits waiting lines before after (inl at) = stopped_judging plan published _ before.outside after.outside lines at.stops
judged_more (Err stop.OutOfMemory) plan published waits waiting lines before after (inr at) = ((trace_of_cases published _ at.judged.judges.cases).sessions, at.judged.judges.told.log)
judged_more (Err stop.ReadFault) plan published waits waiting lines before after none = absurd none
judged_more (Err stop.PastLimits) plan published waits waiting lines before after none = absurd none
judged_more (Err stop.KeepFault) plan published waits waiting lines before after none = absurd none

-- the judging did nothing that is seen of the keeper
judged_kept : (ending : JudgeEnding) (plan : JudgePlan) (published : Publications) (waits : WaitState) (waiting : List ℕ) (lines : List (List ℕ)) (before after : Seen)
    → EndsReporting plan ending published waits waiting lines before after → after.keeper ≡ before.keeper
judged_kept (Ok judgement) plan published waits waiting lines before after ends = ends.keeper
judged_kept (Err stop.WriteFault) plan published waits waiting lines before after (inl at) = at.keeper
judged_kept (Err stop.WriteFault) plan published waits waiting lines before after (inr at) = at.keeper
judged_kept (Err stop.OutOfMemory) plan published waits waiting lines before after (inl at) = at.keeper
judged_kept (Err stop.OutOfMemory) plan published waits waiting lines before after (inr at) = at.keeper
judged_kept (Err stop.ReadFault) plan published waits waiting lines before after none = absurd none
judged_kept (Err stop.PastLimits) plan published waits waiting lines before after none = absurd none
judged_kept (Err stop.KeepFault) plan published waits waiting lines before after none = absurd none

-- ---- a run that began

module _ (theirs : RoundsAreTheirSessions) (saves : SavesReplicas) (cuts : CutsAreNotRead) (reads : ReadTextsAreStores) (plan : JudgePlan) (before after : Judging) where
  -- what holds of what these rounds saved
  abbrev HoldsOf : Option (List ℕ) → List Round → Type 0
  HoldsOf kept rounds = (history : History) (token_at : Naming) → IsWellFormed history → IsKeptSafely history token_at kept → AreHonestRounds history token_at (first_lists plan.updates.names kept) rounds
      → HandsReplicas history token_at plan.updates before.seen after.seen × KeepsSafely history token_at before.seen after.seen

  some_saved : (kept : Option (List ℕ)) (rounds : List Round) (stores : List (List Held)) → MayLackLast (saved_lists (first_lists plan.updates.names kept) rounds) stores → HasSaved stores before.seen.keeper after.seen.keeper → HoldsOf kept rounds
  some_saved kept rounds stores most saved history token_at formed safe honest =
      hands_saved history token_at plan.updates before.seen after.seen stores
      (some_of history token_at plan.updates.names (saved_lists (first_lists plan.updates.names kept) rounds) stores most (saves history token_at plan.updates.names kept rounds formed safe honest)) saved

  module _ (begins : Opened before after.left) where
    abbrev opened : Seen
    opened = record before.seen { outside = begins.outside }

    opened_log : (rounds : List Round) (middle : Outside) (state : RoundState)
        → MakesRounds (round_state (first_lists plan.updates.names begins.kept) begins.updates) state plan.updates.options plan.updates.target plan.updates.need_digest begins.outside middle rounds
        → IfTold middle.log (with_more before.seen.outside.log (map round_entry rounds))
    opened_log rounds middle state made =
        let law = theirs (first_lists plan.updates.names begins.kept) begins.updates plan.updates.options plan.updates.target plan.updates.need_digest rounds made.are in
        let rest = subst (λ more. IfTold middle.log (with_more begins.outside.log more)) law.0 made.told.log in
        told_both before.seen.outside.log begins.outside.log middle.log [] (map round_entry rounds) begins.opens.told.log rest

    pub of_rounds : (rounds : List Round) (middle : Outside) (state : RoundState) → length rounds ≤ plan.updates.rounds
        → MakesRounds (round_state (first_lists plan.updates.names begins.kept) begins.updates) state plan.updates.options plan.updates.target plan.updates.need_digest begins.outside middle rounds
        → GrowsBySome middle after.seen.outside → HoldsOf begins.kept rounds → UpdatesHold plan before after
    of_rounds rounds middle state few made (later, told) holds = record {
      kept = begins.kept;
      loaded = begins.loaded;
      rounds = rounds;
      few = few;
      later = later;
      log = told_both before.seen.outside.log middle.log after.seen.outside.log (map round_entry rounds) later (opened_log rounds middle state made) told;
      bodies = (theirs (first_lists plan.updates.names begins.kept) begins.updates plan.updates.options plan.updates.target plan.updates.need_digest rounds made.are).1;
      holds = holds;
    }

    after_updates : (between : Seen) (updated : Updated plan (client_at plan begins.kept begins.updates) opened between)
        → GrowsBySome between.outside after.seen.outside → after.seen.keeper ≡ between.keeper → UpdatesHold plan before after
    after_updates between updated more kept =
        of_rounds updated.rounds between.outside updated.state (omega (arith, updated.all)) updated.made more
        (some_saved begins.kept updated.rounds (saved_lists (first_lists plan.updates.names begins.kept) updated.rounds) (inl refl)
        (subst (λ k. HasSaved (saved_lists (first_lists plan.updates.names begins.kept) updated.rounds) before.seen.keeper k) (sym kept) updated.saved))

    short : {text : List Round → List ℕ} → StopsAfterUpdates plan.updates (client_at plan begins.kept begins.updates) text opened after.seen
        → UpdatesHold plan before after
    short stops =
        of_rounds stops.rounds after.seen.outside (round_state stops.lists stops.waits) stops.few stops.made (by_none after.seen.outside after.seen.outside refl)
        (some_saved begins.kept stops.rounds stops.stores stops.most stops.saved)

    torn : FailsAfterRounds plan.updates (client_at plan begins.kept begins.updates) opened after.seen → UpdatesHold plan before after
    torn fails =
        of_rounds fails.rounds after.seen.outside (round_state fails.lists fails.waits) fails.few fails.made (by_none after.seen.outside after.seen.outside refl)
        (λ history token_at formed safe honest.
        hands_torn history token_at cuts reads plan.updates before.seen after.seen fails.between fails.earlier fails.last
        (subst (λ all. All (AreReplicasOf history token_at plan.updates.names) all) fails.saves (saves history token_at plan.updates.names begins.kept fails.rounds formed safe honest)) fails.saved fails.fails)

    broken : BreaksOffAfterRounds plan.updates (client_at plan begins.kept begins.updates) opened after.seen → UpdatesHold plan before after
    broken breaks =
        of_rounds breaks.rounds breaks.between (round_state breaks.lists breaks.waits) (omega (arith, breaks.further)) breaks.made (more breaks.breaks)
        (some_saved begins.kept breaks.rounds (saved_lists (first_lists plan.updates.names begins.kept) breaks.rounds) (inl refl) breaks.saved)
      where
        more : BreaksOff breaks.lists breaks.waits plan.updates.options plan.updates.target breaks.between after.seen.outside → GrowsBySome breaks.between after.seen.outside
        more (inl same) = by_none breaks.between after.seen.outside same
        more (inr held) = (held.session.entry ∷ [], held.told.log)

    unpublished : StopsAtPublication plan.updates (client_at plan begins.kept begins.updates) opened after.seen → UpdatesHold plan before after
    unpublished stops =
        of_rounds stops.rounds after.seen.outside _ stops.few stops.takes.made (by_none after.seen.outside after.seen.outside refl)
        (some_saved begins.kept stops.rounds (saved_lists (first_lists plan.updates.names begins.kept) stops.rounds) (inl refl) stops.takes.saved)

    unchecked : {published published' : Publications} {refused : Bool} {client' : Client}
        → PublishesAllRounds plan.updates (client_at plan begins.kept begins.updates) client' published published' opened after.seen refused
        → UpdatesHold plan before after
    unchecked all =
        of_rounds all.rounds after.seen.outside _ (omega (arith, all.all)) all.publishes.takes.made (by_none after.seen.outside after.seen.outside refl)
        (some_saved begins.kept all.rounds (saved_lists (first_lists plan.updates.names begins.kept) all.rounds) (inl refl) all.publishes.takes.saved)

    nothing_made : after.seen.outside ≡ begins.outside → after.seen.keeper ≡ before.seen.keeper → UpdatesHold plan before after
    nothing_made same kept = record {
      kept = begins.kept;
      loaded = begins.loaded;
      rounds = [];
      few = omega arith;
      later = [];
      log = subst (λ (o : Outside). IfTold o.log (with_more before.seen.outside.log [])) (sym same) begins.opens.told.log;
      bodies = tt;
      holds = some_saved begins.kept [] [] (inl refl) (subst (λ k. HasSaved [] before.seen.keeper k) (sym kept) (saved_nothing before.seen.keeper));
    }

    module _ (client' : Client) (published published' : Publications) where
      abbrev AmongRounds : RunStop → Type 0
      AmongRounds why =
          StopsBeside why plan.updates (client_at plan begins.kept begins.updates) client' published published' opened after.seen

      among_write : AmongRounds run.WriteFault → UpdatesHold plan before after
      among_write (inl (inl stops)) = short stops
      among_write (inl (inr (why, stops))) = unpublished stops
      among_write (inr stops) = unchecked stops.publishes

      among_keep : AmongRounds run.KeepFault → UpdatesHold plan before after
      among_keep (inl (inl fails)) = torn fails
      among_keep (inl (inr (why, stops))) = unpublished stops
      among_keep (inr stops) = unchecked stops.publishes

      among_memory : AmongRounds run.OutOfMemory → UpdatesHold plan before after
      among_memory (inl (inl (inl stops))) = short stops
      among_memory (inl (inl (inr breaks))) = broken breaks
      among_memory (inl (inr (why, stops))) = unpublished stops
      among_memory (inr stops) = unchecked stops.publishes

  -- nothing was done of a run
  untouched : after.seen ≡ before.seen → UpdatesHold plan before after
  untouched same = by_kept before.seen.keeper.kept refl
    where
      with_kept : (kept : Option (List ℕ)) → IsLoaded kept before.seen.keeper.kept → UpdatesHold plan before after
      with_kept kept loaded = record {
        kept = kept;
        loaded = loaded;
        rounds = [];
        few = omega arith;
        later = [];
        log = subst (λ (s : Seen). IfTold s.outside.log (with_more before.seen.outside.log [])) (sym same) (told_nothing before.seen.outside.log);
        bodies = tt;
        holds = some_saved kept [] [] (inl refl) (subst (λ (s : Seen). HasSaved [] before.seen.keeper s.keeper) (sym same) (saved_nothing before.seen.keeper));
      }

      by_kept : (known : Option (Option (List ℕ))) → before.seen.keeper.kept ≡ known → UpdatesHold plan before after
      by_kept None is = with_kept None (subst (λ known. IsLoaded None known) (sym is) tt)
      by_kept (Some text) is = with_kept text (subst (λ known. IsLoaded text known) (sym is) refl)

  after_judging : (begins : Opened before after.left) (ending : JudgeEnding) (between : Seen) (updated : Updated plan (client_at plan begins.kept begins.updates) (record before.seen { outside = begins.outside }) between)
      (published : Publications) (waits : WaitState) (waiting : List ℕ) (lines : List (List ℕ)) → EndsReporting plan ending published waits waiting lines between after.seen → UpdatesHold plan before after
  after_judging begins ending between updated published waits waiting lines ends =
      after_updates begins between updated (judged_more ending plan published waits waiting lines between after.seen ends) (judged_kept ending plan published waits waiting lines between after.seen ends)

  of_ending : (ending : JudgeEnding) → EndsOpened plan ending before after → UpdatesHold plan before after
  of_ending (Ok judgement) ends = after_judging ends.begins (Ok judgement) ends.ends.between ends.ends.updated _ _ _ _ ends.ends.judges
  of_ending (Err stop.WriteFault) ends =
      elim ends.ends [
        | inl among ↦ among_write ends.begins _ _ _ among.stops
        | inr later ↦ after_judging ends.begins (Err stop.WriteFault) later.between later.updated _ _ _ _ later.stops
      ]
  of_ending (Err stop.KeepFault) ends = among_keep ends.begins _ _ _ ends.ends.stops
  of_ending (Err stop.OutOfMemory) ends =
      elim ends.ends [
        | inl idle ↦ nothing_made ends.begins (ap (λ (s : Seen). s.outside) idle) (ap (λ (s : Seen). s.keeper) idle)
        | inr (inl among) ↦ among_memory ends.begins _ _ _ among.stops
        | inr (inr later) ↦ after_judging ends.begins (Err stop.OutOfMemory) later.between later.updated _ _ _ _ later.stops
      ]
  of_ending (Err stop.ReadFault) ends = absurd ends.ends
  of_ending (Err stop.PastLimits) ends = absurd ends.ends

  pub any_ending : (ending : JudgeEnding) → EndsJudging plan ending before after → UpdatesHold plan before after
  any_ending (Ok judgement) ends = of_ending (Ok judgement) ends
  any_ending (Err stop.ReadFault) ends = untouched ends.1
  any_ending (Err stop.PastLimits) ends = untouched ends.1
  any_ending (Err stop.KeepFault) (inl same) = untouched same.1
  any_ending (Err stop.KeepFault) (inr ends) = of_ending (Err stop.KeepFault) ends
  any_ending (Err stop.WriteFault) ends = of_ending (Err stop.WriteFault) ends
  any_ending (Err stop.OutOfMemory) (inl same) = untouched same
  any_ending (Err stop.OutOfMemory) (inr ends) = of_ending (Err stop.OutOfMemory) ends

pub judgings_save : RoundsAreTheirSessions → SavesReplicas → CutsAreNotRead → ReadTextsAreStores → JudgingsSaveReplicas
judgings_save theirs saves cuts reads plan ending before after ends = any_ending theirs saves cuts reads plan before after ending ends
