-- A run that came to its end, beside the sessions of its log.
use Rattle.std.proofs.Common.{◌≡◌, ◌≢◌, ◌⊎◌, ℕ, inl, inr, Bool, true, false, List, [], ◌∷◌, ◌++◌, map, Option, Some, None, Ok, Err, refl, sym, ap, ◌∙◌, subst, append-nil}
use Rattle.std.specs.Prelude.{All}
use Rattle.sb_model.specs.History.{History}
use Rattle.sb_model.specs.Naming.{Naming}
use Rattle.sb_outside.specs.Outside.{IfTold, appended}
use Rattle.sb_outside.specs.declared.links.Session.{Session}
use Rattle.timed_sessions.specs.Told.{Outside, with_more}
use Rattle.sb_round.specs.Round.{Round}
use Rattle.sb_round.specs.Rounds.{RoundsAreTheirSessions, round_entry}
use Rattle.client_laws.specs.Met.{IsLogged}
use Rattle.both_ends_laws.specs.Answered.{IsAnsweredIn}
use Rattle.both_ends_laws.specs.Complete.{AnsweredRunsAreComplete, AnsweredRunsKeepVersions}
use Rattle.update_run.specs.Opening.{first_lists}
use Rattle.update_run.specs.Printed.{run_text, has_refusals}
use Rattle.update_run.specs.Run.{Seen, HasMade, IsLoaded, IsRun, RunEnding, EndsRun}
use Rattle.update_run.specs.declared.plan.Plan.{Plan}
use Rattle.update_run.specs.declared.stop.RunStop.TheVariants as stop
use Rattle.sb_client.specs.Ending.{run_status_of}
use Rattle.sb_client.specs.Runs.{IsUpdateRun}
use Rattle.sb_client.specs.Served.{MeetsAnswers, TellsComplete, MeetsVersions, TellsVersions}

-- ---- the log of a run has the sessions of its rounds more

same_back : {A : Type 0} (front a b : List A) → front ++ a ≡ front ++ b → a ≡ b
same_back [] a b e = e
same_back (x ∷ front) a b e = same_back front a b (let same : front ++ a ≡ front ++ b = cc in same)

-- what a log that is told has more is one list
more_known : (known later : Option (List Session)) (more sessions : List Session) → IfTold later (with_more known more) → IsLogged sessions known later → more ≡ sessions
more_known None later more sessions told log = absurd (let was = log.was in cc)
more_known (Some known) None more sessions told log = absurd (let is = log.is in cc)
more_known (Some known) (Some later) more sessions told log =
    let earlier : known ≡ log.earlier = (let was = log.was in cc) in
    let whole : known ++ more ≡ later = (let h = told in cc) in
    let parts : later ≡ log.earlier ++ sessions = (let is = log.is in cc) in
    same_back known more sessions (whole ∙ parts ∙ ap (λ (front : List Session). front ++ sessions) (sym earlier))

-- the kept text is one
kept_known : (known : Option (Option (List ℕ))) (kept other : Option (List ℕ)) → known ≡ Some kept → IsLoaded other known → other ≡ kept
kept_known None kept other e h = absurd (cc)
kept_known (Some text) kept other e h = let same : text ≡ kept = cc in h ∙ same

two_more : (a b c : Option (List Session)) (more sessions : List Session) → IfTold b (with_more a []) → IfTold c (with_more b more) → IsLogged sessions a c → more ≡ sessions
two_more a b None more sessions first next log = absurd (let is = log.is in cc)
two_more a None (Some later) more sessions first next log = absurd (cc)
two_more None (Some between) (Some later) more sessions first next log = absurd (cc)
two_more (Some known) (Some between) (Some later) more sessions first next log =
    let start : between ≡ known = (let h = first in let e : known ++ [] ≡ between = cc in sym e ∙ append-nil known) in
    more_known (Some known) (Some later) more sessions (subst (λ (front : List Session). IfTold (Some later) (with_more (Some front) more)) start next) log

pub made_sessions : (law : RoundsAreTheirSessions) (plan : Plan) (kept : Option (List ℕ)) (rounds : List Round) (before after : Outside) (made : HasMade plan kept rounds before after)
    (sessions : List Session) → IsLogged sessions before.log after.log → map round_entry rounds ≡ sessions
made_sessions law plan kept rounds before after made sessions log =
    let are = law (first_lists plan.names kept) made.waits plan.options plan.target plan.need_digest rounds made.made.are in
    let more = two_more before.log made.opened.log after.log _ sessions made.opens.told.log made.made.told.log log in
    sym are.0 ∙ more

-- ---- a run that came to its end

whole_of_run : (plan : Plan) (before after : Seen) (ending : RunEnding) (status : ℕ) → status ≡ run_status_of ending → EndsRun plan ending before after
    → (status ≡ 0) ⊎ (status ≡ 5) → (refused : Bool) × IsRun plan refused before after × (ending ≡ Ok refused)
whole_of_run plan before after (Ok refused) status told done end = (refused, done, refl)
whole_of_run plan before after (Err stop.WriteFault) status told done (inl h) = absurd (cc)
whole_of_run plan before after (Err stop.WriteFault) status told done (inr h) = absurd (cc)
whole_of_run plan before after (Err stop.KeepFault) status told done (inl h) = absurd (cc)
whole_of_run plan before after (Err stop.KeepFault) status told done (inr h) = absurd (cc)
whole_of_run plan before after (Err stop.OutOfMemory) status told done (inl h) = absurd (cc)
whole_of_run plan before after (Err stop.OutOfMemory) status told done (inr h) = absurd (cc)

module _ (law : RoundsAreTheirSessions) (history : History) (token_at : Naming) (plan : Plan) (kept : Option (List ℕ)) (sessions : List Session) (before after : Seen) where
  complete_by : AnsweredRunsAreComplete → (refused : Bool) → IsRun plan refused before after → MeetsAnswers history token_at plan kept sessions before after
      → TellsComplete history token_at plan kept sessions before after
  complete_by answered refused run meets =
      let same : run.kept ≡ kept = kept_known before.keeper.kept kept run.kept meets.known run.loaded in
      let made : HasMade plan kept run.rounds before.outside after.outside = subst (λ (text : Option (List ℕ)). HasMade plan text run.rounds before.outside after.outside) same run.made in
      record {
        rounds = run.rounds;
        all = run.all;
        made = made;
        are = made_sessions law plan kept run.rounds before.outside after.outside made sessions meets.log;
        complete = answered history token_at plan kept run.rounds before.outside after.outside sessions meets.asks made meets.log meets.answered;
        text = run.text ∙ ap (λ (text : Option (List ℕ)). appended before.output (run_text text (first_lists plan.names text) run.rounds)) same;
      }

  pub run_complete : AnsweredRunsAreComplete → (status : ℕ) → IsUpdateRun plan status before after → (status ≡ 0) ⊎ (status ≡ 5)
      → MeetsAnswers history token_at plan kept sessions before after → TellsComplete history token_at plan kept sessions before after
  run_complete answered status run end meets =
      let whole = whole_of_run plan before after run.ending status run.told run.done end in
      complete_by answered whole.0 whole.1 meets

  five_refused : (status : ℕ) (refused : Bool) → status ≡ run_status_of (Ok refused) → status ≡ 5 → refused ≡ true
  five_refused status true told h = refl
  five_refused status false told h = absurd (cc)

  -- where each session was answered, no refusal is told
  pub run_answered : AnsweredRunsAreComplete → (status : ℕ) → IsUpdateRun plan status before after → MeetsAnswers history token_at plan kept sessions before after
      → All (IsAnsweredIn history token_at plan.target) sessions → status ≢ 5
  unfolding complete_by
  run_answered answered status run meets all five =
      let whole = whole_of_run plan before after run.ending status run.told run.done (inr five) in
      let same : whole.1.kept ≡ kept = kept_known before.keeper.kept kept whole.1.kept meets.known whole.1.loaded in
      let complete = (complete_by answered whole.0 whole.1 meets).complete in
      let told : whole.0 ≡ has_refusals (first_lists plan.names whole.1.kept) whole.1.rounds = whole.1.refusal in
      let none : has_refusals (first_lists plan.names kept) whole.1.rounds ≡ false = complete.no_refusal all in
      let here : whole.0 ≡ false = told ∙ ap (λ (text : Option (List ℕ)). has_refusals (first_lists plan.names text) whole.1.rounds) same ∙ none in
      let refused : whole.0 ≡ true = five_refused status whole.0 (run.told ∙ ap run_status_of whole.2) five in
      let both : true ≡ false = sym refused ∙ here in
      absurd (cc)

  pub run_versions : AnsweredRunsKeepVersions → (least status : ℕ) → IsUpdateRun plan status before after → (status ≡ 0) ⊎ (status ≡ 5)
      → MeetsVersions history token_at least plan kept sessions before after → TellsVersions history token_at least plan kept sessions before after
  run_versions keep least status run end meets =
      let whole = whole_of_run plan before after run.ending status run.told run.done end in
      let same : whole.1.kept ≡ kept = kept_known before.keeper.kept kept whole.1.kept meets.known whole.1.loaded in
      let made : HasMade plan kept whole.1.rounds before.outside after.outside = subst (λ (text : Option (List ℕ)). HasMade plan text whole.1.rounds before.outside after.outside) same whole.1.made in
      record {
        rounds = whole.1.rounds;
        all = whole.1.all;
        made = made;
        are = made_sessions law plan kept whole.1.rounds before.outside after.outside made sessions meets.log;
        go_on = keep history token_at plan kept whole.1.rounds before.outside after.outside sessions least meets.asks made meets.log meets.answered;
        text = whole.1.text ∙ ap (λ (text : Option (List ℕ)). appended before.output (run_text text (first_lists plan.names text) whole.1.rounds)) same;
      }
