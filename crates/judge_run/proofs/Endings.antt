-- How a run ends.
use Rattle.std.proofs.Common.{◌≡◌, ◌≤◌, ℕ, List, [], ◌∷◌, ◌++◌, Bool, map, refl, sym, ap, ◌∙◌, subst, inl, inr, Option, Ok, Err}
use Rattle.std.specs.Prelude.{IfOk}
use Rattle.sb_outside.specs.Outside.{appended}
use Rattle.sb_outside.specs.Writing.{IsOnItsWay, HasFront}
use Rattle.input_lines.specs.Ways.{appended-twice, way_end, way_front, way_longer, way_lost}
use Rattle.snapshot_publish.specs.Publications.{Publications}
use Rattle.verdict_report.specs.declared.verdicts.Judged.{Judged}
use Rattle.wait_rules.specs.declared.waits.WaitState.{WaitState}
use Rattle.timed_sessions.specs.Told.{Outside}
use Rattle.update_run.specs.Printed.{has_refusals}
use Rattle.update_run.specs.Rounding.{text_so_far}
use Rattle.update_run.specs.Run.{Seen, seen}
use Rattle.update_run.specs.Saved.{Keeping, saved_lists}
use Rattle.update_run.specs.Steps.{round_state_of}
use Rattle.update_run.specs.declared.client.Client.{Client}
use Rattle.update_run.specs.declared.stop.RunStop.{RunStop}
use Rattle.update_run.specs.declared.stop.RunStop.TheVariants as run
use Rattle.judge_run.specs.Beside.{StopsBeside}
use Rattle.judge_run.specs.Checked.{NumbersNeverFall}
use Rattle.judge_run.specs.Judging.{check_of, first_finds, HasJudged, StopsJudging}
use Rattle.judge_run.specs.Printed.{outcome_of_all, report_text}
use Rattle.judge_run.specs.Rounds.{PublishesAllRounds}
use Rattle.judge_run.specs.Run.{JudgeEnding, EndsReporting, EndsUpdating, StopsAmongRounds, Updated, publications_of}
use Rattle.judge_run.specs.Stops.{StopsWriting, stop_after_rounds}
use Rattle.judge_run.specs.declared.judgement.Judgement.{Judgement}
use Rattle.judge_run.specs.declared.plan.JudgePlan.{JudgePlan}
use Rattle.judge_run.specs.declared.stop.JudgeStop.{JudgeStop}
use Rattle.judge_run.specs.declared.stop.JudgeStop.TheVariants as stop
use Rattle.judge_run.proofs.ReportFacts.{front_behind}

-- ---- the judging ends, of which nothing is seen of the keeper

module _ (plan : JudgePlan) (published : Publications) (finds : WaitState) (waiting : List ℕ) (lines : List (List ℕ)) (keeper : Keeping) where
  pub stops_at_waiting : (o : Outside) (a b : Option (List ℕ)) → HasFront a b waiting → EndsReporting plan (Err stop.WriteFault) published finds waiting lines (seen o keeper a) (seen o keeper b)
  stops_at_waiting o a b front = inl (record { outside = refl; keeper = refl; front = front })

  pub stops_among : (o o' : Outside) (a b : Option (List ℕ)) → StopsJudging plan published (first_finds finds) o o' lines → b ≡ appended a waiting
      → EndsReporting plan (Err stop.OutOfMemory) published finds waiting lines (seen o keeper a) (seen o' keeper b)
  stops_among o o' a b stops text = inl (record { stops = stops; keeper = refl; text = text })

  module _ (o o' : Outside) (a b c : Option (List ℕ)) (all : List Judged) (judged : HasJudged plan published finds o o' lines all) (waited : b ≡ appended a waiting) where
    pub judges_all : (judgement : Judgement) → NumbersNeverFall plan.workers (map check_of judged.judges.cases) → c ≡ appended b (report_text all) → judgement.outcome ≡ outcome_of_all all
        → EndsReporting plan (Ok judgement) published finds waiting lines (seen o keeper a) (seen o' keeper c)
    judges_all judgement never text is = record {
      all = all;
      judged = judged;
      never_fall = never;
      keeper = refl;
      text = text ∙ ap (λ (known : Option (List ℕ)). appended known (report_text all)) waited ∙ appended-twice a waiting (report_text all);
      is = is;
    }

    pub stops_reporting : (why : JudgeStop) (f f' : ℕ) → StopsWriting why f f' → HasFront b c (report_text all)
        → EndsReporting plan (Err why) published finds waiting lines (seen o keeper a) (seen o' keeper c)
    stops_reporting stop.WriteFault f f' is front = inr (record { all = all; judged = judged; keeper = refl; front = front_behind a b c waiting (report_text all) waited front })
    stops_reporting stop.OutOfMemory f f' is front = inr (record { all = all; judged = judged; keeper = refl; front = front_behind a b c waiting (report_text all) waited front })
    stops_reporting stop.ReadFault f f' (inl h) front = absurd (let other = h.0 in cc)
    stops_reporting stop.ReadFault f f' (inr h) front = absurd (let other = h.0 in cc)
    stops_reporting stop.PastLimits f f' (inl h) front = absurd (let other = h.0 in cc)
    stops_reporting stop.PastLimits f f' (inr h) front = absurd (let other = h.0 in cc)
    stops_reporting stop.KeepFault f f' (inl h) front = absurd (let other = h.0 in cc)
    stops_reporting stop.KeepFault f f' (inr h) front = absurd (let other = h.0 in cc)

-- what waited is on its way to the output, and then the judging ends
on_way : (ending : JudgeEnding) (plan : JudgePlan) (published : Publications) (finds : WaitState) (waiting done : List ℕ) (lines : List (List ℕ)) (start : Option (List ℕ)) (before after : Seen)
    → IsOnItsWay start before.output waiting done → EndsReporting plan ending published finds waiting lines before after
    → EndsReporting plan ending published finds done lines (seen before.outside before.keeper start) after
on_way (Ok judgement) plan published finds waiting done lines start before after way judges =
    let report = report_text judges.all in
    record {
      all = judges.all;
      judged = judges.judged;
      never_fall = judges.never_fall;
      keeper = judges.keeper;
      text = way_end (waiting ++ report) (done ++ report) (way_longer waiting done report way) judges.text;
      is = judges.is;
    }
on_way (Err stop.WriteFault) plan published finds waiting done lines start before after way (inl at) =
    inl (record { outside = at.outside; keeper = at.keeper; front = way_lost waiting done way at.front })
on_way (Err stop.WriteFault) plan published finds waiting done lines start before after way (inr at) =
    inr (record { all = at.all; judged = at.judged; keeper = at.keeper; front = way_front waiting done (report_text at.all) way at.front })
on_way (Err stop.OutOfMemory) plan published finds waiting done lines start before after way (inl at) =
    inl (record { stops = at.stops; keeper = at.keeper; text = way_end waiting done way at.text })
on_way (Err stop.OutOfMemory) plan published finds waiting done lines start before after way (inr at) =
    inr (record { all = at.all; judged = at.judged; keeper = at.keeper; front = way_front waiting done (report_text at.all) way at.front })
on_way (Err stop.ReadFault) plan published finds waiting done lines start before after way none = none
on_way (Err stop.PastLimits) plan published finds waiting done lines start before after way none = none
on_way (Err stop.KeepFault) plan published finds waiting done lines start before after way none = none

-- ---- from a client on

-- what is known once the rounds are made
pub any_end : (ending : JudgeEnding) (plan : JudgePlan) (client : Client) (finds : WaitState) (lines : List (List ℕ)) (before between after : Seen) (updated : Updated plan client before between)
    → EndsReporting plan ending (publications_of client.lists updated.rounds) finds (text_so_far client updated.rounds) lines between after
    → IfOk ending (λ judgement. judgement.refused ≡ has_refusals client.lists updated.rounds)
    → EndsUpdating plan ending client finds lines before after
any_end (Ok judgement) plan client finds lines before between after updated judges refused = record { between = between; updated = updated; judges = judges; refused = refused }
any_end (Err stop.WriteFault) plan client finds lines before between after updated stops refused = inr (record { between = between; updated = updated; stops = stops })
any_end (Err stop.OutOfMemory) plan client finds lines before between after updated stops refused = inr (inr (record { between = between; updated = updated; stops = stops }))
any_end (Err stop.ReadFault) plan client finds lines before between after updated none refused = none
any_end (Err stop.PastLimits) plan client finds lines before between after updated none refused = none
any_end (Err stop.KeepFault) plan client finds lines before between after updated none refused = absurd none

refused_as : (ending : JudgeEnding) (a b : Bool) → a ≡ b → IfOk ending (λ judgement. judgement.refused ≡ a) → IfOk ending (λ judgement. judgement.refused ≡ b)
refused_as (Ok judgement) a b same is = is ∙ same
refused_as (Err why) a b same is = tt

-- What is seen once the rounds are made, but for what they print, which waits still.
module _ (plan : JudgePlan) (client client' : Client) (published published' : Publications) (before mid : Seen) (refused : Bool)
    (publishes : PublishesAllRounds plan.updates client client' published published' before mid refused)
    (counted : before.outside.faults ≤ mid.outside.faults) (idle : plan.updates.rounds ≡ 0 → mid ≡ before)
  where
    between : Seen
    between = seen mid.outside mid.keeper before.output

    updated : Updated plan client before between
    unfolding between
    updated = record {
      rounds = publishes.rounds;
      all = publishes.all;
      state = round_state_of client';
      made = publishes.publishes.takes.made;
      saved = publishes.publishes.takes.saved;
      waiting = refl;
      counted = counted;
      idle = λ none. ap (λ (s : Seen). seen s.outside s.keeper before.output) (idle none);
    }

    pub ends_checked : (ending : JudgeEnding) (finds : WaitState) (lines : List (List ℕ)) (after : Seen) → published ≡ client.lists ∷ []
        → EndsReporting plan ending published' finds client'.page lines mid after → IfOk ending (λ judgement. judgement.refused ≡ refused)
        → EndsUpdating plan ending client finds lines before after
    unfolding between updated
    ends_checked ending finds lines after first ends is =
        let are = publishes.publishes.published_are ∙ ap (λ (ps : Publications). ps ++ saved_lists client.lists publishes.rounds) first in
        let here = subst (λ (ps : Publications). EndsReporting plan ending ps finds client'.page lines mid after) are ends in
        any_end ending plan client finds lines before between after updated
        (on_way ending plan (publications_of client.lists publishes.rounds) finds client'.page (text_so_far client publishes.rounds) lines before.output mid after publishes.publishes.takes.text here)
        (refused_as ending refused _ publishes.publishes.takes.refusal is)

-- the same over what the calls were given
pub ended : (plan : JudgePlan) (first client client' : Client) (published published' : Publications) (before mid after : Seen) (refused : Bool) (ending : JudgeEnding) (finds : WaitState) (urls lines : List (List ℕ))
    → client ≡ first → published ≡ first.lists ∷ [] → urls ≡ lines → PublishesAllRounds plan.updates client client' published published' before mid refused
    → before.outside.faults ≤ mid.outside.faults → (plan.updates.rounds ≡ 0 → mid ≡ before)
    → EndsReporting plan ending published' finds client'.page urls mid after → IfOk ending (λ judgement. judgement.refused ≡ refused)
    → EndsUpdating plan ending first finds lines before after
ended plan first client client' published published' before mid after refused ending finds urls lines same list are publishes counted idle ends is =
    let here = subst (λ (ls : List (List ℕ)). EndsReporting plan ending published' finds client'.page ls mid after) are ends in
    subst (λ (one : Client). EndsUpdating plan ending one finds lines before after) same
    (ends_checked plan client client' published published' before mid refused publishes counted idle ending finds lines after (list ∙ ap (λ (one : Client). one.lists ∷ []) (sym same)) here is)

-- ---- where the rounds stop

stops_rounds : (why : RunStop) (plan : JudgePlan) (client : Client) (finds : WaitState) (lines : List (List ℕ)) (before after : Seen)
    → StopsAmongRounds why plan client before after → EndsUpdating plan (Err (stop_after_rounds why)) client finds lines before after
stops_rounds run.WriteFault plan client finds lines before after stops = inl stops
stops_rounds run.KeepFault plan client finds lines before after stops = stops
stops_rounds run.OutOfMemory plan client finds lines before after stops = inr (inl stops)

pub stopped : (why : RunStop) (told : JudgeStop) (plan : JudgePlan) (first client client' : Client) (published published' : Publications) (finds : WaitState) (lines : List (List ℕ)) (before after : Seen)
    → told ≡ stop_after_rounds why → client ≡ first → published ≡ first.lists ∷ [] → before.outside.faults ≤ after.outside.faults → (plan.updates.rounds ≡ 0 → after ≡ before)
    → StopsBeside why plan.updates client client' published published' before after → EndsUpdating plan (Err told) first finds lines before after
stopped why told plan first client client' published published' finds lines before after is same list counted idle stops =
    let of_first = subst (λ (one : Client). StopsBeside why plan.updates one client' published published' before after) same stops in
    let here = stops_rounds why plan first finds lines before after (record {
      client' = client';
      published' = published';
      stops = subst (λ (ps : Publications). StopsBeside why plan.updates first client' ps published' before after) list of_first;
      counted = counted;
      idle = idle;
    }) in
    subst (λ (stop : JudgeStop). EndsUpdating plan (Err stop) first finds lines before after) (sym is) here
