-- URLs that were judged in order, and one more.
use Rattle.std.proofs.Common.{◌≡◌, ◌≤◌, ◌⊎◌, ℕ, List, [], ◌∷◌, ◌++◌, refl, sym, ap, ◌∙◌, subst, inl, inr, append_assoc, append-nil, arith, Option, Some, None, Ok, Err}
use Rattle.std.specs.Prelude.{slice_index_or}
use Rattle.sb_model.specs.declared.time.Moment.{Moment}
use Rattle.sb_outside.specs.Outside.{Rose, IfTold}
use Rattle.sb_outside.specs.declared.links.Session.{Session}
use Rattle.update_client.specs.Held.{Held, tokens_of}
use Rattle.snapshot_publish.specs.Publications.{Publications}
use Rattle.full_hash_cache.specs.Cache.{Pairs}
use Rattle.wait_rules.specs.declared.waits.WaitState.{WaitState}
use Rattle.timed_sessions.specs.Told.{Outside, Trace, no_trace, then_trace, Grows, with_more}
use Rattle.timed_sessions.specs.Law.{GoesOnWithTrace}
use Rattle.url_canon.specs.Canonical.{canonical_of}
use Rattle.url_canon.specs.declared.fault.UrlFault.{UrlFault}
use Rattle.url_checker.specs.Checking.{IsFindingOf}
use Rattle.url_checker.specs.Resolving.{IsResolution, pairs_after}
use Rattle.url_checker.specs.Resolved.{Resolves, unresolved}
use Rattle.url_checker.specs.declared.findings.Finding.{Finding}
use Rattle.url_checker.specs.declared.findings.Checked.TheVariants.{Found, Refused}
use Rattle.verdict_report.specs.declared.verdicts.Judged.{Judged}
use Rattle.verdict_report.specs.declared.verdicts.Judged.TheVariants as judged
use Rattle.verdict_report.specs.declared.verdicts.Verdict.{Verdict}
use Rattle.url_checker.specs.declared.finds.Finds.{Finds}
use Rattle.judge_run.specs.Judging.{Case, lists_of_finding, IsFoundIn, IsCase, finds_after, trace_of_case, judged_of, LinkFailedIn, AreCases, finds_after_all, trace_of_cases, judged_of_all, LinkFailedInSome, JudgesLine, JudgesCheck, JudgesLines, BreaksOffLine, StopsJudging, first_finds}
use Rattle.judge_run.specs.declared.plan.JudgePlan.{JudgePlan}

-- ---- what is told of one thing after the other

abbrev trace : List Session → List Moment → List Moment → List ℕ → Trace
trace sessions readings waits words = record { sessions = sessions; readings = readings; waits = waits; drawn = words }

same_trace : (a b : Trace) → a.sessions ≡ b.sessions → a.readings ≡ b.readings → a.waits ≡ b.waits → a.drawn ≡ b.drawn → a ≡ b
same_trace a b sessions readings waits words =
    ap (λ all. trace all a.readings a.waits a.drawn) sessions
    ∙ ap (λ all. trace b.sessions all a.waits a.drawn) readings
    ∙ ap (λ all. trace b.sessions b.readings all a.drawn) waits
    ∙ ap (λ all. trace b.sessions b.readings b.waits all) words

then_nothing : (a : Trace) → then_trace a no_trace ≡ then_trace no_trace a
then_nothing a = same_trace _ _ (append-nil a.sessions) (append-nil a.readings) (append-nil a.waits) (append-nil a.drawn)

then_both : (a b c : Trace) → then_trace a (then_trace b c) ≡ then_trace (then_trace a b) c
then_both a b c =
    same_trace _ _
    (sym (append_assoc a.sessions b.sessions c.sessions)) (sym (append_assoc a.readings b.readings c.readings))
    (sym (append_assoc a.waits b.waits c.waits)) (sym (append_assoc a.drawn b.drawn c.drawn))

-- ---- the definitions, with one case more

module _ (published : Publications) where
  after_one_more : (finds : Finds) (cases : List Case) (case : Case)
      → finds_after_all published finds (cases ++ case ∷ []) ≡ finds_after published (finds_after_all published finds cases) case
  after_one_more finds [] case = refl
  after_one_more finds (first ∷ cases) case = after_one_more (finds_after published finds first) cases case

  trace_one_more : (finds : Finds) (cases : List Case) (case : Case)
      → trace_of_cases published finds (cases ++ case ∷ []) ≡ then_trace (trace_of_cases published finds cases) (trace_of_case (finds_after_all published finds cases) case)
  trace_one_more finds [] case = then_nothing (trace_of_case finds case)
  trace_one_more finds (first ∷ cases) case =
      let after = finds_after published finds first in
      ap (λ rest. then_trace (trace_of_case finds first) rest) (trace_one_more after cases case)
      ∙ then_both (trace_of_case finds first) (trace_of_cases published after cases) (trace_of_case (finds_after_all published after cases) case)

  judged_one_more : (finds : Finds) (cases : List Case) (case : Case)
      → judged_of_all published finds (cases ++ case ∷ []) ≡ judged_of_all published finds cases ++ judged_of (finds_after_all published finds cases) case ∷ []
  judged_one_more finds [] case = refl
  judged_one_more finds (first ∷ cases) case = ap (λ rest. judged_of finds first ∷ rest) (judged_one_more (finds_after published finds first) cases case)

  cases_one_more : (plan : JudgePlan) (finds : Finds) (lines : List (List ℕ)) (cases : List Case) (line : List ℕ) (case : Case)
      → AreCases plan published finds lines cases → IsCase plan published (finds_after_all published finds cases) line case
      → AreCases plan published finds (lines ++ line ∷ []) (cases ++ case ∷ [])
  cases_one_more plan finds [] [] line case are is = (is, tt)
  cases_one_more plan finds [] (first ∷ cases) line case are is = absurd are
  cases_one_more plan finds (first ∷ lines) [] line case are is = absurd are
  cases_one_more plan finds (first ∷ lines) (one ∷ cases) line case (first_is, are) is =
      (first_is, cases_one_more plan (finds_after published finds one) lines cases line case are is)

  -- where the link failed in one of them, it failed before the last or in the last
  failed_before : (finds : Finds) (cases : List Case) (case : Case)
      → LinkFailedInSome published finds (cases ++ case ∷ []) → LinkFailedInSome published finds cases ⊎ LinkFailedIn (finds_after_all published finds cases) case
  failed_before finds [] case (inl failed) = inr failed
  failed_before finds [] case (inr none) = absurd none
  failed_before finds (first ∷ cases) case (inl failed) = inl (inl failed)
  failed_before finds (first ∷ cases) case (inr failed) = later (failed_before (finds_after published finds first) cases case failed)
    where
      later : LinkFailedInSome published (finds_after published finds first) cases ⊎ LinkFailedIn (finds_after_all published (finds_after published finds first) cases) case
          → LinkFailedInSome published finds (first ∷ cases) ⊎ LinkFailedIn (finds_after_all published finds (first ∷ cases)) case
      later (inl here) = inl (inr here)
      later (inr last) = inr last

  failed_in_front : (finds : Finds) (cases : List Case) (case : Case) → LinkFailedInSome published finds cases → LinkFailedInSome published finds (cases ++ case ∷ [])
  failed_in_front finds [] case none = absurd none
  failed_in_front finds (first ∷ cases) case (inl failed) = inl failed
  failed_in_front finds (first ∷ cases) case (inr failed) = inr (failed_in_front (finds_after published finds first) cases case failed)

  failed_in_last : (finds : Finds) (cases : List Case) (case : Case) → LinkFailedIn (finds_after_all published finds cases) case → LinkFailedInSome published finds (cases ++ case ∷ [])
  failed_in_last finds [] case failed = inl failed
  failed_in_last finds (first ∷ cases) case failed = inr (failed_in_last (finds_after published finds first) cases case failed)

-- ---- counts of faults

rose_more : (a b c : ℕ) → Rose a b → b ≤ c → Rose a c
rose_more a b c rose more = omega (arith, rose, more)

rose_later : (a b c : ℕ) → a ≤ b → Rose b c → Rose a c
rose_later a b c more rose = grind (arith, more, rose)

-- ---- what is seen of them

pub told_nothing : {A : Type 0} (known : Option (List A)) → IfTold known (with_more known [])
told_nothing None = tt
told_nothing (Some items) = ap (λ all. Some all) (append-nil items)

pub told_same : {A : Type 0} (a b : Option (List A)) → b ≡ a → IfTold b (with_more a [])
told_same a b same = rw same (told_nothing a)

-- lists that are told one after the other
pub told_both : {A : Type 0} (a b c : Option (List A)) (more next : List A) → IfTold b (with_more a more) → IfTold c (with_more b next) → IfTold c (with_more a (more ++ next))
told_both a b None more next h k = tt
told_both a None (Some told) more next h k = cc
told_both None (Some known) (Some told) more next h k = cc
told_both (Some items) (Some known) (Some told) more next h k =
    let grown : items ++ more ≡ known = cc in
    let told_is : known ++ next ≡ told = cc in
    ap (λ all. Some all) (sym (append_assoc items more next) ∙ ap (λ all. all ++ next) grown ∙ told_is)

grows_by_nothing : (before : Outside) → Grows before before no_trace
grows_by_nothing before = record {
  log = told_nothing before.log;
  readings = told_nothing before.readings;
  waits = told_nothing before.waits;
  drawn = told_nothing before.drawn;
}

pub judges_nothing : (plan : JudgePlan) (published : Publications) (finds : Finds) (before : Outside) (all : List Judged)
    → all ≡ [] → JudgesLines plan published finds finds before before [] all
judges_nothing plan published finds before all none = record {
  cases = [];
  are = tt;
  told = grows_by_nothing before;
  finds_are = refl;
  judged_are = none;
  failed = λ failed. absurd failed;
  kept = λ _. refl;
}

judges_one_more : (plan : JudgePlan) (published : Publications) (finds mid finds' : Finds) (before between after : Outside) (lines : List (List ℕ)) (all : List Judged) (line : List ℕ) (one : Judged)
    → GoesOnWithTrace → before.faults ≤ between.faults → between.faults ≤ after.faults → JudgesLines plan published finds mid before between lines all → JudgesLine plan published mid finds' between after line one
    → JudgesLines plan published finds finds' before after (lines ++ line ∷ []) (all ++ one ∷ [])
judges_one_more plan published finds mid finds' before between after lines all line one go ab bc so_far more =
    let cases = so_far.cases in
    let case = more.case in
    let here : mid ≡ finds_after_all published finds cases = so_far.finds_are in
    record {
      cases = cases ++ case ∷ [];
      are = cases_one_more published plan finds lines cases line case so_far.are (subst (λ (f : Finds). IsCase plan published f line case) here more.is);
      told = subst (λ told. Grows before after told) (sym (trace_one_more published finds cases case))
          (go before between after (trace_of_cases published finds cases) (trace_of_case (finds_after_all published finds cases) case) so_far.told
          (subst (λ (f : Finds). Grows between after (trace_of_case f case)) here more.told));
      finds_are = more.finds_are ∙ ap (λ (f : Finds). finds_after published f case) here ∙ sym (after_one_more published finds cases case);
      judged_are = ap (λ front. front ++ one ∷ []) so_far.judged_are
          ∙ ap (λ last. judged_of_all published finds cases ++ last ∷ []) (more.judged_is ∙ ap (λ (f : Finds). judged_of f case) here)
          ∙ sym (judged_one_more published finds cases case);
      failed = λ failed. rises (failed_before published finds cases case failed);
      kept = λ none.
          more.kept (λ failed. none (failed_in_last published finds cases case (subst (λ (f : Finds). LinkFailedIn f case) here failed)))
          ∙ so_far.kept (λ failed. none (failed_in_front published finds cases case failed));
    }
  where
    rises : LinkFailedInSome published finds so_far.cases ⊎ LinkFailedIn (finds_after_all published finds so_far.cases) more.case → Rose before.faults after.faults
    rises (inl failed) = rose_more before.faults between.faults after.faults (so_far.failed failed) bc
    rises (inr failed) = rose_later before.faults between.faults after.faults ab (more.failed (subst (λ (f : Finds). LinkFailedIn f more.case) (sym so_far.finds_are) failed))

-- the cases of none, and of one more

pub none_judged : (plan : JudgePlan) (published : Publications) (finds : Finds) (before : Outside) → (made : JudgesLines plan published finds finds before before [] []) × (made.cases ≡ [])
unfolding judges_nothing
none_judged plan published finds before = (judges_nothing plan published finds before [] refl, refl)

pub one_more_judged : (plan : JudgePlan) (published : Publications) (finds mid finds' : Finds) (before between after : Outside) (lines : List (List ℕ)) (all : List Judged) (line : List ℕ) (one : Judged)
    → GoesOnWithTrace → before.faults ≤ between.faults → between.faults ≤ after.faults → (so_far : JudgesLines plan published finds mid before between lines all) → (more : JudgesLine plan published mid finds' between after line one)
    → (made : JudgesLines plan published finds finds' before after (lines ++ line ∷ []) (all ++ one ∷ [])) × (made.cases ≡ so_far.cases ++ more.case ∷ [])
unfolding judges_one_more
one_more_judged plan published finds mid finds' before between after lines all line one go ab bc so_far more =
    (judges_one_more plan published finds mid finds' before between after lines all line one go ab bc so_far more, refl)

pub judges_next : (plan : JudgePlan) (published : Publications) (finds mid finds' : Finds) (before between after : Outside) (lines : List (List ℕ)) (all all' : List Judged) (line : List ℕ) (one : Judged)
    → GoesOnWithTrace → before.faults ≤ between.faults → between.faults ≤ after.faults → all' ≡ all ++ one ∷ [] → JudgesLines plan published finds mid before between lines all → JudgesLine plan published mid finds' between after line one
    → JudgesLines plan published finds finds' before after (lines ++ line ∷ []) all'
judges_next plan published finds mid finds' before between after lines all all' line one go ab bc are so_far more =
    subst (λ (xs : List Judged). JudgesLines plan published finds finds' before after (lines ++ line ∷ []) xs) (sym are)
    (judges_one_more plan published finds mid finds' before between after lines all line one go ab bc so_far more)

-- the lines that are left after one more
pub left_after : (first left all : List (List ℕ)) (line : List ℕ) (rest : List (List ℕ)) → left ≡ line ∷ rest → first ++ left ≡ all → (first ++ line ∷ []) ++ rest ≡ all
left_after first left all line rest is h = append_assoc first (line ∷ []) rest ∙ ap (λ (ls : List (List ℕ)). first ++ ls) (sym is) ∙ h

-- ---- one of them

abbrev finds_with : Pairs → WaitState → Finds
finds_with cache waits = record { cache = cache; waits = waits }

-- what the lists of the first publication have
pub found_first : (lists : List Held) (line : List ℕ) (finding : Finding) → IsFindingOf lists 0 line finding → IsFoundIn (lists ∷ []) line finding
found_first lists line finding found = record {
  there = omega (arith, found.numbered);
  is = subst (λ (n : ℕ). IsFindingOf (slice_index_or (lists ∷ []) n []) n line finding) (sym found.numbered) found;
}

pub first_lists_are : (lists : List Held) (line : List ℕ) (finding : Finding) → IsFindingOf lists 0 line finding → lists_of_finding (lists ∷ []) finding ≡ lists
first_lists_are lists line finding found = ap (λ (n : ℕ). slice_index_or (lists ∷ []) n []) found.numbered

same_finds : (a b : Finds) → a.cache ≡ b.cache → a.waits ≡ b.waits → a ≡ b
same_finds a b cache waits = ap (λ ps. finds_with ps a.waits) cache ∙ ap (λ ws. finds_with b.cache ws) waits

pub resolved_check : (plan : JudgePlan) (published : Publications) (states : List (List ℕ)) (finding : Finding) (finds finds' : Finds) (before after : Outside) (line : List ℕ) (verdict : Verdict)
    → states ≡ tokens_of (lists_of_finding published finding) → IsFoundIn published line finding → Resolves (unresolved states finding.hits) plan.patience plan.updates.target plan.updates.need_digest finds finds' before after verdict
    → JudgesCheck plan published finds finds' before after line (Found finding) (judged.Verdict finding.number finding.text verdict)
resolved_check plan published states finding finds finds' before after line verdict same found resolves =
    let r = resolves.resolution in
    record {
      judges = record {
        case = Ok (record { finding = finding; resolution = r });
        is = (found, subst (λ (st : List (List ℕ)). IsResolution st plan.patience plan.updates.target plan.updates.need_digest finding.hits finds.cache finds.waits r) same resolves.is);
        told = resolves.told;
        finds_are = same_finds finds' (finds_after published finds (Ok (record { finding = finding; resolution = r })))
            (resolves.pairs_are ∙ ap (λ (st : List (List ℕ)). pairs_after st finding.hits finds.cache r) same) resolves.waits_are;
        judged_is = ap (λ (v : Verdict). judged.Verdict finding.number finding.text v) resolves.verdict_is;
        failed = resolves.failed;
        kept = resolves.kept;
      };
      checked = refl;
    }

pub refused_line : (plan : JudgePlan) (published : Publications) (finds : Finds) (before : Outside) (line : List ℕ) (fault told : UrlFault)
    → told ≡ fault → canonical_of line ≡ Err fault → JudgesLine plan published finds finds before before line (judged.Refused told)
refused_line plan published finds before line fault told same is = record {
  case = Err fault;
  is = is;
  told = grows_by_nothing before;
  finds_are = refl;
  judged_is = ap (λ (why : UrlFault). judged.Refused why) same;
  failed = λ failed. absurd failed;
  kept = λ _. refl;
}

pub refused_check : (plan : JudgePlan) (published : Publications) (finds : Finds) (before : Outside) (line : List ℕ) (fault : UrlFault)
    → canonical_of line ≡ Err fault → JudgesCheck plan published finds finds before before line (Refused fault) (judged.Refused fault)
unfolding refused_line
refused_check plan published finds before line fault is = record { judges = refused_line plan published finds before line fault fault refl is; checked = refl }

-- what there is before the first find
pub first_are : (finds : Finds) (waits : WaitState) → finds.cache ≡ [] → finds.waits ≡ waits → finds ≡ first_finds waits
first_are finds waits cache is = same_finds finds (first_finds waits) cache is

-- ---- where memory was refused

pub unbroken : (plan : JudgePlan) (published : Publications) (finds : Finds) (before after : Outside) (left : List (List ℕ)) → after ≡ before → BreaksOffLine plan published finds before after left
unbroken plan published finds before after [] same = same
unbroken plan published finds before after (line ∷ left) same = inl same

-- after some lines, before the next
pub stops_after : (plan : JudgePlan) (published : Publications) (finds finds' : Finds) (before after : Outside) (lines first left : List (List ℕ)) (all : List Judged)
    → first ++ left ≡ lines → JudgesLines plan published finds finds' before after first all → StopsJudging plan published finds before after lines
stops_after plan published finds finds' before after lines first left all are judges = record {
  first = first;
  left = left;
  lines_are = are;
  between = after;
  finds_now = finds';
  all = all;
  judges = judges;
  breaks = unbroken plan published finds' after after left refl;
  unmoved = refl;
}

-- within the next
pub stops_within : (plan : JudgePlan) (published : Publications) (finds mid : Finds) (before between after : Outside) (lines first left : List (List ℕ)) (line : List ℕ) (rest : List (List ℕ)) (all : List Judged)
    → left ≡ line ∷ rest → first ++ left ≡ lines → after.faults ≡ between.faults → JudgesLines plan published finds mid before between first all → BreaksOffLine plan published mid between after (line ∷ rest)
    → StopsJudging plan published finds before after lines
stops_within plan published finds mid before between after lines first left line rest all is are same judges breaks = record {
  first = first;
  left = line ∷ rest;
  lines_are = ap (λ (ls : List (List ℕ)). first ++ ls) (sym is) ∙ are;
  between = between;
  finds_now = mid;
  all = all;
  judges = judges;
  breaks = breaks;
  unmoved = same;
}

pub stops_at_once : (plan : JudgePlan) (published : Publications) (finds : Finds) (before : Outside) (lines : List (List ℕ)) → StopsJudging plan published finds before before lines
stops_at_once plan published finds before lines =
    stops_after plan published finds finds before before lines [] lines [] refl (judges_nothing plan published finds before [] refl)
