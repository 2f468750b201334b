-- Findings and one more, and what findings come to.
use Rattle.std.proofs.Common.{◌≡◌, ◌≤◌, ℕ, List, [], ◌∷◌, ◌++◌, Bool, Option, Some, None, refl, sym, ap, ◌∙◌, subst, append_assoc}
use Rattle.std.specs.Prelude.{fold, IfSome}
use Rattle.std.proofs.lemmas.List.{append-nil}
use Rattle.sb_model.specs.declared.time.Moment.{Moment}
use Rattle.sb_outside.specs.declared.links.Session.{Session}
use Rattle.full_hash_cache.specs.Cache.{Pairs}
use Rattle.http_edge.specs.declared.messages.Target.{Target}
use Rattle.wait_rules.specs.declared.waits.WaitState.{WaitState}
use Rattle.timed_sessions.specs.Told.{Trace, Grows, no_trace, then_trace}
use Rattle.timed_sessions.specs.Law.{BeginsTrace, GoesOnWithTrace}
use Rattle.timed_sessions.specs.Waiting.{KeepToWaits, waits_after}
use Rattle.verdict_report.specs.declared.verdicts.Verdict.{Verdict}
use Rattle.url_checker.specs.Resolving.{FindTalk, IsFindTalk, IsResolution, closed_in, hits_asked, trace_of_finding, verdict_of}
use Rattle.url_checker.specs.Findings.{Resolved, resolved, pairs_after_one, waits_after_one, pairs_after_all, waits_after_findings, trace_of_all, verdicts_of, AreResolutions, sessions_of, BeginsFindings, GoesOnWithFindings, FindingsKeepToWaits}

fold_one_more : {A B : Type 0} (step : A → B → A) (start : A) (items : List B) (item : B) → fold step start (items ++ item ∷ []) ≡ step (fold step start items) item
fold_one_more step start [] item = refl
fold_one_more step start (first ∷ items) item = fold_one_more step (step start first) items item

-- ---- what is told of findings and one more

abbrev trace : List Session → List Moment → List Moment → List ℕ → Trace
trace sessions readings waits drawn = record { sessions = sessions; readings = readings; waits = waits; drawn = drawn }

same_trace : (a b : Trace) → a.sessions ≡ b.sessions → a.readings ≡ b.readings → a.waits ≡ b.waits → a.drawn ≡ b.drawn → a ≡ b
same_trace a b sessions readings waits drawn =
    ap (λ all. trace all a.readings a.waits a.drawn) sessions
    ∙ ap (λ all. trace b.sessions all a.waits a.drawn) readings
    ∙ ap (λ all. trace b.sessions b.readings all a.drawn) waits
    ∙ ap (λ all. trace b.sessions b.readings b.waits all) drawn

then_nothing : (a : Trace) → then_trace a no_trace ≡ then_trace no_trace a
then_nothing a = same_trace _ _ (append-nil a.sessions) (append-nil a.readings) (append-nil a.waits) (append-nil a.drawn)

then_both : (a b c : Trace) → then_trace a (then_trace b c) ≡ then_trace (then_trace a b) c
then_both a b c =
    same_trace _ _
    (sym (append_assoc a.sessions b.sessions c.sessions)) (sym (append_assoc a.readings b.readings c.readings))
    (sym (append_assoc a.waits b.waits c.waits)) (sym (append_assoc a.drawn b.drawn c.drawn))

trace_one_more : (waits : WaitState) (all : List Resolved) (one : Resolved)
    → trace_of_all waits (all ++ one ∷ []) ≡ then_trace (trace_of_all waits all) (trace_of_finding (waits_after_findings waits all) one.resolution)
trace_one_more waits [] one = then_nothing (trace_of_finding waits one.resolution)
trace_one_more waits (first ∷ all) one =
    ap (λ rest. then_trace (trace_of_finding waits first.resolution) rest) (trace_one_more (waits_after_one waits first) all one)
    ∙ then_both (trace_of_finding waits first.resolution) (trace_of_all (waits_after_one waits first) all) (trace_of_finding (waits_after_findings (waits_after_one waits first) all) one.resolution)

-- ---- findings and one more

verdicts_one_more : (pairs : Pairs) (waits : WaitState) (all : List Resolved) (one : Resolved)
    → verdicts_of pairs waits (all ++ one ∷ []) ≡ verdicts_of pairs waits all ++ verdict_of (pairs_after_all pairs all) (waits_after_findings waits all) one.hits one.resolution ∷ []
verdicts_one_more pairs waits [] one = refl
verdicts_one_more pairs waits (first ∷ all) one =
    ap (λ (rest : List Verdict). verdict_of pairs waits first.hits first.resolution ∷ rest) (verdicts_one_more (pairs_after_one pairs first) (waits_after_one waits first) all one)

resolutions_one_more : (patience : ℕ) (target : Target) (need : Bool) (pairs : Pairs) (waits : WaitState) (all : List Resolved) (one : Resolved)
    → AreResolutions patience target need pairs waits all → IsResolution one.states patience target need one.hits (pairs_after_all pairs all) (waits_after_findings waits all) one.resolution
    → AreResolutions patience target need pairs waits (all ++ one ∷ [])
resolutions_one_more patience target need pairs waits [] one are is = (is, tt)
resolutions_one_more patience target need pairs waits (first ∷ all) one (first_is, are) is =
    (first_is, resolutions_one_more patience target need (pairs_after_one pairs first) (waits_after_one waits first) all one are is)

pub begins_findings : BeginsTrace → BeginsFindings
begins_findings none patience target need finds before = record { are = tt; told = none before; pairs_are = refl; waits_are = refl; verdicts_are = refl }

pub goes_on : GoesOnWithTrace → GoesOnWithFindings
goes_on one_more patience target need finds finds' finds'' before between after all verdicts states hits verdict so_far next =
    let pairs : Pairs = finds.cache in
    let waits : WaitState = finds.waits in
    let one : Resolved = resolved states hits next.resolution in
    record {
      are = resolutions_one_more patience target need pairs waits all one so_far.are
          (subst (λ (ws : WaitState). IsResolution states patience target need hits (pairs_after_all pairs all) ws next.resolution) so_far.waits_are
          (subst (λ (ps : Pairs). IsResolution states patience target need hits ps finds'.waits next.resolution) so_far.pairs_are next.is));
      told = subst (λ more. Grows before after more) (sym (trace_one_more waits all one))
          (one_more before between after (trace_of_all waits all) (trace_of_finding (waits_after_findings waits all) next.resolution) so_far.told
          (subst (λ (ws : WaitState). Grows between after (trace_of_finding ws next.resolution)) so_far.waits_are next.told));
      pairs_are = next.pairs_are ∙ ap (λ (ps : Pairs). pairs_after_one ps one) so_far.pairs_are ∙ sym (fold_one_more pairs_after_one pairs all one);
      waits_are = next.waits_are ∙ ap (λ (ws : WaitState). waits_after_one ws one) so_far.waits_are ∙ sym (fold_one_more waits_after_one waits all one);
      verdicts_are = ap (λ (last : Verdict). verdicts ++ last ∷ [])
          (next.verdict_is ∙ ap (λ (ps : Pairs). verdict_of ps finds'.waits hits next.resolution) so_far.pairs_are
          ∙ ap (λ (ws : WaitState). verdict_of (pairs_after_all pairs all) ws hits next.resolution) so_far.waits_are)
          ∙ ap (λ (front : List Verdict). front ++ verdict_of (pairs_after_all pairs all) (waits_after_findings waits all) hits next.resolution ∷ []) so_far.verdicts_are
          ∙ sym (verdicts_one_more pairs waits all one);
    }

-- ---- the waits of findings

pub keep_to_waits : FindingsKeepToWaits
keep_to_waits patience target need pairs waits [] are = tt
keep_to_waits patience target need pairs waits (one ∷ all) (is, are) =
    kept one.resolution.talk is.talks (keep_to_waits patience target need (pairs_after_one pairs one) (waits_after_one waits one) all are)
  where
    kept : (talk : Option FindTalk) → IfSome talk (IsFindTalk one.states target need waits (hits_asked pairs one.resolution.now one.hits) one.resolution.now)
        → KeepToWaits (fold waits_after waits (closed_in talk)) (sessions_of all) → KeepToWaits waits (closed_in talk ++ sessions_of all)
    kept None talks rest = rest
    kept (Some talk) talks rest = (subst (λ (moment : Moment). waits.allowed_at.0 ≤ moment.0) (sym talks.session.is.begun) talks.session.begins.allowed, rest)
