-- The sessions of URLs that were judged keep to their waits.
use Rattle.std.proofs.Common.{◌≡◌, ◌≤◌, ℕ, List, [], ◌∷◌, ◌++◌, Bool, length, map, refl, sym, ap, ◌∙◌, subst, arith, Option, Some, None, Ok, Err}
use Rattle.std.specs.Prelude.{IfSome}
use Rattle.std.proofs.lemmas.List.{length-append}
use Rattle.sb_model.specs.declared.time.Moment.{Moment}
use Rattle.http_edge.specs.declared.messages.Target.{Target}
use Rattle.update_client.specs.Held.{tokens_of}
use Rattle.snapshot_publish.specs.Publications.{Publications}
use Rattle.wait_rules.specs.declared.waits.WaitState.{WaitState}
use Rattle.timed_sessions.specs.Waiting.{ClosedSession, KeepToWaits, waits_after_all}
use Rattle.url_checker.specs.Resolving.{FindTalk, IsFindTalk, closed_in, trace_of_talk, hits_asked}
use Rattle.url_checker.specs.declared.findings.Hit.{Hit}
use Rattle.url_checker.specs.declared.finds.Finds.{Finds}
use Rattle.judge_run.specs.Judging.{Case, lists_of_finding, IsCase, finds_after, trace_of_cases}
use Rattle.judge_run.specs.Law.{sessions_of_cases, logged_entry, KeepToTheirWaits, CasesKeepToWaits}
use Rattle.judge_run.specs.declared.plan.JudgePlan.{JudgePlan}

-- a session, if there is one, and those after it
keep_first : (states : List (List ℕ)) (target : Target) (need : Bool) (waits : WaitState) (asked : List Hit) (now : Moment) (talk : Option FindTalk) (rest : List ClosedSession)
    → IfSome talk (IsFindTalk states target need waits asked now) → KeepToWaits (waits_after_all waits (closed_in talk)) rest → KeepToWaits waits (closed_in talk ++ rest)
keep_first states target need waits asked now None rest is keep = keep
keep_first states target need waits asked now (Some talk) rest is keep =
    (subst (λ (moment : Moment). waits.allowed_at.0 ≤ moment.0) (sym is.session.is.begun) is.session.begins.allowed, keep)

session_of_talk : (waits : WaitState) (now : Moment) (talk : Option FindTalk) → (trace_of_talk waits now talk).sessions ≡ map logged_entry (closed_in talk)
session_of_talk waits now None = refl
session_of_talk waits now (Some talk) = refl

one_at_most : (talk : Option FindTalk) → length (closed_in talk) ≤ 1
one_at_most None = omega arith
one_at_most (Some talk) = omega arith

map_both : (front rest : List ClosedSession) → map logged_entry (front ++ rest) ≡ map logged_entry front ++ map logged_entry rest
map_both [] rest = refl
map_both (first ∷ front) rest = ap (λ more. logged_entry first ∷ more) (map_both front rest)

one_case : (plan : JudgePlan) (published : Publications) (finds : Finds) (line : List ℕ) (case : Case) (cases : List Case)
    → IsCase plan published finds line case → KeepToTheirWaits (finds_after published finds case) published cases → KeepToTheirWaits finds published (case ∷ cases)
one_case plan published finds line (Err fault) cases is rest = record { keep = rest.keep; are = rest.are; few = omega (arith, rest.few) }
one_case plan published finds line (Ok answered) cases is rest =
    let r = answered.resolution in
    let later = sessions_of_cases cases in
    record {
      keep = keep_first (tokens_of (lists_of_finding published answered.finding)) plan.updates.target plan.updates.need_digest finds.waits (hits_asked finds.cache r.now answered.finding.hits) r.now r.talk later is.1.talks rest.keep;
      are = ap (λ front. front ++ (trace_of_cases published (finds_after published finds (Ok answered)) cases).sessions) (session_of_talk finds.waits r.now r.talk)
          ∙ ap (λ more. map logged_entry (closed_in r.talk) ++ more) rest.are
          ∙ sym (map_both (closed_in r.talk) later);
      few = omega (arith, length-append (closed_in r.talk) later, one_at_most r.talk, rest.few);
    }

pub keep_to_waits : CasesKeepToWaits
keep_to_waits plan published finds [] [] are = record { keep = tt; are = refl; few = omega arith }
keep_to_waits plan published finds [] (case ∷ cases) are = absurd are
keep_to_waits plan published finds (line ∷ lines) [] are = absurd are
keep_to_waits plan published finds (line ∷ lines) (case ∷ cases) (is, are) =
    one_case plan published finds line case cases is (keep_to_waits plan published (finds_after published finds case) lines cases are)
