-- What is answered is decided, and what is left open has its cause.
use Rattle.std.proofs.Common.{◌≡◌, ◌≢◌, ◌⊎◌, ℕ, inl, inr, Bool, false, List, [], ◌∷◌, Option, Some, None, Result, Ok, Err, refl, sym, ap, subst}
use Rattle.std.specs.Prelude.{is_some}
use Rattle.sb_model.specs.declared.names.ListName.{ListName}
use Rattle.sb_model.specs.declared.time.Moment.{Moment}
use Rattle.hash_messages.specs.declared.response.FindResponse.{FindResponse}
use Rattle.http_edge.specs.declared.messages.Target.{Target}
use Rattle.wait_rules.specs.declared.waits.WaitState.{WaitState}
use Rattle.verdict_report.specs.declared.verdicts.Cause.{Cause}
use Rattle.verdict_report.specs.declared.verdicts.Cause.TheVariants.{NotBefore}
use Rattle.verdict_report.specs.declared.verdicts.Verdict.TheVariants.{Undecided}
use Rattle.full_hash_cache.specs.Cache.{Pairs}
use Rattle.url_checker.specs.declared.findings.Hit.{Hit}
use Rattle.url_checker.specs.Resolving.{Resolution, FindTalk, IsResolution, answer_in, open_cause, hits_asked, is_in_reach, makes_find, message_in, unsafe_lists, verdict_from, verdict_of}
use Rattle.client_laws.specs.Decided.{IsCompleteVerdict, IsSafeOrUnsafe, IsWhyUnanswered}

open_from : (names : List ListName) (why : Option Cause) (cause : Cause) → verdict_from names why ≡ Undecided cause → why ≡ Some cause
open_from (name ∷ names) why cause e = absurd (cc)
open_from [] None cause e = absurd (cc)
open_from [] (Some other) cause e = let same : other ≡ cause = cc in ap Some same

decided_from : (names : List ListName) → IsSafeOrUnsafe (verdict_from names None)
decided_from [] = tt
decided_from (name ∷ names) = tt

left_open_for : (answer : Result FindResponse Cause) (asked : List Hit) (cause : Cause) → open_cause answer asked ≡ Some cause → (asked ≢ []) × (answer ≡ Err cause)
left_open_for (Ok message) asked cause e = absurd (cc)
left_open_for (Err other) [] cause e = absurd (cc)
left_open_for (Err other) (hit ∷ asked) cause e = ((λ h. cc), (let same : other ≡ cause = cc in ap Err same))

answered_by : (answer : Result FindResponse Cause) (asked : List Hit) → (asked ≡ []) ⊎ (message : FindResponse) × (answer ≡ Ok message) → open_cause answer asked ≡ None
answered_by (Ok message) asked why = refl
answered_by (Err cause) [] why = refl
answered_by (Err cause) (hit ∷ asked) (inl h) = absurd (cc)
answered_by (Err cause) (hit ∷ asked) (inr h) = absurd (let other = h.1 in cc)

out_of_reach : (waits : WaitState) (patience : ℕ) (now : Moment) (asked : List Hit) → asked ≢ [] → false ≡ makes_find waits patience now asked → is_in_reach waits patience now ≡ false
out_of_reach waits patience now [] some e = absurd (some refl)
out_of_reach waits patience now (hit ∷ asked) some e = sym e

unanswered_by : (waits : WaitState) (patience : ℕ) (now : Moment) (asked : List Hit) (talk : Option FindTalk) (cause : Cause)
    → asked ≢ [] → is_some talk ≡ makes_find waits patience now asked → answer_in waits talk ≡ Err cause → IsWhyUnanswered waits patience now talk cause
unanswered_by waits patience now asked None cause some asks e =
    let same : NotBefore waits.allowed_at ≡ cause = cc in
    (out_of_reach waits patience now asked some asks, sym same)
unanswered_by waits patience now asked (Some talk) cause some asks e = e

pub complete : (states : List (List ℕ)) (patience : ℕ) (target : Target) (need : Bool) (hits : List Hit) (pairs : Pairs) (waits : WaitState) (r : Resolution)
    → IsResolution states patience target need hits pairs waits r → IsCompleteVerdict patience pairs waits hits r (verdict_of pairs waits hits r)
complete states patience target need hits pairs waits r is = record {
  decided = λ why.
      subst (λ (cause : Option Cause). IsSafeOrUnsafe (verdict_from (unsafe_lists pairs r.now (message_in (answer_in waits r.talk)) hits) cause))
      (sym (answered_by (answer_in waits r.talk) (hits_asked pairs r.now hits) why))
      (decided_from (unsafe_lists pairs r.now (message_in (answer_in waits r.talk)) hits));
  left_open = λ cause e.
      let why = open_from (unsafe_lists pairs r.now (message_in (answer_in waits r.talk)) hits) (open_cause (answer_in waits r.talk) (hits_asked pairs r.now hits)) cause e in
      let left = left_open_for (answer_in waits r.talk) (hits_asked pairs r.now hits) cause why in
      record {
        asked = left.0;
        unanswered = unanswered_by waits patience r.now (hits_asked pairs r.now hits) r.talk cause left.0 is.asks left.1;
      };
}
