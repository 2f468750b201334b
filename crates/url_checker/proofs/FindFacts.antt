-- What the steps of a find come to together.
use Rattle.std.proofs.Common.{◌≡◌, ℕ, List, Bool, Result, Ok, Err, refl, sym, ap, subst, ◌∙◌, inr}
use Rattle.std.specs.Prelude.{◌≢◌, IfOk, OnOk, OnErr}
use Rattle.sb_model.specs.declared.time.Moment.{Moment}
use Rattle.sb_model.specs.declared.memory.OutOfMemory.{OutOfMemory}
use Rattle.sb_outside.specs.Outside.{Rose, IfTold}
use Rattle.sb_outside.specs.declared.links.Kind.TheVariants.{Find}
use Rattle.hash_messages.specs.Messages.{AskedHashes}
use Rattle.hash_messages.specs.declared.response.FindResponse.{FindResponse}
use Rattle.http_edge.specs.declared.faults.ExchangeFault.TheVariants.{Link}
use Rattle.http_edge.specs.declared.messages.Target.{Target}
use Rattle.wait_rules.specs.declared.waits.WaitState.{WaitState}
use Rattle.client_line.specs.Lines.{LineView, Draws}
use Rattle.timed_sessions.specs.Told.{Outside, Grows, with_more}
use Rattle.timed_sessions.specs.Timed.{TimedSession, IsTimedOpening, TellsSession, trace_after}
use Rattle.timed_sessions.specs.Waiting.{HasSettled, drawn_of}
use Rattle.verdict_report.specs.declared.verdicts.Cause.{Cause}
use Rattle.verdict_report.specs.declared.verdicts.Cause.TheVariants.{Exchange}
use Rattle.verdict_report.specs.declared.verdicts.Verdict.{Verdict}
use Rattle.url_checker.specs.declared.findings.Hit.{Hit}
use Rattle.find_sessions.specs.Asking.{find_bids, find_body, HearsFind, StopsAsking}
use Rattle.find_sessions.specs.declared.asking.AnsweredFind.{AnsweredFind}
use Rattle.url_checker.specs.declared.finds.Finds.{Finds}
use Rattle.url_checker.specs.declared.looking.Looks.{Looks}
use Rattle.timed_sessions.specs.declared.timing.Opening.{Opening}
use Rattle.http_edge.specs.Exchanges.{CountsSendFault}
use Rattle.url_checker.specs.Resolving.{lists_hit, find_asked, kept_by, find_body_asked}
use Rattle.url_checker.specs.Looking.{IsOpenFind, verdict_after}
use Rattle.url_checker.specs.Several.{AskedFind, MakesFind, MakesFindFor}

pub on_err : {A E : Type 0} (P : Type 0) (r : Result A E) → P → OnErr r P
on_err P (Ok a) p = tt
on_err P (Err e) p = p

-- what is told of a session, and then the words that are drawn
pub told_of_find : (waits : WaitState) (session : TimedSession) (before between after : LineView) (drawn : List ℕ)
    → TellsSession waits session before.told between.told → Draws drawn between after → Grows before.told after.told (trace_after waits session drawn)
told_of_find waits session before between after drawn told draws = record {
  log = rw draws.log told.logged;
  readings = rw draws.readings told.readings;
  waits = rw draws.waits told.bade;
  drawn = subst (λ known. IfTold after.told.drawn (with_more known drawn)) told.undrawn draws.drawn;
}

-- a find that was made and ended
module _ (find : AskedFind) (finds finds' : Finds) (before between after : LineView) where
  pub made_for : (request : AskedHashes) (answered : AnsweredFind) (answer : Result FindResponse Cause) → request ≡ find_asked find.states find.asked → answer ≡ answered.answer
      → HearsFind finds.waits find.now find.target (find_body request) find.need before.told between.told answered
      → HasSettled finds.waits finds'.waits answered.closed (find_bids answered.answer) between after
      → finds'.cache ≡ kept_by answered.closed (lists_hit find.asked) request answered.answer finds.cache
      → (answered.answer ≡ Err (Exchange Link) → Rose before.told.faults between.told.faults) → (answered.answer ≢ Err (Exchange Link) → between.told.faults ≡ before.told.faults)
      → MakesFindFor find finds finds' before.told after.told answer
  made_for request answered answer same gives held settled kept failed stays =
      let it : HearsFind finds.waits find.now find.target (find_body_asked find.states find.asked) find.need before.told between.told answered =
      subst (λ (text : AskedHashes). HearsFind finds.waits find.now find.target (find_body text) find.need before.told between.told answered) same held in
      record {
        talk = record { session = it.holds.session; answer = answered.answer; word = settled.word };
        is = record {
          session = it.holds.is;
          outcome = it.outcome;
          held = it.holds.held;
          answers = it.answers_it;
          drawn = settled.drawn;
          reading = it.holds.reading;
        };
        told = told_of_find finds.waits it.holds.session before between after (drawn_of settled.word) it.holds.told settled.told;
        answered = gives;
        pairs_are = kept ∙ ap (λ (text : AskedHashes). kept_by answered.closed (lists_hit find.asked) text answered.answer finds.cache) same
            ∙ ap (λ (at : Moment). kept_by at (lists_hit find.asked) (find_asked find.states find.asked) answered.answer finds.cache) (sym it.holds.closes);
        waits_are = rw it.holds.closes settled.leaves;
        failed = λ fails. rw settled.told.faults (failed fails);
        kept = λ passes. settled.told.faults ∙ stays passes;
      }

  -- a find for the hits of a look
  pub made_if : (look : Looks) (request : AskedHashes) (answered : AnsweredFind) (result : Result Verdict OutOfMemory) → request ≡ find_asked find.states find.asked
      → HearsFind finds.waits find.now find.target (find_body request) find.need before.told between.told answered
      → OnOk result (HasSettled finds.waits finds'.waits answered.closed (find_bids answered.answer) between after)
      → OnOk result (finds'.cache ≡ kept_by answered.closed (lists_hit find.asked) request answered.answer finds.cache)
      → IfOk result (λ verdict. verdict ≡ verdict_after look.told look.looked answered.answer)
      → (answered.answer ≡ Err (Exchange Link) → Rose before.told.faults between.told.faults) → (answered.answer ≢ Err (Exchange Link) → between.told.faults ≡ before.told.faults)
      → IfOk result (MakesFind find look finds finds' before.told after.told)
  made_if look request answered (Ok verdict) same held settled kept by failed stays = record {
    answer = answered.answer;
    made = made_for request answered answered.answer same refl held settled kept failed stays;
    verdict_is = by;
  }
  made_if look request answered (Err refused) same held settled kept by failed stays = tt

pub stops_after : (states : List (List ℕ)) (target : Target) (need : Bool) (now : Moment) (asked : List Hit) (waits : WaitState) (before after : Outside) (request : AskedHashes) (answered : AnsweredFind) → request ≡ find_asked states asked
    → HearsFind waits now target (find_body request) need before after answered → StopsAsking waits now target (find_body_asked states asked) before after
stops_after states target need now asked waits before after request answered same held =
    let it : HearsFind waits now target (find_body_asked states asked) need before after answered =
    subst (λ (text : AskedHashes). HearsFind waits now target (find_body text) need before after answered) same held in
    inr (record { session = it.holds.session; is = it.holds.is; told = it.holds.told; reading = it.holds.reading })

-- a session that was held, of which no more is said
pub stopped_after : (states : List (List ℕ)) (target : Target) (need : Bool) (now : Moment) (asked : List Hit) (waits : WaitState) (before : Outside) (between after : LineView) (request : AskedHashes) (answered : AnsweredFind) (result : Result Verdict OutOfMemory) → request ≡ find_asked states asked
    → HearsFind waits now target (find_body request) need before between.told answered
    → OnErr result (after ≡ between)
    → OnErr result (StopsAsking waits now target (find_body_asked states asked) before after.told)
stopped_after states target need now asked waits before between after request answered (Ok verdict) same held untouched = tt
stopped_after states target need now asked waits before between after request answered (Err refused) same held untouched =
    subst (λ (last : LineView). StopsAsking waits now target (find_body_asked states asked) before last.told) (sym untouched)
    (stops_after states target need now asked waits before between.told request answered same held)

pub stopped_for : (states : List (List ℕ)) (target : Target) (now : Moment) (asked : List Hit) (waits : WaitState) (before after : Outside) (request : AskedHashes) → request ≡ find_asked states asked
    → StopsAsking waits now target (find_body request) before after
    → StopsAsking waits now target (find_body_asked states asked) before after
stopped_for states target now asked waits before after request same stops =
    subst (λ (text : AskedHashes). StopsAsking waits now target (find_body text) before after) same stops

-- a find that is open
pub opened_if : (states : List (List ℕ)) (target : Target) (now : Moment) (asked : List Hit) (waits : WaitState) (before after : LineView) (request : AskedHashes) (opening : Opening)
    → request ≡ find_asked states asked → IsTimedOpening waits now target Find (find_body request) before.told after.told opening
    → after.last ≡ opening.begun.0 → CountsSendFault opening.sent before.told.faults after.told.faults
    → IsOpenFind states target now asked waits before after (record { request = request; opening = opening })
opened_if states target now asked waits before after request opening same opens last counts = record {
  request = same;
  opened = subst (λ (text : AskedHashes). IsTimedOpening waits now target Find (find_body text) before.told after.told opening) same opens;
  last = last;
  counts = counts;
}

-- what was asked is what the request of an open find says
pub asked_for : (states : List (List ℕ)) (target : Target) (need : Bool) (now : Moment) (asked : List Hit) (waits : WaitState) (before between : Outside) (request : AskedHashes) (answered : AnsweredFind)
    → request ≡ find_asked states asked → HearsFind waits now target (find_body_asked states asked) need before between answered
    → HearsFind waits now target (find_body request) need before between answered
asked_for states target need now asked waits before between request answered same has =
    subst (λ (text : AskedHashes). HearsFind waits now target (find_body text) need before between answered) (sym same) has
