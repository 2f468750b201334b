-- Sessions that have begun, and were held.
use Rattle.std.proofs.Common.{◌≡◌, ℕ, List, [], ◌∷◌, ◌++◌, Bool, true, false, refl, sym, ◌∙◌, subst}
use Rattle.std.specs.Prelude.{Result, Ok, Err, OnErr, if◌then◌else◌}
use Rattle.sb_model.specs.declared.time.Moment.{Moment}
use Rattle.sb_outside.specs.Outside.{IfTold, with_entry}
use Rattle.sb_outside.specs.declared.links.Kind.{Kind}
use Rattle.http_edge.specs.declared.faults.ExchangeFault.{ExchangeFault}
use Rattle.http_edge.specs.declared.messages.Target.{Target}
use Rattle.http_edge.specs.Exchanges.{IsOpenExchange, HoldsSession, HoldsPart}
use Rattle.wait_rules.specs.Waits.{may_send_at}
use Rattle.wait_rules.specs.declared.waits.WaitState.{WaitState}
use Rattle.client_line.specs.Lines.{LineView, KeepsClock, ClosesAt}
use Rattle.timed_sessions.specs.Told.{with_more, Outside}
use Rattle.timed_sessions.specs.declared.timing.Opening.{Opening}
use Rattle.timed_sessions.specs.Timed.{TimedSession, HasBegun, IsTimedOpening, TellsSession, HoldsTimed, HoldsTimedPart, moments_before, waits_from}
use Rattle.timed_sessions.proofs.Traces.{told_both}

-- the end of a wait, if there was one, and then the close
then_closed : (begun closed : Moment) (at_once : Bool)
    → (if at_once then [] else begun ∷ []) ++ closed ∷ [] ≡ (if at_once then closed ∷ [] else begun ∷ closed ∷ [])
then_closed begun closed true = refl
then_closed begun closed false = refl

-- a session that has begun is opens
pub opened : (waits : WaitState) (read : Moment) (target : Target) (asked : Kind) (body : List ℕ) (before between after : LineView) (begun : Moment) (sent : Bool)
    → HasBegun waits read before between begun → IsOpenExchange target asked body begun between.told.log after.told.log sent → KeepsClock between after
    → IsTimedOpening waits read target asked body before.told after.told (record { begun = begun; sent = sent })
opened waits read target asked body before between after begun sent begins opens keeps = record {
  begins = begins.is;
  opened = subst (λ log. IsOpenExchange target asked body begun log after.told.log sent) begins.others.log opens;
  readings = subst (λ readings. IfTold readings (with_more before.told.readings (moments_before waits read begun))) (sym keeps.readings) begins.readings;
  bade = subst (λ bidden. IfTold bidden (with_more before.told.waits (waits_from waits read))) (sym keeps.waits) begins.bade;
  undrawn = keeps.drawn ∙ begins.others.drawn;
}

-- what is told of a session that was opens, and was closed
told : (waits : WaitState) (session : TimedSession) (target : Target) (asked : Kind) (body : List ℕ) (before : Outside) (between after : LineView) (sent : Bool)
    → IsTimedOpening waits session.read target asked body before between.told (record { begun = session.begun; sent = sent })
    → IfTold after.told.log (with_entry before.log session.entry)
    → ClosesAt session.begun session.closed between after → TellsSession waits session before after.told
told waits session target asked body before between after sent opens logged closes = record {
  logged = logged;
  readings = subst (λ all. IfTold after.told.readings (with_more before.readings all)) (then_closed session.begun session.closed (may_send_at waits session.read))
      (told_both before.readings between.told.readings after.told.readings (moments_before waits session.read session.begun) (session.closed ∷ []) opens.readings closes.read);
  bade = subst (λ bidden. IfTold bidden (with_more before.waits (waits_from waits session.read))) (sym closes.waits) opens.bade;
  undrawn = closes.drawn ∙ opens.undrawn;
}

-- a session that was held to its end
pub held : (waits : WaitState) (read : Moment) (target : Target) (asked : Kind) (body : List ℕ) (need : Bool) (before : Outside) (between after : LineView) (opening : Opening) (closed : Moment) (outcome : Result (List ℕ) ExchangeFault)
    → IsTimedOpening waits read target asked body before between.told opening → ClosesAt opening.begun closed between after
    → HoldsSession target asked body opening.begun need closed before.log after.told.log outcome
    → HoldsTimed waits read target asked body need before after.told (record { begun = opening.begun; closed = closed; answer = outcome })
held waits read target asked body need before between after opening closed outcome opens closes holds =
    let session : TimedSession = record { read = read; begun = opening.begun; closed = closed; entry = holds.session } in
    record {
      session = session;
      is = record { begins = opens.begins; is = holds.is; rises = closes.rises };
      held = record { sends = holds.sends; reads = holds.reads; decides = holds.outcome };
      told = told waits session target asked body before between after opening.sent opens holds.told closes;
      reading = refl;
      begins = refl;
      closes = refl;
    }

-- a session that was broken off before it was opens
told_part : (waits : WaitState) (session : TimedSession) (before between after : LineView)
    → HasBegun waits session.read before between session.begun → IfTold after.told.log (with_entry between.told.log session.entry)
    → ClosesAt session.begun session.closed between after → TellsSession waits session before.told after.told
told_part waits session before between after begins logged closes = record {
  logged = subst (λ log. IfTold after.told.log (with_entry log session.entry)) begins.others.log logged;
  readings = subst (λ all. IfTold after.told.readings (with_more before.told.readings all)) (then_closed session.begun session.closed (may_send_at waits session.read))
      (told_both before.told.readings between.told.readings after.told.readings (moments_before waits session.read session.begun) (session.closed ∷ []) begins.readings closes.read);
  bade = subst (λ bidden. IfTold bidden (with_more before.told.waits (waits_from waits session.read))) (sym closes.waits) begins.bade;
  undrawn = closes.drawn ∙ begins.others.drawn;
}

pub held_part : (waits : WaitState) (read : Moment) (target : Target) (asked : Kind) (body : List ℕ) (need : Bool) (before between after : LineView) (begun closed : Moment)
    → HasBegun waits read before between begun → ClosesAt begun closed between after → HoldsPart target asked body begun need closed between.told.log after.told.log
    → HoldsTimedPart waits read target asked body before.told after.told
held_part waits read target asked body need before between after begun closed begins closes holds =
    let session : TimedSession = record { read = read; begun = begun; closed = closed; entry = holds.session } in
    record {
      session = session;
      is = record { begins = begins.is; is = holds.is; rises = closes.rises };
      told = told_part waits session before between after begins holds.told closes;
      reading = refl;
    }

-- a session that was broken off while it was opens
pub open_part : (waits : WaitState) (read : Moment) (target : Target) (asked : Kind) (body : List ℕ) (need : Bool) (before : Outside) (between after : LineView) (opening : Opening) (closed : Moment)
    → IsTimedOpening waits read target asked body before between.told opening → ClosesAt opening.begun closed between after
    → HoldsPart target asked body opening.begun need closed before.log after.told.log
    → HoldsTimedPart waits read target asked body before after.told
open_part waits read target asked body need before between after opening closed opens closes holds =
    let session : TimedSession = record { read = read; begun = opening.begun; closed = closed; entry = holds.session } in
    record {
      session = session;
      is = record { begins = opens.begins; is = holds.is; rises = closes.rises };
      told = told waits session target asked body before between after opening.sent opens holds.told closes;
      reading = refl;
    }

-- what is known wherever a call answers is known after an `Err`
pub err_says : {A E : Type 0} (result : Result A E) (Known : Type 0) → Known → OnErr result Known
err_says (Ok value) Known known = tt
err_says (Err fault) Known known = known
