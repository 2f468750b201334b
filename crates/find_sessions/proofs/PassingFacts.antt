-- What the steps of a find that is passed on come to together, and that such finds keep to their waits.
use Rattle.std.proofs.Common.{◌≡◌, ℕ, ◌≤◌, List, [], ◌∷◌, Err, refl, sym, subst, ◌∙◌}
use Rattle.std.specs.Prelude.{◌≢◌}
use Rattle.sb_model.specs.declared.time.Moment.{Moment}
use Rattle.sb_outside.specs.Outside.{Rose, IfTold}
use Rattle.http_edge.specs.declared.faults.ExchangeFault.TheVariants.{Link}
use Rattle.wait_rules.specs.declared.waits.WaitState.{WaitState}
use Rattle.client_line.specs.Lines.{LineView, Draws}
use Rattle.timed_sessions.specs.Told.{Grows, with_more}
use Rattle.timed_sessions.specs.Timed.{TimedSession, TellsSession, trace_after}
use Rattle.timed_sessions.specs.Waiting.{HasSettled, drawn_of, waits_after}
use Rattle.verdict_report.specs.declared.verdicts.Cause.TheVariants.{Exchange}
use Rattle.find_sessions.specs.Asking.{find_bids, HearsFind}
use Rattle.find_sessions.specs.Passing.{passed_body, FindToPass, PassesFind, PassedFindsKeepToWaits, closed_in_turn}
use Rattle.find_sessions.specs.declared.asking.AnsweredFind.{AnsweredFind}

-- what is told of a session, and then the words that are drawn
pub told_of_find : (waits : WaitState) (session : TimedSession) (before between after : LineView) (drawn : List ℕ)
    → TellsSession waits session before.told between.told → Draws drawn between after → Grows before.told after.told (trace_after waits session drawn)
told_of_find waits session before between after drawn told draws = record {
  log = rw draws.log told.logged;
  readings = rw draws.readings told.readings;
  waits = rw draws.waits told.bade;
  drawn = subst (λ known. IfTold after.told.drawn (with_more known drawn)) told.undrawn draws.drawn;
}

-- a find that was passed on and ended
pub passed_for : (find : FindToPass) (waits waits' : WaitState) (before between after : LineView) (answered : AnsweredFind)
    → HearsFind waits find.now find.target (passed_body find.states find.asked) find.need before.told between.told answered
    → HasSettled waits waits' answered.closed (find_bids answered.answer) between after
    → (answered.answer ≡ Err (Exchange Link) → Rose before.told.faults between.told.faults) → (answered.answer ≢ Err (Exchange Link) → between.told.faults ≡ before.told.faults)
    → PassesFind find waits waits' before.told after.told answered.answer
passed_for find waits waits' before between after answered it settled failed stays = record {
  passed = record { session = it.holds.session; answer = answered.answer; word = settled.word };
  is = record {
    session = it.holds.is;
    outcome = it.outcome;
    held = it.holds.held;
    answers = it.answers_it;
    drawn = settled.drawn;
    reading = it.holds.reading;
  };
  told = told_of_find waits it.holds.session before between after (drawn_of settled.word) it.holds.told settled.told;
  answered = refl;
  waits_are = rw it.holds.closes settled.leaves;
  failed = λ fails. rw settled.told.faults (failed fails);
  kept = λ passes. settled.told.faults ∙ stays passes;
}

-- ---- the waits of finds that are passed on

pub keep_to_waits : PassedFindsKeepToWaits
keep_to_waits target need waits [] are = tt
keep_to_waits target need waits (one ∷ all) (is, are) = (
  subst (λ (moment : Moment). waits.allowed_at.0 ≤ moment.0) (sym is.session.is.begun) is.session.begins.allowed,
  keep_to_waits target need (waits_after waits (closed_in_turn one)) all are,
)
