-- Finds that are passed on or stopped, and one more.
use Rattle.std.proofs.Common.{◌≡◌, ℕ, ◌≤◌, List, [], ◌∷◌, ◌++◌, Bool, Option, Some, None, Result, Ok, Err, inl, inr, refl, sym, ap, ◌∙◌, subst, append_assoc}
use Rattle.std.specs.Prelude.{IfSome, OnErr}
use Rattle.std.proofs.lemmas.List.{append-nil}
use Rattle.sb_model.specs.declared.time.Moment.{Moment}
use Rattle.sb_outside.specs.Outside.{IfTold}
use Rattle.sb_outside.specs.declared.links.Session.{Session}
use Rattle.hash_messages.specs.Messages.{AskedHashes}
use Rattle.hash_messages.specs.declared.response.FindResponse.{FindResponse}
use Rattle.http_edge.specs.declared.messages.Target.{Target}
use Rattle.wait_rules.specs.declared.waits.WaitState.{WaitState}
use Rattle.client_line.specs.Lines.{LineView, ReadsClock}
use Rattle.verdict_report.specs.declared.verdicts.Cause.{Cause}
use Rattle.find_sessions.specs.Asking.{StopsAsking}
use Rattle.find_sessions.specs.Passing.{find_to_pass, passed_body, IsOpenPassed, PassedFind, PassedInTurn, PassesFind}
use Rattle.timed_sessions.specs.Told.{Outside, Trace, Grows, no_trace, then_trace, with_more}
use Rattle.timed_sessions.specs.Law.{GoesOnWithTrace}
use Rattle.timed_sessions.specs.Timed.{TellsSession, TimedSession, moments_after, trace_after, waits_from}
use Rattle.timed_sessions.specs.Waiting.{drawn_of}
use Rattle.mirror_finds.specs.Finds.{session_of_find, trace_of_find, trace_of_finds, waits_after_find, waits_after_finds, AreFindsInTurn, EndsFind, FindInTurn, FindsKeepToWaits, FindsSeen, FindsStart, HasBegunFind, HasPassedFinds, IsFindInTurn, IsFindOpenSince, IsStoppedSession, Passed, Stopped, StoppedFind, StopsFind}
use Rattle.mirror_finds.specs.declared.finds.OpenFind.{OpenFind}

abbrev trace : List Session → List Moment → List Moment → List ℕ → Trace
trace sessions readings waits drawn = record { sessions = sessions; readings = readings; waits = waits; drawn = drawn }

same_trace : (a b : Trace) → a.sessions ≡ b.sessions → a.readings ≡ b.readings → a.waits ≡ b.waits → a.drawn ≡ b.drawn → a ≡ b
same_trace a b sessions readings waits drawn =
    ap (λ all. trace all a.readings a.waits a.drawn) sessions
    ∙ ap (λ all. trace b.sessions all a.waits a.drawn) readings
    ∙ ap (λ all. trace b.sessions b.readings all a.drawn) waits
    ∙ ap (λ all. trace b.sessions b.readings b.waits all) drawn

then_nothing : (a : Trace) → then_trace a no_trace ≡ then_trace no_trace a
then_nothing a = same_trace _ _ (append-nil a.sessions) (append-nil a.readings) (append-nil a.waits) (append-nil a.drawn)

then_both : (a b c : Trace) → then_trace a (then_trace b c) ≡ then_trace (then_trace a b) c
then_both a b c =
    same_trace _ _
    (sym (append_assoc a.sessions b.sessions c.sessions)) (sym (append_assoc a.readings b.readings c.readings))
    (sym (append_assoc a.waits b.waits c.waits)) (sym (append_assoc a.drawn b.drawn c.drawn))

waits_one_more : (waits : WaitState) (finds : List FindInTurn) (one : FindInTurn)
    → waits_after_finds waits (finds ++ one ∷ []) ≡ waits_after_find (waits_after_finds waits finds) one
waits_one_more waits [] one = refl
waits_one_more waits (first ∷ finds) one = waits_one_more (waits_after_find waits first) finds one

trace_one_more : (waits : WaitState) (finds : List FindInTurn) (one : FindInTurn)
    → trace_of_finds waits (finds ++ one ∷ []) ≡ then_trace (trace_of_finds waits finds) (trace_of_find (waits_after_finds waits finds) one)
trace_one_more waits [] one = then_nothing (trace_of_find waits one)
trace_one_more waits (first ∷ finds) one =
    let next = waits_after_find waits first in
    ap (λ rest. then_trace (trace_of_find waits first) rest) (trace_one_more next finds one)
    ∙ then_both (trace_of_find waits first) (trace_of_finds next finds) (trace_of_find (waits_after_finds next finds) one)

finds_one_more : (target : Target) (need : Bool) (waits : WaitState) (finds : List FindInTurn) (one : FindInTurn)
    → AreFindsInTurn target need waits finds → IsFindInTurn target need (waits_after_finds waits finds) one
    → AreFindsInTurn target need waits (finds ++ one ∷ [])
finds_one_more target need waits [] one are is = (is, tt)
finds_one_more target need waits (first ∷ finds) one (first_is, are) is =
    (first_is, finds_one_more target need (waits_after_find waits first) finds one are is)

-- finds so far, and one more of either kind
has_one_more : GoesOnWithTrace → (target : Target) (need : Bool) (start : FindsStart) (finds : List FindInTurn) (one : FindInTurn) (waits waits' : WaitState) (between after : LineView)
    → AreFindsInTurn target need start.waits finds → Grows start.line.told between.told (trace_of_finds start.waits finds) → waits ≡ waits_after_finds start.waits finds
    → IsFindInTurn target need waits one → Grows between.told after.told (trace_of_find waits one) → waits' ≡ waits_after_find waits one
    → HasPassedFinds target need start (finds ++ one ∷ []) (record { waits = waits'; opened = None }) after
has_one_more go target need start finds one waits waits' between after are told waits_are is more leaves = record {
  between = after;
  are = finds_one_more target need start.waits finds one are (subst (λ ws. IsFindInTurn target need ws one) waits_are is);
  told = subst (λ all. Grows start.line.told after.told all) (sym (trace_one_more start.waits finds one))
      (go start.line.told between.told after.told (trace_of_finds start.waits finds) (trace_of_find (waits_after_finds start.waits finds) one) told
      (subst (λ ws. Grows between.told after.told (trace_of_find ws one)) waits_are more));
  waits_are = leaves ∙ ap (λ ws. waits_after_find ws one) waits_are ∙ sym (waits_one_more start.waits finds one);
  session = refl;
}

-- ---- what is told of one

told_nothing : {A : Type 0} (a : Option (List A)) → IfTold a (with_more a [])
told_nothing None = tt
told_nothing (Some items) = ap (λ all. Some all) (append-nil items)

told_same : {A : Type 0} (a b : Option (List A)) → b ≡ a → IfTold b (with_more a [])
told_same a b same = rw same (told_nothing a)

-- what is told of a reading of the clock
abbrev reading_trace : Moment → Trace
reading_trace now = record { sessions = []; readings = now ∷ []; waits = []; drawn = [] }

told_of_reading : (now : Moment) (before after : LineView) → ReadsClock now before after → Grows before.told after.told (reading_trace now)
told_of_reading now before after reads = record {
  log = told_same before.told.log after.told.log reads.others.log;
  readings = reads.read;
  waits = told_same before.told.waits after.told.waits reads.waits;
  drawn = told_same before.told.drawn after.told.drawn reads.others.drawn;
}

-- what is told of a reading of the clock, of the session after it, and of the words that were drawn then
told_of_both : GoesOnWithTrace → (waits : WaitState) (now : Moment) (session : TimedSession) (drawn : List ℕ) (before between : LineView) (after : Outside)
    → ReadsClock now before between → session.read ≡ now → Grows between.told after (trace_after waits session drawn)
    → Grows before.told after (record {
      sessions = session.entry ∷ [];
      readings = session.read ∷ moments_after waits session;
      waits = waits_from waits session.read;
      drawn = drawn;
    })
told_of_both go waits now session drawn before between after reads same told =
    subst (λ (read : Moment). Grows before.told after (record {
      sessions = session.entry ∷ [];
      readings = read ∷ moments_after waits session;
      waits = waits_from waits session.read;
      drawn = drawn;
    })) (sym same)
    (go before.told between.told after (reading_trace now) (trace_after waits session drawn) (told_of_reading now before between reads) told)

-- ---- one that was begun and ended

-- what was passed on, if this came of it
abbrev passed_in_turn : OpenFind → PassedFind → PassedInTurn
passed_in_turn find passed = record { states = find.states; asked = find.asked; now = find.now; passed = passed }

pub has_ended : GoesOnWithTrace → (target : Target) (need : Bool) (start : FindsStart) (finds : List FindInTurn) (now : FindsSeen) (line line' : LineView)
    (find : OpenFind) (waits' : WaitState) (answer : Result FindResponse Cause)
    → now.opened ≡ Some find → HasPassedFinds target need start finds now line
    → ((before : LineView) → IsOpenPassed find.states target find.now find.asked now.waits before line find.opening
    → PassesFind (find_to_pass find.states target need find.now find.asked) now.waits waits' before.told line'.told answer)
    → EndsFind target need start finds (record { waits = waits'; opened = None }) line' find (record { asked = find.asked; answer = answer })
has_ended go target need start finds now line line' find waits' answer is has passes =
    let begun : HasBegunFind target now.waits has.between line find = subst (λ opened. IsFindOpenSince target now.waits has.between line opened) is has.session in
    let it = passes begun.between begun.opened in
    let one = passed_in_turn find it.passed in
    record {
      one = one;
      has = has_one_more go target need start finds (Passed one) now.waits waits' has.between line' has.are has.told has.waits_are it.is
          (told_of_both go now.waits find.now it.passed.session (drawn_of it.passed.word) has.between begun.between line'.told begun.reads it.is.reading it.told)
          it.waits_are;
      closed = refl;
      states = refl;
      asked = refl;
      read = refl;
      answered = it.answered;
      given_back = refl;
    }

-- ---- one that was stopped

-- a find that was stopped, if this is its session
abbrev stopped_in_turn : List (List ℕ) → AskedHashes → Moment → Option TimedSession → FindInTurn
stopped_in_turn states asked now session = Stopped (record { states = states; asked = asked; now = now; session = session })

-- A find was stopped, in this session or before one, and this much more is told.
record IsStopped (target : Target) (need : Bool) (waits : WaitState) (states : List (List ℕ)) (asked : AskedHashes) (now : Moment) (before after : Outside) : Type 0 where
  session : Option TimedSession
  is : IsFindInTurn target need waits (stopped_in_turn states asked now session)
  told : Grows before after (trace_of_find waits (stopped_in_turn states asked now session))

-- what is told of a session in which no word was drawn
told_of_session : (waits : WaitState) (session : TimedSession) (before after : Outside) → TellsSession waits session before after
    → Grows before after (trace_after waits session [])
told_of_session waits session before after tells = record {
  log = tells.logged;
  readings = tells.readings;
  waits = tells.bade;
  drawn = told_same before.drawn after.drawn tells.undrawn;
}

is_stopped : GoesOnWithTrace → (target : Target) (need : Bool) (waits : WaitState) (states : List (List ℕ)) (asked : AskedHashes) (now : Moment)
    (before between : LineView) (after : Outside)
    → ReadsClock now before between → StopsAsking waits now target (passed_body states asked) between.told after
    → IsStopped target need waits states asked now before.told after
is_stopped go target need waits states asked now before between after reads (inl same) = record {
  session = None;
  is = tt;
  told = subst (λ told. Grows before.told told (reading_trace now)) (sym same) (told_of_reading now before between reads);
}
is_stopped go target need waits states asked now before between after reads (inr part) = record {
  session = Some part.session;
  is = record { is = part.is; reading = part.reading };
  told = told_of_both go waits now part.session [] before between after reads part.reading (told_of_session waits part.session between.told after part.told);
}

-- finds so far, and one more that was stopped after these
stops_find : GoesOnWithTrace → (target : Target) (need : Bool) (start : FindsStart) (finds : List FindInTurn) (waits : WaitState) (before between after : LineView)
    (states : List (List ℕ)) (asked : AskedHashes) (now : Moment)
    → AreFindsInTurn target need start.waits finds → Grows start.line.told before.told (trace_of_finds start.waits finds) → waits ≡ waits_after_finds start.waits finds
    → ReadsClock now before between → StopsAsking waits now target (passed_body states asked) between.told after.told
    → StopsFind target need start finds (record { waits = waits; opened = None }) after states asked now
stops_find go target need start finds waits before between after states asked now are told waits_are reads stops =
    let it = is_stopped go target need waits states asked now before between after.told reads stops in
    record {
      one = record { states = states; asked = asked; now = now; session = it.session };
      has = has_one_more go target need start finds (stopped_in_turn states asked now it.session) waits waits before after are told waits_are it.is it.told refl;
      closed = refl;
      states_are = refl;
      asks = refl;
      read = refl;
    }

-- if memory was refused when it was to be begun
pub has_broken_off : GoesOnWithTrace → (target : Target) (need : Bool) (start : FindsStart) (finds : List FindInTurn) (now : FindsSeen) (line between line' : LineView)
    (states : List (List ℕ)) (asked : AskedHashes) (read : Moment)
    → now.opened ≡ None → HasPassedFinds target need start finds now line
    → ReadsClock read line between → StopsAsking now.waits read target (passed_body states asked) between.told line'.told
    → StopsFind target need start finds now line' states asked read
has_broken_off go target need start finds now line between line' states asked read none has reads stops =
    let same : line ≡ has.between = subst (λ opened. IsFindOpenSince target now.waits has.between line opened) none has.session in
    subst (λ (opened : Option OpenFind). StopsFind target need start finds (record { waits = now.waits; opened = opened }) line' states asked read) (sym none)
    (stops_find go target need start finds now.waits line between line' states asked read has.are
    (subst (λ (view : LineView). Grows start.line.told view.told (trace_of_finds start.waits finds)) (sym same) has.told) has.waits_are reads stops)

-- what is known wherever a call answers is known after an `Err`
pub err_says : {A E : Type 0} (result : Result A E) (Known : Type 0) → Known → OnErr result Known
err_says (Ok value) Known known = tt
err_says (Err fault) Known known = known

-- if memory was refused when it was ended
pub has_stopped : GoesOnWithTrace → (target : Target) (need : Bool) (start : FindsStart) (finds : List FindInTurn) (now : FindsSeen) (line line' : LineView) (find : OpenFind)
    → now.opened ≡ Some find → HasPassedFinds target need start finds now line
    → ((before : LineView) → IsOpenPassed find.states target find.now find.asked now.waits before line find.opening
    → StopsAsking now.waits find.now target (passed_body find.states find.asked) before.told line'.told)
    → StopsFind target need start finds (record { waits = now.waits; opened = None }) line' find.states find.asked find.now
has_stopped go target need start finds now line line' find is has stops =
    let begun : HasBegunFind target now.waits has.between line find = subst (λ opened. IsFindOpenSince target now.waits has.between line opened) is has.session in
    stops_find go target need start finds now.waits has.between begun.between line' find.states find.asked find.now has.are has.told has.waits_are
    begun.reads (stops begun.between begun.opened)

-- ---- waits

session_keeps : (target : Target) (waits : WaitState) (one : StoppedFind) (session : Option TimedSession) → IfSome session (λ s. IsStoppedSession target waits one s)
    → IfSome session (λ s. waits.allowed_at.0 ≤ s.entry.begun.0)
session_keeps target waits one None is = tt
session_keeps target waits one (Some session) is = subst (λ (moment : Moment). waits.allowed_at.0 ≤ moment.0) (sym is.is.is.begun) is.is.begins.allowed

find_keeps : (target : Target) (need : Bool) (waits : WaitState) (one : FindInTurn) → IsFindInTurn target need waits one
    → IfSome (session_of_find one) (λ session. waits.allowed_at.0 ≤ session.entry.begun.0)
find_keeps target need waits (Passed one) is = subst (λ (moment : Moment). waits.allowed_at.0 ≤ moment.0) (sym is.session.is.begun) is.session.begins.allowed
find_keeps target need waits (Stopped one) is = session_keeps target waits one one.session is

pub finds_keep : (target : Target) (need : Bool) (waits : WaitState) (finds : List FindInTurn) → AreFindsInTurn target need waits finds → FindsKeepToWaits waits finds
finds_keep target need waits [] are = tt
finds_keep target need waits (one ∷ finds) (is, are) =
    (find_keeps target need waits one is, finds_keep target need (waits_after_find waits one) finds are)
