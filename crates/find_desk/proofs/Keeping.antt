-- The events of a desk, and one more.
use Rattle.std.proofs.Common.{◌≡◌, ℕ, ◌≤◌, List, [], ◌∷◌, ◌++◌, length, Bool, Option, Some, None, Result, Ok, Err, inl, inr, refl, sym, ap, ◌∙◌, subst, append_assoc}
use Rattle.std.specs.Prelude.{◌⊎◌, IfSome, OnErr}
use Rattle.std.proofs.lemmas.List.{append-nil}
use Rattle.sb_model.specs.declared.time.Moment.{Moment}
use Rattle.sb_outside.specs.Outside.{IfTold}
use Rattle.sb_outside.specs.declared.links.Session.{Session}
use Rattle.hash_messages.specs.Messages.{AskedHashes}
use Rattle.hash_messages.specs.declared.response.FindResponse.{FindResponse}
use Rattle.http_edge.specs.declared.messages.Target.{Target}
use Rattle.wait_rules.specs.declared.waits.WaitState.{WaitState}
use Rattle.client_line.specs.Lines.{LineView, ReadsClock}
use Rattle.verdict_report.specs.declared.verdicts.Cause.{Cause}
use Rattle.find_sessions.specs.Asking.{StopsAsking}
use Rattle.full_hash_cache.specs.Cache.{Pairs}
use Rattle.timed_sessions.specs.Told.{Outside, Trace, Grows, no_trace, then_trace, with_more}
use Rattle.timed_sessions.specs.Law.{GoesOnWithTrace}
use Rattle.timed_sessions.specs.Timed.{TellsSession, TimedSession, moments_after, trace_after, trace_of, waits_from}
use Rattle.timed_sessions.specs.Waiting.{drawn_of}
use Rattle.url_checker.specs.Hits.{prefixes_hit, AreAskable}
use Rattle.url_checker.specs.Looking.{IsOpenFind}
use Rattle.url_checker.specs.Resolving.{find_body_asked, looked_up_pairs, trace_of_reading}
use Rattle.url_checker.specs.Several.{asked_find, MakesFindFor}
use Rattle.url_checker.specs.declared.findings.Hit.{Hit}
use Rattle.url_checker.specs.declared.finds.Finds.{Finds}
use Rattle.url_checker.specs.declared.looking.Looks.{Looks}
use Rattle.find_desk.specs.Desk.{looked_up, AreFirstAsked, BreaksOffAsking, DeskSeen, DeskStart, EndsDeskFind, HasBegunAsking, HasDeskOpen, HasKeptDesk, IsAskingSince, StopsAtItsBeginning, StopsAtItsEnd}
use Rattle.find_desk.specs.Events.{AreDeskEvents, BrokenFind, BrokenSession, DeskEvent, DeskKeepsToWaits, Forgot, Found, IsBrokenSession, IsDeskEvent, LookedUp, MadeFind, Stopped, kept_after_event, kept_after_events, session_of_broken, session_of_event, trace_of_broken, trace_of_event, trace_of_events, waits_after_event, waits_after_events}
use Rattle.find_desk.specs.declared.desk.OpenDeskFind.{OpenDeskFind}

abbrev trace : List Session → List Moment → List Moment → List ℕ → Trace
trace sessions readings waits drawn = record { sessions = sessions; readings = readings; waits = waits; drawn = drawn }

same_trace : (a b : Trace) → a.sessions ≡ b.sessions → a.readings ≡ b.readings → a.waits ≡ b.waits → a.drawn ≡ b.drawn → a ≡ b
same_trace a b sessions readings waits drawn =
    ap (λ all. trace all a.readings a.waits a.drawn) sessions
    ∙ ap (λ all. trace b.sessions all a.waits a.drawn) readings
    ∙ ap (λ all. trace b.sessions b.readings all a.drawn) waits
    ∙ ap (λ all. trace b.sessions b.readings b.waits all) drawn

then_nothing : (a : Trace) → then_trace a no_trace ≡ a
then_nothing a = same_trace _ _ (append-nil a.sessions) (append-nil a.readings) (append-nil a.waits) (append-nil a.drawn)

then_both : (a b c : Trace) → then_trace a (then_trace b c) ≡ then_trace (then_trace a b) c
then_both a b c =
    same_trace _ _
    (sym (append_assoc a.sessions b.sessions c.sessions)) (sym (append_assoc a.readings b.readings c.readings))
    (sym (append_assoc a.waits b.waits c.waits)) (sym (append_assoc a.drawn b.drawn c.drawn))

-- ---- one more event

kept_one_more : (kept : Pairs) (events : List DeskEvent) (one : DeskEvent)
    → kept_after_events kept (events ++ one ∷ []) ≡ kept_after_event (kept_after_events kept events) one
kept_one_more kept [] one = refl
kept_one_more kept (first ∷ events) one = kept_one_more (kept_after_event kept first) events one

waits_one_more : (waits : WaitState) (events : List DeskEvent) (one : DeskEvent)
    → waits_after_events waits (events ++ one ∷ []) ≡ waits_after_event (waits_after_events waits events) one
waits_one_more waits [] one = refl
waits_one_more waits (first ∷ events) one = waits_one_more (waits_after_event waits first) events one

trace_one_more : (waits : WaitState) (events : List DeskEvent) (one : DeskEvent)
    → trace_of_events waits (events ++ one ∷ []) ≡ then_trace (trace_of_events waits events) (trace_of_event (waits_after_events waits events) one)
trace_one_more waits [] one = then_nothing (trace_of_event waits one)
trace_one_more waits (first ∷ events) one =
    let next = waits_after_event waits first in
    ap (λ rest. then_trace (trace_of_event waits first) rest) (trace_one_more next events one)
    ∙ then_both (trace_of_event waits first) (trace_of_events next events) (trace_of_event (waits_after_events next events) one)

events_one_more : (target : Target) (need : Bool) (waits : WaitState) (events : List DeskEvent) (one : DeskEvent)
    → AreDeskEvents target need waits events → IsDeskEvent target need (waits_after_events waits events) one
    → AreDeskEvents target need waits (events ++ one ∷ [])
events_one_more target need waits [] one are is = (is, tt)
events_one_more target need waits (first ∷ events) one (first_is, are) is =
    (first_is, events_one_more target need (waits_after_event waits first) events one are is)

-- a desk at one moment
abbrev seen : Pairs → WaitState → Option OpenDeskFind → DeskSeen
seen kept waits opened = record { kept = kept; waits = waits; opened = opened }

-- one more event of which nothing is told, and which leaves the wait as it is
has_one_quiet : (target : Target) (need : Bool) (start : DeskStart) (events : List DeskEvent) (now : DeskSeen) (line : LineView) (one : DeskEvent) (kept : Pairs)
    → HasKeptDesk target need start events now line
    → IsDeskEvent target need (waits_after_events start.waits events) one
    → waits_after_event (waits_after_events start.waits events) one ≡ waits_after_events start.waits events
    → trace_of_event (waits_after_events start.waits events) one ≡ no_trace
    → kept ≡ kept_after_event now.kept one
    → HasKeptDesk target need start (events ++ one ∷ []) (seen kept now.waits now.opened) line
has_one_quiet target need start events now line one kept has is same quiet leaves = record {
  between = has.between;
  are = events_one_more target need start.waits events one has.are is;
  told = subst (λ all. Grows start.line.told has.between.told all)
      (sym (trace_one_more start.waits events one
      ∙ ap (λ more. then_trace (trace_of_events start.waits events) more) quiet
      ∙ then_nothing (trace_of_events start.waits events)))
      has.told;
  kept_is = leaves ∙ ap (λ pairs. kept_after_event pairs one) has.kept_is ∙ sym (kept_one_more start.kept events one);
  waits_are = has.waits_are ∙ sym same ∙ sym (waits_one_more start.waits events one);
  session = has.session;
}

-- a look more
pub has_looked : (target : Target) (need : Bool) (start : DeskStart) (events : List DeskEvent) (now : DeskSeen) (line : LineView) (moment : Moment) (hits : List Hit) (kept : Pairs)
    → AreAskable hits → HasKeptDesk target need start events now line → kept ≡ looked_up_pairs now.kept hits
    → HasKeptDesk target need start (events ++ looked_up moment hits ∷ []) (seen kept now.waits now.opened) line
has_looked target need start events now line moment hits kept askable has leaves =
    has_one_quiet target need start events now line (looked_up moment hits) kept has askable refl refl leaves

-- what is kept was dropped
pub has_forgotten : (target : Target) (need : Bool) (start : DeskStart) (events : List DeskEvent) (now : DeskSeen) (line : LineView)
    → HasKeptDesk target need start events now line
    → HasKeptDesk target need start (events ++ Forgot ∷ []) (seen [] now.waits now.opened) line
has_forgotten target need start events now line has = has_one_quiet target need start events now line Forgot [] has tt refl refl refl

-- one more event of which this is told, after which no find is open
has_one_more : GoesOnWithTrace → (target : Target) (need : Bool) (start : DeskStart) (events : List DeskEvent) (one : DeskEvent) (now : DeskSeen) (kept : Pairs) (waits : WaitState) (between after : LineView)
    → AreDeskEvents target need start.waits events → Grows start.line.told between.told (trace_of_events start.waits events)
    → now.kept ≡ kept_after_events start.kept events → now.waits ≡ waits_after_events start.waits events
    → IsDeskEvent target need now.waits one → Grows between.told after.told (trace_of_event now.waits one)
    → kept ≡ kept_after_event now.kept one → waits ≡ waits_after_event now.waits one
    → HasKeptDesk target need start (events ++ one ∷ []) (seen kept waits None) after
has_one_more go target need start events one now kept waits between after are told kept_is waits_are is more keeps leaves = record {
  between = after;
  are = events_one_more target need start.waits events one are (subst (λ ws. IsDeskEvent target need ws one) waits_are is);
  told = subst (λ all. Grows start.line.told after.told all) (sym (trace_one_more start.waits events one))
      (go start.line.told between.told after.told (trace_of_events start.waits events) (trace_of_event (waits_after_events start.waits events) one) told
      (subst (λ ws. Grows between.told after.told (trace_of_event ws one)) waits_are more));
  kept_is = keeps ∙ ap (λ pairs. kept_after_event pairs one) kept_is ∙ sym (kept_one_more start.kept events one);
  waits_are = leaves ∙ ap (λ ws. waits_after_event ws one) waits_are ∙ sym (waits_one_more start.waits events one);
  session = refl;
}

-- ---- what is told of a find

told_nothing : {A : Type 0} (a : Option (List A)) → IfTold a (with_more a [])
told_nothing None = tt
told_nothing (Some items) = ap (λ all. Some all) (append-nil items)

told_same : {A : Type 0} (a b : Option (List A)) → b ≡ a → IfTold b (with_more a [])
told_same a b same = rw same (told_nothing a)

told_of_reading : (now : Moment) (before after : LineView) → ReadsClock now before after → Grows before.told after.told (trace_of_reading now)
told_of_reading now before after reads = record {
  log = told_same before.told.log after.told.log reads.others.log;
  readings = reads.read;
  waits = told_same before.told.waits after.told.waits reads.waits;
  drawn = told_same before.told.drawn after.told.drawn reads.others.drawn;
}

-- what is told of a reading of the clock, of the session after it, and of the words that were drawn then
told_of_both : GoesOnWithTrace → (waits : WaitState) (now : Moment) (session : TimedSession) (drawn : List ℕ) (before between : LineView) (after : Outside)
    → ReadsClock now before between → session.read ≡ now → Grows between.told after (trace_after waits session drawn)
    → Grows before.told after (trace_of waits session drawn)
told_of_both go waits now session drawn before between after reads same told =
    subst (λ (read : Moment). Grows before.told after (record {
      sessions = session.entry ∷ [];
      readings = read ∷ moments_after waits session;
      waits = waits_from waits session.read;
      drawn = drawn;
    })) (sym same)
    (go before.told between.told after (trace_of_reading now) (trace_after waits session drawn) (told_of_reading now before between reads) told)

-- what is told of a session in which no word was drawn
told_of_session : (waits : WaitState) (session : TimedSession) (before after : Outside) → TellsSession waits session before after
    → Grows before after (trace_after waits session [])
told_of_session waits session before after tells = record {
  log = tells.logged;
  readings = tells.readings;
  waits = tells.bade;
  drawn = told_same before.drawn after.drawn tells.undrawn;
}

-- ---- a find that was ended

some_same : {A : Type 0} (x y : A) → Some x ≡ Some y → x ≡ y
some_same x y is = cc

-- how many prefixes it asked for
pub asked_prefixes : (target : Target) (now : DeskSeen) (line : LineView) (find : OpenDeskFind) → now.opened ≡ Some find → HasDeskOpen target now line
    → length find.find.request.prefixes ≡ length (prefixes_hit find.asked)
asked_prefixes target now line find is has =
    subst (λ (it : OpenDeskFind). length it.find.request.prefixes ≡ length (prefixes_hit it.asked)) (some_same has.1 find (sym has.2 ∙ is))
    (ap (λ (request : AskedHashes). length request.prefixes) has.3.opened.request)

pub has_ended : GoesOnWithTrace → (target : Target) (need : Bool) (start : DeskStart) (events : List DeskEvent) (finds finds' : Finds) (opened : Option OpenDeskFind) (line line' : LineView)
    (find : OpenDeskFind) (answer : Result FindResponse Cause) (prefixes : ℕ) (at : Moment)
    → opened ≡ Some find → HasKeptDesk target need start events (seen finds.cache finds.waits opened) line
    → ((before : LineView) → IsOpenFind find.states target find.now find.asked finds.waits before line find.find
    → MakesFindFor (asked_find find.states target need find.now find.asked) finds finds' before.told line'.told answer)
    → EndsDeskFind target need start events (seen finds'.cache finds'.waits None) line' find (record { asked = find.asked; prefixes = prefixes; at = at; answer = answer })
has_ended go target need start events finds finds' opened line line' find answer prefixes at is has makes =
    let begun : HasBegunAsking target finds.waits has.between line find = subst (λ open_find. IsAskingSince target finds.waits has.between line open_find) is has.session in
    let it = makes begun.between begun.opened in
    let one : MadeFind = record { states = find.states; asked = find.asked; now = find.now; talk = it.talk } in
    record {
      one = one;
      has = has_one_more go target need start events (Found one) (seen finds.cache finds.waits opened) finds'.cache finds'.waits has.between line' has.are has.told has.kept_is has.waits_are it.is
          (told_of_both go finds.waits find.now it.talk.session (drawn_of it.talk.word) has.between begun.between line'.told begun.reads it.is.reading it.told)
          it.pairs_are it.waits_are;
      states_are = refl;
      asks = refl;
      read = refl;
      answered = it.answered;
      given_back = refl;
    }

-- ---- a find that was stopped

-- A find was stopped, in this session or before one, and this much more is told.
record IsStopped (target : Target) (waits : WaitState) (states : List (List ℕ)) (asked : List Hit) (now : Moment) (before after : Outside) : Type 0 where
  part : Option BrokenSession
  is : IfSome part (λ one. IsBrokenSession target waits now one)
  told : Grows before after (trace_of_broken waits now part)
  states_are : IfSome part (λ one. one.states ≡ states)
  asks : IfSome part (λ one. one.asked ≡ asked)

is_stopped : GoesOnWithTrace → (target : Target) (waits : WaitState) (states : List (List ℕ)) (asked : List Hit) (now : Moment)
    (before between : LineView) (after : Outside)
    → ReadsClock now before between → StopsAsking waits now target (find_body_asked states asked) between.told after
    → IsStopped target waits states asked now before.told after
is_stopped go target waits states asked now before between after reads (inl same) = record {
  part = None;
  is = tt;
  told = subst (λ told. Grows before.told told (trace_of_reading now)) (sym same) (told_of_reading now before between reads);
  states_are = tt;
  asks = tt;
}
is_stopped go target waits states asked now before between after reads (inr it) = record {
  part = Some (record { states = states; asked = asked; session = it.session });
  is = record { is = it.is; reading = it.reading };
  told = told_of_both go waits now it.session [] before between after reads it.reading (told_of_session waits it.session between.told after it.told);
  states_are = refl;
  asks = refl;
}

-- the events so far, and one more that was stopped after these
has_stopped_one : GoesOnWithTrace → (target : Target) (need : Bool) (start : DeskStart) (events : List DeskEvent) (now : DeskSeen) (before after : LineView) (one : BrokenFind)
    → AreDeskEvents target need start.waits events → Grows start.line.told before.told (trace_of_events start.waits events)
    → now.kept ≡ kept_after_events start.kept events → now.waits ≡ waits_after_events start.waits events
    → IfSome one.part (λ part. IsBrokenSession target now.waits one.now part) → Grows before.told after.told (trace_of_broken now.waits one.now one.part)
    → HasKeptDesk target need start (events ++ Stopped one ∷ []) (seen now.kept now.waits None) after
has_stopped_one go target need start events now before after one are told kept_is waits_are is more =
    has_one_more go target need start events (Stopped one) now now.kept now.waits before after are told kept_is waits_are is more refl refl

-- what a part asks is what the first looks ask
first_asked : (looks : List Looks) (asked : List Hit) (part : Option BrokenSession) → AreFirstAsked looks asked
    → IfSome part (λ one. one.asked ≡ asked) → IfSome part (λ one. AreFirstAsked looks one.asked)
first_asked looks asked None are asks = tt
first_asked looks asked (Some one) are asks = subst (λ (hits : List Hit). AreFirstAsked looks hits) (sym asks) are

-- A find was stopped for the first of some looks, and this much more is told.
record IsStoppedFor (target : Target) (waits : WaitState) (states : List (List ℕ)) (looks : List Looks) (before after : Outside) : Type 0 where
  one : BrokenFind
  is : IfSome one.part (λ part. IsBrokenSession target waits one.now part)
  told : Grows before after (trace_of_broken waits one.now one.part)
  states_are : IfSome one.part (λ part. part.states ≡ states)
  asks : IfSome one.part (λ part. AreFirstAsked looks part.asked)

is_stopped_for : GoesOnWithTrace → (target : Target) (waits : WaitState) (states : List (List ℕ)) (looks : List Looks) (now : Moment) (asked : List Hit)
    (before between after : LineView) → ReadsClock now before between
    → (after ≡ between) ⊎ (AreFirstAsked looks asked × StopsAsking waits now target (find_body_asked states asked) between.told after.told)
    → IsStoppedFor target waits states looks before.told after.told
is_stopped_for go target waits states looks now asked before between after reads (inl same) = record {
  one = record { now = now; part = None };
  is = tt;
  told = subst (λ (view : LineView). Grows before.told view.told (trace_of_reading now)) (sym same) (told_of_reading now before between reads);
  states_are = tt;
  asks = tt;
}
is_stopped_for go target waits states looks now asked before between after reads (inr (are, stops)) =
    let it = is_stopped go target waits states asked now before between after.told reads stops in
    record {
      one = record { now = now; part = it.part };
      is = it.is;
      told = it.told;
      states_are = it.states_are;
      asks = first_asked looks asked it.part are it.asks;
    }

-- if memory was refused when a find was to be begun
pub stops_beginning : GoesOnWithTrace → (target : Target) (need : Bool) (start : DeskStart) (events : List DeskEvent) (now : DeskSeen) (line line' : LineView)
    (states : List (List ℕ)) (looks : List Looks)
    → now.opened ≡ None → HasKeptDesk target need start events now line → BreaksOffAsking target now.waits states looks line line'
    → StopsAtItsBeginning target need start events now line' states looks
stops_beginning go target need start events now line line' states looks none has breaks =
    let same : line ≡ has.between = subst (λ opened. IsAskingSince target now.waits has.between line opened) none has.session in
    let told : Grows start.line.told line.told (trace_of_events start.waits events) = subst (λ (view : LineView). Grows start.line.told view.told (trace_of_events start.waits events)) (sym same) has.told in
    let it = is_stopped_for go target now.waits states looks breaks.now breaks.asked line breaks.between line' breaks.reads breaks.stops in
    record {
      one = it.one;
      has = subst (λ (opened : Option OpenDeskFind). HasKeptDesk target need start (events ++ Stopped it.one ∷ []) (seen now.kept now.waits opened) line') (sym none)
          (has_stopped_one go target need start events now line line' it.one has.are told has.kept_is has.waits_are it.is it.told);
      states_are = it.states_are;
      asks = it.asks;
    }

-- if it was refused when the find was to be ended
pub stops_ending : GoesOnWithTrace → (target : Target) (need : Bool) (start : DeskStart) (events : List DeskEvent) (finds : Finds) (opened : Option OpenDeskFind) (line line' : LineView) (find : OpenDeskFind)
    → opened ≡ Some find → HasKeptDesk target need start events (seen finds.cache finds.waits opened) line
    → ((before : LineView) → IsOpenFind find.states target find.now find.asked finds.waits before line find.find
    → StopsAsking finds.waits find.now target (find_body_asked find.states find.asked) before.told line'.told)
    → StopsAtItsEnd target need start events (seen [] finds.waits None) line' find
stops_ending go target need start events finds opened line line' find is has stops =
    let begun : HasBegunAsking target finds.waits has.between line find = subst (λ open_find. IsAskingSince target finds.waits has.between line open_find) is has.session in
    let it = is_stopped go target finds.waits find.states find.asked find.now has.between begun.between line'.told begun.reads (stops begun.between begun.opened) in
    let one : BrokenFind = record { now = find.now; part = it.part } in
    let stopped : HasKeptDesk target need start (events ++ Stopped one ∷ []) (seen finds.cache finds.waits None) line' =
    has_stopped_one go target need start events (seen finds.cache finds.waits opened) has.between line' one has.are has.told has.kept_is has.waits_are it.is it.told in
    record {
      one = one;
      has = subst (λ (all : List DeskEvent). HasKeptDesk target need start all (seen [] finds.waits None) line') (append_assoc events (Stopped one ∷ []) (Forgot ∷ []))
          (has_forgotten target need start (events ++ Stopped one ∷ []) (seen finds.cache finds.waits None) line' stopped);
      states_are = it.states_are;
      asks = it.asks;
      read = refl;
    }

-- what is known wherever a call answers is known after an `Err`
pub err_says : {A E : Type 0} (result : Result A E) (Known : Type 0) → Known → OnErr result Known
err_says (Ok value) Known known = tt
err_says (Err fault) Known known = known

-- ---- waits

part_keeps : (target : Target) (waits : WaitState) (now : Moment) (part : Option BrokenSession) → IfSome part (λ one. IsBrokenSession target waits now one)
    → IfSome (session_of_broken part) (λ session. waits.allowed_at.0 ≤ session.entry.begun.0)
part_keeps target waits now None is = tt
part_keeps target waits now (Some part) is = subst (λ (moment : Moment). waits.allowed_at.0 ≤ moment.0) (sym is.is.is.begun) is.is.begins.allowed

event_keeps : (target : Target) (need : Bool) (waits : WaitState) (one : DeskEvent) → IsDeskEvent target need waits one
    → IfSome (session_of_event one) (λ session. waits.allowed_at.0 ≤ session.entry.begun.0)
event_keeps target need waits (LookedUp look) is = tt
event_keeps target need waits (Found one) is = subst (λ (moment : Moment). waits.allowed_at.0 ≤ moment.0) (sym is.session.is.begun) is.session.begins.allowed
event_keeps target need waits (Stopped one) is = part_keeps target waits one.now one.part is
event_keeps target need waits Forgot is = tt

pub events_keep : (target : Target) (need : Bool) (waits : WaitState) (events : List DeskEvent) → AreDeskEvents target need waits events → DeskKeepsToWaits waits events
events_keep target need waits [] are = tt
events_keep target need waits (one ∷ events) (is, are) =
    (event_keeps target need waits one is, events_keep target need (waits_after_event waits one) events are)
