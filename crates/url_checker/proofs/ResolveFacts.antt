-- What the steps of a resolution come to together.
use Rattle.std.proofs.Common.{◌≡◌, ℕ, List, [], ◌∷◌, ◌++◌, Bool, true, false, Option, Some, None, Result, Ok, Err, refl, sym, ap, subst, ◌∙◌, inl, inr, append_assoc}
use Rattle.std.specs.Prelude.{map, IfOk, OnErr}
use Rattle.std.proofs.lemmas.Bool.{false≢true}
use Rattle.std.proofs.lemmas.List.{append-nil}
use Rattle.sb_model.specs.declared.names.ListName.{ListName}
use Rattle.sb_model.specs.declared.time.Moment.{Moment}
use Rattle.sb_model.specs.declared.memory.OutOfMemory.{OutOfMemory}
use Rattle.sb_outside.specs.Outside.{IfTold, Rose, with_entry}
use Rattle.full_hash_cache.specs.Cache.{Pairs}
use Rattle.hash_messages.specs.declared.response.FindResponse.{FindResponse}
use Rattle.http_edge.specs.declared.messages.Target.{Target}
use Rattle.wait_rules.specs.declared.waits.WaitState.{WaitState}
use Rattle.client_line.specs.Lines.{LineView, ReadsClock}
use Rattle.timed_sessions.specs.Told.{Outside, Grows, with_more}
use Rattle.timed_sessions.specs.Timed.{TimedSession, TellsSession, moments_after, waits_from, trace_of, trace_after}
use Rattle.timed_sessions.specs.Waiting.{drawn_of}
use Rattle.verdict_report.specs.declared.verdicts.Cause.{Cause}
use Rattle.verdict_report.specs.declared.verdicts.Cause.TheVariants.{NotBefore}
use Rattle.verdict_report.specs.declared.verdicts.Verdict.{Verdict}
use Rattle.find_sessions.specs.Asking.{StopsAsking}
use Rattle.url_checker.specs.declared.findings.Hit.{Hit}
use Rattle.url_checker.specs.declared.finds.Finds.{Finds}
use Rattle.url_checker.specs.declared.looking.Looked.{Looked}
use Rattle.url_checker.specs.declared.looking.Looks.{Looks}
use Rattle.url_checker.specs.Resolving.{lists_hit, find_asked, kept_by, is_any, makes_find, hits_asked, unsafe_lists, open_cause, verdict_from, verdict_by, looked_up_pairs, trace_of_reading, IsFindTalk, find_body_asked}
use Rattle.url_checker.specs.Looking.{looked_of, unsafe_in, verdict_after}
use Rattle.url_checker.specs.Several.{asked_find, MakesFind}
use Rattle.url_checker.specs.Resolved.{Resolves, StopsResolving, HoldsFindSession, unresolved}
use Rattle.url_checker.proofs.LookFacts.{unsafe_are}

-- ---- what is told

-- an entry, and then more
told_after : {A : Type 0} (a b c : Option (List A)) (entry : A) (more : List A) → IfTold b (with_entry a entry) → IfTold c (with_more b more) → IfTold c (with_more a (entry ∷ more))
told_after a b None entry more first then = tt
told_after a None (Some told) entry more first then = cc
told_after None (Some known) (Some told) entry more first then = cc
told_after (Some items) (Some known) (Some told) entry more first then =
    let grown : items ++ entry ∷ [] ≡ known = cc in
    let told_is : known ++ more ≡ told = cc in
    ap (λ all. Some all) (sym (append_assoc items (entry ∷ []) more) ∙ ap (λ all. all ++ more) grown ∙ told_is)

told_nothing : {A : Type 0} (a : Option (List A)) → IfTold a (with_more a [])
told_nothing None = tt
told_nothing (Some items) = ap (λ all. Some all) (append-nil items)

-- what is told as before
told_same : {A : Type 0} (a b : Option (List A)) → b ≡ a → IfTold b (with_more a [])
told_same a b same = rw same (told_nothing a)

-- the clock's reading alone
pub read_only : (before after : LineView) (now : Moment) → ReadsClock now before after → Grows before.told after.told (trace_of_reading now)
read_only before after now read = record {
  log = told_same before.told.log after.told.log read.others.log;
  readings = read.read;
  waits = told_same before.told.waits after.told.waits read.waits;
  drawn = told_same before.told.drawn after.told.drawn read.others.drawn;
}

-- the clock's reading, and then what is told of a session
pub read_and_held : (waits : WaitState) (session : TimedSession) (before between : LineView) (after : Outside) (drawn : List ℕ) (now : Moment)
    → session.read ≡ now → ReadsClock now before between → Grows between.told after (trace_after waits session drawn)
    → Grows before.told after (trace_of waits session drawn)
read_and_held waits session before between after drawn now reading read told = record {
  log = subst (λ log. IfTold after.log (with_more log (session.entry ∷ []))) read.others.log told.log;
  readings = told_after before.told.readings between.told.readings after.readings session.read (moments_after waits session) (subst (λ (moment : Moment). IfTold between.told.readings (with_entry before.told.readings moment)) (sym reading) read.read) told.readings;
  waits = subst (λ bidden. IfTold after.waits (with_more bidden (waits_from waits session.read))) read.waits told.waits;
  drawn = subst (λ known. IfTold after.drawn (with_more known drawn)) read.others.drawn told.drawn;
}

-- a session of which no word was drawn
pub nothing_drawn : (waits : WaitState) (session : TimedSession) (before after : Outside)
    → TellsSession waits session before after → Grows before after (trace_after waits session [])
nothing_drawn waits session before after told = record {
  log = told.logged;
  readings = told.readings;
  waits = told.bade;
  drawn = told_same before.drawn after.drawn told.undrawn;
}

-- ---- the verdict

some_hit : (waits : WaitState) (patience : ℕ) (now : Moment) (asked : List Hit) → makes_find waits patience now asked ≡ true → is_any asked ≡ true
some_hit waits patience now [] h = h
some_hit waits patience now (hit ∷ asked) h = refl

open_for : (names : List ListName) (cause : Cause) (asked : List Hit) → is_any asked ≡ true → verdict_from names (Some cause) ≡ verdict_from names (open_cause (Err cause) asked)
open_for names cause [] h = absurd (false≢true h)
open_for names cause (hit ∷ asked) h = refl

verdict_is : (pairs : Pairs) (now : Moment) (hits : List Hit) (told : List ListName) (looked : List Looked) (answer : Result FindResponse Cause) → told ≡ unsafe_lists pairs now None hits
    → looked ≡ map (looked_of pairs now) hits → is_any (hits_asked pairs now hits) ≡ true → verdict_after told looked answer ≡ verdict_by pairs now answer hits
verdict_is pairs now hits told looked (Ok message) names are some =
    ap (λ (all : List Looked). verdict_from (lists_hit (unsafe_in (Some message) all)) None) are
    ∙ ap (λ (unsafe : List Hit). verdict_from (lists_hit unsafe) None) (unsafe_are pairs now (Some message) hits)
verdict_is pairs now hits told looked (Err cause) names are some =
    ap (λ (all : List ListName). verdict_from all (Some cause)) names
    ∙ open_for (unsafe_lists pairs now None hits) cause (hits_asked pairs now hits) some

-- ---- the resolution

module _ (states : List (List ℕ)) (patience : ℕ) (target : Target) (need : Bool) (hits : List Hit) (finds : Finds) (now : Moment) (before between : LineView) (read : ReadsClock now before between) where
  -- with a find
  pub resolved : (looks : Looks) (looked : Pairs) (finds' : Finds) (after : Outside) (verdict : Verdict)
      → looks.asked ≡ hits_asked finds.cache now hits → looks.told ≡ unsafe_lists finds.cache now None hits → looks.looked ≡ map (looked_of finds.cache now) hits → looked ≡ looked_up_pairs finds.cache hits
      → makes_find finds.waits patience now looks.asked ≡ true
      → MakesFind (asked_find states target need now looks.asked) looks (record finds { cache = looked }) finds' between.told after verdict
      → Resolves (unresolved states hits) patience target need finds finds' before.told after verdict
  resolved looks looked finds' after verdict asks names are looks_up in_reach found =
      let can : makes_find finds.waits patience now (hits_asked finds.cache now hits) ≡ true = ap (makes_find finds.waits patience now) (sym asks) ∙ in_reach in
      record {
        resolution = record { now = now; talk = Some found.made.talk };
        is = record {
          asks = sym can;
          talks = subst (λ (all : List Hit). IsFindTalk states target need finds.waits all now found.made.talk) asks found.made.is;
        };
        told = read_and_held finds.waits found.made.talk.session before between after (drawn_of found.made.talk.word) now found.made.is.reading read found.made.told;
        pairs_are = found.made.pairs_are
            ∙ ap (λ (all : List Hit). kept_by found.made.talk.session.closed (lists_hit all) (find_asked states all) found.made.talk.answer looked) asks
            ∙ ap (kept_by found.made.talk.session.closed (lists_hit (hits_asked finds.cache now hits)) (find_asked states (hits_asked finds.cache now hits)) found.made.talk.answer) looks_up;
        waits_are = found.made.waits_are;
        verdict_is = found.verdict_is ∙ ap (verdict_after looks.told looks.looked) found.made.answered
            ∙ verdict_is finds.cache now hits looks.told looks.looked found.made.talk.answer names are (some_hit finds.waits patience now (hits_asked finds.cache now hits) can);
        failed = λ fails. subst (λ faults. Rose faults after.faults) read.others.faults (found.made.failed fails);
        kept = λ passes. found.made.kept passes ∙ read.others.faults;
      }

  pub resolved_if : (looks : Looks) (looked : Pairs) (finds' : Finds) (after : Outside) (result : Result Verdict OutOfMemory)
      → looks.asked ≡ hits_asked finds.cache now hits → looks.told ≡ unsafe_lists finds.cache now None hits → looks.looked ≡ map (looked_of finds.cache now) hits → looked ≡ looked_up_pairs finds.cache hits
      → makes_find finds.waits patience now looks.asked ≡ true
      → IfOk result (MakesFind (asked_find states target need now looks.asked) looks (record finds { cache = looked }) finds' between.told after)
      → IfOk result (Resolves (unresolved states hits) patience target need finds finds' before.told after)
  resolved_if looks looked finds' after (Ok verdict) asks names are looks_up in_reach found =
      resolved looks looked finds' after verdict asks names are looks_up in_reach found
  resolved_if looks looked finds' after (Err refused) asks names are looks_up in_reach found = tt

  -- without one
  pub unasked : (asked : List Hit) (told : List ListName) (looked : Pairs) (verdict : Verdict)
      → asked ≡ hits_asked finds.cache now hits → told ≡ unsafe_lists finds.cache now None hits → looked ≡ looked_up_pairs finds.cache hits → makes_find finds.waits patience now asked ≡ false
      → verdict ≡ verdict_from told (open_cause (Err (NotBefore finds.waits.allowed_at)) asked)
      → Resolves (unresolved states hits) patience target need finds (record finds { cache = looked }) before.told between.told verdict
  unasked asked told looked verdict asks names looks not_made by = record {
    resolution = record { now = now; talk = None };
    is = record {
      asks = sym (ap (makes_find finds.waits patience now) (sym asks) ∙ not_made);
      talks = tt;
    };
    told = read_only before between now read;
    pairs_are = looks;
    waits_are = refl;
    verdict_is = by
        ∙ ap (λ (all : List ListName). verdict_from all (open_cause (Err (NotBefore finds.waits.allowed_at)) asked)) names
        ∙ ap (λ (all : List Hit). verdict_from (unsafe_lists finds.cache now None hits) (open_cause (Err (NotBefore finds.waits.allowed_at)) all)) asks;
    failed = λ h. cc h;
    kept = λ h. read.others.faults;
  }

  -- broken off before a find
  pub broken_off : StopsResolving (unresolved states hits) target finds before.told between.told
  broken_off = record { now = now; told = inl (read_only before between now read) }

  -- and in it
  pub broken_in_find : (asked : List Hit) (after : Outside) → asked ≡ hits_asked finds.cache now hits
      → StopsAsking finds.waits now target (find_body_asked states asked) between.told after
      → StopsResolving (unresolved states hits) target finds before.told after
  broken_in_find asked after asks (inl nothing) = record {
    now = now;
    told = inl (subst (λ told. Grows before.told told (trace_of_reading now)) (sym nothing) (read_only before between now read));
  }
  broken_in_find asked after asks (inr held) = record {
    now = now;
    told = inr (subst (λ (all : List Hit). HoldsFindSession finds.waits target (find_body_asked states all) now before.told after) asks (record {
      session = held.session;
      is = held.is;
      reading = held.reading;
      told = read_and_held finds.waits held.session before between after [] now held.reading read (nothing_drawn finds.waits held.session between.told after held.told);
    }));
  }

  pub broken_if : (asked : List Hit) (after : Outside) (result : Result Verdict OutOfMemory) → asked ≡ hits_asked finds.cache now hits
      → OnErr result (StopsAsking finds.waits now target (find_body_asked states asked) between.told after)
      → OnErr result (StopsResolving (unresolved states hits) target finds before.told after)
  broken_if asked after (Ok verdict) asks stops = tt
  broken_if asked after (Err refused) asks stops = broken_in_find asked after asks stops
