-- What the steps of a round come to together.
use Rattle.std.proofs.Common.{◌≡◌, ℕ, List, [], ◌∷◌, ◌++◌, Bool, Option, Some, None, refl, sym, ap, ◌∙◌, subst, append_assoc}
use Rattle.std.proofs.lemmas.List.{append-nil}
use Rattle.std.specs.Prelude.{Result, Ok, Err, IfOk, OnErr}
use Rattle.sb_model.specs.declared.time.Moment.{Moment}
use Rattle.sb_model.specs.declared.memory.OutOfMemory.{OutOfMemory}
use Rattle.sb_outside.specs.Outside.{IfTold, with_entry}
use Rattle.sb_outside.specs.declared.links.Kind.TheVariants.{Update}
use Rattle.http_edge.specs.declared.messages.Target.{Target}
use Rattle.update_client.specs.Held.{Held}
use Rattle.update_client.specs.Step.{after_updates, results_of}
use Rattle.update_client.specs.declared.options.FetchOptions.{FetchOptions}
use Rattle.update_messages.specs.declared.response.FetchResponse.{FetchResponse}
use Rattle.wait_rules.specs.declared.waits.WaitState.{WaitState}
use Rattle.client_line.specs.Lines.{LineView, ReadsClock, Draws}
use Rattle.timed_sessions.specs.Told.{Outside, Grows, with_more}
use Rattle.timed_sessions.specs.declared.timing.Opening.{Opening}
use Rattle.timed_sessions.specs.Timed.{TimedSession, IsTimedOpening, HoldsTimed, HoldsTimedPart, TellsSession, moments_after, waits_from, trace_of}
use Rattle.timed_sessions.specs.Waiting.{HasSettled, drawn_of}
use Rattle.timed_sessions.specs.declared.timing.Talk.{Talk}
use Rattle.sb_round.specs.declared.rounds.RoundEnd.{RoundEnd}
use Rattle.sb_round.specs.declared.rounds.RoundFault.{RoundFault}
use Rattle.sb_round.specs.declared.rounds.Taken.{Taken}
use Rattle.sb_round.specs.Round.{RoundState, round_state, round_body_asked, named_results, IsRoundAnswerOf, IsOpenRound, HoldsRoundSession, MakesRound}
use Rattle.sb_round.specs.Taking.{HasTalked, HearsRound, HasTaken}
use Rattle.sb_round.specs.declared.asking.Asked.{Asked}

-- ---- what is told

-- an entry, and then more
told_after : {A : Type 0} (a b c : Option (List A)) (entry : A) (more : List A) → IfTold b (with_entry a entry) → IfTold c (with_more b more) → IfTold c (with_more a (entry ∷ more))
told_after a b None entry more first then = tt
told_after a None (Some told) entry more first then = cc
told_after None (Some known) (Some told) entry more first then = cc
told_after (Some items) (Some known) (Some told) entry more first then =
    let grown : items ++ entry ∷ [] ≡ known = cc in
    let told_is : known ++ more ≡ told = cc in
    ap (λ all. Some all) (sym (append_assoc items (entry ∷ []) more) ∙ ap (λ all. all ++ more) grown ∙ told_is)

told_nothing : {A : Type 0} (a : Option (List A)) → IfTold a (with_more a [])
told_nothing None = tt
told_nothing (Some items) = ap (λ all. Some all) (append-nil items)

told_same : {A : Type 0} (a b : Option (List A)) → b ≡ a → IfTold b (with_more a [])
told_same a b same = rw same (told_nothing a)

-- the clock's reading, and then what is told of the session
grows : (waits : WaitState) (session : TimedSession) (before between : LineView) (after : Outside)
    → ReadsClock session.read before between → TellsSession waits session between.told after
    → Grows before.told after (trace_of waits session [])
grows waits session before between after read told = record {
  log = subst (λ log. IfTold after.log (with_entry log session.entry)) read.others.log told.logged;
  readings = told_after before.told.readings between.told.readings after.readings session.read (moments_after waits session) read.read told.readings;
  waits = subst (λ bidden. IfTold after.waits (with_more bidden (waits_from waits session.read))) read.waits told.bade;
  drawn = told_same before.told.drawn after.drawn (told.undrawn ∙ read.others.drawn);
}

-- words that are drawn after nothing
drawn_after : {A : Type 0} (a b c : Option (List A)) (more : List A) → IfTold b (with_more a []) → IfTold c (with_more b more) → IfTold c (with_more a more)
drawn_after a b None more first then = tt
drawn_after a None (Some told) more first then = cc
drawn_after None (Some known) (Some told) more first then = cc
drawn_after (Some items) (Some known) (Some told) more first then =
    let grown : items ++ [] ≡ known = cc in
    let told_is : known ++ more ≡ told = cc in
    ap (λ all. Some all) (ap (λ all. all ++ more) (sym (append-nil items) ∙ grown) ∙ told_is)

-- what the dice tell, too
with_words : (waits : WaitState) (session : TimedSession) (before : Outside) (between after : LineView) (drawn : List ℕ)
    → Grows before between.told (trace_of waits session []) → Draws drawn between after
    → Grows before after.told (trace_of waits session drawn)
with_words waits session before between after drawn told draws = record {
  log = rw draws.log told.log;
  readings = rw draws.readings told.readings;
  waits = rw draws.waits told.waits;
  drawn = drawn_after before.drawn between.told.drawn after.told.drawn drawn told.drawn draws.drawn;
}

-- ---- sessions

-- a session that was held to its end after the clock was read
pub talked : (waits : WaitState) (read : Moment) (target : Target) (body : List ℕ) (need : Bool) (before between : LineView) (after : Outside) (talk : Talk)
    → ReadsClock read before between → HoldsTimed waits read target Update body need between.told after talk
    → HasTalked waits target body need before.told after talk
talked waits read target body need before between after talk first holds = record {
  session = holds.session;
  is = holds.is;
  held = holds.held;
  told = grows waits holds.session before between after (subst (λ moment. ReadsClock moment before between) (sym holds.reading) first) holds.told;
  begins = holds.begins;
  closes = holds.closes;
}

-- a session that was broken off
pub held_part : (waits : WaitState) (read : Moment) (target : Target) (body : List ℕ) (before between : LineView) (after : Outside)
    → ReadsClock read before between → HoldsTimedPart waits read target Update body between.told after
    → HoldsRoundSession waits target body before.told after
held_part waits read target body before between after first holds = record {
  session = holds.session;
  is = holds.is;
  told = grows waits holds.session before between after (subst (λ moment. ReadsClock moment before between) (sym holds.reading) first) holds.told;
}

-- a session that is opens after the clock was read
pub open_if : (waits : WaitState) (read : Moment) (target : Target) (body : List ℕ) (before between after : LineView) (result : Result Opening OutOfMemory)
    → ReadsClock read before between → IfOk result (λ opening. IsTimedOpening waits read target Update body between.told after.told opening)
    → IfOk result (λ opening. after.last ≡ opening.begun.0) → IfOk result (λ opening. IsOpenRound waits target body before after opening)
open_if waits read target body before between after (Ok opening) first opened last = record { read = read; between = between; reads = first; opened = opened; last = last }
open_if waits read target body before between after (Err refused) first opened last = tt

-- its outcome was heard, and read
pub heard : (waits : WaitState) (target : Target) (body : List ℕ) (need : Bool) (start before : LineView) (after : Outside) (opening : Opening) (talk : Talk) (answer : Result FetchResponse RoundFault)
    → IsOpenRound waits target body start before opening
    → ((read : Moment) (between : Outside) → IsTimedOpening waits read target Update body between before.told opening → HoldsTimed waits read target Update body need between after talk)
    → IsRoundAnswerOf talk.answer answer → HearsRound waits target body need start.told after (record { begun = talk.begun; closed = talk.closed; answer = answer })
heard waits target body need start before after opening talk answer opens holds answers = record {
  outcome = talk.answer;
  talked = talked waits opens.read target body need start opens.between after talk opens.reads (holds opens.read opens.between.told opens.opened);
  answers = answers;
}

-- a session that was held to its end, of which no more is said
pub held_whole : (waits : WaitState) (target : Target) (body : List ℕ) (need : Bool) (before after : Outside) (talk : Talk)
    → HasTalked waits target body need before after talk → HoldsRoundSession waits target body before after
held_whole waits target body need before after talk talked = record { session = talked.session; is = talked.is; told = talked.told }

-- it was broken off
pub heard_part : (waits : WaitState) (target : Target) (body : List ℕ) (start before : LineView) (after : Outside) (opening : Opening)
    → IsOpenRound waits target body start before opening
    → ((read : Moment) (between : Outside) → IsTimedOpening waits read target Update body between before.told opening → HoldsTimedPart waits read target Update body between after)
    → HoldsRoundSession waits target body start.told after
heard_part waits target body start before after opening opens holds =
    held_part waits opens.read target body start opens.between after opens.reads (holds opens.read opens.between.told opens.opened)

-- it was held to its end, and then memory was refused
pub heard_whole : (waits : WaitState) (target : Target) (body : List ℕ) (need : Bool) (start before : LineView) (after : Outside) (opening : Opening) (talk : Talk)
    → IsOpenRound waits target body start before opening
    → ((read : Moment) (between : Outside) → IsTimedOpening waits read target Update body between before.told opening → HoldsTimed waits read target Update body need between after talk)
    → HoldsRoundSession waits target body start.told after
heard_whole waits target body need start before after opening talk opens holds =
    held_whole waits target body need start.told after talk
    (talked waits opens.read target body need start opens.between after talk opens.reads (holds opens.read opens.between.told opens.opened))

-- ---- rounds

-- a round that brought a message
pub message_taken : (lists lists' : List Held) (waits waits' : WaitState) (before after : LineView) (begun closed : Moment) (message : FetchResponse) (taken : List Taken)
    → HasSettled waits waits' closed (Some message.wait) before after → lists' ≡ after_updates lists message.items
    → taken ≡ named_results message.items (results_of lists message.items)
    → HasTaken (round_state lists waits) (round_state lists' waits') before after (record { begun = begun; closed = closed; answer = Ok message }) (record { begun = begun; taken = Ok taken })
message_taken lists lists' waits waits' before after begun closed message taken settled lists_are taken_is = record {
  settled = settled;
  lists_after = lists_are;
  begins = refl;
  taken = ap (λ all. Ok all) taken_is;
}

-- a round that brought none
pub failed : (lists : List Held) (waits waits' : WaitState) (before after : LineView) (begun closed : Moment) (fault : RoundFault)
    → HasSettled waits waits' closed None before after
    → HasTaken (round_state lists waits) (round_state lists waits') before after (record { begun = begun; closed = closed; answer = Err fault }) (record { begun = begun; taken = Err fault })
failed lists waits waits' before after begun closed fault settled = record { settled = settled; lists_after = refl; begins = refl; taken = refl }

-- a round whose session was held, and which was then ended
pub made : (state state' : RoundState) (options : FetchOptions) (target : Target) (need : Bool) (before : Outside) (between after : LineView) (asked : Asked) (end : RoundEnd)
    → HearsRound state.waits target (round_body_asked state.lists options) need before between.told asked
    → HasTaken state state' between after asked end
    → MakesRound state state' options target need before after.told end
made state state' options target need before between after asked end has taken = record {
  round = record { session = has.talked.session; answer = asked.answer; word = taken.settled.word };
  is = record {
    session = has.talked.is;
    outcome = has.outcome;
    held = has.talked.held;
    answers = has.answers;
    drawn = taken.settled.drawn;
  };
  told = with_words state.waits has.talked.session before between after (drawn_of taken.settled.word) has.talked.told taken.settled.told;
  lists_after = taken.lists_after;
  waits_after = rw has.talked.closes taken.settled.leaves;
  begun = taken.begins ∙ sym has.talked.begins;
  taken = taken.taken;
}

pub made_if : (state state' : RoundState) (options : FetchOptions) (target : Target) (need : Bool) (before : Outside) (between after : LineView) (asked : Asked) (result : Result RoundEnd OutOfMemory)
    → HearsRound state.waits target (round_body_asked state.lists options) need before between.told asked
    → IfOk result (λ end. HasTaken state state' between after asked end)
    → IfOk result (λ end. MakesRound state state' options target need before after.told end)
made_if state state' options target need before between after asked (Ok end) has taken =
    made state state' options target need before between after asked end has taken
made_if state state' options target need before between after asked (Err refused) has taken = tt

-- what is known wherever a call answers is known after an `Err`
pub err_says : {A E : Type 0} (result : Result A E) (Known : Type 0) → Known → OnErr result Known
err_says (Ok value) Known known = tt
err_says (Err fault) Known known = known

-- a round whose session was held, and whose answer could not be taken
pub asked_part : (waits : WaitState) (target : Target) (body : List ℕ) (need : Bool) (before : Outside) (between after : LineView) (asked : Asked) (result : Result RoundEnd OutOfMemory)
    → HearsRound waits target body need before between.told asked → OnErr result (after ≡ between)
    → OnErr result (HoldsRoundSession waits target body before after.told)
asked_part waits target body need before between after asked (Ok end) has same = tt
asked_part waits target body need before between after asked (Err refused) has same =
    subst (λ (last : LineView). HoldsRoundSession waits target body before last.told) (sym same)
    (held_whole waits target body need before between.told (record { begun = asked.begun; closed = asked.closed; answer = has.outcome }) has.talked)
