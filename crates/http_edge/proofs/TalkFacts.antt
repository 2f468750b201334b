-- A session that was begun, in which a request was sent, and which was received to some end.
use Rattle.std.proofs.Common.{◌≡◌, ◌≢◌, ℕ, List, [], ◌∷◌, ◌++◌, Bool, true, false, Option, Ok, Err, refl, sym, ap, ◌∙◌}
use Rattle.std.specs.Prelude.{Result, IfOk, OnErr, codes, encode_utf8_all, IsUtf8}
use Rattle.std.specs.Str.{chars}
use Rattle.std.proofs.lemmas.Str.{encodes-chars}
use Rattle.std.proofs.lemmas.List.{append-nil}
use Rattle.sb_model.specs.declared.time.Moment.{Moment}
use Rattle.sb_model.specs.declared.memory.OutOfMemory.{OutOfMemory}
use Rattle.sb_outside.specs.Outside.{IfTold, with_entry}
use Rattle.sb_outside.specs.Sessions.{begun_session, refused_session, with_sent, with_failure, with_close, last_changed}
use Rattle.sb_outside.specs.declared.links.Kind.{Kind}
use Rattle.sb_outside.specs.declared.links.Session.{Session}
use Rattle.http_edge.specs.declared.messages.Target.{Target}
use Rattle.http_edge.specs.declared.faults.ExchangeFault.{ExchangeFault}
use Rattle.http_edge.specs.declared.faults.ExchangeFault.TheVariants as fault
use Rattle.http_edge.specs.Outcomes.{SessionOutcome, IsUndecided, ReadsToDecision, ReadsNoFurther}
use Rattle.http_edge.specs.Exchanges.{query_of, request_text, IsTalkOf, IsSessionOf, SendsWhole, HoldsSession, HoldsPart, IsConversation, IsPartOfConversation, IsOpenExchange}
use Rattle.http_edge.specs.SessionBytes.{Turns, after_receiving, ReadsOnly, ReceivedOutcome, IsReceived, IsPartReceived, SendsFront}
use Rattle.http_edge.proofs.SessionSteps.{turns_from}
use Rattle.http_edge.proofs.ReadFacts.{reads_decide, reads_nothing}

-- a session after so much of it was received is what it was before
received_is : (target : Target) (kind : Kind) (body : List ℕ) (at : Moment) (session : Session) (bytes : List ℕ) (ended failed : Bool)
    → IsTalkOf target kind body at session → IsTalkOf target kind body at (after_receiving bytes ended failed session)
received_is target kind body at session bytes true true is = record { kind = is.kind; begun = is.begun; not_closed = is.not_closed; unsent = is.unsent; front = is.front }
received_is target kind body at session bytes true false is = record { kind = is.kind; begun = is.begun; not_closed = is.not_closed; unsent = is.unsent; front = is.front }
received_is target kind body at session bytes false true is = record { kind = is.kind; begun = is.begun; not_closed = is.not_closed; unsent = is.unsent; front = is.front }
received_is target kind body at session bytes false false is = record { kind = is.kind; begun = is.begun; not_closed = is.not_closed; unsent = is.unsent; front = is.front }

received_sends : (target : Target) (kind : Kind) (body : List ℕ) (session : Session) (bytes : List ℕ) (ended failed : Bool)
    → session.sent ≡ request_text target kind body → SendsWhole target kind body (after_receiving bytes ended failed session)
received_sends target kind body session bytes true true whole = λ _. whole
received_sends target kind body session bytes true false whole = λ _. whole
received_sends target kind body session bytes false true whole = λ _. whole
received_sends target kind body session bytes false false whole = λ _. whole

received_outcome : (need : Bool) (session : Session) (bytes : List ℕ) (ended failed : Bool) (answer : Result (List ℕ) ExchangeFault)
    → session.received ≡ [] → session.ended ≡ false → session.failed ≡ false
    → ReceivedOutcome need bytes ended failed answer → SessionOutcome need (after_receiving bytes ended failed session) answer
received_outcome need session bytes true true answer nothing not_ended well is = is
received_outcome need session bytes true false answer nothing not_ended well is = rw (nothing, well) is
received_outcome need session bytes false true answer nothing not_ended well is = is
received_outcome need session bytes false false answer nothing not_ended well is = rw (nothing, not_ended, well) is

received_reads : (need : Bool) (session : Session) (bytes : List ℕ) (ended failed : Bool)
    → session.received ≡ [] → session.ended ≡ false → session.failed ≡ false
    → ReadsOnly (IsUndecided need) bytes ended failed → ReadsNoFurther need (after_receiving bytes ended failed session)
received_reads need session bytes true true nothing not_ended well reads = rw nothing (reads_decide need bytes true true reads)
received_reads need session bytes true false nothing not_ended well reads = rw (nothing, well) (reads_decide need bytes true false reads)
received_reads need session bytes false true nothing not_ended well reads = rw (nothing, not_ended) (reads_decide need bytes false true reads)
received_reads need session bytes false false nothing not_ended well reads = rw (nothing, not_ended, well) (reads_decide need bytes false false reads)

-- nothing was read yet
pub nothing_read : (need ended failed : Bool) → ReadsToDecision need [] ended failed
nothing_read need ended failed = reads_decide need [] ended failed (reads_nothing need ended failed)

-- the session did not begin
pub open_refused : (target : Target) (kind : Kind) (body : List ℕ) (at : Moment) (a b : Option (List Session))
    → IfTold b (with_entry a (refused_session at kind)) → IsOpenExchange target kind body at a b false
open_refused target kind body at a b told = record {
  session = refused_session at kind;
  told = told;
  is = record { kind = refl; begun = refl; not_closed = refl; unsent = request_text target kind body; front = refl };
  sends = λ void. absurd (cc);
  failed = refl;
  nothing = refl;
  not_ended = refl;
}

-- it began, and its request could not be made
pub talk_begun : (target : Target) (kind : Kind) (body : List ℕ) (at : Moment) (need : Bool) (a b : Option (List Session))
    → IfTold b (with_entry a (begun_session at kind)) → IsPartOfConversation target kind body at need a b
talk_begun target kind body at need a b told = record {
  session = begun_session at kind;
  told = told;
  is = record { kind = refl; begun = refl; not_closed = refl; unsent = request_text target kind body; front = refl };
  reads = nothing_read need false false;
}

-- its request was sent whole
pub open_sent : (target : Target) (kind : Kind) (body : List ℕ) (at : Moment) (text : List ℕ) (a b c : Option (List Session))
    → text ≡ request_text target kind body → IfTold b (with_entry a (begun_session at kind)) → Turns (with_sent text) b c → IsOpenExchange target kind body at a c true
open_sent target kind body at text a b c text-is begun sent = record {
  session = with_sent text (begun_session at kind);
  told = sent a (begun_session at kind) begun;
  is = record { kind = refl; begun = refl; not_closed = refl; unsent = []; front = append-nil text ∙ text-is };
  sends = λ _. text-is;
  failed = refl;
  nothing = refl;
  not_ended = refl;
}

-- its request was not sent whole
pub open_unsent : (target : Target) (kind : Kind) (body : List ℕ) (at : Moment) (text : List ℕ) (a b c : Option (List Session))
    → text ≡ request_text target kind body → IfTold b (with_entry a (begun_session at kind)) → SendsFront text b c → IsOpenExchange target kind body at a c false
open_unsent target kind body at text a b c text-is begun fails = record {
  session = with_failure (with_sent fails.sent (begun_session at kind));
  told = fails.turns a (begun_session at kind) begun;
  is = record { kind = refl; begun = refl; not_closed = refl; unsent = fails.unsent; front = fails.front ∙ text-is };
  sends = λ void. absurd (cc);
  failed = refl;
  nothing = refl;
  not_ended = refl;
}

-- the response of one whose request was sent was received to some end
pub talk_received : (target : Target) (kind : Kind) (body : List ℕ) (at : Moment) (need : Bool) (a c d : Option (List Session)) (result : Result (Result (List ℕ) ExchangeFault) OutOfMemory)
    → IsOpenExchange target kind body at a c true
    → IfOk result (λ answer. IsReceived need c d answer) → IfOk result (λ answer. IsConversation target kind body at need a d answer)
talk_received target kind body at need a c d (Ok answer) opens (bytes, ended, failed, receives, reads, is) = record {
  session = after_receiving bytes ended failed opens.session;
  told = receives a opens.session opens.told;
  is = received_is target kind body at opens.session bytes ended failed opens.is;
  sends = received_sends target kind body opens.session bytes ended failed (opens.sends opens.failed);
  outcome = received_outcome need opens.session bytes ended failed answer opens.nothing opens.not_ended opens.failed is;
  reads = received_reads need opens.session bytes ended failed opens.nothing opens.not_ended opens.failed reads;
}
talk_received target kind body at need a c d (Err refused) opens says = tt

pub talk_part : (target : Target) (kind : Kind) (body : List ℕ) (at : Moment) (need : Bool) (a c d : Option (List Session)) (result : Result (Result (List ℕ) ExchangeFault) OutOfMemory)
    → IsOpenExchange target kind body at a c true
    → OnErr result (IsPartReceived need c d) → OnErr result (IsPartOfConversation target kind body at need a d)
talk_part target kind body at need a c d (Ok answer) opens says = tt
talk_part target kind body at need a c d (Err refused) opens (bytes, ended, failed, receives, reads) = record {
  session = after_receiving bytes ended failed opens.session;
  told = receives a opens.session opens.told;
  is = received_is target kind body at opens.session bytes ended failed opens.is;
  reads = received_reads need opens.session bytes ended failed opens.nothing opens.not_ended opens.failed reads;
}

-- one whose request was not sent has no answer
pub talk_unsent : (target : Target) (kind : Kind) (body : List ℕ) (at : Moment) (need : Bool) (a c : Option (List Session))
    → IsOpenExchange target kind body at a c false → IsConversation target kind body at need a c (Err fault.Link)
talk_unsent target kind body at need a c opens = record {
  session = opens.session;
  told = opens.told;
  is = opens.is;
  sends = opens.sends;
  outcome = rw opens.failed refl;
  reads = rw (opens.nothing, opens.not_ended, opens.failed) (nothing_read need false true);
}

closed_is : (target : Target) (kind : Kind) (body : List ℕ) (at end : Moment) (session : Session) → IsTalkOf target kind body at session → IsSessionOf target kind body at end (with_close end session)
closed_is target kind body at end session is = record { kind = is.kind; begun = is.begun; closed = refl; unsent = is.unsent; front = is.front }

-- the session is closed
pub session_closed : (target : Target) (kind : Kind) (body : List ℕ) (at : Moment) (need : Bool) (end : Moment) (a b c : Option (List Session)) (answer : Result (List ℕ) ExchangeFault)
    → IsConversation target kind body at need a b answer → IfTold c (last_changed (with_close end) b) → HoldsSession target kind body at need end a c answer
session_closed target kind body at need end a b c answer talk closed = record {
  session = with_close end talk.session;
  told = turns_from (with_close end) b c closed a talk.session talk.told;
  is = closed_is target kind body at end talk.session talk.is;
  sends = talk.sends;
  outcome = talk.outcome;
  reads = talk.reads;
}

pub part_closed : (target : Target) (kind : Kind) (body : List ℕ) (at : Moment) (need : Bool) (end : Moment) (a b c : Option (List Session))
    → IsPartOfConversation target kind body at need a b → IfTold c (last_changed (with_close end) b) → HoldsPart target kind body at need end a c
part_closed target kind body at need end a b c talk closed = record {
  session = with_close end talk.session;
  told = turns_from (with_close end) b c closed a talk.session talk.told;
  is = closed_is target kind body at end talk.session talk.is;
  reads = talk.reads;
}

-- a key that is not empty stands in the query
pub query_some : (key : List ℕ) → key ≢ [] → query_of key ≡ codes "?key=" ++ encode_utf8_all key
query_some [] some = absurd (some refl)
query_some (first ∷ key) some = refl

pub text_bytes : (bytes key : List ℕ) → IsUtf8 bytes → chars bytes ≡ key → bytes ≡ encode_utf8_all key
text_bytes bytes key is same = sym (encodes-chars bytes is) ∙ ap encode_utf8_all same
