-- An exchange: one session, what is sent in it, and when it is begun and closed.
use Rattle.std.specs.Prelude.{◌≡◌, ◌≢◌, ℕ, ◌==◌, ◌&&◌, not, ◌≤◌, List, [], ◌∷◌, ◌++◌, length, codes, decimal, encode_utf8_all, All, Bool, true, false, Option, Some, None, Result, Err, IfOk, OnErr, IsErrOf, IsFalse}
use Rattle.sb_outside.specs.Outside.{Rose, IfTold, with_entry}
use Rattle.http_edge.specs.declared.faults.ExchangeFault.{ExchangeFault}
use Rattle.http_edge.specs.declared.faults.ExchangeFault.TheVariants.{Link}
use Rattle.http_edge.specs.Outcomes.{SessionOutcome, ReadsNoFurther}
use Rattle.sb_model.specs.declared.time.Moment.{Moment}
use Rattle.sb_model.specs.declared.memory.OutOfMemory.{OutOfMemory}
use Rattle.sb_outside.specs.declared.links.Kind.{Kind}
use Rattle.sb_outside.specs.declared.links.Kind.TheVariants.{Update, Find}
use Rattle.sb_outside.specs.declared.links.Session.{Session}
use Rattle.http_edge.specs.declared.messages.Target.{Target}
use Rattle.http_edge.specs.Responses.{line}

-- A text that stands in one line of a head: no character is a CR or an LF.
abbrev pub StandsInOneLine : List ℕ → Type 0
StandsInOneLine text = All (λ char. (char ≢ 13) × (char ≢ 10)) text

-- the test of one character
abbrev pub is_in_line : ℕ → Bool
is_in_line char = not (char == 13) && not (char == 10)

-- Neither the host nor the key begins a further line of the head in which it stands.
pub record IsTarget (target : Target) : Type 0 where
  pub host : StandsInOneLine target.host
  pub key : StandsInOneLine target.key

abbrev pub path_of_kind : Kind → List ℕ
path_of_kind Update = codes "/v4/threatListUpdates:fetch"
path_of_kind Find = codes "/v4/fullHashes:find"

-- an empty key means that there is none
abbrev pub query_of : List ℕ → List ℕ
query_of [] = []
query_of (first ∷ key) = codes "?key=" ++ encode_utf8_all (first ∷ key)

abbrev pub request_head : Target → Kind → List ℕ → List ℕ
request_head target kind body =
    line (codes "POST " ++ (path_of_kind kind ++ query_of target.key ++ codes " HTTP/1.1"))
    ++ line (codes "Host: " ++ encode_utf8_all target.host)
    ++ line (codes "Content-Type: application/json")
    ++ line (codes "Content-Length: " ++ decimal (length body))
    ++ line (codes "Connection: close")
    ++ line []

-- the whole text of a request
abbrev pub request_text : Target → Kind → List ℕ → List ℕ
request_text target kind body = request_head target kind body ++ body

-- One session of this kind, begun and closed at these moments. Its request was sent, or a front of it.
pub record IsSessionOf (target : Target) (asked : Kind) (body : List ℕ) (at end : Moment) (session : Session) : Type 0 where
  pub kind : session.kind ≡ asked
  pub begun : session.begun ≡ at
  pub closed : session.closed ≡ Some end
  pub unsent : List ℕ
  pub front : session.sent ++ unsent ≡ request_text target asked body

-- The whole request was sent where the session did not fail.
abbrev pub SendsWhole : Target → Kind → List ℕ → Session → Type 0
SendsWhole target kind body session = IsFalse session.failed → session.sent ≡ request_text target kind body

-- The same session before it is closed.
pub record IsTalkOf (target : Target) (asked : Kind) (body : List ℕ) (at : Moment) (session : Session) : Type 0 where
  pub kind : session.kind ≡ asked
  pub begun : session.begun ≡ at
  pub not_closed : session.closed ≡ None
  pub unsent : List ℕ
  pub front : session.sent ++ unsent ≡ request_text target asked body

-- One session was held: the log has it at its end, its outcome is the answer, and nothing was read past what decides it.
pub record HoldsSession (target : Target) (asked : Kind) (body : List ℕ) (at : Moment) (need : Bool) (end : Moment) (before after : Option (List Session)) (answer : Result (List ℕ) ExchangeFault) : Type 0 where
  pub session : Session
  pub told : IfTold after (with_entry before session)
  pub is : IsSessionOf target asked body at end session
  pub sends : SendsWhole target asked body session
  pub outcome : SessionOutcome need session answer
  pub reads : ReadsNoFurther need session

-- A part of a session was held, and the session was closed.
pub record HoldsPart (target : Target) (asked : Kind) (body : List ℕ) (at : Moment) (need : Bool) (end : Moment) (before after : Option (List Session)) : Type 0 where
  pub session : Session
  pub told : IfTold after (with_entry before session)
  pub is : IsSessionOf target asked body at end session
  pub reads : ReadsNoFurther need session

-- the same, while the session is not closed
pub record IsConversation (target : Target) (asked : Kind) (body : List ℕ) (at : Moment) (need : Bool) (before after : Option (List Session)) (answer : Result (List ℕ) ExchangeFault) : Type 0 where
  pub session : Session
  pub told : IfTold after (with_entry before session)
  pub is : IsTalkOf target asked body at session
  pub sends : SendsWhole target asked body session
  pub outcome : SessionOutcome need session answer
  pub reads : ReadsNoFurther need session

pub record IsPartOfConversation (target : Target) (asked : Kind) (body : List ℕ) (at : Moment) (need : Bool) (before after : Option (List Session)) : Type 0 where
  pub session : Session
  pub told : IfTold after (with_entry before session)
  pub is : IsTalkOf target asked body at session
  pub reads : ReadsNoFurther need session

-- A session is open, and nothing was received in it yet. Its request was sent whole, or the link failed after a front of it.
pub record IsOpenExchange (target : Target) (asked : Kind) (body : List ℕ) (at : Moment) (before after : Option (List Session)) (sent : Bool) : Type 0 where
  pub session : Session
  pub told : IfTold after (with_entry before session)
  pub is : IsTalkOf target asked body at session
  pub sends : SendsWhole target asked body session
  pub failed : session.failed ≡ not sent
  pub nothing : session.received ≡ []
  pub not_ended : session.ended ≡ false

-- A fault of the link is counted if the request was not sent, and nothing else is.
abbrev pub CountsSendFault : Bool → ℕ → ℕ → Type 0
CountsSendFault true before after = after ≡ before
CountsSendFault false before after = Rose before after

-- A fault of the link is counted where it is the answer, and nothing else is.
pub record CountsLinkFault (result : Result (Result (List ℕ) ExchangeFault) OutOfMemory) (before after : ℕ) : Type 0 where
  pub failed : IfOk result (λ answer. IsErrOf answer Link → Rose before after)
  pub kept : IfOk result (λ answer. answer ≢ Err Link → after ≡ before)
  pub unmoved : OnErr result (after ≡ before)
  pub counted : before ≤ after
