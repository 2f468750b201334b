-- How a response is received over a link: what each step does to the session that began last, and to the bytes that wait.
use Rattle.std.specs.Prelude.{◌≡◌, ◌≢◌, ℕ, ◌<◌, ◌≤◌, ◌⊎◌, List, [], ◌++◌, length, take, drop, map, Bool, true, false, Option, Some, None, Result, Ok, Err, IsTrue, MatchBool, ⊤}
use Rattle.sha2.specs.Sha256.{sha256}
use Rattle.httparse.specs.declared.spans.HeaderSpan.{HeaderSpan}
use Rattle.httparse.specs.declared.spans.ResponseSpans.{ResponseSpans}
use Rattle.httparse.specs.Grammar.{ResponseHead, print_response, ReadsResponse, status_code}
use Rattle.httparse.specs.Spans.{header_bytes, name_and_value}
use Rattle.http_edge.specs.Heads.{IsRefusedResponse, IsOpenResponse}
use Rattle.http_edge.specs.Digests.{IsDigestGiven}
use Rattle.http_edge.specs.Outcomes.{HasResponse, framing_of, IsFault, IsRightDigest, BytesOutcome, IsUndecided}
use Rattle.http_edge.specs.declared.faults.ExchangeFault.{ExchangeFault}
use Rattle.http_edge.specs.declared.faults.ExchangeFault.TheVariants.{Link, NoDigest, Digest}
use Rattle.http_edge.specs.declared.response_heads.ResponseParts.{ResponseParts}
use Rattle.http_edge.specs.declared.response_heads.ResponseStep.{ResponseStep}
use Rattle.http_edge.specs.declared.response_heads.ResponseStep.TheVariants.{Whole, Refused, Open}
use Rattle.http_edge.specs.declared.session_bytes.ReceiveFault.{ReceiveFault}
use Rattle.http_edge.specs.declared.session_bytes.ReceiveFault.TheVariants.{Fault, OutOfMemory}
use Rattle.sb_outside.specs.Outside.{IfTold, with_entry}
use Rattle.sb_outside.specs.Sessions.{with_sent, with_received, with_end, with_failure}
use Rattle.sb_outside.specs.declared.links.Session.{Session}

-- Where the log was told to end in some session, that session is changed so.
abbrev pub Turns : (Session → Session) → Option (List Session) → Option (List Session) → Type 0
Turns change before after =
    (log : Option (List Session)) (session : Session) → IfTold before (with_entry log session) → IfTold after (with_entry log (change session))

-- some bytes came, then perhaps the end of the session, then perhaps a fault
abbrev pub end_if : Bool → Session → Session
end_if true session = with_end session
end_if false session = session

abbrev pub fail_if : Bool → Session → Session
fail_if true session = with_failure session
fail_if false session = session

abbrev pub after_receiving : List ℕ → Bool → Bool → Session → Session
after_receiving bytes ended failed session = fail_if failed (end_if ended (with_received bytes session))

abbrev pub Receives : List ℕ → Bool → Bool → Option (List Session) → Option (List Session) → Type 0
Receives bytes ended failed before after = Turns (after_receiving bytes ended failed) before after

-- Bytes came by reads, of which the last gave at most 65,536, and those before it still needed more.
pub record EndsByRead (needs : List ℕ → Type 0) (given : List ℕ) : Type 0 where
  pub before : List ℕ
  pub last : List ℕ
  pub parts : given ≡ before ++ last
  pub short : length last ≤ 65536
  pub needed : needs before

-- Bytes were read only while more were needed.
abbrev pub ReadsWhile : (List ℕ → Type 0) → List ℕ → Type 0
ReadsWhile needs given = (given ≡ []) ⊎ EndsByRead needs given

-- The same, and the end came, or a fault, only where more were needed.
pub record ReadsOnly (needs : List ℕ → Type 0) (given : List ℕ) (ended failed : Bool) : Type 0 where
  pub bytes : ReadsWhile needs given
  pub end : IsTrue ended → needs given
  pub fault : IsTrue failed → needs given

-- A text and these bytes are fewer than are wanted.
abbrev pub IsShort : List ℕ → ℕ → List ℕ → Type 0
IsShort text wanted given = length (text ++ given) < wanted

-- No head is whole or refused yet, and more bytes may come.
abbrev pub IsOpenHead : List ℕ → Type 0
IsOpenHead bytes = (length bytes < 16384) × IsOpenResponse bytes

-- One read gave bytes, and they wait after those that waited.
pub record ReceivesMore (waiting grown : List ℕ) (before after : Option (List Session)) : Type 0 where
  pub given : List ℕ
  pub some : 0 < length given
  pub short : length given ≤ 65536
  pub whole : grown ≡ waiting ++ given
  pub receives : Turns (with_received given) before after

-- one read gave bytes
pub record ReceivesPiece (before after : Option (List Session)) : Type 0 where
  pub given : List ℕ
  pub short : length given ≤ 65536
  pub receives : Turns (with_received given) before after

-- Some bytes came, or none, and then perhaps the end of the session. They wait after those that waited.
pub record ReceivesOn (needs : List ℕ → Type 0) (waiting grown : List ℕ) (ended : Bool) (before after : Option (List Session)) : Type 0 where
  pub given : List ℕ
  pub whole : grown ≡ waiting ++ given
  pub receives : Receives given ended false before after
  pub reads : ReadsWhile needs given

-- some bytes came
pub record ReceivesSome (needs : List ℕ → Type 0) (before after : Option (List Session)) : Type 0 where
  pub given : List ℕ
  pub receives : Receives given false false before after
  pub reads : ReadsWhile needs given

-- A session gave some bytes and then its end, and a text with them has fewer bytes than are wanted.
pub record SessionEndsShort (text : List ℕ) (wanted : ℕ) (before after : Option (List Session)) : Type 0 where
  pub given : List ℕ
  pub receives : Receives given true false before after
  pub reads : ReadsWhile (IsShort text wanted) given
  pub short : length (text ++ given) < wanted

-- A session gave some bytes, and a text with them has the wanted ones, which are kept.
pub record SessionFillsUp (text filled : List ℕ) (wanted : ℕ) (before after : Option (List Session)) : Type 0 where
  pub given : List ℕ
  pub receives : Receives given false false before after
  pub reads : ReadsWhile (IsShort text wanted) given
  pub enough : wanted ≤ length (text ++ given)
  pub is : filled ≡ take wanted (text ++ given)

-- some bytes came, and then a fault
pub record FailsAfter (needs : List ℕ → Type 0) (before after : Option (List Session)) : Type 0 where
  pub given : List ℕ
  pub receives : Receives given false true before after
  pub reads : ReadsWhile needs given
  pub needed : needs given

-- The parser found a head at the front of a buffer, and these are its fields.
pub record IsFoundResponse (buffer : List ℕ) (fields : List HeaderSpan) (spans : ResponseSpans) (head : ResponseHead) : Type 0 where
  pub reads : ReadsResponse buffer head (drop spans.len buffer)
  pub len : spans.len ≡ length (print_response head)
  pub within : spans.len ≤ length buffer
  pub code : spans.code ≡ status_code head
  pub fields_are : map (header_bytes buffer) fields ≡ map name_and_value head.fields

-- What was taken of the head at the front of a text.
pub record IsResponsePartsOf (text : List ℕ) (parts : ResponseParts) : Type 0 where
  pub head : ResponseHead
  pub has : HasResponse text head (drop parts.start text)
  pub within : parts.start ≤ length text
  pub status : parts.status ≡ status_code head
  pub framing : framing_of head.fields ≡ parts.framing
  pub digest : IsDigestGiven head.fields parts.digest

-- what a text so far says of the head
abbrev pub IsResponseStep : List ℕ → ResponseStep → Type 0
IsResponseStep text (Whole parts) = IsResponsePartsOf text parts
IsResponseStep text Refused = IsRefusedResponse text
IsResponseStep text Open = IsOpenResponse text

-- A fault is known while the head is received, whether a digest is needed or not.
abbrev pub IsFaultOfHead : List ℕ → Bool → Bool → ReceiveFault → Type 0
IsFaultOfHead bytes ended failed (Fault fault) = MatchBool failed (fault ≡ Link) ((need : Bool) → IsFault need bytes ended fault)
IsFaultOfHead bytes ended failed OutOfMemory = ⊤

-- what the digest of a whole body says
abbrev pub IsDigestCompared : Bool → List ℕ → Option (List ℕ) → Result (List ℕ) ExchangeFault → Type 0
IsDigestCompared need body given (Ok passed) = (passed ≡ body) × IsRightDigest need body given
IsDigestCompared need body given (Err NoDigest) = (given ≡ None) × IsTrue need
IsDigestCompared need body given (Err (Digest got other)) = (given ≡ Some other) × (got ≡ sha256 body) × (got ≢ other)
IsDigestCompared need body given (Err fault) = ⊥

-- what the bytes received come to, of a session that failed or did not
abbrev pub ReceivedOutcome : Bool → List ℕ → Bool → Bool → Result (List ℕ) ExchangeFault → Type 0
ReceivedOutcome need bytes ended failed answer = MatchBool failed (answer ≡ Err Link) (BytesOutcome need bytes ended answer)

-- a session was received to some end
abbrev pub IsReceived : Bool → Option (List Session) → Option (List Session) → Result (List ℕ) ExchangeFault → Type 0
IsReceived need before after answer =
    (bytes : List ℕ) × (ended : Bool) × (failed : Bool) × Receives bytes ended failed before after
    × ReadsOnly (IsUndecided need) bytes ended failed × ReceivedOutcome need bytes ended failed answer

-- some of a session was received
abbrev pub IsPartReceived : Bool → Option (List Session) → Option (List Session) → Type 0
IsPartReceived need before after =
    (bytes : List ℕ) × (ended : Bool) × (failed : Bool) × Receives bytes ended failed before after × ReadsOnly (IsUndecided need) bytes ended failed

-- a front of a text was sent, and then came a fault
pub record SendsFront (text : List ℕ) (before after : Option (List Session)) : Type 0 where
  pub sent : List ℕ
  pub unsent : List ℕ
  pub front : sent ++ unsent ≡ text
  pub turns : Turns (λ session. with_failure (with_sent sent session)) before after
