-- The outcome of a session with a server: a function of the bytes received, of whether the session ended, and of whether
-- it failed. How the bytes were cut does not count.
use Rattle.std.specs.Prelude.{◌≡◌, ◌≢◌, ℕ, ◌<◌, ◌≤◌, ◌⊎◌, List, [], ◌∷◌, ◌++◌, length, take, codes, Bool, true, false, if◌then◌else◌, Option, Some, None, Result, Ok, Err, IsTrue, MatchBool}
use Rattle.std.specs.Str.{str_eq_ignore_ascii_case}
use Rattle.sha2.specs.Sha256.{sha256}
use Rattle.sb_outside.specs.declared.links.Session.{Session}
use Rattle.httparse.specs.Grammar.{Field, ResponseHead, status_code}
use Rattle.http_edge.specs.Fields.{length_said, encodings_said}
use Rattle.http_edge.specs.Heads.{HasGoodFields, BeginsResponse, IsRefusedResponse, IsOpenResponse}
use Rattle.http_edge.specs.Chunks.{IsWholeBody, HasBadChunk, PassesLimit, IsOpenBody}
use Rattle.http_edge.specs.Digests.{IsDigestGiven}
use Rattle.http_edge.specs.declared.fields.BodyLength.{BodyLength}
use Rattle.http_edge.specs.declared.fields.BodyLength.TheVariants.{Unsaid, Malformed, Said}
use Rattle.http_edge.specs.declared.fields.Framing.{Framing}
use Rattle.http_edge.specs.declared.fields.Framing.TheVariants.{ByLength, Chunked, Unframed}
use Rattle.http_edge.specs.declared.faults.ExchangeFault.{ExchangeFault}
use Rattle.http_edge.specs.declared.faults.ExchangeFault.TheVariants.{Link, Head, HeadLimit, Status, NoLength, BodyLimit, Cut, NoDigest, Digest, Chunk}

-- how a body is framed by a length alone, and by an encoding alone
abbrev pub framing_by_length : BodyLength → Framing
framing_by_length (Said n) = ByLength n
framing_by_length Unsaid = Unframed
framing_by_length Malformed = Unframed

abbrev pub framing_by_encoding : List ℕ → BodyLength → Framing
framing_by_encoding encoding Unsaid = if str_eq_ignore_ascii_case encoding (codes "chunked") then Chunked else Unframed
framing_by_encoding encoding (Said n) = Unframed
framing_by_encoding encoding Malformed = Unframed

-- A body has a length where one is said and no transfer encoding. It is chunked where exactly one encoding is said, it is
-- `chunked` but for case, and no length is said.
abbrev pub framing_in : List (List ℕ) → BodyLength → Framing
framing_in [] said = framing_by_length said
framing_in (encoding ∷ []) said = framing_by_encoding encoding said
framing_in (first ∷ next ∷ encodings) said = Unframed

abbrev pub framing_of : List Field → Framing
framing_of fields = framing_in (encodings_said fields) (length_said fields)

-- A head that can be taken stands at the front, and these bytes follow it.
pub record HasResponse (bytes : List ℕ) (head : ResponseHead) (rest : List ℕ) : Type 0 where
  pub begins : BeginsResponse bytes head rest
  pub good : HasGoodFields head.fields

-- The same, with the status 200.
pub record HasSuccess (bytes : List ℕ) (head : ResponseHead) (rest : List ℕ) : Type 0 where
  pub response : HasResponse bytes head rest
  pub success : status_code head ≡ 200

-- What follows a head has its whole body, by its framing.
abbrev pub HasBody : Framing → List ℕ → List ℕ → Type 0
HasBody (ByLength n) bytes body = (n ≤ 201326592) × (n ≤ length bytes) × (body ≡ take n bytes)
HasBody Chunked bytes body = IsWholeBody bytes body
HasBody Unframed bytes body = ⊥

-- The body is too long, and so long.
abbrev pub HasLongBody : Framing → List ℕ → ℕ → Type 0
HasLongBody (ByLength length) bytes n = (n ≡ length) × (201326592 < length)
HasLongBody Chunked bytes n = PassesLimit bytes n
HasLongBody Unframed bytes n = ⊥

-- The body is not whole.
abbrev pub LacksRest : Framing → List ℕ → Type 0
LacksRest (ByLength n) bytes = (n ≤ 201326592) × (length bytes < n)
LacksRest Chunked bytes = IsOpenBody bytes
LacksRest Unframed bytes = ⊥

abbrev pub HasWrongChunk : Framing → List ℕ → ℕ → Type 0
HasWrongChunk (ByLength n) bytes chunk = ⊥
HasWrongChunk Chunked bytes chunk = HasBadChunk bytes chunk
HasWrongChunk Unframed bytes chunk = ⊥

-- A whole response with the status 200, its body, and the digest that its head gives.
pub record HasWhole (bytes body : List ℕ) (given : Option (List ℕ)) : Type 0 where
  pub head : ResponseHead
  pub rest : List ℕ
  pub success : HasSuccess bytes head rest
  pub has : HasBody (framing_of head.fields) rest body
  pub gives : IsDigestGiven head.fields given

-- The digest is right, where one is given, and one is given where it is needed.
abbrev pub IsRightDigest : Bool → List ℕ → Option (List ℕ) → Type 0
IsRightDigest need body (Some digest) = sha256 body ≡ digest
IsRightDigest need body None = need ≢ true

-- When the received bytes, and their end where it came, come to this fault.
abbrev pub IsFault : Bool → List ℕ → Bool → ExchangeFault → Type 0
IsFault need bytes ended Link = ⊥
IsFault need bytes ended Head = IsRefusedResponse bytes
IsFault need bytes ended HeadLimit = (16384 ≤ length bytes) × IsOpenResponse bytes
IsFault need bytes ended (Status status) =
    (head : ResponseHead) × (rest : List ℕ) × HasResponse bytes head rest × (status_code head ≡ status) × (status ≢ 200)
IsFault need bytes ended NoLength =
    (head : ResponseHead) × (rest : List ℕ) × HasSuccess bytes head rest × (framing_of head.fields ≡ Unframed)
IsFault need bytes ended (BodyLimit n) =
    (head : ResponseHead) × (rest : List ℕ) × HasSuccess bytes head rest × HasLongBody (framing_of head.fields) rest n
IsFault need bytes ended Cut =
    IsTrue ended × (((length bytes < 16384) × IsOpenResponse bytes)
    ⊎ ((head : ResponseHead) × (rest : List ℕ) × HasSuccess bytes head rest × LacksRest (framing_of head.fields) rest))
IsFault need bytes ended NoDigest = (body : List ℕ) × HasWhole bytes body None × IsTrue need
IsFault need bytes ended (Digest got given) =
    (body : List ℕ) × HasWhole bytes body (Some given) × (got ≡ sha256 body) × (got ≢ given)
IsFault need bytes ended (Chunk chunk) =
    (head : ResponseHead) × (rest : List ℕ) × HasSuccess bytes head rest × HasWrongChunk (framing_of head.fields) rest chunk

-- what received bytes come to: their body passes, or a fault
abbrev pub BytesOutcome : Bool → List ℕ → Bool → Result (List ℕ) ExchangeFault → Type 0
BytesOutcome need bytes ended (Ok body) =
    (given : Option (List ℕ)) × HasWhole bytes body given × IsRightDigest need body given
BytesOutcome need bytes ended (Err fault) = IsFault need bytes ended fault

-- The outcome of a session is `Link` where it failed, and else what its bytes come to.
abbrev pub SessionOutcome : Bool → Session → Result (List ℕ) ExchangeFault → Type 0
SessionOutcome need session outcome =
    MatchBool session.failed (outcome ≡ Err Link) (BytesOutcome need session.received session.ended outcome)

-- The bytes decide nothing yet: without an end they come to no answer.
abbrev pub IsUndecided : Bool → List ℕ → Type 0
IsUndecided need bytes = (answer : Result (List ℕ) ExchangeFault) → ¬ (BytesOutcome need bytes false answer)

-- Bytes were read no further than to what decides them. Those before the last read decide nothing, and one read gives at
-- most 65,536 bytes. Where the end was read, and where a read failed, all of them decide nothing.
pub record ReadsToDecision (need : Bool) (bytes : List ℕ) (ended failed : Bool) : Type 0 where
  pub before : List ℕ
  pub last : List ℕ
  pub parts : bytes ≡ before ++ last
  pub needed : IsUndecided need before
  pub short : length last ≤ 65536
  pub end : IsTrue ended → IsUndecided need bytes
  pub fault : IsTrue failed → IsUndecided need bytes

-- Nothing was read in a session past what decides its outcome.
abbrev pub ReadsNoFurther : Bool → Session → Type 0
ReadsNoFurther need session = ReadsToDecision need session.received session.ended session.failed
