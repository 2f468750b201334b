-- What the bytes of a request come to, whether its source has ended or not. A definition over all bytes received: how they
-- were cut does not count.
use Rattle.std.specs.Prelude.{◌≡◌, ℕ, ◌<◌, ◌≤◌, ◌⊎◌, List, [], ◌∷◌, ◌++◌, length, take, codes, ◌||◌, Bool, if◌then◌else◌, Option, Some, None, Result, Ok, Err, IsErrOf, IsTrue, MatchBool, ⊤}
use Rattle.std.specs.Str.{bytes_eq}
use Rattle.sb_outside.specs.Outside.{GivesFront}
use Rattle.sb_outside.specs.Reading.{ReadsToEnd}
use Rattle.httparse.specs.Grammar.{RequestHead}
use Rattle.http_edge.specs.Fields.{length_said, content_type_said, encodings_said}
use Rattle.http_edge.specs.Heads.{HasGoodFields, BeginsRequest, IsRefusedRequest, IsOpenRequest}
use Rattle.http_edge.specs.declared.fields.BodyLength.{BodyLength}
use Rattle.http_edge.specs.declared.fields.BodyLength.TheVariants.{Unsaid, Malformed, Said}
use Rattle.http_edge.specs.declared.faults.RequestFault.{RequestFault}
use Rattle.http_edge.specs.declared.faults.RequestFault.TheVariants.{ReadFault, Head, HeadLimit, NoLength, BodyLimit, Cut, OutOfMemory}
use Rattle.http_edge.specs.declared.messages.HttpRequest.{HttpRequest}

-- A source gave these bytes, and then answered its end or did not.
abbrev pub Gives : List ℕ → Bool → Option (List (List ℕ)) → Option (List (List ℕ)) → Type 0
Gives bytes ended before after = MatchBool ended (ReadsToEnd bytes before after) (GivesFront bytes before after)

-- whether a method goes without a body where no length is said (RFC 9110, sections 9.3.1, 9.3.2 and 9.3.7)
abbrev pub goes_without_body : List ℕ → Bool
goes_without_body method = bytes_eq method (codes "GET") || bytes_eq method (codes "HEAD") || bytes_eq method (codes "OPTIONS")

-- how many bytes the body has by the length that is said: none if a GET, a HEAD or an OPTIONS says none
abbrev pub length_by : List ℕ → BodyLength → Option ℕ
length_by method (Said n) = Some n
length_by method Unsaid = if goes_without_body method then Some 0 else None
length_by method Malformed = None

-- a body with a transfer encoding has no length
abbrev pub length_unless : List (List ℕ) → Option ℕ → Option ℕ
length_unless [] known = known
length_unless (encoding ∷ encodings) known = None

abbrev pub request_length : RequestHead → Option ℕ
request_length head = length_unless (encodings_said head.fields) (length_by head.method (length_said head.fields))

-- A head that can be taken stands at the front, its body has this length, and these bytes follow it.
pub record HasRequest (bytes : List ℕ) (head : RequestHead) (rest : List ℕ) (body_length : Option ℕ) : Type 0 where
  pub begins : BeginsRequest bytes head rest
  pub good : HasGoodFields head.fields
  pub length : request_length head ≡ body_length

-- The bytes have a whole request. What follows its body is not looked at.
pub record ReadsAsRequest (bytes : List ℕ) (request : HttpRequest) : Type 0 where
  pub head : RequestHead
  pub rest : List ℕ
  pub body_length : ℕ
  pub has : HasRequest bytes head rest (Some body_length)
  pub allowed : body_length ≤ 1048576
  pub whole : body_length ≤ length rest
  pub method : request.method ≡ head.method
  pub target : request.target ≡ head.target
  pub content_type : request.content_type ≡ content_type_said head.fields
  pub body : request.body ≡ take body_length rest

-- The body is not whole.
pub record LacksBody (bytes : List ℕ) : Type 0 where
  pub head : RequestHead
  pub rest : List ℕ
  pub body_length : ℕ
  pub has : HasRequest bytes head rest (Some body_length)
  pub allowed : body_length ≤ 1048576
  pub short : length rest < body_length

-- More bytes are needed: were the input to end after these, the request would be cut off.
abbrev pub NeedsMore : List ℕ → Type 0
NeedsMore bytes = ((length bytes < 16384) × IsOpenRequest bytes) ⊎ LacksBody bytes

-- When each refusal is right. Of bytes that end inside a target, or of so many bytes as a head may have that end there,
-- two are. A fault of reading and want of memory are not known by the bytes.
abbrev pub IsRefusal : List ℕ → Bool → RequestFault → Type 0
IsRefusal bytes ended ReadFault = ⊤
IsRefusal bytes ended Head = IsRefusedRequest bytes
IsRefusal bytes ended HeadLimit = (16384 ≤ length bytes) × IsOpenRequest bytes
IsRefusal bytes ended NoLength = (head : RequestHead) × (rest : List ℕ) × HasRequest bytes head rest None
IsRefusal bytes ended (BodyLimit n) = (head : RequestHead) × (rest : List ℕ) × HasRequest bytes head rest (Some n) × (1048576 < n)
IsRefusal bytes ended Cut = IsTrue ended × NeedsMore bytes
IsRefusal bytes ended OutOfMemory = ⊤

-- what the bytes come to
abbrev pub RequestOutcome : List ℕ → Bool → Result HttpRequest RequestFault → Type 0
RequestOutcome bytes ended (Ok request) = ReadsAsRequest bytes request
RequestOutcome bytes ended (Err fault) = IsRefusal bytes ended fault

-- Bytes were read no further than to what decides them. Those before the last read need more, and one read gives at most
-- 65,536 bytes. Where the end was read, and where a read failed, all of them need more.
pub record ReadsToRequest (bytes : List ℕ) (ended : Bool) (result : Result HttpRequest RequestFault) : Type 0 where
  pub before : List ℕ
  pub last : List ℕ
  pub parts : bytes ≡ before ++ last
  pub needed : NeedsMore before
  pub short : length last ≤ 65536
  pub end : IsTrue ended → NeedsMore bytes
  pub fault : IsErrOf result ReadFault → NeedsMore bytes
