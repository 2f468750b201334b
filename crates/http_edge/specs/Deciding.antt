-- Whether the bytes of a request decide it, before their end is known.
use Rattle.std.specs.Prelude.{◌≡◌, ◌≢◌, ℕ, ◌+◌, ◌<◌, ◌≤◌, List, length, drop, false, Option, Some, Result, Err, ⊤}
use Rattle.httparse.specs.Grammar.{RequestHead}
use Rattle.http_edge.specs.Heads.{IsRefusedRequest, IsOpenRequest}
use Rattle.http_edge.specs.Requests.{HasRequest, RequestOutcome}
use Rattle.http_edge.specs.Places.{IsAt}
use Rattle.http_edge.specs.declared.deciding.HeadStep.{HeadStep}
use Rattle.http_edge.specs.declared.deciding.HeadStep.TheVariants.{Whole, Refused, Open}
use Rattle.http_edge.specs.declared.deciding.Stage.{Stage}
use Rattle.http_edge.specs.declared.deciding.Stage.TheVariants.{Head, Body, Decided}
use Rattle.http_edge.specs.declared.faults.RequestFault.{RequestFault}
use Rattle.http_edge.specs.declared.faults.RequestFault.TheVariants.{ReadFault, OutOfMemory}
use Rattle.http_edge.specs.declared.messages.HttpRequest.{HttpRequest}

-- The bytes come to an answer without an end of input: a request, or a fault that they show.
pub record IsDecided (bytes : List ℕ) : Type 0 where
  pub outcome : Result HttpRequest RequestFault
  pub read : outcome ≢ Err ReadFault
  pub memory : outcome ≢ Err OutOfMemory
  pub is : RequestOutcome bytes false outcome

-- A whole head is there, and so many bytes of its body are missing.
pub record LacksSome (bytes : List ℕ) (missing : ℕ) : Type 0 where
  pub head : RequestHead
  pub rest : List ℕ
  pub body_length : ℕ
  pub has : HasRequest bytes head rest (Some body_length)
  pub allowed : body_length ≤ 1048576
  pub some : 0 < missing
  pub counted : length rest + missing ≡ body_length

-- What is known after some bytes.
abbrev pub IsStage : List ℕ → Stage → Type 0
IsStage bytes (Head place) = (length bytes < 16384) × IsAt place bytes
IsStage bytes (Body missing) = LacksSome bytes missing
IsStage bytes Decided = IsDecided bytes

-- What is kept of a request that is watched: how far it has come, the bytes of its head, and the room that was taken for them.
pub record Watching : Type 0 where
  pub stage : Stage
  pub head : List ℕ
  pub room : ℕ

-- While the head is open, all its bytes are kept, in room that was taken before.
abbrev pub KeepsHead : Watching → List ℕ → Stage → Type 0
KeepsHead watch bytes (Head place) = (watch.head ≡ bytes) × (16384 ≤ watch.room)
KeepsHead watch bytes (Body missing) = ⊤
KeepsHead watch bytes Decided = ⊤

-- What is kept is right of these bytes: it stands for them.
pub record StandsFor (watch : Watching) (bytes : List ℕ) : Type 0 where
  pub stage : IsStage bytes watch.stage
  pub kept : KeepsHead watch bytes watch.stage

-- A head that can be taken stands at the front of a text, and the body begins here.
pub record HasHead (text : List ℕ) (body_length : Option ℕ) (start : ℕ) : Type 0 where
  pub head : RequestHead
  pub has : HasRequest text head (drop start text) body_length
  pub within : start ≤ length text

-- what a text so far says of the head
abbrev pub IsHeadStep : List ℕ → HeadStep → Type 0
IsHeadStep text (Whole body_length start) = HasHead text body_length start
IsHeadStep text Refused = IsRefusedRequest text
IsHeadStep text Open = IsOpenRequest text
