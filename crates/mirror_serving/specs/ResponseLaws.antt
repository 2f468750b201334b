-- What is right of a mirror's responses is right alone.
use Rattle.std.specs.Prelude.{◌≡◌, ℕ, List, [], Result}
use Rattle.http_edge.specs.declared.faults.RequestFault.{RequestFault}
use Rattle.http_edge.specs.declared.messages.HttpRequest.{HttpRequest}
use Rattle.http_edge.specs.declared.messages.ResponseFields.{ResponseFields}
use Rattle.http_edge.specs.declared.messages.Status.{Status}
use Rattle.http_serving.specs.Law as serving
use Rattle.http_serving.specs.Routes.{AsksAt}
use Rattle.http_serving.specs.Serving.{IsAnswerAfter}
use Rattle.hash_messages.specs.Messages.{AskedHashes}
use Rattle.mirror_places.specs.Places.{Places}
use Rattle.mirror_serving.specs.HeardFind.{IsHeardFind}
use Rattle.mirror_serving.specs.Response.{body_fault_of_kind, mirror_kind_at, mirror_routes, IsBodyOfKind, IsBodyRefused, IsFateTold, IsMirrorResponseTo}
use Rattle.mirror_serving.specs.declared.fate.FindFate.{FindFate}

-- No two statuses, no two bodies and no two causes are right for one request, with one fate of the find.
abbrev pub HasOneMirrorResponse : Places → ℕ → FindFate → HttpRequest → Type 0
HasOneMirrorResponse mirror wait fate request = serving.HasOneAnswer (IsMirrorResponseTo mirror wait fate) request

-- Bytes that begin with a whole request are answered as that request is, and never as a refusal.
abbrev pub IsMirrorResponseAsRead : Places → ℕ → FindFate → List ℕ → HttpRequest → Type 0
IsMirrorResponseAsRead mirror wait fate bytes request = serving.IsAnsweredAsRead (IsMirrorResponseTo mirror wait fate) bytes request

-- A request for a route whose body is no message is answered 400 without a body, whatever the fate of a find, and its cause is its first
-- fault.
abbrev pub RefusesWhateverFate : Places → ℕ → FindFate → HttpRequest → Type 0
RefusesWhateverFate mirror wait fate request =
    (place : ℕ) → AsksAt mirror_routes request place → ¬ IsBodyOfKind (mirror_kind_at place) request.body
    → (status : Status) (fields : ResponseFields) (body cause : List ℕ) → IsMirrorResponseTo mirror wait fate request status fields body cause
    → IsBodyRefused (body_fault_of_kind (mirror_kind_at place) request.body) status body cause

-- ---- finds that are put off

-- A find that was heard is answered by its fate, and no cause is told of it.
abbrev pub IsAnsweredByFate : Places → ℕ → FindFate → Result HttpRequest RequestFault → Type 0
IsAnsweredByFate mirror wait fate received =
    (message : AskedHashes) → IsHeardFind received message
    → (status : Status) (fields : ResponseFields) (body cause : List ℕ) → IsAnswerAfter (IsMirrorResponseTo mirror wait fate) received status fields body cause
    → IsFateTold fate status body × (cause ≡ [])

-- Whatever else was received is answered in the same way, whatever the fate of a find.
abbrev pub IsAnsweredWithoutFate : Places → ℕ → Result HttpRequest RequestFault → Type 0
IsAnsweredWithoutFate mirror wait received =
    ((message : AskedHashes) → ¬ IsHeardFind received message) → (fate other : FindFate)
    → (status : Status) (fields : ResponseFields) (body cause : List ℕ) → IsAnswerAfter (IsMirrorResponseTo mirror wait fate) received status fields body cause
    → IsAnswerAfter (IsMirrorResponseTo mirror wait other) received status fields body cause
