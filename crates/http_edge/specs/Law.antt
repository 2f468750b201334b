-- What is received comes to one thing.
use Rattle.std.specs.Prelude.{◌≡◌, ℕ, ◌≤◌, List, ◌++◌, length, Bool, Result, Ok}
use Rattle.sb_outside.specs.declared.links.Session.{Session}
use Rattle.http_edge.specs.Responses.{response_text}
use Rattle.http_edge.specs.Outcomes.{BytesOutcome, SessionOutcome}
use Rattle.http_edge.specs.declared.faults.ExchangeFault.{ExchangeFault}
use Rattle.http_edge.specs.declared.messages.ResponseFields.{ResponseFields}
use Rattle.http_edge.specs.declared.messages.Status.TheVariants.{Success}

-- Where received bytes pass with a body, they come to nothing else. Which of two refusals is told need not be one.
abbrev pub HasOneBody : Bool → List ℕ → Bool → Type 0
HasOneBody need bytes ended =
    (body : List ℕ) (answer : Result (List ℕ) ExchangeFault)
    → BytesOutcome need bytes ended (Ok body) → BytesOutcome need bytes ended answer → answer ≡ Ok body

-- The same of a session.
abbrev pub SessionHasOneBody : Bool → Session → Type 0
SessionHasOneBody need session =
    (body : List ℕ) (answer : Result (List ℕ) ExchangeFault)
    → SessionOutcome need session (Ok body) → SessionOutcome need session answer → answer ≡ Ok body

-- What begins with the response of the status 200 of a body of at most 201,326,592 bytes, as a server writes it, passes with
-- that body, whatever follows it, and whether the session ended there or not.
abbrev pub PassesAsWritten : List ℕ → Type 0
PassesAsWritten body =
    length body ≤ 201326592
    → (fields : ResponseFields) (rest : List ℕ) (need ended : Bool) → BytesOutcome need (response_text Success fields body ++ rest) ended (Ok body)
