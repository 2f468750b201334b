-- The steps on the way to a response: a stop without one, and a response on its way.
use Rattle.std.specs.Prelude.{◌≡◌, ◌≢◌, ℕ, List, [], Option, Result, Err}
use Rattle.sb_outside.specs.Outside.{appended}
use Rattle.sb_outside.specs.Writing.{HasFront}
use Rattle.http_edge.specs.Responses.{response_text}
use Rattle.http_edge.specs.declared.faults.RequestFault.{RequestFault}
use Rattle.http_edge.specs.declared.faults.RequestFault.TheVariants as fault
use Rattle.http_edge.specs.declared.messages.HttpRequest.{HttpRequest}
use Rattle.http_edge.specs.declared.messages.Status.{Status}
use Rattle.http_serving.specs.declared.ends.ConnectionEnd.{ConnectionEnd}
use Rattle.http_serving.specs.declared.ends.ConnectionEnd.TheVariants as end
use Rattle.http_serving.specs.declared.responses.Answer.{Answer}
use Rattle.http_serving.specs.declared.responses.Answer.TheVariants.{Made, Written, Shared}

-- How a connection ends that has no response, after what was received.
abbrev pub IsStopAfter : Result HttpRequest RequestFault → ConnectionEnd → Type 0
IsStopAfter received end.ReadFault = received ≡ Err fault.ReadFault
IsStopAfter received end.OutOfMemory = received ≢ Err fault.ReadFault
IsStopAfter received how = ⊥

-- an answer as it is sent: its status, its whole text, and the cause that is told of it
abbrev pub answer_status : Answer → Status
answer_status (Made response) = response.status
answer_status (Written written) = written.status
answer_status (Shared shared) = shared.status

abbrev pub answer_text : Answer → List ℕ
answer_text (Made response) = response_text response.status response.fields response.body
answer_text (Written written) = written.text
answer_text (Shared shared) = shared.text

abbrev pub answer_cause : Answer → List ℕ
answer_cause (Made response) = response.cause
answer_cause (Written written) = []
answer_cause (Shared shared) = []

-- what was written of the text of a response, by how the connection ended: nothing of it where memory was refused
abbrev pub IsSent : Status → (text cause : List ℕ) → ConnectionEnd → (before after : Option (List ℕ)) → Type 0
IsSent status text cause (end.Answered told why) before after = (told ≡ status) × (why ≡ cause) × (after ≡ appended before text)
IsSent status text cause end.WriteFault before after = HasFront before after text
IsSent status text cause end.OutOfMemory before after = after ≡ before
IsSent status text cause end.ReadFault before after = ⊥
