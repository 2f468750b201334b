-- What is written of a message, as a JSON value: it reads as this message, and does not nest deeply.
use Rattle.std.specs.Prelude.{ℕ, ◌≤◌}
use Rattle.serde_json.specs.Data.{depth}
use Rattle.update_messages.specs.declared.response.FetchResponse.{FetchResponse}
use Rattle.update_messages.specs.Messages.{Request}
use Rattle.update_messages.specs.Ranges.{IsRequestInRange, IsResponseInRange}
use Rattle.update_messages.specs.Reading.{ReadsRequest, ReadsResponse}
use Rattle.update_messages.specs.Writing.{request_written, response_written}

-- Each message that keeps to the ranges of messages reads from what is written of it.
abbrev pub WrittenRequestsRead : Type 0
WrittenRequestsRead = (message : Request) → IsRequestInRange message → ReadsRequest (request_written message) message

abbrev pub WrittenResponsesRead : Type 0
WrittenResponsesRead = (message : FetchResponse) → IsResponseInRange message → ReadsResponse (response_written message) message

-- What is written of any message nests as deep as this at most.
abbrev pub RequestsNestWithin : ℕ → Type 0
RequestsNestWithin most = (message : Request) → depth (request_written message) ≤ most

abbrev pub ResponsesNestWithin : ℕ → Type 0
ResponsesNestWithin most = (message : FetchResponse) → depth (response_written message) ≤ most
