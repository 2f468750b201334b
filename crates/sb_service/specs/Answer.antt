-- A run of `answer`: what the journal and the input gave, what that comes to, what was written of it, and the status. Of a
-- run that was refused memory nothing is said here.
use Rattle.std.specs.Prelude.{◌≡◌, ◌≢◌, ◌⊎◌, ◌^◌, ◌-◌, ◌<◌, ◌≤◌, ℕ, Bool, List, length, Option, Some, Result, Ok, Err}
use Rattle.sb_json.specs.Values.{value_of}
use Rattle.sb_outside.specs.Outside.{Rose, appended}
use Rattle.sb_outside.specs.Reading.{ReadsToEnd, GivesAtMost, GivesMoreThan}
use Rattle.sb_outside.specs.Writing.{HasFront}
use Rattle.sb_outside.specs.declared.reading.InputFault.{InputFault}
use Rattle.sb_outside.specs.declared.reading.InputFault.TheVariants as input
use Rattle.sb_model.specs.History.{History}
use Rattle.list_versions.specs.Journal.{Kept}
use Rattle.list_versions.specs.Loaded.{Gives, JournalOutcome}
use Rattle.list_versions.specs.declared.fault.JournalFault.{JournalFault}
use Rattle.list_versions.specs.declared.fault.JournalFault.TheVariants as journal
use Rattle.update_messages.specs.Reading.{ReadsRequest, IsTextOf}
use Rattle.update_messages.specs.Faults.{fault_of_request, fault_of_text}
use Rattle.update_messages.specs.Messages.{Request}
use Rattle.hash_messages.specs.Faults.{fault_of_find_request}
use Rattle.hash_messages.specs.Messages.{AskedHashes}
use Rattle.hash_messages.specs.Reading.{ReadsFindRequest}
use Rattle.lookup_messages.specs.Faults.{fault_of_lookup}
use Rattle.lookup_messages.specs.Messages.{AskedUrls}
use Rattle.lookup_messages.specs.Reading.{ReadsLookup}
use Rattle.sb_json.specs.declared.faults.MessageFault.{MessageFault}
use Rattle.sb_service.specs.declared.command.MessageKind.{MessageKind}
use Rattle.sb_service.specs.declared.command.MessageKind.TheVariants.{Fetch, Find, Lookup}
use Rattle.delta_server.specs.declared.answering.Settings.{Settings}
use Rattle.sb_service.specs.Connection.{IsUpdatesText, IsMatchesText, IsLookupsText}
use Rattle.sb_service.specs.Printed.{Reply, journal_refusal, reply_to_fetch, reply_to_find, reply_to_lookup}

-- each exit status that a run of the server can have
abbrev pub IsServerStatus : ℕ → Type 0
IsServerStatus status =
    (status ≡ 0) ⊎ (status ≡ 1) ⊎ (status ≡ 2) ⊎ (status ≡ 3) ⊎ (status ≡ 5) ⊎ (status ≡ 6) ⊎ (status ≡ 7) ⊎ (status ≡ 8)
    ⊎ (status ≡ 9)

-- ---- what is written

-- Nothing was written in a run with this status.
pub record IsSilent (wanted status : ℕ) (held held' : Option (List ℕ)) : Type 0 where
  pub ends : status ≡ wanted
  pub nothing : held' ≡ held

-- A text was written, and the run has the status that goes with it.
pub record IsWhole (reply : Reply) (status : ℕ) (held held' : Option (List ℕ)) : Type 0 where
  pub ends : status ≡ reply.status
  pub whole : held' ≡ appended held reply.text

-- A front of a text that lacks something was written: the output failed.
pub record IsCutShort (reply : Reply) (status : ℕ) (held held' : Option (List ℕ)) : Type 0 where
  pub ends : status ≡ 3
  pub front : HasFront held held' reply.text

abbrev pub IsWritten : Reply → ℕ → (held held' : Option (List ℕ)) → Type 0
IsWritten reply status held held' = IsWhole reply status held held' ⊎ IsCutShort reply status held held'

-- The usage text was written whole, without a fault, or a front of it that lacks something, and the output's count of
-- faults rose.
abbrev pub TellsUsage : List ℕ → (held held' : Option (List ℕ)) → (faults faults' : ℕ) → Type 0
TellsUsage usage held held' faults faults' =
    ((held' ≡ appended held usage) × (faults' ≡ faults)) ⊎ (Rose faults faults' × HasFront held held' usage)

-- ---- the input

-- The body of a request has at most so many bytes.
abbrev pub most_body : ℕ
most_body = 1048576

-- what an input gave: a whole body, or some bytes of one
abbrev pub BodyOutcome : Result (List ℕ) InputFault → (left left' : Option (List (List ℕ))) → Type 0
BodyOutcome (Ok body) left left' = ReadsToEnd body left left' × (length body ≤ most_body)
BodyOutcome (Err input.Failed) left left' = GivesAtMost most_body left left'
BodyOutcome (Err input.PastLimit) left left' = GivesMoreThan most_body left left'
BodyOutcome (Err input.OutOfMemory) left left' = ⊥

-- A body is read as a request for updates, or has a first fault.
abbrev pub IsFetchOf : List ℕ → Result Request MessageFault → Type 0
IsFetchOf body (Ok request) = IsTextOf ReadsRequest body request
IsFetchOf body (Err fault) = fault_of_text fault_of_request (value_of body) ≡ Some fault

-- A body is read as a request for full hashes, or has a first fault.
abbrev pub IsFindOf : List ℕ → Result AskedHashes MessageFault → Type 0
IsFindOf body (Ok request) = IsTextOf ReadsFindRequest body request
IsFindOf body (Err fault) = fault_of_text fault_of_find_request (value_of body) ≡ Some fault

-- A body is read as a request to look URLs up, or has a first fault.
abbrev pub IsLookupOf : List ℕ → Result AskedUrls MessageFault → Type 0
IsLookupOf body (Ok request) = IsTextOf ReadsLookup body request
IsLookupOf body (Err fault) = fault_of_text fault_of_lookup (value_of body) ≡ Some fault

-- The answer to the body of a message is the one that a connection gives.
abbrev pub IsMessageAnswerOf : History → Settings → MessageKind → List ℕ → List ℕ → Type 0
IsMessageAnswerOf versions times Fetch body text = IsUpdatesText versions times body text
IsMessageAnswerOf versions times Find body text = IsMatchesText versions times body text
IsMessageAnswerOf versions times Lookup body text = IsLookupsText versions times body text

-- the reply to a body that asks for this, by a server that has this history and these times
abbrev pub IsReplyTo : History → Settings → MessageKind → List ℕ → Reply → Type 0
IsReplyTo versions times Fetch body reply =
    (reading : Result Request MessageFault) × IsFetchOf body reading × (reply ≡ reply_to_fetch versions times reading)
IsReplyTo versions times Find body reply =
    (reading : Result AskedHashes MessageFault) × IsFindOf body reading × (reply ≡ reply_to_find versions times reading)
IsReplyTo versions times Lookup body reply =
    (reading : Result AskedUrls MessageFault) × IsLookupOf body reading × (reply ≡ reply_to_lookup versions times reading)

-- A body was replied to.
pub record IsReplied (versions : History) (times : Settings) (asked : MessageKind) (body : List ℕ) (status : ℕ)
    (held held' : Option (List ℕ)) : Type 0 where
  pub reply : Reply
  pub right : IsReplyTo versions times asked body reply
  pub written : IsWritten reply status held held'

-- what the input led to: a reply, 2 where it failed, 6 where it is too long
abbrev pub AfterBody : History → Settings → MessageKind → Result (List ℕ) InputFault → ℕ
    → (held held' : Option (List ℕ)) → Type 0
AfterBody versions times asked (Ok body) status held held' = IsReplied versions times asked body status held held'
AfterBody versions times asked (Err input.Failed) status held held' = IsSilent 2 status held held'
AfterBody versions times asked (Err input.PastLimit) status held held' = IsSilent 6 status held held'
AfterBody versions times asked (Err input.OutOfMemory) status held held' = ⊥

-- The input was read, and decided.
pub record IsBodyRun (versions : History) (times : Settings) (asked : MessageKind) (status : ℕ) (left left' : Option (List (List ℕ)))
    (held held' : Option (List ℕ)) : Type 0 where
  pub given : Result (List ℕ) InputFault
  pub outcome : BodyOutcome given left left'
  pub after : AfterBody versions times asked given status held held'

-- ---- the journal

-- what a journal that is no history led to: 2 where it failed, and else its cause was told
abbrev pub AfterJournalFault : JournalFault → ℕ → (held held' : Option (List ℕ)) → Type 0
AfterJournalFault journal.ReadFault status held held' = IsSilent 2 status held held'
AfterJournalFault journal.OutOfMemory status held held' = ⊥
AfterJournalFault fault status held held' = IsWritten (journal_refusal fault) status held held'

-- The journal is no history, and nothing was read of the input.
pub record IsFaultRun (fault : JournalFault) (status : ℕ) (left left' : Option (List (List ℕ)))
    (held held' : Option (List ℕ)) : Type 0 where
  pub unread : left' ≡ left
  pub after : AfterJournalFault fault status held held'

-- what the journal led to
abbrev pub AfterJournalOfAnswer : Settings → MessageKind → Result Kept JournalFault → ℕ → (left left' : Option (List (List ℕ)))
    → (held held' : Option (List ℕ)) → Type 0
AfterJournalOfAnswer times asked (Ok kept) status left left' held held' = IsBodyRun kept.versions times asked status left left' held held'
AfterJournalOfAnswer times asked (Err fault) status left left' held held' = IsFaultRun fault status left left' held held'

-- A run of `answer`, for a body that asks for this, of a server with these times: the journal gave these bytes, with its end or without,
-- and what they come to decided what became of the input and of the output.
pub record IsAnswerRun (times : Settings) (asked : MessageKind) (status : ℕ) (journal journal' left left' : Option (List (List ℕ)))
    (held held' : Option (List ℕ)) : Type 0 where
  pub bytes : List ℕ
  pub ended : Bool
  pub gives : Gives bytes ended journal journal'
  pub loaded : Result Kept JournalFault
  pub outcome : JournalOutcome bytes ended loaded
  pub after : AfterJournalOfAnswer times asked loaded status left left' held held'

-- ---- the counts of faults

-- With status 2 the count of the journal or that of the input rose, with 3 that of the output, and with 9 that of the door.
-- With others no count did, but for that of the output with 1, which the usage text may raise.
pub record AreCountedWithDoor (status : ℕ) (journal journal' input input' out out' door door' : ℕ) : Type 0 where
  pub read : status ≡ 2 → (Rose journal journal' × (input' ≡ input)) ⊎ (Rose input input' × (journal' ≡ journal))
  pub read_kept : status ≢ 2 → (journal' ≡ journal) × (input' ≡ input)
  pub written : status ≡ 3 → Rose out out'
  pub written_kept : status ≢ 3 → status ≢ 1 → out' ≡ out
  pub door_failed : status ≡ 9 → Rose door door'
  pub door_kept : status ≢ 9 → door' ≡ door

-- A count could rise, and did not.
pub record HasNoFault (faults faults' : ℕ) : Type 0 where
  pub kept : faults' ≡ faults
  pub low : faults < 2 ^ 64 - 1
