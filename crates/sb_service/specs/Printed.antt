-- What a run prints, and the status that goes with it.
use Rattle.std.specs.Prelude.{ℕ, List, [], ◌∷◌, ◌++◌, Result, Ok, Err, codes}
use Rattle.sb_json.specs.declared.faults.MessageFault.{MessageFault}
use Rattle.sb_json.specs.Printed.{message_cause_text as message_cause}
use Rattle.sb_model.specs.History.{History}
use Rattle.list_versions.specs.Lines.{newline}
use Rattle.list_versions.specs.declared.fault.JournalFault.{JournalFault}
use Rattle.list_versions.specs.Printed.{journal_cause_text as journal_cause}
use Rattle.update_messages.specs.Messages.{Request}
use Rattle.hash_messages.specs.Messages.{AskedHashes}
use Rattle.lookup_messages.specs.Messages.{AskedUrls}
use Rattle.delta_server.specs.declared.answering.Settings.{Settings}
use Rattle.sb_service.specs.Connection.{updates_text, matches_text, lookups_text}

-- why a journal is refused
abbrev pub journal_refusal_line : JournalFault → List ℕ
journal_refusal_line fault = codes "journal " ++ journal_cause fault ++ newline ∷ []

-- why a request is refused
abbrev pub request_line : List ℕ → List ℕ
request_line cause = codes "request " ++ cause ++ newline ∷ []

-- an answer, and a newline
abbrev pub answer_line : List ℕ → List ℕ
answer_line text = text ++ newline ∷ []

-- What is printed, and the status of the run where it was written whole.
pub record Reply : Type 0 where
  pub text : List ℕ
  pub status : ℕ

-- the reply to one whose journal is refused
abbrev pub journal_refusal : JournalFault → Reply
journal_refusal fault = record { text = journal_refusal_line fault; status = 7 }

-- the reply to one whose request is answered, and to one whose request is refused
abbrev pub reply_with : List ℕ → Reply
reply_with text = record { text = answer_line text; status = 0 }

abbrev pub reply_because : List ℕ → Reply
reply_because cause = record { text = request_line cause; status = 5 }

-- A body is read as a request for updates, for full hashes or to look URLs up, or has a first fault.
abbrev pub reply_to_fetch : History → Settings → Result Request MessageFault → Reply
reply_to_fetch versions times (Ok request) = reply_with (updates_text versions times request)
reply_to_fetch versions times (Err fault) = reply_because (message_cause fault)

abbrev pub reply_to_find : History → Settings → Result AskedHashes MessageFault → Reply
reply_to_find versions times (Ok request) = reply_with (matches_text versions times request)
reply_to_find versions times (Err fault) = reply_because (message_cause fault)

abbrev pub reply_to_lookup : History → Settings → Result AskedUrls MessageFault → Reply
reply_to_lookup versions times (Ok request) = reply_with (lookups_text versions times request)
reply_to_lookup versions times (Err fault) = reply_because (message_cause fault)
