-- What `compact` prints: a journal 2 that tells the newest full hashes of each list anew.
use Rattle.std.specs.Prelude.{◌≡◌, ℕ, List, Option}
use Rattle.list_versions.specs.Journal.{Kept}
use Rattle.sb_journal.specs.Compacted.{compacted}
use Rattle.journal_run.specs.Fresh.{DrawsEpoch}
use Rattle.journal_run.specs.Runs.{IsJournalRun}
use Rattle.journal_run.specs.Taken.{IsHistoryTold, history_reply}
use Rattle.journal_run.specs.Written.{Reply}

-- What `compact` says of a journal. A text that it prints is read as the history that it tells.
pub record IsCompactReply (epoch : ℕ) (kept : Kept) (reply : Reply) : Type 0 where
  pub is : reply ≡ history_reply (compacted epoch kept.versions)
  pub told : reply.status ≡ 0 → IsHistoryTold (compacted epoch kept.versions)

-- A run of `compact`: an epoch was drawn, and the journal was read.
pub record IsCompactRun (status : ℕ) (given given' : Option (List ℕ)) (left left' : Option (List (List ℕ)))
    (held held' : Option (List ℕ)) : Type 0 where
  pub epoch : ℕ
  pub drawn : DrawsEpoch epoch given given'
  pub run : IsJournalRun (IsCompactReply epoch) status left left' held held'
