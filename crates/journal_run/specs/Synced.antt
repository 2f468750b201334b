-- What `sync` prints: records after which a list has exactly the hashes of the URLs of an input.
use Rattle.std.specs.Prelude.{◌≡◌, ℕ, Bool, true, false, ◌&&◌, not, if◌then◌else◌, List, [], ◌∷◌, ◌++◌, Option, Some, None, codes}
use Rattle.sb_model.specs.Prefixes.{set_of}
use Rattle.list_versions.specs.Journal.{Kept, declared_size_of}
use Rattle.list_versions.specs.Lines.{newline}
use Rattle.sb_journal.specs.Changes.{sync_changes}
use Rattle.sb_journal.specs.Feed.{hashes_in}
use Rattle.sb_journal.specs.Refusals.{has_refused, refusals, refused_in}
use Rattle.sb_journal.specs.Texts.{records_text}
use Rattle.journal_run.specs.declared.command.SyncLine.{SyncLine}
use Rattle.journal_run.specs.Printed.{refused_with, unknown_list}
use Rattle.journal_run.specs.Taken.{AreTaken, records_reply}
use Rattle.journal_run.specs.Written.{Reply}

-- the records that lead from the newest hashes of a list to those of an input, in the form of the journal and, if that
-- names sizes, with the declared size
abbrev pub sync_text : SyncLine → ℕ → List ℕ → Kept → List ℕ
sync_text line size input kept =
    records_text kept.sized (sync_changes kept.versions line.list size (set_of (hashes_in input)))

-- whether there is none
abbrev pub is_none_of : List (List ℕ) → Bool
is_none_of [] = true
is_none_of (hash ∷ hashes) = false

-- an input that names no URL
abbrev pub empty_line : List ℕ
empty_line = codes "empty" ++ newline ∷ []

-- the records, or a line for each URL that is refused, unless these are skipped, or that the input names no URL, unless it
-- may be empty
abbrev pub feed_reply : SyncLine → List ℕ → Kept → ℕ → Reply
feed_reply line input kept size =
    if has_refused (refused_in input) && not line.skip then refused_with (refusals (refused_in input))
    else if is_none_of (hashes_in input) && not line.empty then refused_with empty_line
    else records_reply (sync_text line size input kept) kept

abbrev pub size_reply : SyncLine → List ℕ → Kept → Option ℕ → Reply
size_reply line input kept None = unknown_list
size_reply line input kept (Some size) = feed_reply line input kept size

abbrev pub sync_reply : SyncLine → List ℕ → Kept → Reply
sync_reply line input kept = size_reply line input kept (declared_size_of kept.versions line.list)

-- What `sync` says of an input after a journal. Records that it prints are taken as the changes that they say.
pub record IsSyncReply (line : SyncLine) (input : List ℕ) (kept : Kept) (reply : Reply) : Type 0 where
  pub is : reply ≡ sync_reply line input kept
  pub taken : reply.status ≡ 0 → (size : ℕ) → declared_size_of kept.versions line.list ≡ Some size
      → AreTaken (sync_changes kept.versions line.list size (set_of (hashes_in input))) kept
