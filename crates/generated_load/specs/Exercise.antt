-- An exercise: the journal of a seed is loaded, and its list is asked for twice, by one who has nothing and by one who has
-- the version in the middle. Entries go uncompressed, and no limit is asked.
use Rattle.std.specs.Prelude.{ℕ, ◌+◌, ◌/◌, ◌≤◌, true, false, List, [], ◌∷◌, ◌++◌, length, codes, decimal, sum_by}
use Rattle.hex.specs.Hex.{encode_lower}
use Rattle.sha2.specs.Sha256.{sha256}
use Rattle.sb_model.specs.History.{History, prefixes_at, version_count}
use Rattle.sb_model.specs.Prefixes.{concatenation}
use Rattle.list_versions.specs.Limits.{WithinLimits, most_changes}
use Rattle.list_versions.specs.Lines.{newline}
use Rattle.update_messages.specs.Answer.{update_for}
use Rattle.update_messages.specs.Messages.{AskedList, Request, UpdatedList}
use Rattle.update_messages.specs.declared.sets.Additions.{Additions}
use Rattle.update_messages.specs.declared.sets.Additions.TheVariants as added
use Rattle.update_messages.specs.declared.sets.Removals.{Removals}
use Rattle.update_messages.specs.declared.sets.Removals.TheVariants as removed
use Rattle.delta_server.specs.Tokens.{server_naming}
use Rattle.list_versions.specs.declared.fault.JournalFault.{JournalFault}
use Rattle.list_versions.specs.declared.fault.JournalFault.TheVariants as journal
use Rattle.generated_load.specs.declared.fault.ExerciseFault.{ExerciseFault}
use Rattle.generated_load.specs.declared.fault.ExerciseFault.TheVariants as exercise
use Rattle.generated_load.specs.Generated.{generated, generated_list}

-- why a journal in memory is not loaded: no source is there to fail
abbrev pub exercise_fault_of : JournalFault → ExerciseFault
exercise_fault_of journal.ReadFault = exercise.OutOfMemory
exercise_fault_of journal.OutOfMemory = exercise.OutOfMemory
exercise_fault_of fault = exercise.PastLimits

-- what is asked, with a state
abbrev pub asked_with : List ℕ → AskedList
asked_with state = record { name = generated_list; state = state; max_update = 0; max_database = 0; raw = true; rice = false }

abbrev pub request_with : List ℕ → Request
request_with state = record { client = record { id = []; version = [] }; items = asked_with state ∷ [] }

-- the update that the server of a history makes for one with this state
abbrev pub update_with : History → List ℕ → UpdatedList
update_with history state = update_for history (server_naming history) (asked_with state)

-- how many entries an update has
abbrev pub added_count : Additions → ℕ
added_count (added.Raw size bytes) = length bytes / size
added_count (added.Rice rice) = rice.count + 1

abbrev pub removed_count : Removals → ℕ
removed_count (removed.Raw places) = length places
removed_count (removed.Rice rice) = rice.count + 1

abbrev pub additions_in : UpdatedList → ℕ
additions_in update = sum_by added_count update.additions

abbrev pub removals_in : UpdatedList → ℕ
removals_in update = sum_by removed_count update.removals

-- `exercise N SEED: `
unfoldable pub load_text : ℕ → ℕ → List ℕ
load_text count seed = codes "exercise " ++ decimal count ++ codes " " ++ decimal seed ++ codes ": "

-- a number, and what there are so many of
abbrev pub count_text : ℕ → List ℕ → List ℕ
count_text count what = decimal count ++ what

-- `E entries, R removals, A additions, `
unfoldable pub counts_text : ℕ → ℕ → ℕ → List ℕ
counts_text entries removals additions =
    count_text entries (codes " entries, ") ++ count_text removals (codes " removals, ") ++ count_text additions (codes " additions, ")

-- `checksum HEX`, and the end of the line
unfoldable pub checksum_text : List ℕ → List ℕ
checksum_text checksum = codes "checksum " ++ encode_lower checksum ++ newline ∷ []

-- the newest set of the list
abbrev pub newest_set : History → List (List ℕ)
newest_set history = prefixes_at history generated_list (version_count history)

-- `exercise N SEED: E entries, R removals, A additions, checksum HEX`. The entries and the checksum are of the newest set,
-- and the removals and additions lead there from the version in the middle, that of half as many changes.
abbrev pub line_of_history : History → ℕ → ℕ → List ℕ
line_of_history history count seed =
    let update = update_with history (server_naming history generated_list (count / 2)) in
    load_text count seed
    ++ counts_text (length (newest_set history)) (removals_in update) (additions_in update)
    ++ checksum_text (sha256 (concatenation (newest_set history)))

unfoldable pub exercise_line : ℕ → ℕ → List ℕ
exercise_line count seed = line_of_history (generated count seed) count seed

-- A journal can tell the history: there are no more changes than a journal may have, and each version is within the limits.
pub record HasRoom (count seed : ℕ) : Type 0 where
  pub few : count ≤ most_changes
  pub within : WithinLimits (generated count seed)
