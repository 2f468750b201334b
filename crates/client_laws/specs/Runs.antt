-- The laws of runs, in the subject's own words.
use Rattle.std.specs.Prelude.{◌≡◌, ◌≢◌, ℕ, Bool, false, List, [], map, All, Option, Some, IsSome}
use Rattle.std.specs.List.Sorted.{IsStrictlySortedBy}
use Rattle.sb_model.specs.History.{History, IsWellFormed}
use Rattle.sb_model.specs.Names.{name_cmp}
use Rattle.sb_model.specs.Naming.{Naming}
use Rattle.sb_model.specs.declared.names.ListName.{ListName}
use Rattle.update_client.specs.Held.{Held}
use Rattle.update_client.specs.Replica.{AreReplicas}
use Rattle.sb_round.specs.Round.{Round, taken_from, lists_after_round}
use Rattle.sb_round.specs.Rounds.{round_updates}
use Rattle.sb_round.specs.Run.{lists_after}
use Rattle.update_run.specs.Opening.{first_lists}
use Rattle.update_run.specs.Run.{Seen, RunEnding, EndsRun, IsRun}
use Rattle.update_run.specs.Saved.{has_installed, saved_lists}
use Rattle.update_run.specs.declared.plan.Plan.{Plan}
use Rattle.client_laws.specs.Kept.{AreSameLists, KeepsStoreOf}
use Rattle.client_laws.specs.Met.{AreHonestRounds}
use Rattle.client_laws.specs.Replicas.{AreReplicasOf, IsKeptSafely}
use Rattle.client_laws.specs.Rows.{IsHeadline, RunSeen, AreInRow, HoldsInRow}

-- Whatever the server's changes, and whichever of its responses came, in whatever order: the headline holds of every run, wherever it stopped.
abbrev pub HoldsOfRuns : Type 0
HoldsOfRuns = (plan : Plan) (ending : RunEnding) (before after : Seen)
    → EndsRun plan ending before after → IsHeadline plan ending before after

-- What is kept safely begins the next run with replicas, whatever names its words have.
abbrev pub StoresBeginRuns : Type 0
StoresBeginRuns = (history : History) (token_at : Naming) (kept : Option (List ℕ)) (names : List ListName)
    → IsKeptSafely history token_at kept → AreReplicas history token_at (first_lists names kept)

-- The headline holds of runs in a row, where what is kept before the first is kept safely.
abbrev pub HoldsOfRows : Type 0
HoldsOfRows = (history : History) (token_at : Naming) (kept : Option (List ℕ)) (runs : List RunSeen)
    → AreInRow (Some kept) runs → IsKeptSafely history token_at kept → HoldsInRow history token_at runs

-- After a run in which anything was installed, the kept store reads as lists with the tokens and sets that are printed.
abbrev pub KeptIsPrinted : Type 0
KeptIsPrinted = (plan : Plan) (refused : Bool) (before after : Seen) (run : IsRun plan refused before after)
    → IsSome after.keeper.kept
    → saved_lists (first_lists plan.names run.kept) run.rounds ≢ []
    → KeepsStoreOf (lists_after (first_lists plan.names run.kept) (map round_updates run.rounds)) after

-- A round that installed no list leaves every token and every set, where each name stands once: of two lists of one name only the first is told of.
abbrev pub LeavesListsAlone : Type 0
LeavesListsAlone = (lists : List Held) (round : Round)
    → IsStrictlySortedBy name_cmp (map (λ (held : Held). held.name) lists)
    → has_installed (taken_from lists round.answer) ≡ false → AreSameLists (lists_after_round lists round) lists

-- From what is kept safely, through honest rounds: each set of lists that they save has the words' names, and its lists are replicas.
abbrev pub SavesReplicas : Type 0
SavesReplicas = (history : History) (token_at : Naming) (names : List ListName) (kept : Option (List ℕ)) (rounds : List Round)
    → IsWellFormed history → IsKeptSafely history token_at kept → AreHonestRounds history token_at (first_lists names kept) rounds
    → All (AreReplicasOf history token_at names) (saved_lists (first_lists names kept) rounds)
