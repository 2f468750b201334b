-- What a run hands to its keeper, keeps and prints where it met an honest server.
use Rattle.std.specs.Prelude.{◌≡◌, ◌⊎◌, ℕ, List, ◌++◌, length, map, All, Option, Some, None, IfSome, Ok, IsErr}
use Rattle.std.specs.List.{flat_map}
use Rattle.sb_model.specs.History.{History}
use Rattle.sb_model.specs.Naming.{Naming}
use Rattle.sb_model.specs.declared.names.ListName.{ListName}
use Rattle.sb_outside.specs.Outside.{IfTold, appended}
use Rattle.update_client.specs.Held.{Held, in_order}
use Rattle.update_client.specs.Replica.{AreReplicas}
use Rattle.client_store.specs.Reading.{store_reading}
use Rattle.client_store.specs.Store.{store_text}
use Rattle.timed_sessions.specs.Told.{with_more}
use Rattle.sb_round.specs.Round.{Round}
use Rattle.sb_round.specs.Rounds.{round_updates}
use Rattle.sb_round.specs.Run.{lists_after}
use Rattle.update_run.specs.Opening.{first_lists}
use Rattle.update_run.specs.Printed.{told_rounds, list_line}
use Rattle.update_run.specs.Run.{Seen, HasMade}
use Rattle.update_run.specs.Saved.{ReadsAgain}
use Rattle.update_run.specs.declared.plan.Plan.{Plan}

-- The lists have exactly these names, in their order.
abbrev pub HaveNames : List ListName → List Held → Type 0
HaveNames names lists = map (λ (held : Held). held.name) lists ≡ in_order names

-- Lists of these names, each of which is the server's at the version that its token names, or is empty without a token.
pub record AreReplicasOf (history : History) (token_at : Naming) (names : List ListName) (lists : List Held) : Type 0 where
  pub named : HaveNames names lists
  pub replicas : AreReplicas history token_at lists

-- ---- what is handed

-- The keeper was handed the stores of lists of the plan's names, and nothing else. These lists are replicas, and each store reads as
-- its lists.
pub record HandsReplicas (history : History) (token_at : Naming) (plan : Plan) (before after : Seen) : Type 0 where
  pub saved : List (List Held)
  pub handed : IfTold after.keeper.handed (with_more before.keeper.handed (map store_text saved))
  pub replicas : All (AreReplicasOf history token_at plan.names) saved
  pub read : All ReadsAgain saved

-- ---- what is kept

-- What is kept has no reading, or reads as replicas, or nothing is kept.
abbrev pub IsKeptSafely : History → Naming → Option (List ℕ) → Type 0
IsKeptSafely history token_at None = Unit {0}
IsKeptSafely history token_at (Some text) =
    IsErr (store_reading text) ⊎ ((lists : List Held) × (store_reading text ≡ Ok lists) × AreReplicas history token_at lists)

-- The keeper keeps what it kept before, or it is kept safely.
abbrev pub KeepsSafely : History → Naming → (before after : Seen) → Type 0
KeepsSafely history token_at before after =
    IfSome after.keeper.kept (λ kept. (before.keeper.kept ≡ Some kept) ⊎ IsKeptSafely history token_at kept)

-- ---- what is printed

-- The whole text of the run was written, which is fixed by what was kept and by the rounds that the link, the clock and the dice tell, as
-- many as the plan asks for: the rounds' lines, and then a line for each list that they led to. These lists have the plan's names, and are
-- replicas.
pub record TellsReplicas (history : History) (token_at : Naming) (plan : Plan) (before after : Seen) : Type 0 where
  pub kept : Option (List ℕ)
  pub known : before.keeper.kept ≡ Some kept
  pub rounds : List Round
  pub all : length rounds ≡ plan.rounds
  pub made : HasMade plan kept rounds before.outside after.outside
  pub lists : List Held
  pub are : lists ≡ lists_after (first_lists plan.names kept) (map round_updates rounds)
  pub replicas : AreReplicasOf history token_at plan.names lists
  pub text : after.output ≡ appended before.output (told_rounds kept (first_lists plan.names kept) rounds ++ flat_map list_line lists)
