-- What a keeper is handed in a run: the store of the lists after each round that installed one.
use Rattle.std.specs.Prelude.{◌≡◌, ◌⊎◌, ℕ, ◌<◌, Bool, false, if◌then◌else◌, List, [], ◌∷◌, ◌++◌, map, All, Option, Some, Result, Ok, Err}
use Rattle.std.specs.List.{list_any, fold}
use Rattle.update_client.specs.Held.{Held}
use Rattle.update_client.specs.Step.{is_installed}
use Rattle.client_store.specs.Reading.{store_reading}
use Rattle.client_store.specs.Store.{store_text}
use Rattle.sb_outside.specs.Outside.{IfTold, with_entry}
use Rattle.sb_outside.specs.Keeping.{IsTorn}
use Rattle.timed_sessions.specs.Told.{with_more}
use Rattle.sb_round.specs.Round.{Round, lists_after_round, taken_from}
use Rattle.sb_round.specs.declared.rounds.RoundFault.{RoundFault}
use Rattle.sb_round.specs.declared.rounds.Taken.{Taken}

-- whether a list was installed
abbrev pub has_installed : Result (List Taken) RoundFault → Bool
has_installed (Ok taken) = list_any (λ (one : Taken). is_installed one.result) taken
has_installed (Err fault) = false

-- the lists that are saved after a round which came to these lists: all of them, or none
abbrev pub saved_after : Result (List Taken) RoundFault → List Held → List (List Held)
saved_after taken lists = if has_installed taken then lists ∷ [] else []

abbrev pub saved_in : List Held → Round → List (List Held)
saved_in lists round = saved_after (taken_from lists round.answer) (lists_after_round lists round)

-- the lists that are saved in rounds, each where the rounds before it led
abbrev pub saved_lists : List Held → List Round → List (List Held)
saved_lists lists [] = []
saved_lists lists (round ∷ rounds) = saved_in lists round ++ saved_lists (lists_after_round lists round) rounds

-- The store of lists is a string of bytes, and reads as these lists.
pub record ReadsAgain (lists : List Held) : Type 0 where
  pub bytes : All (λ byte. byte < 256) (store_text lists)
  pub reads : store_reading (store_text lists) ≡ Ok lists

-- what a keeper keeps once these texts were handed in: the last of them, and what it kept before where there are none
abbrev pub kept_then : Option (Option (List ℕ)) → List (List ℕ) → Option (Option (List ℕ))
kept_then known texts = fold (λ _ text. Some (Some text)) known texts

-- What a keeper tells: the texts that it was handed, and what it keeps.
pub record Keeping : Type 0 where
  pub handed : Option (List (List ℕ))
  pub kept : Option (Option (List ℕ))

abbrev pub keeping : Option (List (List ℕ)) → Option (Option (List ℕ)) → Keeping
keeping handed kept = record { handed = handed; kept = kept }

-- It was handed the stores of these lists, each of which reads as its lists, and keeps the last of them.
pub record HasSaved (saved : List (List Held)) (before after : Keeping) : Type 0 where
  pub handed : IfTold after.handed (with_more before.handed (map store_text saved))
  pub keeps : IfTold after.kept (kept_then before.kept (map store_text saved))
  pub reads : All ReadsAgain saved

-- It failed when it was handed the store of lists, which reads as these.
pub record FailsToSave (lists : List Held) (before after : Keeping) : Type 0 where
  pub handed : IfTold after.handed (with_entry before.handed (store_text lists))
  pub torn : IsTorn before.kept (store_text lists) after.kept
  pub reads : ReadsAgain lists

-- all of them, or all but the last
abbrev pub MayLackLast : List (List Held) → List (List Held) → Type 0
MayLackLast all some = (some ≡ all) ⊎ ((last : List Held) × (some ++ last ∷ [] ≡ all))

-- Nothing is saved at first.
abbrev pub BeginsSaving : Type 0
BeginsSaving = (keeper : Keeping) → HasSaved [] keeper keeper

-- What is saved and then saved is saved in this order.
abbrev pub GoesOnWithSaves : Type 0
GoesOnWithSaves = (before between after : Keeping) (first next : List (List Held))
    → HasSaved first before between → HasSaved next between after → HasSaved (first ++ next) before after
