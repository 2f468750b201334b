-- What is kept after a whole run is what is printed.
use Rattle.std.proofs.Common.{◌≡◌, ◌⊎◌, ℕ, List, [], ◌∷◌, ◌++◌, Bool, true, false, Option, Some, None, map, refl, sym, ap, subst, ◌∙◌, inl, inr, append_assoc}
use Rattle.std.specs.Prelude.{All, IsSome, if◌then◌else◌}
use Rattle.std.specs.List.Sorted.{IsStrictlySortedBy}
use Rattle.std.proofs.lemmas.List.Elements.{All-pop}
use Rattle.sb_model.specs.Names.{name_cmp}
use Rattle.sb_outside.specs.Outside.{IfTold}
use Rattle.update_client.specs.Held.{Held}
use Rattle.client_store.specs.Store.{store_text}
use Rattle.sb_round.specs.Round.{Round, lists_after_round, taken_from}
use Rattle.sb_round.specs.Rounds.{round_updates}
use Rattle.sb_round.specs.Run.{lists_after}
use Rattle.update_run.specs.Opening.{first_lists}
use Rattle.update_run.specs.Run.{Seen}
use Rattle.update_run.specs.Saved.{ReadsAgain, has_installed, kept_then, saved_lists}
use Rattle.client_laws.specs.Kept.{AreSameLists, KeepsStoreOf}
use Rattle.client_laws.specs.Runs.{LeavesListsAlone, KeptIsPrinted}
use Rattle.client_laws.proofs.NameOrder.{in_order_rises}
use Rattle.client_laws.proofs.Names.{NamesGo, name_of_held, bodies_keep_names, first_named}

-- ---- the lists that were saved last

-- The last lists that were saved have these tokens and sets.
record LastSaved (saved : List (List Held)) (lists : List Held) : Type 0 where
  earlier : List (List Held)
  last : List Held
  is : saved ≡ earlier ++ last ∷ []
  same : AreSameLists last lists

-- Nothing was saved and the lists are the first, or those that were saved last are the lists.
abbrev SavesLast : List Held → List Round → Type 0
SavesLast lists rounds =
    ((saved_lists lists rounds ≡ []) × AreSameLists (lists_after lists (map round_updates rounds)) lists)
    ⊎ LastSaved (saved_lists lists rounds) (lists_after lists (map round_updates rounds))

abbrev AreRising : List Held → Type 0
AreRising lists = IsStrictlySortedBy name_cmp (map name_of_held lists)

saved_before : (before saved : List (List Held)) (lists : List Held) → LastSaved saved lists → LastSaved (before ++ saved) lists
saved_before before saved lists later = record {
  earlier = before ++ later.earlier;
  last = later.last;
  is = ap (λ more. before ++ more) later.is ∙ sym (append_assoc before later.earlier (later.last ∷ []));
  same = later.same;
}

module _ (leaves : LeavesListsAlone) where
  saves_last : (lists : List Held) (rounds : List Round) → AreRising lists → SavesLast lists rounds
  saves_last lists [] rising = inl (refl, refl)
  saves_last lists (round ∷ rounds) rising =
      either (has_installed (taken_from lists round.answer)) refl
      (saves_last (lists_after_round lists round) rounds (subst (IsStrictlySortedBy name_cmp) (sym (bodies_keep_names lists (round_updates round ∷ []))) rising))
    where
      later : List Held
      later = lists_after_round lists round

      last : List Held
      last = lists_after later (map round_updates rounds)

      either : (installed : Bool) → has_installed (taken_from lists round.answer) ≡ installed → SavesLast later rounds
          → (((if installed then later ∷ [] else []) ++ saved_lists later rounds ≡ []) × AreSameLists last lists)
          ⊎ LastSaved ((if installed then later ∷ [] else []) ++ saved_lists later rounds) last
      either true is (inl (none, same)) = inr (record { earlier = []; last = later; is = ap (λ more. later ∷ more) none; same = sym same })
      either true is (inr more) = inr (saved_before (later ∷ []) (saved_lists later rounds) last more)
      either false is (inl (none, same)) = inl (none, same ∙ leaves lists round rising is)
      either false is (inr more) = inr more

-- ---- what is kept of them

last_is_kept : (known : Option (Option (List ℕ))) (earlier : List (List Held)) (last : List Held) → kept_then known (map store_text (earlier ++ last ∷ [])) ≡ Some (Some (store_text last))
last_is_kept known [] last = refl
last_is_kept known (lists ∷ earlier) last = last_is_kept (Some (Some (store_text lists))) earlier last

told_is : {A : Type 0} (known value : Option A) → IsSome known → IfTold known value → known ≡ value
told_is None value some told = absurd (cc)
told_is (Some item) value some told = sym told

keeps_last : (saved : List (List Held)) (lists : List Held) (before : Option (Option (List ℕ))) (after : Seen) → IsSome after.keeper.kept
    → IfTold after.keeper.kept (kept_then before (map store_text saved)) → All ReadsAgain saved → LastSaved saved lists → KeepsStoreOf lists after
keeps_last saved lists before after some keeps again last = record {
  text = store_text last.last;
  kept =
      told_is after.keeper.kept (kept_then before (map store_text saved)) some keeps
      ∙ ap (λ all. kept_then before (map store_text all)) last.is
      ∙ last_is_kept before last.earlier last.last;
  stored = last.last;
  reads = (All-pop ReadsAgain saved last.earlier (Some last.last) last.is again).1.reads;
  same = last.same;
}

pub kept_printed : LeavesListsAlone → NamesGo → KeptIsPrinted
kept_printed leaves names_go plan refused before after run some saves =
    either (saves_last leaves (first_lists plan.names run.kept) run.rounds (subst (IsStrictlySortedBy name_cmp) (sym (first_named names_go plan.names run.kept)) (in_order_rises plan.names)))
  where
    either : SavesLast (first_lists plan.names run.kept) run.rounds → KeepsStoreOf (lists_after (first_lists plan.names run.kept) (map round_updates run.rounds)) after
    either (inl (none, same)) = absurd (saves none)
    either (inr last) =
        keeps_last (saved_lists (first_lists plan.names run.kept) run.rounds) (lists_after (first_lists plan.names run.kept) (map round_updates run.rounds)) before.keeper.kept after some run.saved.keeps run.saved.reads last
