-- What honest rounds hand to a keeper, and what it keeps.
use Rattle.std.proofs.Common.{◌≡◌, ◌⊎◌, ℕ, suc, ◌<◌, List, [], ◌∷◌, ◌++◌, Bool, true, false, length, take, drop, map, refl, sym, subst, ◌∙◌, inl, inr, arith, length-drop, take-append-drop}
use Rattle.std.specs.Prelude.{All, Option, Some, None, IfSome, IsErr, Ok, if◌then◌else◌}
use Rattle.std.proofs.lemmas.List.{take_all, map-append}
use Rattle.std.proofs.lemmas.List.Elements.{All-nil, All-cons, All-append, All-pop, All-head, All-tail, All-take}
use Rattle.sb_model.specs.History.{History}
use Rattle.sb_model.specs.Naming.{Naming}
use Rattle.sb_model.specs.declared.names.ListName.{ListName}
use Rattle.sb_outside.specs.Keeping.{IsTorn}
use Rattle.sb_outside.specs.Outside.{IfTold}
use Rattle.update_client.specs.Held.{Held}
use Rattle.update_client.specs.Replica.{AreReplicas}
use Rattle.client_store.specs.Reading.{store_reading}
use Rattle.client_store.specs.Store.{store_text, AreKept, IsStoreOf, IsCutStore}
use Rattle.timed_sessions.specs.Told.{with_more}
use Rattle.sb_round.specs.Round.{Round, lists_after_round, taken_from}
use Rattle.sb_round.specs.Rounds.{round_updates}
use Rattle.sb_round.specs.Run.{lists_after}
use Rattle.update_run.specs.Run.{Seen}
use Rattle.update_run.specs.Saved.{Keeping, HasSaved, FailsToSave, MayLackLast, ReadsAgain, has_installed, kept_then, saved_in, saved_lists}
use Rattle.update_run.specs.declared.plan.Plan.{Plan}
use Rattle.client_laws.specs.Replicas.{HaveNames, AreReplicasOf, HandsReplicas, IsKeptSafely, KeepsSafely}
use Rattle.client_laws.proofs.Logs.{told_both}
use Rattle.client_laws.proofs.Names.{bodies_keep_names}

-- ---- what is known of texts

-- where the end of a store is lacking, the rest is no store
abbrev pub CutsAreNotRead : Type 0
CutsAreNotRead = (text : List ℕ) → All (λ byte. byte < 256) text → IsCutStore text → IsErr (store_reading text)

-- a text that is read is a store of its lists, which may be stored
abbrev pub ReadTextsAreStores : Type 0
ReadTextsAreStores = (text : List ℕ) (lists : List Held) → All (λ byte. byte < 256) text → store_reading text ≡ Ok lists → AreKept lists × IsStoreOf lists text

-- A strict front of a store that reads again is no store.
front_not_read : CutsAreNotRead → ReadTextsAreStores → (lists : List Held) (n : ℕ) → ReadsAgain lists → n < length (store_text lists) → IsErr (store_reading (take n (store_text lists)))
front_not_read cuts stores lists n again short =
    let store = stores (store_text lists) lists again.bytes again.reads in
    cuts (take n (store_text lists)) (All-take (λ (byte : ℕ). byte < 256) n (store_text lists) again.bytes) (record {
      lists = lists;
      kept = store.0;
      lacking = drop n (store_text lists);
      some = omega (arith, length-drop n (store_text lists), short);
      is = subst (λ text. IsStoreOf lists text) (sym (take-append-drop n (store_text lists))) store.1;
    })

module _ (history : History) (token_at : Naming) where
  -- ---- rounds

  -- Through each number of rounds the lists are replicas.
  abbrev pub StayReplicas : List Held → List Round → Type 0
  StayReplicas lists rounds = (count : ℕ) → AreReplicas history token_at (lists_after lists (take count (map round_updates rounds)))

  module _ (names : List ListName) where
    saved_here : (lists : List Held) (installed : Bool) → AreReplicasOf history token_at names lists → All (AreReplicasOf history token_at names) (if installed then lists ∷ [] else [])
    saved_here lists true replicas = All-cons (AreReplicasOf history token_at names) lists [] replicas (All-nil (AreReplicasOf history token_at names))
    saved_here lists false replicas = All-nil (AreReplicasOf history token_at names)

    pub all_saved : (lists : List Held) (rounds : List Round) → HaveNames names lists → StayReplicas lists rounds → All (AreReplicasOf history token_at names) (saved_lists lists rounds)
    all_saved lists [] named stay = All-nil (AreReplicasOf history token_at names)
    all_saved lists (round ∷ rounds) named stay =
        let named_after : HaveNames names (lists_after_round lists round) = bodies_keep_names lists (round_updates round ∷ []) ∙ named in
        All-append (AreReplicasOf history token_at names) (saved_in lists round) (saved_lists (lists_after_round lists round) rounds)
        (saved_here (lists_after_round lists round) (has_installed (taken_from lists round.answer)) (record { named = named_after; replicas = stay 1 }))
        (all_saved (lists_after_round lists round) rounds named_after (λ count. stay (suc count)))

    pub last_are : (lists : List Held) (rounds : List Round) → HaveNames names lists → StayReplicas lists rounds → AreReplicasOf history token_at names (lists_after lists (map round_updates rounds))
    last_are lists rounds named stay = record {
      named = bodies_keep_names lists (map round_updates rounds) ∙ named;
      replicas = subst (λ bodies. AreReplicas history token_at (lists_after lists bodies)) (take_all (length (map round_updates rounds)) (map round_updates rounds) (omega arith)) (stay (length (map round_updates rounds)));
    }

    pub some_of : (all some : List (List Held)) → MayLackLast all some → All (AreReplicasOf history token_at names) all → All (AreReplicasOf history token_at names) some
    some_of all some (inl same) each = subst (All (AreReplicasOf history token_at names)) (sym same) each
    some_of all some (inr (last, e)) each = (All-pop (AreReplicasOf history token_at names) all some (Some last) (sym e) each).0

  -- ---- what is kept

  -- what was kept before, or is kept safely
  abbrev IsKeptOr : Option (Option (List ℕ)) → Option (List ℕ) → Type 0
  IsKeptOr before kept = (before ≡ Some kept) ⊎ IsKeptSafely history token_at kept

  store_is_safe : (lists : List Held) (kept : Option (List ℕ)) → ReadsAgain lists → AreReplicas history token_at lists → Some (store_text lists) ≡ kept → IsKeptSafely history token_at kept
  store_is_safe lists kept again replicas is = subst (IsKeptSafely history token_at) is (inr (lists, again.reads, replicas))

  module _ (names : List ListName) where
    kept_after : (before : Option (Option (List ℕ))) (kept : Option (List ℕ)) (saved : List (List Held)) → All (AreReplicasOf history token_at names) saved → All ReadsAgain saved
        → kept_then before (map store_text saved) ≡ Some kept → IsKeptOr before kept
    kept_after before kept [] replicas again is = inl is
    kept_after before kept (lists ∷ saved) replicas again is =
        elim (kept_after (Some (Some (store_text lists))) kept saved (All-tail (AreReplicasOf history token_at names) lists saved replicas) (All-tail ReadsAgain lists saved again) is) [
          | inl here ↦ inr (store_is_safe lists kept (All-head ReadsAgain lists saved again) (All-head (AreReplicasOf history token_at names) lists saved replicas).replicas (cc))
          | inr safe ↦ inr safe
        ]

    keeps_saved : (before after : Option (Option (List ℕ))) (saved : List (List Held)) → All (AreReplicasOf history token_at names) saved → All ReadsAgain saved
        → IfTold after (kept_then before (map store_text saved)) → IfSome after (IsKeptOr before)
    keeps_saved before None saved replicas again told = tt
    keeps_saved before (Some kept) saved replicas again told = kept_after before kept saved replicas again told

    keeps_torn : CutsAreNotRead → ReadTextsAreStores → (before between after : Option (Option (List ℕ))) (last : List Held) → ReadsAgain last → AreReplicas history token_at last
        → IfSome between (IsKeptOr before) → IsTorn between (store_text last) after → IfSome after (IsKeptOr before)
    keeps_torn cuts stores before between None last again replicas kept torn = tt
    keeps_torn cuts stores before between (Some text) last again replicas kept (inl same) = subst (λ known. IfSome known (IsKeptOr before)) same kept
    keeps_torn cuts stores before between (Some text) last again replicas kept (inr (inl whole)) = inr (store_is_safe last text again replicas (cc))
    keeps_torn cuts stores before between (Some text) last again replicas kept (inr (inr (n, short, front))) =
        let is : Some (take n (store_text last)) ≡ text = cc in
        inr (subst (IsKeptSafely history token_at) is (inl (front_not_read cuts stores last n again short)))

  -- ---- what a run hands in and keeps

  pub hands_saved : (plan : Plan) (before after : Seen) (saved : List (List Held)) → All (AreReplicasOf history token_at plan.names) saved → HasSaved saved before.keeper after.keeper
      → HandsReplicas history token_at plan before after × KeepsSafely history token_at before after
  hands_saved plan before after saved replicas has = (
    record { saved = saved; handed = has.handed; replicas = replicas; read = has.reads },
    keeps_saved plan.names before.keeper.kept after.keeper.kept saved replicas has.reads has.keeps,
  )

  pub hands_torn : CutsAreNotRead → ReadTextsAreStores → (plan : Plan) (before after : Seen) (between : Keeping) (earlier : List (List Held)) (last : List Held)
      → All (AreReplicasOf history token_at plan.names) (earlier ++ last ∷ []) → HasSaved earlier before.keeper between → FailsToSave last between after.keeper
      → HandsReplicas history token_at plan before after × KeepsSafely history token_at before after
  hands_torn cuts stores plan before after between earlier last replicas has fails =
      let parts = All-pop (AreReplicasOf history token_at plan.names) (earlier ++ last ∷ []) earlier (Some last) refl replicas in
      let both : IfTold after.keeper.handed (with_more before.keeper.handed (map store_text earlier ++ store_text last ∷ [])) =
      told_both before.keeper.handed between.handed after.keeper.handed (map store_text earlier) (store_text last ∷ []) has.handed fails.handed in (
        record {
          saved = earlier ++ last ∷ [];
          handed = subst (λ texts. IfTold after.keeper.handed (with_more before.keeper.handed texts)) (sym (map-append store_text earlier (last ∷ []))) both;
          replicas = replicas;
          read = All-append ReadsAgain earlier (last ∷ []) has.reads (All-cons ReadsAgain last [] fails.reads (All-nil ReadsAgain));
        },
        keeps_torn plan.names cuts stores before.keeper.kept between.kept after.keeper.kept last fails.reads parts.1.replicas
            (keeps_saved plan.names before.keeper.kept between.kept earlier parts.0 has.reads has.keeps) fails.torn,
      )
