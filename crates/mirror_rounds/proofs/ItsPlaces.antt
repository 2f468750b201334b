-- The places of a mirror have the names of its lists, and are as few as its rounds.
use Rattle.std.proofs.Common.{◌≡◌, ◌<◌, ◌+◌, ◌-◌, ℕ, List, [], ◌∷◌, ◌++◌, Bool, Option, Some, None, true, false, length, refl, sym, ap, ◌∙◌, subst, arith}
use Rattle.std.specs.Prelude.{All, nat_lt, slice_get, if◌then◌else◌, Result, Ok, Err, IfOk, OnOk, OnErr}
use Rattle.std.proofs.lemmas.List.{length-append}
use Rattle.std.proofs.lemmas.List.Elements.{All-drop}
use Rattle.std.proofs.lemmas.Option.{get_or_from_slice_get, slice_get_within}
use Rattle.mirror_places.specs.Places.{last_place, lists_at_place, names_of_lists, newest_lists, newest_place, AreAtPlace, Places, StandsForPlaces}
use Rattle.mirror_rounds.specs.Rounds.{HasItsPlaces, HoldsPlace, IsNextPlace}
use Rattle.mirror_rounds.specs.declared.rounds.MirrorRoundTold.{MirrorRoundTold}
use Rattle.sb_model.specs.declared.memory.OutOfMemory.{OutOfMemory}
use Rattle.sb_model.specs.declared.names.ListName.{ListName}
use Rattle.http_edge.specs.declared.messages.Target.{Target}
use Rattle.sb_round.specs.Round.{round_state, updates_of, MakesRound}
use Rattle.sb_round.specs.declared.rounds.RoundEnd.{RoundEnd}
use Rattle.timed_sessions.specs.Told.{Outside}
use Rattle.update_client.specs.Held.{Held}
use Rattle.update_client.specs.Step.{after_updates}
use Rattle.update_client.specs.declared.options.FetchOptions.{FetchOptions}
use Rattle.update_messages.specs.Messages.{UpdatedList}
use Rattle.update_run.specs.declared.stop.RunStop.{RunStop}
use Rattle.wait_rules.specs.declared.waits.WaitState.{WaitState}

at_index : {X : Type 0} (P : X → Type 0) (xs : List X) (i : ℕ) (x : X) → All P xs → slice_get xs i ≡ Some x → P x
at_index P xs i x all is = subst P (get_or_from_slice_get xs i x x is) (all i x (slice_get_within xs i x is))

there : {X : Type 0} (gone : Bool) (found : Option X) (x : X) → (if gone then None else found) ≡ Some x → found ≡ Some x
there true found x e = cc
there false found x e = e

-- the lists at a kept place have the names of all
named_at : (places : Places) (all : List (List Held)) (stands : StandsForPlaces places all) (place : ℕ) (lists : List Held)
    → lists_at_place places place ≡ Some lists → names_of_lists lists ≡ stands.names
named_at places all stands place lists is =
    let kept : All (AreAtPlace stands.names) places.kept =
    subst (All (AreAtPlace stands.names)) (sym stands.kept) (All-drop (AreAtPlace stands.names) places.gone all stands.held) in
    let at : AreAtPlace stands.names lists =
    at_index (AreAtPlace stands.names) places.kept (place - places.gone) lists kept (there (nat_lt place places.gone) (slice_get places.kept (place - places.gone)) lists is) in
    at.named

slice_last : {X : Type 0} (xs : List X) (x : X) → slice_get (xs ++ x ∷ []) (length xs) ≡ Some x
slice_last [] x = refl
slice_last (first ∷ xs) x = slice_last xs x

-- so have those that are pushed behind others
named_last : (names : List ListName) (all : List (List Held)) (lists : List Held) → All (AreAtPlace names) (all ++ lists ∷ []) → names_of_lists lists ≡ names
named_last names all lists held =
    let at : AreAtPlace names lists = at_index (AreAtPlace names) (all ++ lists ∷ []) (length all) lists held (slice_last all lists) in at.named

pub newest_named : (lists lists' : List Held) (places : Places) (over : ℕ) → HasItsPlaces lists places over → names_of_lists lists' ≡ names_of_lists lists
    → (newest : List Held) → newest_lists places ≡ Some newest → names_of_lists newest ≡ names_of_lists lists'
newest_named lists lists' places over its same newest is = named_at places its.all its.stands (newest_place places) newest is ∙ its.named ∙ sym same

pub room_for_more : (lists : List Held) (places : Places) (over : ℕ) → HasItsPlaces lists places over → over < 4294967296 → newest_place places < last_place
room_for_more lists places over its few = omega (its.stands.count, its.stands.some, its.few, few, arith)

pub with_its_names : (lists lists' : List Held) (places : Places) (over : ℕ) → HasItsPlaces lists places over → names_of_lists lists' ≡ names_of_lists lists
    → HasItsPlaces lists' places over
with_its_names lists lists' places over its same = record { all = its.all; stands = its.stands; few = its.few; named = its.named ∙ sym same }

pub one_more_over : (lists : List Held) (places : Places) (over : ℕ) → HasItsPlaces lists places over → HasItsPlaces lists places (over + 1)
one_more_over lists places over its = record { all = its.all; stands = its.stands; few = omega (its.few, arith); named = its.named }

pub first_place : (lists : List Held) (places : Places) → StandsForPlaces places (lists ∷ []) → HasItsPlaces lists places 0
first_place lists places stands = record { all = lists ∷ []; stands = stands; few = omega arith; named = sym (named_last stands.names [] lists stands.held) }

pub held_its_places : (lists lists' : List Held) (installed : Bool) (place : Option (List Held)) (before after : Places) (over : ℕ)
    → HasItsPlaces lists before over → names_of_lists lists' ≡ names_of_lists lists → IsNextPlace installed lists' place → HoldsPlace place before after
    → HasItsPlaces lists' after (over + 1)
held_its_places lists lists' installed None before after over its same is holds =
    subst (λ (m : Places). HasItsPlaces lists' m (over + 1)) (sym holds) (one_more_over lists' before over (with_its_names lists lists' before over its same))
held_its_places lists lists' true (Some held) before after over its same is holds =
    let held_is : held ≡ lists' = cc in
    let stands : StandsForPlaces after (its.all ++ lists' ∷ []) = subst (λ (ls : List Held). StandsForPlaces after (its.all ++ ls ∷ [])) held_is (holds.1 its.all its.stands) in
    record {
      all = its.all ++ lists' ∷ [];
      stands = stands;
      few = omega (length-append its.all (lists' ∷ []), its.few, arith);
      named = sym (named_last stands.names its.all lists' stands.held);
    }
held_its_places lists lists' false (Some held) before after over its same is holds = cc

-- ---- after an answer, and after it was told

pub named_after : ((lists : List Held) (updates : List UpdatedList) → names_of_lists (after_updates lists updates) ≡ names_of_lists lists)
    → (result : Result RoundEnd OutOfMemory) (lists lists' : List Held) (waits waits' : WaitState) (options : FetchOptions) (target : Target) (need : Bool) (before after : Outside)
    → IfOk result (λ end. MakesRound (round_state lists waits) (round_state lists' waits') options target need before after end)
    → OnErr result (lists' ≡ lists) → names_of_lists lists' ≡ names_of_lists lists
named_after keeps (Ok end) lists lists' waits waits' options target need before after made kept =
    ap names_of_lists made.lists_after ∙ keeps lists (updates_of made.round.answer)
named_after keeps (Err refused) lists lists' waits waits' options target need before after made kept = ap names_of_lists kept

pub its_places_after : (result : Result MirrorRoundTold RunStop) (lists lists' : List Held) (installed : Bool) (before after : Places) (over : ℕ)
    → HasItsPlaces lists before over → names_of_lists lists' ≡ names_of_lists lists
    → OnOk result ((place : Option (List Held)) × IsNextPlace installed lists' place × HoldsPlace place before after)
    → OnErr result (after ≡ before) → HasItsPlaces lists' after (over + 1)
its_places_after (Ok told) lists lists' installed before after over its same (place, place_is, holds) unheld =
    held_its_places lists lists' installed place before after over its same place_is holds
its_places_after (Err why) lists lists' installed before after over its same held unheld =
    subst (λ (m : Places). HasItsPlaces lists' m (over + 1)) (sym unheld) (one_more_over lists' before over (with_its_names lists lists' before over its same))
