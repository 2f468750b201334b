-- The rounds of the example bring what the mirrors answer, and it is installed.
use Rattle.std.proofs.Common.{◌≡◌, ℕ, ◌<◌, ◌^◌, List, [], ◌∷◌, ◌++◌, false, length, map, refl, ap, ◌∙◌, arith, Option, None, Ok}
use Rattle.std.specs.Prelude.{All, IsTrue, if◌then◌else◌, replicate, ◌||◌}
use Rattle.std.specs.List.{range_with_len}
use Rattle.std.specs.List.Sorted.{IsStrictlySortedBy}
use Rattle.std.specs.Str.{bytes_eq}
use Rattle.std.proofs.lemmas.List.Elements.{All-cons, All-nil, All-replicate}
use Rattle.std.proofs.lemmas.Slice.Eq.{bytes_eq-Decides}
use Rattle.sb_model.specs.declared.names.ListName.{ListName}
use Rattle.sb_model.specs.History.{IsPrefixSize}
use Rattle.sb_model.specs.Names.{name_cmp}
use Rattle.sb_model.specs.Prefixes.{bytes_cmp}
use Rattle.prefix_set.specs.Limits.{IsPrefixSet}
use Rattle.update_messages.specs.Answer.{whole_update}
use Rattle.update_messages.specs.Messages.{UpdatedList}
use Rattle.timed_sessions.specs.Timed.{TimedSession}
use Rattle.update_client.specs.Between.{IsSentSet, UpdatesLead}
use Rattle.update_client.specs.Held.{AreHeldLists, Held, has_token, nothing_held}
use Rattle.update_client.specs.Step.{after_update, first_fault, is_installed, list_step, result_after}
use Rattle.update_client.specs.declared.fault.UpdateFault.{UpdateFault}
use Rattle.sb_round.specs.Rounds.{round_updates}
use Rattle.sb_round.specs.Run.{lists_after}
use Rattle.update_run.specs.Saved.{saved_lists}
use Rattle.mirror_places.specs.Answer.{mirror_update, update_from}
use Rattle.mirror_places.specs.Places.{AreAtPlace, Places, StandsForPlaces}
use Rattle.mirror_places.specs.Replica.{HaveByteSets, IsMirrorItem}
use Rattle.mirror_places.specs.Tokens.{mirror_token}
use Rattle.mirror_laws.specs.Example.{asked_for_all, chain_list, fetched_under, mirror_keeping, mirror_that_fetched, nothing_yet, rounds_below}
use Rattle.mirror_laws.specs.Mirrors.{AreMirrorRounds, IsMirrorHistory, MirrorHistory, mirror_after}
use Rattle.mirror_laws.proofs.Elements.{none_found}
use Rattle.mirror_laws.proofs.StrangerFacts.{no_token_is_empty}

all_one : {X : Type 0} (P : X → Type 0) (x : X) → P x → All P (x ∷ [])
all_one P x is = All-cons P x [] is (All-nil P)

-- ---- the sets

abbrev one_set : List (List ℕ)
one_set = replicate 4 7 ∷ []

none_rises : IsStrictlySortedBy bytes_cmp []
unfolding IsStrictlySortedBy
none_rises = tt

one_rises : IsStrictlySortedBy bytes_cmp one_set
unfolding IsStrictlySortedBy
one_rises = (tt, tt)

one_name_rises : (name : ListName) → IsStrictlySortedBy name_cmp (name ∷ [])
unfolding IsStrictlySortedBy
one_name_rises name = (tt, tt)

abbrev IsPrefixLong : List ℕ → Type 0
IsPrefixLong member = IsPrefixSize (length member)

abbrev IsByte : ℕ → Type 0
IsByte byte = byte < 256

abbrev AreBytes : List ℕ → Type 0
AreBytes member = All IsByte member

none_is_set : IsPrefixSet []
none_is_set = record { rising = none_rises; prefixes = All-nil IsPrefixLong; count = omega arith; bytes = omega arith }

one_is_set : IsPrefixSet one_set
one_is_set = record {
  rising = one_rises;
  prefixes = all_one IsPrefixLong (replicate 4 7) (record { low = omega arith; high = omega arith });
  count = omega arith;
  bytes = omega arith;
}

one_of_bytes : All AreBytes one_set
one_of_bytes = all_one AreBytes (replicate 4 7) (All-replicate IsByte 4 7 (omega arith))

one_is_sent : IsSentSet one_set
one_is_sent = record { set = one_is_set; bytes = one_of_bytes }

-- ---- a mirror that fetched the list

-- the lists of a client of the one name
abbrev HasBytes : Held → Type 0
HasBytes held = All AreBytes held.set

abbrev HasSet : Held → Type 0
HasSet held = IsPrefixSet held.set

one_list_held : (held : Held) → AreHeldLists (held ∷ [])
one_list_held held = record { few = omega arith; rising = one_name_rises held.name }

pub nothing_is_held : AreHeldLists nothing_yet
nothing_is_held = one_list_held (nothing_held chain_list)

at_place : (held : Held) → held.name ≡ chain_list → IsPrefixSet held.set → AreAtPlace (chain_list ∷ []) (held ∷ [])
at_place held named set = record {
  client = one_list_held held;
  named = ap (λ (name : ListName). name ∷ []) named;
  sets = all_one HasSet held set;
}

module _ (epoch : ℕ) (token : List ℕ) where
  abbrev own : Held
  own = fetched_under token

  abbrev mirror : MirrorHistory
  mirror = mirror_that_fetched epoch own

  abbrev kept : Places
  kept = mirror_keeping mirror

  stands : StandsForPlaces kept mirror.places
  stands = record {
    names = chain_list ∷ [];
    held = All-cons (AreAtPlace (chain_list ∷ [])) nothing_yet ((own ∷ []) ∷ []) (at_place (nothing_held chain_list) refl none_is_set)
        (all_one (AreAtPlace (chain_list ∷ [])) (own ∷ []) (at_place own refl one_is_set));
    some = omega arith;
    few = omega arith;
    count = refl;
    newest = refl;
    kept = refl;
  }

  abbrev HaveBytes : List Held → Type 0
  HaveBytes lists = All HasBytes lists

  of_bytes : HaveByteSets mirror.places
  of_bytes = All-cons HaveBytes nothing_yet ((own ∷ []) ∷ []) (all_one HasBytes (nothing_held chain_list) (All-nil AreBytes))
      (all_one HaveBytes (own ∷ []) (all_one HasBytes own one_of_bytes))

  pub can_be : epoch < 2 ^ 64 → IsMirrorHistory mirror
  can_be fits = record { fits = fits; kept = kept; own = refl; stands = stands; bytes = of_bytes }

  -- ---- its rounds

  item : IsTrue (has_token own) → IsMirrorItem epoch mirror.places (mirror_update kept asked_for_all)
  item some = record {
    count = 2;
    within = omega arith;
    mirror = kept;
    stands = stands;
    own = refl;
    asked = asked_for_all;
    served = some;
    is = refl;
  }

  pub are_rounds : IsTrue (has_token own) → (session : TimedSession) (word : Option ℕ) → AreMirrorRounds mirror nothing_yet (rounds_below mirror session word)
  are_rounds some session word = (tt, ((λ installed. item some, tt), tt))

  abbrev whole : UpdatedList
  whole = whole_update asked_for_all one_set (mirror_token epoch chain_list 1)

  -- who asks with nothing gets the whole list
  is_whole : mirror_update kept asked_for_all ≡ whole
  is_whole = ap (update_from kept asked_for_all one_set (mirror_token epoch chain_list 1))
      (none_found (λ (place : ℕ). bytes_eq (mirror_token epoch chain_list place) []) (range_with_len 0 2)
      (λ place there passes. no_token_is_empty epoch chain_list place ((bytes_eq-Decides (mirror_token epoch chain_list place) []).0 passes)))

  module _ (leads : UpdatesLead) (session : TimedSession) (word : Option ℕ) where
    no_fault : first_fault (nothing_held chain_list) whole ≡ None
    no_fault = (leads.whole asked_for_all one_set (mirror_token epoch chain_list 1) (nothing_held chain_list) one_is_sent refl).0

    stepped : list_step (nothing_held chain_list) whole ≡ fetched_under (mirror_token epoch chain_list 1)
    stepped = (leads.whole asked_for_all one_set (mirror_token epoch chain_list 1) (nothing_held chain_list) one_is_sent refl).1

    pub fetched : lists_after nothing_yet (map round_updates (rounds_below mirror session word)) ≡ fetched_under (mirror_token epoch chain_list 1) ∷ []
    fetched = ap (after_update nothing_yet) is_whole ∙ ap (λ (held : Held). held ∷ []) stepped

    -- what an answer with this update saves
    abbrev saved_by : Option UpdateFault → List (List Held)
    saved_by fault =
        (if is_installed (result_after (nothing_held chain_list) whole fault) || false then (list_step (nothing_held chain_list) whole ∷ []) ∷ [] else []) ++ []

    saved : saved_lists nothing_yet (rounds_below mirror session word) ≡ (fetched_under (mirror_token epoch chain_list 1) ∷ []) ∷ []
    saved =
        ap (λ (update : UpdatedList). saved_lists nothing_yet (
        record { session = session; answer = Ok (record { items = update ∷ []; wait = 0 }); word = word } ∷ [])) is_whole
        ∙ ap saved_by no_fault ∙ ap (λ (held : Held). (held ∷ []) ∷ []) stepped

    pub places_are : (next : ℕ) → mirror_after next nothing_yet (rounds_below mirror session word) ≡ mirror_that_fetched next (fetched_under (mirror_token epoch chain_list 1))
    places_are next =
        ap (λ (more : List (List Held)). let made : MirrorHistory = record { epoch = next; places = nothing_yet ∷ more } in made) saved
