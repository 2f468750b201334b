-- A server's answer has few sets for each list, and the places of each rise.
use Rattle.std.proofs.Common.{ℕ, suc, ◌≤◌, ◌==◌, ◌&&◌, Bool, true, false, if◌then◌else◌, cond, List, [], ◌∷◌, length, map, Option, Some, None, arith}
use Rattle.std.specs.Prelude.{filter}
use Rattle.std.specs.List.{AllByRecursion, list_any, range_with_len}
use Rattle.std.proofs.lemmas.List.{length-map}
use Rattle.std.proofs.lemmas.List.FromFn.{length-range_with_len}
use Rattle.sb_model.specs.History.{History, declares, prefixes_at}
use Rattle.sb_model.specs.Naming.{Naming}
use Rattle.sb_model.specs.Difference.{removed_places, added_members}
use Rattle.sb_model.specs.Target.{target_version}
use Rattle.rice_coding.specs.Encoding.{encoding_of}
use Rattle.update_messages.specs.Answer.{addition_set, addition_sets, has_size, sizes_of, removal_sets, declared_items, declared_size, version_named, update_to, update_for, fetch_answer}
use Rattle.update_messages.specs.declared.sets.Removals.TheVariants as removed
use Rattle.update_messages.specs.Messages.{AskedList, Request}
use Rattle.update_messages.specs.Writing.{response_written}
use Rattle.both_ends_laws.proofs.Sparse.{IsSparse}
use Rattle.both_ends_laws.proofs.PlaceTexts.{RisesFrom, removed_rise}
use Rattle.both_ends_laws.proofs.Updates.{places_of, HasFewSets, responses_sparse}

filter_keeps_few : {A : Type 0} (test : A → Bool) (xs : List A) → length (filter test xs) ≤ length xs
filter_keeps_few test [] = omega arith
filter_keeps_few test (x ∷ xs) = go (test x) (filter_keeps_few test xs)
  where
    go : (b : Bool) → length (filter test xs) ≤ length xs → length (cond b (x ∷ filter test xs) (filter test xs)) ≤ suc (length xs)
    go true few = omega (arith, few)
    go false few = omega (arith, few)

few_additions : (rice : Bool) (members : List (List ℕ)) → length (addition_sets rice members) ≤ 29
few_additions rice members =
    omega (
      arith,
      length-map (sizes_of members) (addition_set rice members),
      filter_keeps_few (λ (size : ℕ). list_any (has_size size) members) (range_with_len 4 29),
      length-range_with_len 4 29,
    )

few_removals : (rice : Bool) (size : ℕ) (places : List ℕ) → length (removal_sets rice size places) ≤ 1
few_removals rice size [] = omega arith
few_removals rice size (place ∷ places) = omega arith

chosen_rises : (coded : Bool) (places : List ℕ) → RisesFrom 0 places
    → RisesFrom 0 (places_of (if coded then removed.Rice (encoding_of places) else removed.Raw places))
chosen_rises true places h = tt
chosen_rises false places h = h

removals_rise : (rice : Bool) (size : ℕ) (places : List ℕ) → RisesFrom 0 places
    → AllByRecursion (λ set. RisesFrom 0 (places_of set)) (removal_sets rice size places)
removals_rise rice size [] h = tt
removals_rise rice size (place ∷ places) h = (chosen_rises (size == 4 && rice) (place ∷ places) h, tt)

few_sets : (history : History) (token_at : Naming) (asked : AskedList) (held : Option ℕ) (version : ℕ)
    → HasFewSets (update_to history token_at asked held version)
few_sets history token_at asked None version = record {
  additions = few_additions asked.rice (prefixes_at history asked.name version);
  removals = omega arith;
  rise = tt;
}
few_sets history token_at asked (Some held) version =
    let old : List (List ℕ) = prefixes_at history asked.name held in
    let newer : List (List ℕ) = prefixes_at history asked.name version in
    record {
      additions = few_additions asked.rice (added_members old newer);
      removals = few_removals asked.rice (declared_size history asked.name) (removed_places old newer);
      rise = removals_rise asked.rice (declared_size history asked.name) (removed_places old newer) (removed_rise old newer);
    }

updates_have_few : (history : History) (token_at : Naming) (items : List AskedList)
    → AllByRecursion HasFewSets (map (update_for history token_at) items)
updates_have_few history token_at [] = tt
updates_have_few history token_at (asked ∷ items) = (
  few_sets history token_at asked (version_named history token_at asked.name asked.state)
      (target_version history asked.name (version_named history token_at asked.name asked.state) asked.max_update asked.max_database),
  updates_have_few history token_at items,
)

no_more_kept : {X : Type 0} (test : X → Bool) (items : List X) → length (filter test items) ≤ length items
no_more_kept test [] = omega arith
no_more_kept test (item ∷ items) = go (test item) (no_more_kept test items)
  where
    go : (kept : Bool) → length (filter test items) ≤ length items → length (cond kept (item ∷ filter test items) (filter test items)) ≤ length (item ∷ items)
    go true rest = omega (arith, rest)
    go false rest = omega (arith, rest)

pub fetch_answers_sparse : (history : History) (token_at : Naming) (wait : ℕ) (request : Request) → length request.items ≤ 8
    → IsSparse (response_written (fetch_answer history token_at wait request))
fetch_answers_sparse history token_at wait request few =
    let items = declared_items history request.items in
    responses_sparse (fetch_answer history token_at wait request)
    (omega (arith, few, length-map items (update_for history token_at), no_more_kept (λ (asked : AskedList). declares history asked.name) request.items))
    (updates_have_few history token_at items)
