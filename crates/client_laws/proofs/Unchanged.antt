-- A round that installed no list leaves every token and every set.
use Rattle.std.proofs.Common.{◌≡◌, List, [], ◌∷◌, Bool, true, false, Option, Some, None, Result, Ok, Err, map, refl, sym, ap, subst, ◌∙◌}
use Rattle.std.specs.Prelude.{IsTrue, ◌||◌, if◌then◌else◌}
use Rattle.std.specs.List.{list_any}
use Rattle.std.specs.List.Sorted.{IsStrictlySortedBy}
use Rattle.std.specs.declared.cmp.Ordering.TheVariants.{Less}
use Rattle.std.proofs.lemmas.Map.Keys.{sorted_head, sorted_tail}
use Rattle.sb_model.specs.Names.{same_name, name_cmp}
use Rattle.sb_model.specs.declared.names.ListName.{ListName}
use Rattle.update_messages.specs.Messages.{UpdatedList}
use Rattle.update_messages.specs.declared.response.FetchResponse.{FetchResponse}
use Rattle.update_client.specs.Held.{Held}
use Rattle.update_client.specs.Step.{first_fault, held_after, list_step, list_named, result_after, result_at, result_among, results_of, is_installed, after_update, after_updates}
use Rattle.update_client.specs.declared.fault.UpdateFault.{UpdateFault}
use Rattle.sb_round.specs.Round.{named_results, taken_from, updates_of}
use Rattle.sb_round.specs.declared.rounds.RoundFault.{RoundFault}
use Rattle.sb_round.specs.declared.rounds.Taken.{Taken}
use Rattle.update_run.specs.Saved.{has_installed}
use Rattle.client_laws.specs.Kept.{at_rest, AreSameLists}
use Rattle.client_laws.specs.Runs.{LeavesListsAlone}
use Rattle.client_laws.proofs.NameOrder.{IsBeforeAll, not_before_itself}
use Rattle.client_laws.proofs.Names.{NamesGo, name_of_held, update_keeps_names}

-- ---- one update

refused_leaves : (held : Held) (update : UpdatedList) (fault : Option UpdateFault) → is_installed (result_after held update fault) ≡ false → at_rest (held_after held update fault) ≡ at_rest held
refused_leaves held update None none = absurd (cc)
refused_leaves held update (Some fault) none = refl

another_name : NamesGo → (own other name : ListName) (same : Bool) → IsTrue (same_name own name) → name_cmp own other ≡ Less → same_name other name ≡ same → same ≡ false
another_name go own other name false is before here = refl
another_name go own other name true is before here =
    let one : own ≡ other = go own name is ∙ sym (go other name here) in
    absurd (not_before_itself own (ap (λ n. name_cmp own n) one ∙ before))

-- no list has the name
others_stay : NamesGo → (own : ListName) (lists : List Held) (update : UpdatedList) → IsTrue (same_name own update.name) → IsBeforeAll own (map name_of_held lists) → after_update lists update ≡ lists
others_stay go own [] update is before = refl
others_stay go own (held ∷ lists) update is before =
    let apart : same_name held.name update.name ≡ false = another_name go own held.name update.name (same_name held.name update.name) is before.0 refl in
    ap (λ (same : Bool). (if same then list_step held update else held) ∷ after_update lists update) apart
    ∙ ap (λ more. held ∷ more) (others_stay go own lists update is before.1)

update_leaves : NamesGo → (lists : List Held) (update : UpdatedList) → IsStrictlySortedBy name_cmp (map name_of_held lists) → is_installed (result_among lists update) ≡ false → AreSameLists (after_update lists update) lists
update_leaves go [] update rising none = refl
update_leaves go (held ∷ lists) update rising none = either (same_name held.name update.name) refl none (update_leaves go lists update (sorted_tail name_cmp held.name (map name_of_held lists) rising))
  where
    either : (same : Bool) → same_name held.name update.name ≡ same → is_installed (result_at update (if same then Some held else list_named update.name lists)) ≡ false
        → (is_installed (result_among lists update) ≡ false → AreSameLists (after_update lists update) lists)
        → AreSameLists ((if same then list_step held update else held) ∷ after_update lists update) (held ∷ lists)
    either true is refused later =
        ap (λ first. first ∷ map at_rest (after_update lists update)) (refused_leaves held update (first_fault held update) refused)
        ∙ ap (λ more. at_rest held ∷ map at_rest more) (others_stay go held.name lists update is (sorted_head name_cmp held.name (map name_of_held lists) rising))
    either false is refused later = ap (λ more. at_rest held ∷ more) (later refused)

-- ---- the updates of an answer

neither : (a b : Bool) → (a || b) ≡ false → (a ≡ false) × (b ≡ false)
neither true b h = absurd (cc)
neither false b h = (refl, h)

abbrev installs : Taken → Bool
installs one = is_installed one.result

updates_leave : NamesGo → (lists : List Held) (updates : List UpdatedList) → IsStrictlySortedBy name_cmp (map name_of_held lists)
    → list_any installs (named_results updates (results_of lists updates)) ≡ false → AreSameLists (after_updates lists updates) lists
updates_leave go lists [] rising none = refl
updates_leave go lists (update ∷ updates) rising none =
    let later = after_update lists update in
    let both = neither (is_installed (result_among lists update)) (list_any installs (named_results updates (results_of later updates))) none in
    updates_leave go later updates (subst (IsStrictlySortedBy name_cmp) (sym (update_keeps_names lists update)) rising) both.1
    ∙ update_leaves go lists update rising both.0

answer_leaves : NamesGo → (lists : List Held) (answer : Result FetchResponse RoundFault) → IsStrictlySortedBy name_cmp (map name_of_held lists)
    → has_installed (taken_from lists answer) ≡ false → AreSameLists (after_updates lists (updates_of answer)) lists
answer_leaves go lists (Ok message) rising none = updates_leave go lists message.items rising none
answer_leaves go lists (Err fault) rising none = refl

pub leaves_alone : NamesGo → LeavesListsAlone
leaves_alone go lists round rising none = answer_leaves go lists round.answer rising none
