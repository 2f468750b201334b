-- The updates of an answer, each where those before it led.
use Rattle.std.proofs.Common.{◌≡◌, ◌≤◌, ℕ, List, [], ◌∷◌, ◌++◌, Bool, true, false, cond, map, refl, sym, ap, ◌∙◌, subst, Option, Some, None, append_assoc}
use Rattle.std.specs.Prelude.{All, filter}
use Rattle.std.specs.declared.cmp.Ordering.TheVariants.{Less}
use Rattle.std.specs.Cmp.{IsTotalOrder}
use Rattle.std.specs.List.{AllByRecursion}
use Rattle.std.specs.List.Sorted.{IsStrictlySortedBy}
use Rattle.std.proofs.lemmas.Cmp.{nat_cmp_total, on_total, then_total, tied_itself}
use Rattle.std.proofs.lemmas.List.Elements.{All-nil, All-cons, All-head}
use Rattle.sb_model.specs.declared.names.ListName.{ListName}
use Rattle.sb_model.specs.Names.{threat_code, platform_code, entry_code, same_name, name_cmp}
use Rattle.sb_model.specs.History.{History, declares, up_to_version, version_count}
use Rattle.sb_model.specs.Naming.{Naming, IsNaming}
use Rattle.update_messages.specs.Messages.{AskedList, UpdatedList}
use Rattle.update_messages.specs.Answer.{update_to, version_named}
use Rattle.update_client.specs.Asked.{asked_list, request_asked}
use Rattle.update_client.specs.Genuine.{IsAnswerItem, AnswersAreGenuine}
use Rattle.update_client.specs.Held.{Held}
use Rattle.update_client.specs.Replica.{AreReplicas}
use Rattle.update_client.specs.Step.{first_fault, held_after, list_step, after_update, list_named, result_at, result_of, result_among, results_of}
use Rattle.update_client.specs.declared.fault.UpdateFault.{UpdateFault}
use Rattle.update_client.specs.declared.options.FetchOptions.{FetchOptions}
use Rattle.both_ends_laws.specs.Installs.{CanBeServed, InstallsAnswers, IsInstalled}
use Rattle.both_ends_laws.proofs.Declared.{answer_is, update_of}
use Rattle.both_ends_laws.proofs.Items.{item_fits}
use Rattle.both_ends_laws.proofs.Places.{DecodesAgain}
use Rattle.both_ends_laws.proofs.Steps.{NamesGo}

-- ---- names that differ

pub name_total : IsTotalOrder name_cmp
name_total =
    then_total (on_total (λ (name : ListName). threat_code name.threat) nat_cmp_total)
    (then_total (on_total (λ (name : ListName). platform_code name.platform) nat_cmp_total) (on_total (λ (name : ListName). entry_code name.entry) nat_cmp_total))

not_before_itself : (a : ListName) → name_cmp a a ≡ Less → ⊥
not_before_itself a h = cc (sym h ∙ tied_itself name_total a)

other_name : NamesGo → (a b : ListName) → name_cmp a b ≡ Less → same_name a b ≡ false
other_name go a b before = by_case (same_name a b) refl
  where
    by_case : (same : Bool) → same_name a b ≡ same → same ≡ false
    by_case false is = refl
    by_case true is = absurd (not_before_itself b (subst (λ name. name_cmp name b ≡ Less) (go a b is) before))

other_name_too : NamesGo → (a b : ListName) → name_cmp a b ≡ Less → same_name b a ≡ false
other_name_too go a b before = by_case (same_name b a) refl
  where
    by_case : (same : Bool) → same_name b a ≡ same → same ≡ false
    by_case false is = refl
    by_case true is = absurd (not_before_itself b (subst (λ name. name_cmp name b ≡ Less) (sym (go b a is)) before))

unfoldable pub names_in : List Held → List ListName
names_in lists = map (λ (held : Held). held.name) lists

abbrev pub Others : ListName → List Held → Type 0
Others name lists = AllByRecursion (λ (held : Held). same_name held.name name ≡ false) lists

later_others : NamesGo → (name : ListName) (lists : List Held) → AllByRecursion (λ later. name_cmp name later ≡ Less) (names_in lists) → Others name lists
unfolding names_in
later_others go name [] h = tt
later_others go name (held ∷ lists) h = (other_name_too go name held.name h.0, later_others go name lists h.1)

before_at : (name : ListName) (done rest : List Held) (held : Held) → AllByRecursion (λ later. name_cmp name later ≡ Less) (names_in (done ++ held ∷ rest)) → name_cmp name held.name ≡ Less
unfolding names_in
before_at name [] rest held h = h.0
before_at name (first ∷ done) rest held h = before_at name done rest held h.1

pub done_others : NamesGo → (done rest : List Held) (held : Held) → IsStrictlySortedBy name_cmp (names_in (done ++ held ∷ rest)) → Others held.name done
unfolding names_in IsStrictlySortedBy
done_others go [] rest held h = tt
done_others go (first ∷ done) rest held h = (other_name go first.name held.name (before_at first.name done rest held h.0), done_others go done rest held h.1)

pub rest_others : NamesGo → (done rest : List Held) (held : Held) → IsStrictlySortedBy name_cmp (names_in (done ++ held ∷ rest)) → Others held.name rest
unfolding names_in IsStrictlySortedBy
rest_others go [] rest held h = later_others go held.name rest h.0
rest_others go (first ∷ done) rest held h = rest_others go done rest held h.1

-- ---- one update

named_there : NamesGo → (done rest : List Held) (held : Held) → same_name held.name held.name ≡ true → Others held.name done → list_named held.name (done ++ held ∷ rest) ≡ Some held
named_there go [] rest held itself others = rw itself refl
named_there go (first ∷ done) rest held itself others = rw others.0 (named_there go done rest held itself others.1)

others_stay : (lists : List Held) (update : UpdatedList) → Others update.name lists → after_update lists update ≡ lists
others_stay [] update h = refl
others_stay (held ∷ lists) update h = rw h.0 (ap (λ (rest : List Held). held ∷ rest) (others_stay lists update h.1))

pub one_changes : (done rest : List Held) (held : Held) (update : UpdatedList) → same_name held.name update.name ≡ true → Others update.name done → Others update.name rest
    → after_update (done ++ held ∷ rest) update ≡ done ++ list_step held update ∷ rest
one_changes [] rest held update itself before after = rw itself (ap (λ (more : List Held). list_step held update ∷ more) (others_stay rest update after))
one_changes (first ∷ done) rest held update itself before after = rw before.0 (ap (λ (more : List Held). first ∷ more) (one_changes done rest held update itself before.1 after))

step_name : (held : Held) (update : UpdatedList) (fault : Option UpdateFault) → (held_after held update fault).name ≡ held.name
step_name held update None = refl
step_name held update (Some fault) = refl

pub names_stay : (done rest : List Held) (held : Held) (update : UpdatedList) → names_in ((done ++ list_step held update ∷ []) ++ rest) ≡ names_in (done ++ held ∷ rest)
unfolding names_in
names_stay [] rest held update = ap (λ name. name ∷ map (λ (h : Held). h.name) rest) (step_name held update (first_fault held update))
names_stay (first ∷ done) rest held update = ap (λ names. first.name ∷ names) (names_stay done rest held update)

installed : (held : Held) (update : UpdatedList) → first_fault held update ≡ None → IsInstalled (result_of held update)
installed held update none = rw none tt

pub update_name : (history : History) (token_at : Naming) (asked : AskedList) (found : Option ℕ) (version : ℕ) → (update_to history token_at asked found version).name ≡ asked.name
update_name history token_at asked (Some from) version = refl
update_name history token_at asked None version = refl

-- ---- all updates

-- In what follows an update comes for each list that passes a test.
module _ (go : NamesGo) (itself : (name : ListName) → same_name name name ≡ true) (update_of : Held → UpdatedList) (names : (held : Held) → (update_of held).name ≡ held.name) (passes : Held → Bool) where
  installs_one : (done rest : List Held) (held : Held) → IsStrictlySortedBy name_cmp (names_in (done ++ held ∷ rest)) → first_fault held (update_of held) ≡ None
      → All IsInstalled (results_of ((done ++ list_step held (update_of held) ∷ []) ++ rest) (map update_of (filter passes rest)))
      → All IsInstalled (results_of (done ++ held ∷ rest) (update_of held ∷ map update_of (filter passes rest)))
  installs_one done rest held sorted fits more =
      let update = update_of held in
      let named = names held in
      let before = subst (λ name. Others name done) (sym named) (done_others go done rest held sorted) in
      let after = subst (λ name. Others name rest) (sym named) (rest_others go done rest held sorted) in
      let is_held : same_name held.name update.name ≡ true = subst (λ name. same_name held.name name ≡ true) (sym named) (itself held.name) in
      let found : list_named update.name (done ++ held ∷ rest) ≡ Some held = subst (λ name. list_named name (done ++ held ∷ rest) ≡ Some held) (sym named) (named_there go done rest held (itself held.name) (done_others go done rest held sorted)) in
      let changed = one_changes done rest held update is_held before after ∙ sym (append_assoc done (list_step held update ∷ []) rest) in
      All-cons IsInstalled (result_among (done ++ held ∷ rest) update) (results_of (after_update (done ++ held ∷ rest) update) (map update_of (filter passes rest)))
      (subst (λ (r : Option Held). IsInstalled (result_at update r)) (sym found) (installed held update fits))
      (subst (λ (ls : List Held). All IsInstalled (results_of ls (map update_of (filter passes rest)))) (sym changed) more)

  installs_if : (done rest : List Held) (held : Held) (passed : Bool) → passes held ≡ passed → IsStrictlySortedBy name_cmp (names_in (done ++ held ∷ rest))
      → (passes held ≡ true → first_fault held (update_of held) ≡ None)
      → All IsInstalled (results_of ((done ++ list_step held (update_of held) ∷ []) ++ rest) (map update_of (filter passes rest)))
      → All IsInstalled (results_of ((done ++ held ∷ []) ++ rest) (map update_of (filter passes rest)))
      → All IsInstalled (results_of (done ++ held ∷ rest) (map update_of (cond passed (held ∷ filter passes rest) (filter passes rest))))
  installs_if done rest held true is sorted fits with_it without = installs_one done rest held sorted (fits is) with_it
  installs_if done rest held false is sorted fits with_it without =
      subst (λ (ls : List Held). All IsInstalled (results_of ls (map update_of (filter passes rest)))) (append_assoc done (held ∷ []) rest) without

  all_installed : (done rest : List Held) → IsStrictlySortedBy name_cmp (names_in (done ++ rest)) → AllByRecursion (λ held. passes held ≡ true → first_fault held (update_of held) ≡ None) rest
      → All IsInstalled (results_of (done ++ rest) (map update_of (filter passes rest)))
  all_installed done [] sorted fit = All-nil IsInstalled
  all_installed done (held ∷ rest) sorted fit =
      installs_if done rest held (passes held) refl sorted fit.0
      (all_installed (done ++ list_step held (update_of held) ∷ []) rest (subst (IsStrictlySortedBy name_cmp) (sym (names_stay done rest held (update_of held))) sorted) fit.1)
      (all_installed (done ++ held ∷ []) rest (subst (λ (ls : List Held). IsStrictlySortedBy name_cmp (names_in ls)) (sym (append_assoc done (held ∷ []) rest)) sorted) fit.1)

module _ (decodes : DecodesAgain) (genuine : AnswersAreGenuine) (history : History) (token_at : Naming) (options : FetchOptions) (version : ℕ)
    (can : CanBeServed history) (naming : IsNaming history token_at) (within : version ≤ version_count history)
  where
    -- the update for a declared list is one of an answer to a request for it alone
    pub one_item : (held : Held) → declares history held.name ≡ true → IsAnswerItem history token_at (update_of history token_at options version held)
    one_item held declared =
        All-head (IsAnswerItem history token_at) (update_of history token_at options version held) []
        (subst (λ (kept : Bool). All (IsAnswerItem history token_at) (map (update_of history token_at options version) (cond kept (held ∷ []) []))) declared
        (subst (All (IsAnswerItem history token_at)) (answer_is history token_at options version 0 (held ∷ []))
        (genuine history token_at version 0 (request_asked (held ∷ []) options) can.well_formed naming can.prefixes can.hashes within)))

    all_fit : (lists : List Held) → AreReplicas history token_at lists
        → AllByRecursion (λ (held : Held). declares history held.name ≡ true → first_fault held (update_of history token_at options version held) ≡ None) lists
    all_fit [] replicas = tt
    all_fit (held ∷ lists) replicas = (
      λ declared. item_fits history token_at naming can decodes options version within held declared replicas.0 (one_item held declared),
      all_fit lists replicas.1,
    )

pub name_of_update : (history : History) (token_at : Naming) (options : FetchOptions) (version : ℕ) (held : Held) → (update_of history token_at options version held).name ≡ held.name
name_of_update history token_at options version held =
    update_name (up_to_version version history) token_at (asked_list options held) (version_named (up_to_version version history) token_at held.name (asked_list options held).state) _

pub installs : NamesGo → ((name : ListName) → same_name name name ≡ true) → DecodesAgain → AnswersAreGenuine
    → (history : History) (token_at : Naming) (options : FetchOptions) (lists : List Held) (version wait : ℕ) → InstallsAnswers history token_at options lists version wait
unfolding names_in
installs go itself decodes genuine history token_at options lists version wait can naming within are replicas =
    let fit = all_fit decodes genuine history token_at options version can naming within lists replicas in
    subst (λ (updates : List UpdatedList). All IsInstalled (results_of lists updates)) (sym (answer_is history token_at options version wait lists))
    (all_installed go itself (update_of history token_at options version) (name_of_update history token_at options version) (λ (held : Held). declares history held.name) [] lists are.rising fit)
