-- What is left after updates that a server answered: replicas again.
use Rattle.std.proofs.Common.{◌≡◌, ◌⊎◌, ◌≤◌, ℕ, List, [], ◌∷◌, ◌++◌, Bool, true, false, cond, map, refl, sym, ap, ◌∙◌, subst, inl, inr, Option, Some, None, arith, append_assoc}
use Rattle.std.specs.Prelude.{IsTrue, IfSome, filter, if◌then◌else◌, Result, Ok}
use Rattle.std.specs.List.Sorted.{IsStrictlySortedBy}
use Rattle.std.specs.Str.{bytes_eq}
use Rattle.std.proofs.lemmas.Slice.Eq.{bytes_eq-Decides}
use Rattle.sb_model.specs.Candidate.{Update, candidate}
use Rattle.sb_model.specs.Names.{name_cmp, same_name}
use Rattle.sb_model.specs.History.{History, declares, up_to_version, version_count, prefixes_at}
use Rattle.sb_model.specs.Naming.{Naming, IsNaming}
use Rattle.sb_model.specs.Target.{target_version}
use Rattle.sb_model.specs.declared.names.ListName.{ListName}
use Rattle.rice_coding.specs.declared.fault.RiceFault.{RiceFault}
use Rattle.update_messages.specs.Messages.{AskedList, UpdatedList}
use Rattle.update_messages.specs.Answer.{fetch_answer, update_for, update_to, version_named}
use Rattle.update_client.specs.Asked.{asked_list, request_asked}
use Rattle.update_client.specs.Genuine.{IsAnswerItem, AnswersAreGenuine}
use Rattle.update_client.specs.Held.{Held}
use Rattle.update_client.specs.Replica.{IsReplicaOf, AreReplicas}
use Rattle.update_client.specs.Step.{proposed, candidate_of, meaning_of, first_fault, held_after, list_step, after_updates}
use Rattle.update_client.specs.declared.options.FetchOptions.{FetchOptions}
use Rattle.both_ends_laws.specs.Installs.{CanBeServed}
use Rattle.both_ends_laws.proofs.Answers.{named_within, count_up_to}
use Rattle.both_ends_laws.proofs.Declared.{answer_is, update_of}
use Rattle.both_ends_laws.proofs.Faults.{HasMeaning, has_meaning, means}
use Rattle.both_ends_laws.proofs.Items.{same_candidate, not_empty, set_at, found_true, item_fits}
use Rattle.both_ends_laws.proofs.Lists.{names_in, Others, done_others, rest_others, one_changes, names_stay, one_item, name_of_update, update_name}
use Rattle.both_ends_laws.proofs.Places.{DecodesAgain}
use Rattle.both_ends_laws.proofs.Steps.{NamesGo}

-- ---- one list

meant_candidate : (update : UpdatedList) (set : List (List ℕ)) (meaning : Result Update RiceFault) (meant : Update) → meaning ≡ Ok meant → proposed meaning set ≡ candidate meant set
meant_candidate update set meaning meant is = ap (λ (m : Result Update RiceFault). proposed m set) is

-- what an update that was made for the set that is held proposes, or a whole one, is the server's set
proposes : (history : History) (token_at : Naming) (held : Held) (update : UpdatedList) (item : IsAnswerItem history token_at update)
    → (update.full ≡ true) ⊎ (held.set ≡ prefixes_at history update.name item.made_from) → candidate_of update held.set ≡ prefixes_at history update.name item.genuine.version
proposes history token_at held update item fits = go (has_meaning update _ item.genuine.proposes) fits
  where
    go : HasMeaning update (λ meant. candidate meant (prefixes_at history update.name item.made_from) ≡ prefixes_at history update.name item.genuine.version) → (update.full ≡ true) ⊎ (held.set ≡ prefixes_at history update.name item.made_from) → candidate_of update held.set ≡ prefixes_at history update.name item.genuine.version
    go meaning (inl full) =
        meant_candidate update held.set (meaning_of update) meaning.meant meaning.is
        ∙ same_candidate meaning.meant held.set (prefixes_at history update.name item.made_from) ((means update meaning.meant meaning.is).full ∙ full) ∙ meaning.holds
    go meaning (inr set) = meant_candidate update held.set (meaning_of update) meaning.meant meaning.is ∙ ap (candidate meaning.meant) set ∙ meaning.holds

-- such an update without a fault leaves a replica
leaves : (history : History) (token_at : Naming) (held : Held) (update : UpdatedList) (item : IsAnswerItem history token_at update) → update.name ≡ held.name
    → (update.full ≡ true) ⊎ (held.set ≡ prefixes_at history update.name item.made_from) → first_fault held update ≡ None → IsReplicaOf history token_at (list_step held update)
leaves history token_at held update item named fits none =
    let genuine = item.genuine in
    let set = proposes history token_at held update item fits in
    subst (IsReplicaOf history token_at) (sym (ap (held_after held update) none))
    (inr (record {
      version = genuine.version;
      within = genuine.within;
      declared = subst (λ (name : ListName). IsTrue (declares history name)) named genuine.declared;
      token = genuine.state ∙ ap (λ (name : ListName). token_at name genuine.version) named;
      set = set ∙ ap (λ (name : ListName). prefixes_at history name genuine.version) named;
    }))

module _ (history : History) (token_at : Naming) (naming : IsNaming history token_at) (can : CanBeServed history) (decodes : DecodesAgain) (options : FetchOptions) (version : ℕ) (low : version ≤ version_count history)
  where
    -- An answer is whole, or made for the held set.
    made_for : (held : Held) → IsTrue (declares history held.name) → IsReplicaOf history token_at held → (item : IsAnswerItem history token_at (update_for (up_to_version version history) token_at (asked_list options held)))
        → ((update_for (up_to_version version history) token_at (asked_list options held)).full ≡ true)
        ⊎ (held.set ≡ prefixes_at history (update_for (up_to_version version history) token_at (asked_list options held)).name item.made_from)
    made_for held declared replica item = go (version_named front token_at held.name asked.state) refl (named_within front token_at held.name asked.state) item
      where
        front : History
        front = up_to_version version history

        asked : AskedList
        asked = asked_list options held

        marked : (mark : Bool) (from : ℕ) → held.resync ≡ mark → from ≤ version → token_at held.name from ≡ (if mark then [] else held.token) → (held.resync ≡ false) × (token_at held.name from ≡ held.token)
        marked true from is within token = absurd (not_empty history token_at naming can held.name from declared (omega (arith, within, low)) token)
        marked false from is within token = (is, token)

        go : (found : Option ℕ) → version_named front token_at held.name asked.state ≡ found → IfSome found (λ n. n ≤ version_count front)
            → (it : IsAnswerItem history token_at (update_to front token_at asked found (target_version front held.name found options.max_update options.max_database)))
            → ((update_to front token_at asked found (target_version front held.name found options.max_update options.max_database)).full ≡ true)
            ⊎ (held.set ≡ prefixes_at history (update_to front token_at asked found (target_version front held.name found options.max_update options.max_database)).name it.made_from)
        go None is within it = inl refl
        go (Some from) is within it =
            let below : from ≤ version = omega (arith, within, count_up_to history version low) in
            let named : bytes_eq (token_at held.name from) asked.state ≡ true = found_true (λ v. bytes_eq (token_at held.name v) asked.state) _ from is in
            let state : token_at held.name from ≡ asked.state = (bytes_eq-Decides (token_at held.name from) asked.state).0 named in
            let fresh = marked held.resync from refl below state in
            let holds = set_at history token_at naming can held from declared (omega (arith, below, low)) replica fresh.1 in
            let same_from : from ≡ it.made_from =
            naming.different held.name from it.made_from declared (omega (arith, below, low)) it.genuine.from_within (state ∙ it.names_base refl) in
            inr (holds ∙ ap (prefixes_at history held.name) same_from)

    pub stays_replica : (held : Held) → IsTrue (declares history held.name) → IsReplicaOf history token_at held
        → IsAnswerItem history token_at (update_for (up_to_version version history) token_at (asked_list options held))
        → IsReplicaOf history token_at (list_step held (update_for (up_to_version version history) token_at (asked_list options held)))
    stays_replica held declared replica item =
        let update = update_for (up_to_version version history) token_at (asked_list options held) in
        leaves history token_at held update item (update_name (up_to_version version history) token_at (asked_list options held) (version_named (up_to_version version history) token_at held.name (asked_list options held).state) _)
        (made_for held declared replica item)
        (item_fits history token_at naming can decodes options version low held declared replica item)

-- ---- all lists

-- a list after the update that came for it, if one came
abbrev pub stepped : (Held → UpdatedList) → (Held → Bool) → Held → Held
stepped update_of passes held = if passes held then list_step held (update_of held) else held

module _ (go : NamesGo) (itself : (name : ListName) → same_name name name ≡ true) (update_of : Held → UpdatedList) (names : (held : Held) → (update_of held).name ≡ held.name) (passes : Held → Bool) where
  steps_if : (done rest : List Held) (held : Held) (passed : Bool) → IsStrictlySortedBy name_cmp (names_in (done ++ held ∷ rest))
      → after_updates ((done ++ list_step held (update_of held) ∷ []) ++ rest) (map update_of (filter passes rest)) ≡ (done ++ list_step held (update_of held) ∷ []) ++ map (stepped update_of passes) rest
      → after_updates ((done ++ held ∷ []) ++ rest) (map update_of (filter passes rest)) ≡ (done ++ held ∷ []) ++ map (stepped update_of passes) rest
      → after_updates (done ++ held ∷ rest) (map update_of (cond passed (held ∷ filter passes rest) (filter passes rest)))
      ≡ done ++ (if passed then list_step held (update_of held) else held) ∷ map (stepped update_of passes) rest
  steps_if done rest held true sorted with_it without =
      let update = update_of held in
      let named = names held in
      let before = subst (λ name. Others name done) (sym named) (done_others go done rest held sorted) in
      let after = subst (λ name. Others name rest) (sym named) (rest_others go done rest held sorted) in
      let is_held : same_name held.name update.name ≡ true = subst (λ name. same_name held.name name ≡ true) (sym named) (itself held.name) in
      let changed = one_changes done rest held update is_held before after ∙ sym (append_assoc done (list_step held update ∷ []) rest) in
      ap (λ (lists : List Held). after_updates lists (map update_of (filter passes rest))) changed
      ∙ with_it
      ∙ append_assoc done (list_step held update ∷ []) (map (stepped update_of passes) rest)
  steps_if done rest held false sorted with_it without =
      ap (λ (lists : List Held). after_updates lists (map update_of (filter passes rest))) (sym (append_assoc done (held ∷ []) rest))
      ∙ without
      ∙ append_assoc done (held ∷ []) (map (stepped update_of passes) rest)

  each_steps : (done rest : List Held) → IsStrictlySortedBy name_cmp (names_in (done ++ rest))
      → after_updates (done ++ rest) (map update_of (filter passes rest)) ≡ done ++ map (stepped update_of passes) rest
  each_steps done [] sorted = refl
  each_steps done (held ∷ rest) sorted =
      steps_if done rest held (passes held) sorted
      (each_steps (done ++ list_step held (update_of held) ∷ []) rest (subst (IsStrictlySortedBy name_cmp) (sym (names_stay done rest held (update_of held))) sorted))
      (each_steps (done ++ held ∷ []) rest (subst (λ (ls : List Held). IsStrictlySortedBy name_cmp (names_in ls)) (sym (append_assoc done (held ∷ []) rest)) sorted))

module _ (history : History) (token_at : Naming) (naming : IsNaming history token_at) (can : CanBeServed history) (decodes : DecodesAgain) (genuine : AnswersAreGenuine) (options : FetchOptions) (version : ℕ) (low : version ≤ version_count history)
  where
    abbrev step_of : Held → Held
    step_of = stepped (update_of history token_at options version) (λ (held : Held). declares history held.name)

    one_stays : (held : Held) (declared : Bool) → declares history held.name ≡ declared → IsReplicaOf history token_at held
        → IsReplicaOf history token_at (if declared then list_step held (update_of history token_at options version held) else held)
    one_stays held true is replica =
        stays_replica history token_at naming can decodes options version low held is replica (one_item decodes genuine history token_at options version can naming low held is)
    one_stays held false is replica = replica

    all_stay : (lists : List Held) → AreReplicas history token_at lists → AreReplicas history token_at (map step_of lists)
    all_stay [] replicas = tt
    all_stay (held ∷ lists) replicas = (one_stays held (declares history held.name) refl replicas.0, all_stay lists replicas.1)

-- The lists after what a server answers to their request are replicas again.
pub replicas_after : NamesGo → ((name : ListName) → same_name name name ≡ true) → DecodesAgain → AnswersAreGenuine → (history : History) (token_at : Naming) (options : FetchOptions) (lists : List Held) (version wait : ℕ)
    → CanBeServed history → IsNaming history token_at → version ≤ version_count history → IsStrictlySortedBy name_cmp (names_in lists) → AreReplicas history token_at lists
    → AreReplicas history token_at (after_updates lists (fetch_answer (up_to_version version history) token_at wait (request_asked lists options)).items)
replicas_after go itself decodes genuine history token_at options lists version wait can naming within sorted replicas =
    subst (AreReplicas history token_at)
    (sym (ap (after_updates lists) (answer_is history token_at options version wait lists)
    ∙ each_steps go itself (update_of history token_at options version) (name_of_update history token_at options version) (λ (held : Held). declares history held.name) [] lists sorted))
    (all_stay history token_at naming can decodes genuine options version within lists replicas)
