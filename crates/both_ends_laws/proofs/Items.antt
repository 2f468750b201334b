-- What a server answers to one who holds a replica has no fault there.
use Rattle.std.proofs.Common.{◌≡◌, ◌≤◌, ◌<◌, ℕ, List, [], ◌∷◌, Bool, true, false, length, map, refl, sym, ap, ◌∙◌, subst, inl, inr, Option, Some, None, arith}
use Rattle.std.specs.Prelude.{IsTrue, IfSome, find, fold, if◌then◌else◌, Result, Ok, Err}
use Rattle.std.specs.List.{AllByRecursion}
use Rattle.std.specs.Str.{bytes_eq}
use Rattle.std.proofs.lemmas.List.{take-take}
use Rattle.std.proofs.lemmas.Slice.Eq.{bytes_eq-Decides}
use Rattle.sb_model.specs.Candidate.{Update, candidate}
use Rattle.sb_model.specs.Difference.{removed_places}
use Rattle.sb_model.specs.History.{History, declares, up_to_version, version_count, after_change, prefix_of, prefixes_at}
use Rattle.sb_model.specs.Naming.{Naming, IsNaming}
use Rattle.sb_model.specs.Prefixes.{set_of}
use Rattle.sb_model.specs.Target.{target_version}
use Rattle.sb_model.specs.declared.history.Change.{Change}
use Rattle.sb_model.specs.declared.names.ListName.{ListName}
use Rattle.rice_coding.specs.declared.fault.RiceFault.{RiceFault}
use Rattle.update_messages.specs.Messages.{AskedList, UpdatedList}
use Rattle.update_messages.specs.Answer.{update_for, update_to, version_named, declared_size}
use Rattle.update_client.specs.Asked.{asked_list}
use Rattle.update_client.specs.Genuine.{IsAnswerItem}
use Rattle.update_client.specs.Held.{Held}
use Rattle.update_client.specs.Replica.{IsReplicaOf}
use Rattle.update_client.specs.Step.{joined, places_of, first_fault}
use Rattle.update_client.specs.declared.options.FetchOptions.{FetchOptions}
use Rattle.both_ends_laws.specs.Installs.{CanBeServed}
use Rattle.both_ends_laws.proofs.Answers.{named_within, count_up_to}
use Rattle.both_ends_laws.proofs.Faults.{has_meaning, means, no_change_fault, not_stale_full, not_stale_base, no_first_fault}
use Rattle.both_ends_laws.proofs.Places.{DecodesAgain, places_are_below, places_are_sent}

pub found_true : (test : ℕ → Bool) (numbers : List ℕ) (n : ℕ) → find test numbers ≡ Some n → test n ≡ true
found_true test [] n h = absurd (cc)
found_true test (first ∷ numbers) n h = go (test first) refl h (found_true test numbers n)
  where
    go : (here : Bool) → test first ≡ here → (if here then Some first else find test numbers) ≡ Some n → (find test numbers ≡ Some n → test n ≡ true) → test n ≡ true
    go true is e later = let same : first ≡ n = cc in subst (λ m. test m ≡ true) same is
    go false is e later = later e

places_in : Result (List ℕ) RiceFault → List ℕ
places_in (Ok places) = places
places_in (Err fault) = []

ok_places : List ℕ → Result (List ℕ) RiceFault
ok_places places = Ok places

ok_same : (a b : List ℕ) → ok_places a ≡ ok_places b → a ≡ b
unfolding places_in ok_places
ok_same a b h = ap places_in h

removes_none : (update : UpdatedList) (places : List ℕ) → update.full ≡ true → joined places_of (if update.full then [] else update.removals) ≡ Ok places → places ≡ []
unfolding ok_places
removes_none update places full h = sym (ok_same [] places (rw full at h))

removes_these : (update : UpdatedList) (places others : List ℕ) → update.full ≡ false → joined places_of (if update.full then [] else update.removals) ≡ Ok places → joined places_of update.removals ≡ Ok others → others ≡ places
unfolding ok_places
removes_these update places others partial h k = let here : joined places_of update.removals ≡ Ok places = rw partial at h in ok_same others places (sym k ∙ here)

pub same_candidate : (meant : Update) (a b : List (List ℕ)) → meant.full ≡ true → candidate meant a ≡ candidate meant b
same_candidate meant a b full = rw full refl

module _ (history : History) (token_at : Naming) (naming : IsNaming history token_at) (can : CanBeServed history) where
  full_fits : (held : Held) (update : UpdatedList) → update.full ≡ true → IsAnswerItem history token_at update → first_fault held update ≡ None
  full_fits held update full item =
      let genuine = item.genuine in
      let meaning = has_meaning update _ genuine.proposes in
      let meant = means update meaning.meant meaning.is in
      let none = removes_none update meaning.meant.removals full meant.removals in
      no_first_fault held update (not_stale_full held update full)
      (no_change_fault held update meaning.meant (prefixes_at history update.name genuine.version) meaning.is
      (subst (AllByRecursion (λ (place : ℕ). place < length held.set)) (sym none) tt)
      (same_candidate meaning.meant held.set (prefixes_at history update.name item.made_from) (meant.full ∙ full) ∙ meaning.holds)
      (can.prefixes.few update.name genuine.version genuine.declared genuine.within)
      (can.bytes.few update.name genuine.version genuine.declared genuine.within)
      (sym (meant.checksum ∙ genuine.checksum)))

  base_fits : (held : Held) (update : UpdatedList) (places : List ℕ) → update.full ≡ false → update.base ≡ held.token → (item : IsAnswerItem history token_at update)
      → held.set ≡ prefixes_at history update.name item.made_from → joined places_of update.removals ≡ Ok places → AllByRecursion (λ place. place < length held.set) places
      → first_fault held update ≡ None
  base_fits held update places partial base item set sends below =
      let genuine = item.genuine in
      let meaning = has_meaning update _ genuine.proposes in
      let meant = means update meaning.meant meaning.is in
      let these = removes_these update meaning.meant.removals places partial meant.removals sends in
      no_first_fault held update (not_stale_base held update base)
      (no_change_fault held update meaning.meant (prefixes_at history update.name genuine.version) meaning.is
      (subst (AllByRecursion (λ (place : ℕ). place < length held.set)) these below)
      (ap (candidate meaning.meant) set ∙ meaning.holds)
      (can.prefixes.few update.name genuine.version genuine.declared genuine.within)
      (can.bytes.few update.name genuine.version genuine.declared genuine.within)
      (sym (meant.checksum ∙ genuine.checksum)))

  pub not_empty : (list : ListName) (version : ℕ) → IsTrue (declares history list) → version ≤ version_count history → token_at list version ≡ [] → ⊥
  not_empty list version declared within none = omega (arith, naming.some list version declared within, ap length none)

  -- a replica whose token is that of a version has the set of that version
  pub set_at : (held : Held) (version : ℕ) → IsTrue (declares history held.name) → version ≤ version_count history → IsReplicaOf history token_at held → token_at held.name version ≡ held.token
      → held.set ≡ prefixes_at history held.name version
  set_at held version declared within (inl empty) token = absurd (not_empty held.name version declared within (token ∙ empty.token))
  set_at held version declared within (inr at) token =
      at.set ∙ ap (prefixes_at history held.name) (sym (naming.different held.name version at.version declared within at.within (token ∙ at.token)))

  module _ (decodes : DecodesAgain) (options : FetchOptions) (version : ℕ) (low : version ≤ version_count history) where
    at_front : (list : ListName) (v : ℕ) → v ≤ version → prefixes_at (up_to_version version history) list v ≡ prefixes_at history list v
    at_front list v below =
        ap (λ (changes : List Change). set_of (map prefix_of (fold (after_change list) [] changes))) (take-take v version history.changes below)

    partial_fits : (held : Held) (from to : ℕ) → IsTrue (declares history held.name) → IsReplicaOf history token_at held → from ≤ version → held.resync ≡ false → token_at held.name from ≡ held.token
        → IsAnswerItem history token_at (update_to (up_to_version version history) token_at (asked_list options held) (Some from) to)
        → first_fault held (update_to (up_to_version version history) token_at (asked_list options held) (Some from) to) ≡ None
    partial_fits held from to declared replica within marked token item =
        let update = update_to (up_to_version version history) token_at (asked_list options held) (Some from) to in
        let asked = asked_list options held in
        let old = prefixes_at (up_to_version version history) held.name from in
        let newer = prefixes_at (up_to_version version history) held.name to in
        let base : update.base ≡ held.token = rw marked refl in
        let holds = set_at held from declared (omega (arith, within, low)) replica token in
        let same_from : from ≡ item.made_from = naming.different held.name from item.made_from declared (omega (arith, within, low)) item.genuine.from_within (token ∙ sym base ∙ item.names_base refl) in
        let old_is : old ≡ held.set = at_front held.name from within ∙ sym holds in
        let few : length old ≤ 1048576 = omega (arith, ap length (at_front held.name from within), can.prefixes.few held.name from declared (omega (arith, within, low))) in
        base_fits held update (removed_places old newer) refl base item
        (holds ∙ ap (prefixes_at history held.name) same_from)
        (places_are_sent decodes asked.rice (declared_size (up_to_version version history) held.name) old newer few)
        (subst (λ (set : List (List ℕ)). AllByRecursion (λ (place : ℕ). place < length set) (removed_places old newer)) old_is (places_are_below old newer))

    pub item_fits : (held : Held) → IsTrue (declares history held.name) → IsReplicaOf history token_at held → IsAnswerItem history token_at (update_for (up_to_version version history) token_at (asked_list options held))
        → first_fault held (update_for (up_to_version version history) token_at (asked_list options held)) ≡ None
    item_fits held declared replica item = go (version_named front token_at held.name asked.state) refl (named_within front token_at held.name asked.state) item
      where
        front : History
        front = up_to_version version history

        asked : AskedList
        asked = asked_list options held

        marked : (mark : Bool) (from : ℕ) → held.resync ≡ mark → from ≤ version → token_at held.name from ≡ (if mark then [] else held.token) → (held.resync ≡ false) × (token_at held.name from ≡ held.token)
        marked true from is within token = absurd (not_empty held.name from declared (omega (arith, within, low)) token)
        marked false from is within token = (is, token)

        go : (found : Option ℕ) → version_named front token_at held.name asked.state ≡ found → IfSome found (λ n. n ≤ version_count front)
            → IsAnswerItem history token_at (update_to front token_at asked found (target_version front held.name found options.max_update options.max_database))
            → first_fault held (update_to front token_at asked found (target_version front held.name found options.max_update options.max_database)) ≡ None
        go None is within it = full_fits held (update_to front token_at asked None (target_version front held.name None options.max_update options.max_database)) refl it
        go (Some from) is within it =
            let below : from ≤ version = omega (arith, within, count_up_to history version low) in
            let named : bytes_eq (token_at held.name from) asked.state ≡ true = found_true (λ v. bytes_eq (token_at held.name v) asked.state) _ from is in
            let state : token_at held.name from ≡ asked.state = (bytes_eq-Decides (token_at held.name from) asked.state).0 named in
            let fresh = marked held.resync from refl below state in
            partial_fits held from (target_version front held.name (Some from) options.max_update options.max_database) declared replica below fresh.0 fresh.1 it
