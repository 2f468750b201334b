-- What a server answers where no limit binds: updates to its newest version.
use Rattle.std.proofs.Common.{◌≡◌, ◌⊎◌, ◌≤◌, ◌<◌, ◌+◌, ℕ, zero, suc, List, Bool, true, false, length, take, refl, sym, ap, ◌∙◌, subst, inl, inr, Option, Some, None, arith}
use Rattle.std.specs.Prelude.{All, IsTrue, IfSome, find, ◌&&◌, ◌||◌, ◌==◌, nat_le, if◌then◌else◌}
use Rattle.std.specs.List.{range_with_len}
use Rattle.std.specs.Str.{bytes_eq}
use Rattle.std.proofs.lemmas.List.{take_all, length-take}
use Rattle.sb_model.specs.declared.names.ListName.{ListName}
use Rattle.sb_model.specs.History.{History, declares, up_to_version, version_count, prefixes_at}
use Rattle.sb_model.specs.Naming.{Naming}
use Rattle.sb_model.specs.Target.{can_reach, is_within, target_version}
use Rattle.update_messages.specs.Messages.{AskedList}
use Rattle.update_messages.specs.Answer.{update_for, update_to, version_named}
use Rattle.update_client.specs.Asked.{asked_list}
use Rattle.update_client.specs.Genuine.{IsWithinLimitsAlways}
use Rattle.update_client.specs.Held.{Held}
use Rattle.update_client.specs.declared.options.FetchOptions.{FetchOptions}
use Rattle.both_ends_laws.specs.Versions.{HasNoLimits}
use Rattle.both_ends_laws.proofs.Declared.{all_kept, update_of, updates_for}
use Rattle.both_ends_laws.proofs.Steps.{IsTo}

-- ---- versions that are found

found_in_range : (test : ℕ → Bool) (start count : ℕ) → IfSome (find test (range_with_len start count)) (λ n. n < start + count)
found_in_range test start zero = tt
found_in_range test start (suc count) = go (test start) (found_in_range test (start + 1) count)
  where
    later : (found : Option ℕ) → IfSome found (λ n. n < (start + 1) + count) → IfSome found (λ n. n < start + suc count)
    later None h = tt
    later (Some n) h = omega (arith, h)

    go : (here : Bool) → IfSome (find test (range_with_len (start + 1) count)) (λ n. n < (start + 1) + count) → IfSome (if here then Some start else find test (range_with_len (start + 1) count)) (λ n. n < start + suc count)
    go true h = omega arith
    go false h = later (find test (range_with_len (start + 1) count)) h

pub named_within : (history : History) (token_at : Naming) (list : ListName) (state : List ℕ) → IfSome (version_named history token_at list state) (λ n. n ≤ version_count history)
named_within history token_at list state = go (version_named history token_at list state) (found_in_range (λ version. bytes_eq (token_at list version) state) 0 (version_count history + 1))
  where
    go : (found : Option ℕ) → IfSome found (λ n. n < 0 + (version_count history + 1)) → IfSome found (λ n. n ≤ version_count history)
    go None h = tt
    go (Some n) h = omega (arith, h)

-- ---- the newest version can be reached

or_true : (a b : Bool) → b ≡ true → (a || b) ≡ true
or_true true b h = refl
or_true false b h = h

and_true : (a b : Bool) → a ≡ true → b ≡ true → (a && b) ≡ true
and_true true b h k = k
and_true false b h k = h

within_database : (limit count : ℕ) → (limit ≡ 0) ⊎ (1048576 ≤ limit) → count ≤ 1048576 → is_within limit count ≡ true
within_database limit count (inl none) few = rw none refl
within_database limit count (inr much) few = or_true (limit == 0) (nat_le count limit) (grind (arith, much, few))

reaches_newest : (history : History) (list : ListName) (held : Option ℕ) (max_update max_database : ℕ) → max_update ≡ 0 → (max_database ≡ 0) ⊎ (1048576 ≤ max_database)
    → IfSome held (λ n. n ≤ version_count history) → length (prefixes_at history list (version_count history)) ≤ 1048576
    → can_reach history list held max_update max_database (version_count history) ≡ true
reaches_newest history list None max_update max_database update database within few =
    rw update (within_database max_database (length (prefixes_at history list (version_count history))) database few)
reaches_newest history list (Some held) max_update max_database update database within few =
    let later : nat_le held (version_count history) ≡ true = grind (arith, within) in
    let fits = within_database max_database (length (prefixes_at history list (version_count history))) database few in
    rw update (or_true (version_count history == held) _ (and_true (nat_le held (version_count history) && true) _ (and_true (nat_le held (version_count history)) true later refl) fits))

pub count_up_to : (history : History) (version : ℕ) → version ≤ version_count history → version_count (up_to_version version history) ≡ version
count_up_to history version within = omega (arith, length-take version history.changes, within)

newest_few : (history : History) (list : ListName) (version : ℕ) → IsWithinLimitsAlways history → IsTrue (declares history list) → version ≤ version_count history
    → length (prefixes_at (up_to_version version history) list (version_count (up_to_version version history))) ≤ 1048576
newest_few history list version limits declared within =
    let few : length (prefixes_at history list version) ≤ 1048576 = limits.few list version declared within in
    let count = count_up_to history version within in
    subst (λ (n : ℕ). length (prefixes_at (up_to_version version history) list n) ≤ 1048576) (sym count) (same (take_all version (take version history.changes) (omega (arith, count))) few)
  where
    same : take version (take version history.changes) ≡ take version history.changes → length (prefixes_at history list version) ≤ 1048576 → length (prefixes_at (up_to_version version history) list version) ≤ 1048576
    same e few = rw e few

-- the target is the greatest that can be reached, and no later than the newest
abbrev pub TargetsAreGreatest : Type 0
TargetsAreGreatest = (history : History) (list : ListName) (held : Option ℕ) (max_update max_database version : ℕ)
    → version ≤ version_count history → IsTrue (can_reach history list held max_update max_database version) → version ≤ target_version history list held max_update max_database

abbrev pub TargetsAreVersions : Type 0
TargetsAreVersions = (history : History) (list : ListName) (held : Option ℕ) (max_update max_database : ℕ)
    → target_version history list held max_update max_database ≤ version_count history

new_state_of : (history : History) (token_at : Naming) (asked : AskedList) (held : Option ℕ) (version : ℕ) → (update_to history token_at asked held version).new_state ≡ token_at asked.name version
new_state_of history token_at asked (Some held) version = refl
new_state_of history token_at asked None version = refl

name_of : (history : History) (token_at : Naming) (asked : AskedList) (held : Option ℕ) (version : ℕ) → (update_to history token_at asked held version).name ≡ asked.name
name_of history token_at asked (Some held) version = refl
name_of history token_at asked None version = refl

module _ (greatest : TargetsAreGreatest) (last : TargetsAreVersions) (history : History) (token_at : Naming) (options : FetchOptions) (limits : HasNoLimits options)
    (always : IsWithinLimitsAlways history) (version : ℕ) (within : version ≤ version_count history)
  where
    answered : History
    answered = up_to_version version history

    update_is_to : (held : Held) → IsTrue (declares history held.name) → IsTo token_at version (update_for (up_to_version version history) token_at (asked_list options held))
    update_is_to held declared =
        let asked = asked_list options held in
        let found = version_named (up_to_version version history) token_at held.name asked.state in
        let count = count_up_to history version within in
        let reach = reaches_newest (up_to_version version history) held.name found options.max_update options.max_database limits.update limits.database
        (named_within (up_to_version version history) token_at held.name asked.state) (newest_few history held.name version always declared within) in
        let target = target_version (up_to_version version history) held.name found options.max_update options.max_database in
        let low = greatest (up_to_version version history) held.name found options.max_update options.max_database (version_count (up_to_version version history)) (omega arith) reach in
        let high = last (up_to_version version history) held.name found options.max_update options.max_database in
        let is : target ≡ version = omega (arith, count, low, high) in
        new_state_of (up_to_version version history) token_at asked found target
        ∙ ap (λ (n : ℕ). token_at held.name n) is
        ∙ ap (λ name. token_at name version) (sym (name_of (up_to_version version history) token_at asked found target))

    pub updates_are_to : (lists : List Held) → All (IsTo token_at version) (updates_for history token_at options version lists)
    updates_are_to lists =
        all_kept (IsTo token_at version) (update_of history token_at options version) (λ (held : Held). declares history held.name) update_is_to lists
