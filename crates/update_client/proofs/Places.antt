-- Held lists with their changes, at the place of a name.
use Rattle.std.proofs.Common.{◌≡◌, ℕ, zero, suc, ◌<◌, ◌≤◌, ◌≢◌, List, [], ◌∷◌, ◌++◌, Bool, true, false, cond, length, map, get_or, refl, sym, ap, ◌∙◌, arith, Option, Some, None, ◌⊎◌, inl, inr, ⊎_elim}
use Rattle.std.specs.Prelude.{nat_lt, position}
use Rattle.std.specs.List.{position_or_len}
use Rattle.std.proofs.lemmas.Bool.{ltb-true, ltb-false}
use Rattle.std.proofs.lemmas.List.{length-map, get_or-map}
use Rattle.std.proofs.lemmas.List.Sums.{fails_before_first}
use Rattle.std.proofs.lemmas.List.Quantifiers.{position-Some}
use Rattle.std.proofs.Math.ListN.{set}
use Rattle.std.specs.declared.cmp.Ordering.TheVariants.{Less}
use Rattle.std.specs.List.Sorted.{IsStrictlySortedBy}
use Rattle.std.proofs.lemmas.Map.Keys.{Less-from_sorted}
use Rattle.sb_model.specs.Names.{same_name, name_cmp}
use Rattle.sb_model.specs.declared.names.ListName.{ListName}
use Rattle.update_messages.specs.Messages.{UpdatedList}
use Rattle.update_client.specs.Held.{Held}
use Rattle.update_client.specs.Step.{list_step, held_after, first_fault, after_update, after_updates, list_named, result_of, result_at, result_among}
use Rattle.update_client.specs.declared.fault.UpdateFault.{UpdateFault}
use Rattle.update_client.specs.declared.pending.Fresh.{Fresh}
use Rattle.update_client.specs.declared.pending.Change.{Change}
use Rattle.update_client.specs.Applying.{no_change, with_fresh, changed, all_changed}
use Rattle.update_client.proofs.NameOrder.{apart}

-- a change keeps the name
pub name-changed : (held : Held) (change : Change) → (changed held change).name ≡ held.name
name-changed held change = go change.fresh
  where
    go : (fresh : Option Fresh) → (with_fresh held fresh).name ≡ held.name
    go None = refl
    go (Some fresh) = refl

-- no list from here on has the name
abbrev pub NoneNamed : ListName → List Held → Type 0
NoneNamed name lists = (k : ℕ) (d : Held) → k < length lists → same_name (get_or lists k d).name name ≡ false

-- no list but that at a place has the name
abbrev pub NoOtherNamed : ListName → List Held → ℕ → Type 0
NoOtherNamed name lists i = (k : ℕ) (d : Held) → k < length lists → k ≢ i → same_name (get_or lists k d).name name ≡ false

NoneNamed-tail : (name : ListName) (held : Held) (lists : List Held) → NoneNamed name (held ∷ lists) → NoneNamed name lists
NoneNamed-tail name held lists h k d below = h (suc k) d (omega (arith, below))

NoOther-tail : (name : ListName) (held : Held) (lists : List Held) → NoOtherNamed name (held ∷ lists) zero → NoneNamed name lists
NoOther-tail name held lists h k d below = h (suc k) d (omega (arith, below)) (omega arith)

NoOther-next : (name : ListName) (held : Held) (lists : List Held) (i : ℕ) → NoOtherNamed name (held ∷ lists) (suc i) → NoOtherNamed name lists i
NoOther-next name held lists i h k d below other = h (suc k) d (omega (arith, below)) (omega (arith, other))

-- ---- what a search for the name tells

pub none_named : (name : ListName) (lists : List Held) → position (λ (held : Held). same_name held.name name) lists ≡ None → NoneNamed name lists
none_named name lists none k d below = fails_before_first (λ (held : Held). same_name held.name name) lists k d (omega (arith, past (nat_lt found (length lists)) refl none))
  where
    found : ℕ
    found = position_or_len (λ (held : Held). same_name held.name name) lists

    past : (b : Bool) → nat_lt found (length lists) ≡ b → cond b (Some found) None ≡ None → length lists ≤ found
    past true is h = absurd (cc)
    past false is h = ltb-false _ _ is

apart_ways : (k i : ℕ) → k ≢ i → (k < i) ⊎ (i < k)
apart_ways k i h = ways (nat_lt k i) refl
  where
    ways : (b : Bool) → nat_lt k i ≡ b → (k < i) ⊎ (i < k)
    ways true is = inl (ltb-true _ _ is)
    ways false is = inr (omega (arith, ltb-false _ _ is, h))

-- the list at the place that was found has the name
pub own_named : (name : ListName) (lists : List Held) (i : ℕ) (held : Held) → held ≡ get_or lists i held → position (λ (h : Held). same_name h.name name) lists ≡ Some i
    → same_name held.name name ≡ true
own_named name lists i held is found =
    ap (λ (h : Held). same_name h.name name) is ∙ (position-Some (λ (h : Held). same_name h.name name) lists i held found).1

-- and no other one, since names rise
pub no_other_named : (name : ListName) (lists : List Held) (i : ℕ) (held : Held) → held ≡ get_or lists i held → IsStrictlySortedBy name_cmp (map (λ (h : Held). h.name) lists)
    → position (λ (h : Held). same_name h.name name) lists ≡ Some i → NoOtherNamed name lists i
no_other_named name lists i held is rising found k d below other =
    ⊎_elim
    (λ (before : k < i). (position-Some (λ (h : Held). same_name h.name name) lists i d found).2 k before)
    (λ (after : i < k).
    let within : i < length lists = (position-Some (λ (h : Held). same_name h.name name) lists i held found).0 in
    let count : length (map (λ (h : Held). h.name) lists) ≡ length lists = length-map lists (λ (h : Held). h.name) in
    let ordered = Less-from_sorted name_cmp (map (λ (h : Held). h.name) lists) i k held.name rising after (omega (arith, count, below)) in
    let first : get_or (map (λ (h : Held). h.name) lists) i held.name ≡ held.name = get_or-map (λ (h : Held). h.name) lists i held held.name within ∙ sym (ap (λ (h : Held). h.name) is) in
    let second : get_or (map (λ (h : Held). h.name) lists) k held.name ≡ (get_or lists k d).name = get_or-map (λ (h : Held). h.name) lists k d held.name below in
    let before : name_cmp held.name (get_or lists k d).name ≡ Less = sym (ap (λ n. name_cmp n (get_or lists k d).name) first) ∙ sym (ap (λ n. name_cmp (get_or (map (λ (h : Held). h.name) lists) i held.name) n) second) ∙ ordered in
    apart held.name (get_or lists k d).name name _ (own_named name lists i held is found) before refl)
    (apart_ways k i other)

-- ---- no list has the name

other_kept : (update : UpdatedList) (held : Held) (change : Change) → same_name held.name update.name ≡ false
    → cond (same_name (changed held change).name update.name) (list_step (changed held change) update) (changed held change) ≡ changed held change
other_kept update held change other =
    ap (λ b. cond b (list_step (changed held change) update) (changed held change)) (ap (λ name. same_name name update.name) (name-changed held change) ∙ other)

pub kept_without : (update : UpdatedList) (lists : List Held) (changes : List Change) → length changes ≡ length lists → NoneNamed update.name lists
    → after_update (all_changed lists changes) update ≡ all_changed lists changes
kept_without update [] changes each none = refl
kept_without update (held ∷ lists) [] each none = absurd (omega (arith, each))
kept_without update (held ∷ lists) (change ∷ changes) each none =
    ap (λ first. first ∷ after_update (all_changed lists changes) update) (other_kept update held change (none zero held (omega arith)))
    ∙ ap (λ rest. changed held change ∷ rest) (kept_without update lists changes (omega (arith, each)) (NoneNamed-tail update.name held lists none))

other_passed : (name : ListName) (held : Held) (change : Change) (later : Option Held) → same_name held.name name ≡ false
    → cond (same_name (changed held change).name name) (Some (changed held change)) later ≡ later
other_passed name held change later other =
    ap (λ b. cond b (Some (changed held change)) later) (ap (λ own. same_name own name) (name-changed held change) ∙ other)

pub found_nowhere : (name : ListName) (lists : List Held) (changes : List Change) → length changes ≡ length lists → NoneNamed name lists
    → list_named name (all_changed lists changes) ≡ None
found_nowhere name [] changes each none = refl
found_nowhere name (held ∷ lists) [] each none = absurd (omega (arith, each))
found_nowhere name (held ∷ lists) (change ∷ changes) each none =
    other_passed name held change (list_named name (all_changed lists changes)) (none zero held (omega arith))
    ∙ found_nowhere name lists changes (omega (arith, each)) (NoneNamed-tail name held lists none)

-- ---- the list at a place has the name

own_stepped : (update : UpdatedList) (held : Held) (change new : Change) → same_name held.name update.name ≡ true → changed held new ≡ list_step (changed held change) update
    → changed held new ≡ cond (same_name (changed held change).name update.name) (list_step (changed held change) update) (changed held change)
own_stepped update held change new own step =
    step ∙ sym (ap (λ b. cond b (list_step (changed held change) update) (changed held change)) (ap (λ name. same_name name update.name) (name-changed held change) ∙ own))

pub stepped_at : (update : UpdatedList) (lists : List Held) (changes : List Change) (i : ℕ) (held : Held) (change new : Change) → length changes ≡ length lists → i < length lists
    → held ≡ get_or lists i held → change ≡ get_or changes i change → NoOtherNamed update.name lists i → same_name held.name update.name ≡ true
    → changed held new ≡ list_step (changed held change) update
    → all_changed lists (set changes i new) ≡ after_update (all_changed lists changes) update
stepped_at update [] changes i held change new each below is was others own step = absurd (omega (arith, below))
stepped_at update (first ∷ lists) [] i held change new each below is was others own step = absurd (omega (arith, each))
stepped_at update (first ∷ lists) (front ∷ changes) zero held change new each below is was others own step =
    ap (λ (h : Held). changed h new ∷ all_changed lists changes) (sym is)
    ∙ ap (λ (h : Held). h ∷ all_changed lists changes) (own_stepped update held change new own step)
    ∙ ap (λ (h : Held). cond (same_name (changed h change).name update.name) (list_step (changed h change) update) (changed h change) ∷ all_changed lists changes) is
    ∙ ap (λ (c : Change). cond (same_name (changed first c).name update.name) (list_step (changed first c) update) (changed first c) ∷ all_changed lists changes) was
    ∙ sym (
    ap (λ rest. cond (same_name (changed first front).name update.name) (list_step (changed first front) update) (changed first front) ∷ rest)
    (kept_without update lists changes (omega (arith, each)) (NoOther-tail update.name first lists others))
    )
stepped_at update (first ∷ lists) (front ∷ changes) (suc i) held change new each below is was others own step =
    sym (ap (λ (h : Held). h ∷ all_changed lists (set changes i new)) (other_kept update first front (others zero first (omega arith) (omega arith))))
    ∙ ap (λ rest. cond (same_name (changed first front).name update.name) (list_step (changed first front) update) (changed first front) ∷ rest)
    (stepped_at update lists changes i held change new (omega (arith, each)) (omega (arith, below)) is was (NoOther-next update.name first lists i others) own step)

pub found_at : (name : ListName) (lists : List Held) (changes : List Change) (i : ℕ) (held : Held) (change : Change) → length changes ≡ length lists → i < length lists
    → held ≡ get_or lists i held → change ≡ get_or changes i change → NoOtherNamed name lists i → same_name held.name name ≡ true
    → list_named name (all_changed lists changes) ≡ Some (changed held change)
found_at name [] changes i held change each below is was others own = absurd (omega (arith, below))
found_at name (first ∷ lists) [] i held change each below is was others own = absurd (omega (arith, each))
found_at name (first ∷ lists) (front ∷ changes) zero held change each below is was others own =
    let same : same_name (changed first front).name name ≡ true = ap (λ (n : ListName). same_name n name) (name-changed first front) ∙ sym (ap (λ (h : Held). same_name h.name name) is) ∙ own in
    ap (λ b. cond b (Some (changed first front)) (list_named name (all_changed lists changes))) same
    ∙ sym (ap (λ (h : Held). Some (changed h front)) is)
    ∙ sym (ap (λ (c : Change). Some (changed held c)) was)
found_at name (first ∷ lists) (front ∷ changes) (suc i) held change each below is was others own =
    other_passed name first front (list_named name (all_changed lists changes)) (others zero first (omega arith) (omega arith))
    ∙ found_at name lists changes i held change (omega (arith, each)) (omega (arith, below)) is was (NoOther-next name first lists i others) own

-- ---- a step at the place that was found

pub place_taken : (update : UpdatedList) (lists : List Held) (changes : List Change) (i : ℕ) (held : Held) (change new : Change) → length changes ≡ length lists
    → IsStrictlySortedBy name_cmp (map (λ (h : Held). h.name) lists) → held ≡ get_or lists i held → change ≡ get_or changes i change
    → position (λ (h : Held). same_name h.name update.name) lists ≡ Some i → changed held new ≡ list_step (changed held (get_or changes i change)) update
    → all_changed lists (set changes i new) ≡ after_update (all_changed lists changes) update
place_taken update lists changes i held change new each rising is was found step =
    stepped_at update lists changes i held change new each (position-Some (λ (h : Held). same_name h.name update.name) lists i held found).0 is was
    (no_other_named update.name lists i held is rising found) (own_named update.name lists i held is found)
    (step ∙ sym (ap (λ (c : Change). list_step (changed held c) update) was))

pub place_told : (update : UpdatedList) (lists : List Held) (changes : List Change) (i : ℕ) (held : Held) (change : Change) → length changes ≡ length lists
    → IsStrictlySortedBy name_cmp (map (λ (h : Held). h.name) lists) → held ≡ get_or lists i held → change ≡ get_or changes i change
    → position (λ (h : Held). same_name h.name update.name) lists ≡ Some i → result_of (changed held (get_or changes i change)) update ≡ result_among (all_changed lists changes) update
place_told update lists changes i held change each rising is was found =
    sym (ap (λ (c : Change). result_of (changed held c) update) was)
    ∙ sym (
    ap (result_at update)
    (found_at update.name lists changes i held change each (position-Some (λ (h : Held). same_name h.name update.name) lists i held found).0 is was
    (no_other_named update.name lists i held is rising found) (own_named update.name lists i held is found))
    )

-- ---- putting changes in place

pub changed_last : (lists : List Held) (changes : List Change) (place : ℕ) (change : Change) (held new : Held) → place ≡ length changes → length changes < length lists
    → held ≡ get_or lists place held → new ≡ changed held change → all_changed (set lists place new) changes ≡ all_changed lists (changes ++ change ∷ [])
changed_last lists changes place change held new at below is made =
    ap (λ (h : Held). all_changed (set lists place h) changes) made
    ∙ ap (λ i. all_changed (set lists i (changed held change)) changes) at
    ∙ go lists changes below (is ∙ ap (λ i. get_or lists i held) at)
  where
    go : (lists : List Held) (changes : List Change) → length changes < length lists → held ≡ get_or lists (length changes) held
        → all_changed (set lists (length changes) (changed held change)) changes ≡ all_changed lists (changes ++ change ∷ [])
    go [] changes below is = absurd (omega (arith, below))
    go (first ∷ []) [] below is = ap (λ (h : Held). changed h change ∷ []) is
    go (first ∷ second ∷ lists) [] below is = ap (λ (h : Held). changed h change ∷ second ∷ lists) is
    go (first ∷ lists) (front ∷ changes) below is = ap (λ rest. changed first front ∷ rest) (go lists changes (omega (arith, below)) is)

pub changed_nothing : (lists : List Held) → all_changed lists (map no_change lists) ≡ lists
changed_nothing [] = refl
changed_nothing (held ∷ lists) = ap (λ rest. held ∷ rest) (changed_nothing lists)

pub changed_none : (lists : List Held) (changes : List Change) → changes ≡ [] → all_changed lists changes ≡ lists
changed_none [] changes none = refl
changed_none (held ∷ lists) changes none = ap (λ cs. all_changed (held ∷ lists) cs) none

-- ---- names stay

name-stepped : (held : Held) (update : UpdatedList) → (list_step held update).name ≡ held.name
name-stepped held update = go (first_fault held update)
  where
    go : (fault : Option UpdateFault) → (held_after held update fault).name ≡ held.name
    go None = refl
    go (Some fault) = refl

name-chosen : (b : Bool) (held : Held) (update : UpdatedList) → (let h : Held = cond b (list_step held update) held in h.name) ≡ held.name
name-chosen true held update = name-stepped held update
name-chosen false held update = refl

names-after_update : (lists : List Held) (update : UpdatedList) → map (λ (held : Held). held.name) (after_update lists update) ≡ map (λ (held : Held). held.name) lists
names-after_update [] update = refl
names-after_update (held ∷ lists) update =
    ap (λ name. name ∷ map (λ (h : Held). h.name) (after_update lists update)) (name-chosen (same_name held.name update.name) held update)
    ∙ ap (λ names. held.name ∷ names) (names-after_update lists update)

pub names-after_updates : (lists : List Held) (updates : List UpdatedList) → map (λ (held : Held). held.name) (after_updates lists updates) ≡ map (λ (held : Held). held.name) lists
names-after_updates lists [] = refl
names-after_updates lists (update ∷ updates) = names-after_updates (after_update lists update) updates ∙ names-after_update lists update
