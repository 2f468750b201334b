-- Folding the changes of a history.
use Rattle.std.proofs.Common.{◌≡◌, ◌≢◌, ℕ, zero, suc, inl, inr, ◌+◌, ◌^◌, ◌<◌, ◌≤◌, List, [], ◌∷◌, ◌++◌, length, take, get_or, refl, sym, ap, subst, ◌∙◌, arith, ◌⊎◌, Bool, true, false, not, cond, fold, nat_le, get_or-set_other, get_or-set_same}
use Rattle.std.specs.Prelude.{All, OnOk, Result, Ok, Err}
use Rattle.std.specs.Str.{bytes_eq}
use Rattle.std.proofs.Math.ListN.{set}
use Rattle.std.proofs.lemmas.Bool.{cases_lt}
use Rattle.std.proofs.lemmas.Bool.Decides.{nat_tests}
use Rattle.std.proofs.lemmas.List.{take_all, take_more, take-take, length-map, length-take}
use Rattle.std.proofs.lemmas.List.Elements.{All-weaker, All-cons, All-nil, All-head, All-tail, All-push, All-filter, All-take}
use Rattle.std.proofs.lemmas.List.Sums.{sum_by-append}
use borrow.Author.Count.{below_more}
use Rattle.sb_model.specs.declared.history.Added.{Added}
use Rattle.sb_model.specs.declared.history.Change.{Change}
use Rattle.sb_model.specs.declared.names.ListName.{ListName}
use Rattle.sb_model.specs.History.{History, declares, sizes_at, after_change, with_added, without_hash, IsPrefixSize, IsWellFormed}
use Rattle.sb_model.specs.Names.{same_name}
use Rattle.list_versions.specs.declared.draft.Draft.{Draft}
use Rattle.list_versions.specs.declared.draft.Listed.{Listed}
use Rattle.list_versions.specs.Draft.{declared_of, history_of, IsDraft}
use Rattle.list_versions.specs.Folding.{after_changes, IsFoldable, StaysSmall}
use Rattle.list_versions.specs.Limits.{hash_lines, WithinLimits}
use Rattle.list_versions.specs.Live.{Holds, HasPlaced, HasRead, IsPlaced, IsPublishable}
use Rattle.list_versions.specs.declared.live.Live.{Live}
use Rattle.list_versions.specs.Loaded.{IsStem}
use Rattle.list_versions.specs.Draft.{lines_after}
use Rattle.list_versions.specs.Ends.{Line}
use Rattle.list_versions.proofs.Holding.{publishable}
use Rattle.list_versions.proofs.Keeping.{adds_few}
use Rattle.list_versions.proofs.Versions.{adds_front, ends_after, ends_nothing, lines_long, one_more}

few_adds : (changes : List Change) → All (λ (c : Change). length c.adds ≤ hash_lines changes) changes
few_adds [] = All-nil (λ (c : Change). length c.adds ≤ 0)
few_adds (change ∷ changes) =
    let sum : hash_lines (change ∷ changes) ≡ (0 + (length change.adds + length change.removes)) + hash_lines changes = sum_by-append (λ (c : Change). length c.adds + length c.removes) (change ∷ []) changes in
    let here : length change.adds ≤ hash_lines (change ∷ changes) = omega (arith, sum) in
    All-cons (λ (c : Change). length c.adds ≤ hash_lines (change ∷ changes)) change changes here
    (All-weaker (λ (c : Change). length c.adds ≤ hash_lines changes) (λ (c : Change). length c.adds ≤ hash_lines (change ∷ changes)) (λ c h. omega (arith, sum, h)) changes (few_adds changes))

foldable_one : (n : ℕ) (c : Change) → n ≤ 2097152 → All (λ (added : Added). (length added.hash ≡ 32) × IsPrefixSize added.size) c.adds → length c.adds ≤ n → IsFoldable c
foldable_one n c few sizes count = record {
  sizes = All-weaker (λ (added : Added). (length added.hash ≡ 32) × IsPrefixSize added.size) (λ (added : Added). 4 ≤ added.size) (λ added h. h.1.low) c.adds sizes;
  few = omega arith;
}

pub foldable : (draft : Draft) → IsStem draft → All IsFoldable draft.changes.items
foldable draft h = λ i d lt.
    foldable_one (hash_lines draft.changes.items) (get_or draft.changes.items i d) (omega (arith, h.hashes, h.few_hashes)) (h.well_formed.adds i d lt) (few_adds draft.changes.items i d lt)

small_at : (draft : Draft) (list : ListName) (version k : ℕ) (b : Bool) → nat_le k version ≡ b → IsStem draft → version ≤ length draft.changes.items → length (after_changes list (take k (take version draft.changes.items))) < 2 ^ 32
small_at draft list version k true e h fits =
    let below : k ≤ version = grind (arith, nat_tests) in
    let w = (h.within list k (omega arith)).count in
    let same = ap (λ cs. length (after_changes list cs)) (take-take k version draft.changes.items below) in
    omega arith
small_at draft list version k false e h fits =
    let above : version ≤ k = grind (arith, nat_tests) in
    let w = (h.within list version fits).count in
    let same = ap (λ cs. length (after_changes list cs)) (take_all k (take version draft.changes.items) (omega (arith, length-take version draft.changes.items))) in
    omega arith

pub stays_small : (draft : Draft) (list : ListName) (version : ℕ) → IsStem draft → version ≤ length draft.changes.items → StaysSmall list (take version draft.changes.items)
stays_small draft list version h fits = record { small = λ k. small_at draft list version k (nat_le k version) refl h fits }

pub all_stay_small : (draft : Draft) (list : ListName) → IsStem draft → StaysSmall list draft.changes.items
all_stay_small draft list h =
    subst (StaysSmall list) (take_all (length draft.changes.items) draft.changes.items (omega arith)) (stays_small draft list (length draft.changes.items) h (omega arith))

-- the tables of a list that are made anew
abbrev pub IsRefreshed : List Change → Listed → Type 0
IsRefreshed changes list = Holds list.live (after_changes list.name changes)

pub refreshed_more : (changes : List Change) (lists : List Listed) (i : ℕ) (v d : Listed) → i < length lists → v.name ≡ (get_or lists i d).name → Holds v.live (after_changes (get_or lists i d).name changes)
    → ((k : ℕ) (e : Listed) → k < i → IsRefreshed changes (get_or lists k e)) → (k : ℕ) (e : Listed) → k < i + 1 → IsRefreshed changes (get_or (set lists i v) k e)
refreshed_more changes lists i v d lt name holds before k e =
    below_more (λ (j : ℕ). IsRefreshed changes (get_or (set lists i v) j e)) i
    (λ j h. let ne : j ≢ i = omega arith in rw get_or-set_other (before j e h))
    (rw get_or-set_same (let P : ListName → Type 0 = λ n. Holds v.live (after_changes n changes) in subst P (sym name) holds))
    k

-- one change after the other
next_change : (changes : List Change) (i : ℕ) (item : Change) → i < length changes → item ≡ get_or changes i item → take (i + 1) changes ≡ take i changes ++ item ∷ []
next_change changes i item lt is = take_more changes i item lt ∙ ap (λ (c : Change). take i changes ++ c ∷ []) (sym is)

pub held_next : (list : ListName) (changes : List Change) (i : ℕ) (item : Change) (live : Live) → i < length changes → item ≡ get_or changes i item
    → Holds live (after_change list (after_changes list (take i changes)) item) → Holds live (after_changes list (take (i + 1) changes))
held_next list changes i item live lt is h =
    subst (λ es. Holds live es) (sym (ap (after_changes list) (next_change changes i item lt is) ∙ one_more list (take i changes) item)) h

pub adds_at : (changes : List Change) (i : ℕ) (item : Change) → i < length changes → item ≡ get_or changes i item → length item.adds ≤ hash_lines changes
adds_at changes i item lt is = subst (λ (c : Change). length c.adds ≤ hash_lines changes) (sym is) (few_adds changes i item lt)

pub placed_next : (list : ListName) (changes : List Change) (i : ℕ) (item : Change) (before after : Live) (version : ℕ) → i < length changes → item ≡ get_or changes i item → length changes ≤ 65536
    → hash_lines changes ≤ 2097152 → version ≡ i + 1
    → ((lines : List Line) → length lines + length item.adds < 2 ^ 32 → IsPlaced before lines → IsPlaced after (lines_after list version lines item))
    → HasPlaced list (take i changes) before → HasPlaced list (take (i + 1) changes) after
placed_next list changes i item before after version lt is few lines e applies h =
    let long : length (take i changes) ≡ i = length-take i changes ∙ omega (arith, lt) in
    let count = lines_long list (take i changes) h.lines h.are in
    let made : HasPlaced list (take i changes ++ item ∷ []) after = record {
      lines = lines_after list version h.lines item;
      are = ends_after list (take i changes) item h.lines version (omega (arith, e, long)) (omega (arith, e, lt, few)) h.are;
      placed = applies h.lines (omega (arith, count, adds_front list changes i, adds_few list changes, adds_at changes i item lt is, lines)) h.placed;
    } in
    subst (λ (cs : List Change). HasPlaced list cs after) (sym (next_change changes i item lt is)) made

pub placed_nothing : (list : ListName) (live : Live) → IsPlaced live [] → HasPlaced list [] live
placed_nothing list live placed = record {
  lines = [];
  are = ends_nothing list [] refl (λ version. ap (after_changes list) (take_all version [] (omega arith)));
  placed = placed;
}

pub both_ok : {T E : Type 0} (result : Result T E) (P Q R : Type 0) → OnOk result P → OnOk result Q → (P → Q → R) → OnOk result R
both_ok (Ok x) P Q R p q f = f p q
both_ok (Err e) P Q R p q f = tt

pub placed_more : (changes : List Change) (lists : List Listed) (i : ℕ) (v d : Listed) → i < length lists → v.name ≡ (get_or lists i d).name → HasPlaced (get_or lists i d).name changes v.live
    → ((k : ℕ) (e : Listed) → k < i → HasPlaced (get_or lists k e).name changes (get_or lists k e).live) → (k : ℕ) (e : Listed) → k < i + 1
    → HasPlaced (get_or (set lists i v) k e).name changes (get_or (set lists i v) k e).live
placed_more changes lists i v d lt name placed before k e =
    below_more (λ (j : ℕ). HasPlaced (get_or (set lists i v) j e).name changes (get_or (set lists i v) j e).live) i
    (λ j h. let ne : j ≢ i = omega arith in rw get_or-set_other (before j e h))
    (rw get_or-set_same (subst (λ (n : ListName). HasPlaced n changes v.live) (sym name) placed))
    k

pub read_placed : (name : ListName) (changes : List Change) (live : Live) → HasPlaced name changes live → HasRead name changes live
read_placed name changes live h = record { lines = h.lines; are = h.are; ends = h.placed.ends }

-- of the lists some are made anew, and the others are as they were
pub read_so_far : (changes : List Change) (lists first : List Listed) (i : ℕ) → length lists ≡ length first → ((k : ℕ) (e : Listed) → i ≤ k → get_or lists k e ≡ get_or first k e)
    → ((k : ℕ) (e : Listed) → k < i → HasPlaced (get_or lists k e).name changes (get_or lists k e).live)
    → All (λ (list : Listed). HasRead list.name changes list.live) first → All (λ (list : Listed). HasRead list.name changes list.live) lists
read_so_far changes lists first i long same placed all = λ k d lt. elim (cases_lt k i) [
  | inl below ↦ read_placed (get_or lists k d).name changes (get_or lists k d).live (placed k d below)
  | inr above ↦ subst (λ (l : Listed). HasRead l.name changes l.live) (sym (same k d above)) (all k d (omega (arith, lt, long)))
]

pub set_same : (lists : List Listed) (i : ℕ) (d : Listed) → i < length lists → set lists i (get_or lists i d) ≡ lists
set_same [] i d h = absurd (omega arith)
set_same (x ∷ xs) zero d h = refl
set_same (x ∷ xs) (suc i) d h = ap (λ ls. x ∷ ls) (set_same xs i d (omega (arith, h)))

-- a history whose tables are made anew
pub draft_refreshed : (old new : Draft) → IsStem old → declared_of new.lists.items ≡ declared_of old.lists.items → new.epoch ≡ old.epoch → new.changes ≡ old.changes → new.hashes ≡ old.hashes
    → All (IsRefreshed old.changes.items) new.lists.items → All (λ (list : Listed). HasPlaced list.name old.changes.items list.live) new.lists.items → IsDraft new
draft_refreshed old new h declared epoch changes hashes all placed =
    let items = ap (λ cs. cs.items) changes in
    let history : history_of new ≡ history_of old = λ i. record { epoch = epoch i; declared = declared i; changes = items i } in
    let whole : take (length new.changes.items) new.changes.items ≡ old.changes.items = take_all (length new.changes.items) new.changes.items (omega arith) ∙ items in
    record {
      hashes = hashes ∙ h.hashes ∙ ap hash_lines (sym items);
      few_lists = omega (arith, ap length declared, h.few_lists, length-map {B = ListName × ℕ} new.lists.items (λ (l : Listed). (l.name, l.size)), length-map {B = ListName × ℕ} old.lists.items (λ (l : Listed). (l.name, l.size)));
      few_changes = omega (arith, ap length items, h.few_changes);
      few_hashes = omega (arith, hashes, h.few_hashes);
      live = All-weaker (IsRefreshed old.changes.items) (λ (list : Listed). Holds list.live (sizes_at (history_of new) list.name (length new.changes.items)))
          (λ list k. subst (λ cs. Holds list.live (after_changes list.name cs)) (sym whole) k) new.lists.items all;
      declared = subst (λ (v : History). All (λ (c : Change). declares v c.list ≡ true) v.changes) (sym history) h.declared;
      within = subst (λ (v : History). WithinLimits v) (sym history) h.within;
      well_formed = subst (λ (v : History). IsWellFormed v) (sym history) h.well_formed;
      placed = subst (λ (cs : List Change). All (λ (list : Listed). HasPlaced list.name cs list.live) new.lists.items) (sym items) placed;
    }

pub draft_stem : (draft : Draft) → IsDraft draft → IsStem draft
draft_stem draft h = record {
  hashes = h.hashes;
  few_lists = h.few_lists;
  few_changes = h.few_changes;
  few_hashes = h.few_hashes;
  declared = h.declared;
  within = h.within;
  well_formed = h.well_formed;
  read = All-weaker (λ (list : Listed). HasPlaced list.name draft.changes.items list.live) (λ (list : Listed). HasRead list.name draft.changes.items list.live)
      (λ list k. read_placed list.name draft.changes.items list.live k) draft.lists.items h.placed;
}

-- tables that are not stale are those of the history
pub fresh_draft : (draft : Draft) (stale : Bool) → stale ≡ false → (stale ≡ true) ⊎ IsDraft draft → IsDraft draft
fresh_draft draft true h k = absurd (cc)
fresh_draft draft false h (inl e) = absurd (cc)
fresh_draft draft false h (inr d) = d

-- ---- what is published of each version

abbrev IsWell : Added → Type 0
IsWell added = (length added.hash ≡ 32) × IsPrefixSize added.size

publishable_removed : (removes : List (List ℕ)) (entries : List Added) → All IsPublishable entries → All IsPublishable (fold without_hash entries removes)
publishable_removed [] entries h = h
publishable_removed (hash ∷ removes) entries h = publishable_removed removes (without_hash entries hash) (All-filter (λ (entry : Added). not (bytes_eq entry.hash hash)) IsPublishable entries h)

publishable_added : (adds entries : List Added) → All IsWell adds → All IsPublishable entries → All IsPublishable (fold with_added entries adds)
publishable_added [] entries well h = h
publishable_added (added ∷ adds) entries well h =
    let own = All-head IsWell added adds well in
    publishable_added adds (with_added entries added) (All-tail IsWell added adds well)
    (All-push IsPublishable (without_hash entries added.hash) added (All-filter (λ (entry : Added). not (bytes_eq entry.hash added.hash)) IsPublishable entries h) (publishable added own.1.low own.0))

publishable_cond : (b : Bool) (x y : List Added) → All IsPublishable x → All IsPublishable y → All IsPublishable (cond b x y)
publishable_cond true x y h k = h
publishable_cond false x y h k = k

publishable_changes : (list : ListName) (changes : List Change) (entries : List Added) → All (λ (c : Change). All IsWell c.adds) changes → All IsPublishable entries → All IsPublishable (fold (after_change list) entries changes)
publishable_changes list [] entries well h = h
publishable_changes list (change ∷ changes) entries well h =
    publishable_changes list changes (after_change list entries change) (All-tail (λ (c : Change). All IsWell c.adds) change changes well)
    (publishable_cond (same_name change.list list) _ entries
    (publishable_added change.adds (fold without_hash entries change.removes) (All-head (λ (c : Change). All IsWell c.adds) change changes well) (publishable_removed change.removes entries h)) h)

pub publishable_at : (draft : Draft) (list : ListName) (version : ℕ) → IsStem draft → All IsPublishable (sizes_at (history_of draft) list version)
publishable_at draft list version h =
    publishable_changes list (take version draft.changes.items) [] (All-take (λ (c : Change). All IsWell c.adds) version draft.changes.items h.well_formed.adds) (All-nil IsPublishable)
