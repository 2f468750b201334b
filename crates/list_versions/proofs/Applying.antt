-- Lists to which a change is applied.
use Rattle.std.proofs.Common.{◌≡◌, ℕ, suc, zero, ◌+◌, ◌^◌, ◌<◌, ◌≤◌, List, [], ◌∷◌, Bool, true, false, cond, length, get_or, set, refl, sym, ap, ◌∙◌, subst, arith, fold, Option, below_more, get_or-set_other, get_or-set_same, ◌≢◌, drop, add-one, Some, inl, inr}
use Rattle.std.specs.Prelude.{All, find}
use Rattle.std.proofs.Math.Seq.{drop-cons}
use Rattle.std.proofs.lemmas.Bool.{cases_lt}
use Rattle.sb_model.specs.declared.history.Added.{Added}
use Rattle.sb_model.specs.declared.history.Change.{Change}
use Rattle.sb_model.specs.declared.names.ListName.{ListName}
use Rattle.sb_model.specs.History.{after_change, with_added, without_hash}
use Rattle.sb_model.specs.Names.{same_name}
use Rattle.list_versions.specs.Draft.{declared_of}
use Rattle.list_versions.specs.Limits.{IsUncrowded, limit_fault_at}
use Rattle.list_versions.specs.Live.{Holds}
use Rattle.list_versions.specs.declared.draft.Listed.{Listed}
use Rattle.list_versions.specs.declared.fault.JournalFault.{JournalFault}
use Rattle.list_versions.proofs.NameCodes.{name_is_same}

pub declared_set : (lists : List Listed) (i : ℕ) (v d : Listed) → i < length lists → v.name ≡ (get_or lists i d).name → v.size ≡ (get_or lists i d).size → declared_of (set lists i v) ≡ declared_of lists
declared_set [] i v d h n s = absurd (omega arith)
declared_set (x ∷ xs) zero v d h n s = λ k. (n k, s k) ∷ declared_of xs
declared_set (x ∷ xs) (suc i) v d h n s = ap (λ ls. (x.name, x.size) ∷ ls) (declared_set xs i v d (omega arith) n s)

pub length_set : (lists : List Listed) (i : ℕ) (v : Listed) → length (set lists i v) ≡ length lists
length_set [] i v = refl
length_set (x ∷ xs) zero v = refl
length_set (x ∷ xs) (suc i) v = omega (arith, length_set xs i v)

same_item : (lists : List Listed) (i : ℕ) (d e : Listed) → i < length lists → get_or lists i d ≡ get_or lists i e
same_item [] i d e h = absurd (omega arith)
same_item (x ∷ xs) zero d e h = refl
same_item (x ∷ xs) (suc i) d e h = same_item xs i d e (omega arith)

-- a list that a change is applied to
abbrev pub IsApplied : Change → (ListName → List Added) → Listed → Type 0
IsApplied change sizes list = Holds list.live (after_change list.name (sizes list.name) change)

pub applied_more : (change : Change) (sizes : ListName → List Added) (lists first : List Listed) (i : ℕ) (v d : Listed) → i < length lists → i < length first
    → ((k : ℕ) (e : Listed) → i ≤ k → get_or lists k e ≡ get_or first k e) → v.name ≡ (get_or lists i d).name
    → ((entries : List Added) → length entries < 2 ^ 32 → length change.adds < 2 ^ 32 → Holds (get_or lists i d).live entries → Holds v.live (after_change (get_or lists i d).name entries change))
    → ((name : ListName) → length (sizes name) < 2 ^ 32) → length change.adds < 2 ^ 32 → All (λ (list : Listed). Holds list.live (sizes list.name)) first
    → ((k : ℕ) (e : Listed) → k < i → IsApplied change sizes (get_or lists k e))
    → (k : ℕ) (e : Listed) → k < i + 1 → IsApplied change sizes (get_or (set lists i v) k e)
applied_more change sizes lists first i v d lt lt' same name ok small few all before k e =
    below_more (λ (j : ℕ). IsApplied change sizes (get_or (set lists i v) j e)) i
    (λ j h. let ne : j ≢ i = omega arith in rw get_or-set_other (before j e h))
    (rw get_or-set_same (
    let held : Holds (get_or first i d).live (sizes (get_or first i d).name) = all i d lt' in
    let held' : Holds (get_or lists i d).live (sizes (get_or lists i d).name) = subst (λ (list : Listed). Holds list.live (sizes list.name)) (sym (same i d (omega arith))) held in
    let P : ListName → Type 0 = λ n. Holds v.live (after_change n (sizes n) change) in
    subst P (sym name) (ok (sizes (get_or lists i d).name) (small (get_or lists i d).name) few held')))
    k

-- what holds of the lists that were written, and of one more
pub below_set : (P : Listed → Listed → Type 0) (lists first : List Listed) (i : ℕ) (v d : Listed) → i < length lists → ((k : ℕ) (e : Listed) → i ≤ k → get_or lists k e ≡ get_or first k e)
    → P (get_or lists i d) v → ((k : ℕ) (e : Listed) → k < i → P (get_or first k e) (get_or lists k e))
    → (k : ℕ) (e : Listed) → k < i + 1 → P (get_or first k e) (get_or (set lists i v) k e)
below_set P lists first i v d lt same now before k e =
    below_more (λ (j : ℕ). P (get_or first j e) (get_or (set lists i v) j e)) i
    (λ j h. let ne : j ≢ i = omega arith in rw get_or-set_other (before j e h))
    (rw get_or-set_same (subst (λ (l : Listed). P l v) (same_item lists i d e lt ∙ same i e (omega arith)) now))
    k

-- the same where the others are as they were
pub around_set : (P : Listed → Listed → Type 0) (lists first : List Listed) (i : ℕ) (v d : Listed) → ((l : Listed) → P l l) → i < length lists
    → ((k : ℕ) (e : Listed) → i ≤ k → get_or lists k e ≡ get_or first k e) → P (get_or lists i d) v
    → ((k : ℕ) (e : Listed) → k < i → P (get_or first k e) (get_or lists k e)) → (k : ℕ) (e : Listed) → P (get_or first k e) (get_or (set lists i v) k e)
around_set P lists first i v d own lt same now before k e = elim (cases_lt k (i + 1)) [
  | inl below ↦ below_set P lists first i v d lt same now before k e below
  | inr above ↦ (let ne : k ≢ i = omega arith in rw get_or-set_other (subst (λ (l : Listed). P (get_or first k e) l) (sym (same k e (omega (arith, above)))) (own (get_or first k e))))
]

cond_true : (b : Bool) (x y : List Added) → b ≡ true → cond b x y ≡ x
cond_true true x y h = refl
cond_true false x y h = absurd (cc)

-- what a change of the list itself does
pub own_change : (change : Change) (entries : List Added) → after_change change.list entries change ≡ fold with_added (fold without_hash entries change.removes) change.adds
own_change change entries = cond_true (same_name change.list change.list) _ entries (name_is_same change.list)

pub limit_found : (change : Change) (sizes : ListName → List Added) (list : Listed) (line : ℕ) (adds : List Added) (answer : Option JournalFault) → list.name ≡ change.list → adds ≡ change.adds
    → IsApplied change sizes list → IsUncrowded (sizes change.list)
    → ((before : List Added) (removes : List (List ℕ)) → IsUncrowded before → Holds list.live (fold with_added (fold without_hash before removes) adds) → answer ≡ limit_fault_at line (fold with_added (fold without_hash before removes) adds))
    → answer ≡ limit_fault_at line (after_change change.list (sizes change.list) change)
limit_found change sizes list line adds answer name is holds few limit =
    let P : ListName → Type 0 = λ n. Holds list.live (after_change n (sizes n) change) in
    let held : Holds list.live (after_change change.list (sizes change.list) change) = subst P name holds in
    let entries : fold with_added (fold without_hash (sizes change.list) change.removes) adds ≡ after_change change.list (sizes change.list) change =
    ap (λ xs. fold with_added (fold without_hash (sizes change.list) change.removes) xs) is ∙ sym (own_change change (sizes change.list)) in
    let held' : Holds list.live (fold with_added (fold without_hash (sizes change.list) change.removes) adds) = subst (λ xs. Holds list.live xs) (sym entries) held in
    limit (sizes change.list) change.removes few held' ∙ ap (limit_fault_at line) entries

-- ---- declared lists

drop_listed : (lists : List Listed) (i : ℕ) (d : Listed) → i < length lists → declared_of (drop i lists) ≡ ((get_or lists i d).name, (get_or lists i d).size) ∷ declared_of (drop (i + 1) lists)
drop_listed lists i d h = ap declared_of (drop_at lists i d h)
  where
    drop_at : (lists : List Listed) (i : ℕ) (d : Listed) → i < length lists → drop i lists ≡ get_or lists i d ∷ drop (i + 1) lists
    drop_at lists i d h = rw (add-one, drop-cons lists i d h) refl

abbrev pub is_named : ListName → ListName × ℕ → Bool
is_named name list = same_name list.0 name

pub find_here : (lists : List Listed) (i : ℕ) (item : Listed) (name : ListName) (b : Bool) → i < length lists → item ≡ get_or lists i item → same_name item.name name ≡ b
    → find (is_named name) (declared_of (drop i lists)) ≡ cond b (Some (item.name, item.size)) (find (is_named name) (declared_of (drop (i + 1) lists)))
find_here lists i item name b h is e =
    let item_is : (get_or lists i item).name ≡ item.name = ap (λ (l : Listed). l.name) (sym is) in
    let cons = drop_listed lists i item h in
    let pair : declared_of (drop i lists) ≡ (item.name, item.size) ∷ declared_of (drop (i + 1) lists) = cons ∙ ap (λ (l : Listed). (l.name, l.size) ∷ declared_of (drop (i + 1) lists)) (sym is) in
    ap (find (is_named name)) pair ∙ ap (λ (t : Bool). cond t (Some (item.name, item.size)) (find (is_named name) (declared_of (drop (i + 1) lists)))) e
