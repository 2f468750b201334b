-- Maps from full hashes to sizes, and the full hashes that they stand for.
use Rattle.std.proofs.Common.{◌≡◌, ◌⊎◌, ℕ, List, [], ◌∷◌, map, refl, sym, ap, subst, ◌∙◌, inl, inr, arith, Bool, true, false, not, cond, Option, Some, None, fold}
use Rattle.std.specs.Prelude.{All, Contains, ◌↔◌, filter}
use Rattle.std.specs.Cmp.{eq_by_cmp_equiv}
use Rattle.std.specs.Cmp.Lexicographic.{nat_list_cmp_total}
use Rattle.std.specs.List.Sorted.{IsStrictlySortedBy}
use Rattle.std.specs.Map.{keys_of}
use Rattle.std.specs.Ordering.{is_eq, eq_by_cmp}
use Rattle.std.specs.Str.{bytes_eq}
use Rattle.std.proofs.lemmas.List.Elements.{All-contains}
use Rattle.std.proofs.lemmas.List.Kept.{IsStrictlySortedBy-filter}
use Rattle.std.proofs.lemmas.Map.Keys.{IsDistinct-from_sorted}
use Rattle.std.proofs.lemmas.Map.Lookups.{exact_bytes}
use Rattle.std.proofs.lemmas.Map.Text.{is_eq-slice_cmp}
use Rattle.std.proofs.lemmas.Map.Views.{Contains-from_lookup, lookup-from_Contains, tells_apart}
use Rattle.sb_model.specs.declared.history.Added.{Added}
use Rattle.sb_model.specs.declared.history.Change.{Change}
use Rattle.sb_model.specs.declared.names.ListName.{ListName}
use Rattle.sb_model.specs.History.{after_change, prefix_of, without_hash, with_added}
use Rattle.sb_model.specs.Names.{same_name}
use Rattle.sb_model.specs.Prefixes.{bytes_cmp, IsRising, set_of}
use Rattle.list_versions.specs.HashSizes.{HashSizes, size_of_hash, Sets, IsMapOf, shown_entry}
use Rattle.list_versions.specs.Live.{IsPublishable}
use Rattle.list_versions.proofs.Finding.{same_bytes, bytes_are_same}
use Rattle.list_versions.proofs.Membership.{In, contains_in, in_contained, in_left, in_right, in_either, in_map, from_map, in_filter, from_filter}
use Rattle.list_versions.proofs.Shown.{shown_is}

abbrev pub entry_of : List ℕ → ℕ → Added
entry_of hash size = record { hash = hash; size = size }

-- what a map says of its keys' order, by bytes
pub Sets-from_update : (before after : HashSizes) (hash : List ℕ) (size : Option ℕ)
    → ((other : List ℕ) → size_of_hash after other ≡ cond (is_eq (bytes_cmp hash other)) size (size_of_hash before other)) → Sets before after hash size
Sets-from_update before after hash size h other = h other ∙ ap (λ b. cond b size (size_of_hash before other)) (is_eq-slice_cmp hash other)

apart : (a b : List ℕ) (c : Bool) → bytes_eq b a ≡ c → bytes_eq a b ≡ false → c ≡ false
apart a b true e h = let same = ap (λ x. bytes_eq a x) (same_bytes b a e) ∙ bytes_are_same a in absurd (cc)
apart a b false e h = refl

-- ---- one line

without_step : (entries : List Added) (hash other : List ℕ) (size : ℕ) (o : Option ℕ) (b : Bool) → bytes_eq hash other ≡ b → In (entry_of other size) entries ↔ (o ≡ Some size)
    → In (entry_of other size) (without_hash entries hash) ↔ (cond b None o ≡ Some size)
without_step entries hash other size o true e h = (there, λ k. absurd (cc))
  where
    there : In (entry_of other size) (without_hash entries hash) → None ≡ Some size
    there k =
        let kept = (from_filter (λ (entry : Added). not (bytes_eq entry.hash hash)) (entry_of other size) entries k).1 in
        let same : bytes_eq other hash ≡ true = ap (λ x. bytes_eq other x) (same_bytes hash other e) ∙ bytes_are_same other in
        absurd (cc (same, kept))
without_step entries hash other size o false e h = (there, back)
  where
    there : In (entry_of other size) (without_hash entries hash) → o ≡ Some size
    there k = h.0 (from_filter (λ (entry : Added). not (bytes_eq entry.hash hash)) (entry_of other size) entries k).0

    back : o ≡ Some size → In (entry_of other size) (without_hash entries hash)
    back k = in_filter (λ (entry : Added). not (bytes_eq entry.hash hash)) (entry_of other size) entries (ap not (apart hash other (bytes_eq other hash) refl e)) (h.1 k)

with_at : (entries : List Added) (hash other : List ℕ) (given size : ℕ) (o : Option ℕ) (b : Bool) → bytes_eq hash other ≡ b → In (entry_of other size) (without_hash entries hash) ↔ (cond b None o ≡ Some size)
    → In (entry_of other size) (without_hash entries hash) ⊎ In (entry_of other size) (entry_of hash given ∷ []) → cond b (Some given) o ≡ Some size
with_at entries hash other given size o true e h (inl k) = absurd (let no = h.0 k in cc)
with_at entries hash other given size o true e h (inr (inl is)) = ap (λ (entry : Added). Some entry.size) is
with_at entries hash other given size o true e h (inr (inr nothing)) = absurd nothing
with_at entries hash other given size o false e h (inl k) = h.0 k
with_at entries hash other given size o false e h (inr (inl is)) =
    let same : bytes_eq hash other ≡ true = ap (λ (entry : Added). bytes_eq hash entry.hash) (sym is) ∙ bytes_are_same hash in absurd (cc)
with_at entries hash other given size o false e h (inr (inr nothing)) = absurd nothing

with_back : (entries : List Added) (hash other : List ℕ) (given size : ℕ) (o : Option ℕ) (b : Bool) → bytes_eq hash other ≡ b → In (entry_of other size) (without_hash entries hash) ↔ (cond b None o ≡ Some size)
    → cond b (Some given) o ≡ Some size → In (entry_of other size) (with_added entries (entry_of hash given))
with_back entries hash other given size o true e h k =
    let number : given ≡ size = cc in
    let same = same_bytes hash other e in
    in_right (entry_of other size) (without_hash entries hash) (entry_of hash given ∷ []) (inl (λ i. record { hash = same i; size = number i }))
with_back entries hash other given size o false e h k = in_left (entry_of other size) (without_hash entries hash) (entry_of hash given ∷ []) (h.1 k)

-- by membership
abbrev HasAt : List Added → List ℕ → ℕ → Option ℕ → Type 0
HasAt entries hash size o = In (entry_of hash size) entries ↔ (o ≡ Some size)

at_of : (sizes : HashSizes) (entries : List Added) → IsMapOf sizes entries → (hash : List ℕ) (size : ℕ) → HasAt entries hash size (size_of_hash sizes hash)
at_of sizes entries h hash size = (λ k. (h.same hash size).0 (contains_in (entry_of hash size) entries k), λ k. in_contained (entry_of hash size) entries ((h.same hash size).1 k))

pub mapped_nothing : IsMapOf [] []
mapped_nothing = record { same = λ hash size. (λ c. absurd (omega (arith, c.1)), λ k. absurd (cc)) }

pub mapped_without : (before after : HashSizes) (entries : List Added) (hash : List ℕ) → Sets before after hash None → IsMapOf before entries → IsMapOf after (without_hash entries hash)
mapped_without before after entries hash sets h = record { same = at }
  where
    at : (other : List ℕ) (size : ℕ) → Contains (without_hash entries hash) (entry_of other size) ↔ (size_of_hash after other ≡ Some size)
    at other size =
        let step = without_step entries hash other size (size_of_hash before other) (bytes_eq hash other) refl (at_of before entries h other size) in
        (λ c. sets other ∙ step.0 (in_contained (entry_of other size) (without_hash entries hash) c), λ k. contains_in (entry_of other size) (without_hash entries hash) (step.1 (sym (sets other) ∙ k)))

pub mapped_with : (before after : HashSizes) (entries : List Added) (added : Added) → Sets before after added.hash (Some added.size) → IsMapOf before entries → IsMapOf after (with_added entries added)
mapped_with before after entries added sets h = record { same = at }
  where
    at : (other : List ℕ) (size : ℕ) → Contains (with_added entries added) (entry_of other size) ↔ (size_of_hash after other ≡ Some size)
    at other size =
        let step = without_step entries added.hash other size (size_of_hash before other) (bytes_eq added.hash other) refl (at_of before entries h other size) in
        let x = entry_of other size in (
          λ c. sets other ∙ with_at entries added.hash other added.size size (size_of_hash before other) (bytes_eq added.hash other) refl step (in_either x (without_hash entries added.hash) (added ∷ []) (in_contained x (with_added entries added) c)),
          λ k. contains_in x (with_added entries added) (with_back entries added.hash other added.size size (size_of_hash before other) (bytes_eq added.hash other) refl step (sym (sets other) ∙ k)),
        )

-- ---- a change

pub mapped_change : (sizes : HashSizes) (list : ListName) (change : Change) (entries : List Added) → same_name change.list list ≡ true → IsMapOf sizes (fold with_added (fold without_hash entries change.removes) change.adds) → IsMapOf sizes (after_change list entries change)
mapped_change sizes list change entries e h = rw e h

pub mapped_other : (sizes : HashSizes) (list : ListName) (change : Change) (entries : List Added) → same_name change.list list ≡ false → IsMapOf sizes entries → IsMapOf sizes (after_change list entries change)
mapped_other sizes list change entries e h = rw e h

-- ---- what a map gives

found_here : (sizes : HashSizes) (entries : List Added) → IsMapOf sizes entries → (entry : Added) → In entry entries → size_of_hash sizes entry.hash ≡ Some entry.size
found_here sizes entries h entry there = (h.same entry.hash entry.size).0 (contains_in entry entries there)

pair_in : (sizes : HashSizes) (entries : List Added) → IsMapOf sizes entries → (entry : Added) → In entry entries → In (entry.hash, entry.size) sizes
pair_in sizes entries h entry there =
    in_contained (entry.hash, entry.size) sizes (Contains-from_lookup {eq = eq_by_cmp bytes_cmp} (tells_apart {R = bytes_cmp} exact_bytes) entry.hash entry.size sizes (found_here sizes entries h entry there))

entry_in : (sizes : HashSizes) (entries : List Added) → IsMapOf sizes entries → IsStrictlySortedBy bytes_cmp (keys_of sizes) → (pair : List ℕ × ℕ) → In pair sizes → In (entry_of pair.0 pair.1) entries
entry_in sizes entries h rises pair there =
    in_contained (entry_of pair.0 pair.1) entries
    ((h.same pair.0 pair.1).1 (lookup-from_Contains (eq_by_cmp_equiv nat_list_cmp_total) pair.0 pair.1 sizes (IsDistinct-from_sorted bytes_cmp (keys_of sizes) rises) (contains_in pair sizes there)))

-- the same full hashes
pub same_hashes : (sizes : HashSizes) (entries : List Added) → IsMapOf sizes entries → IsStrictlySortedBy bytes_cmp (keys_of sizes) → (x : List ℕ) → Contains (keys_of sizes) x ↔ Contains (map (λ (entry : Added). entry.hash) entries) x
same_hashes sizes entries h rises x = (there, back)
  where
    there : Contains (keys_of sizes) x → Contains (map (λ (entry : Added). entry.hash) entries) x
    there c =
        let from = from_map (λ (e : List ℕ × ℕ). e.0) x sizes (in_contained x _ c) in
        contains_in x _ (subst (λ y. In y (map (λ (entry : Added). entry.hash) entries)) from.holds (in_map (λ (entry : Added). entry.hash) (entry_of from.item.0 from.item.1) entries (entry_in sizes entries h rises from.item from.there)))

    back : Contains (map (λ (entry : Added). entry.hash) entries) x → Contains (keys_of sizes) x
    back c =
        let from = from_map (λ (entry : Added). entry.hash) x entries (in_contained x _ c) in
        contains_in x _ (subst (λ y. In y (keys_of sizes)) from.holds (in_map (λ (e : List ℕ × ℕ). e.0) (from.item.hash, from.item.size) sizes (pair_in sizes entries h from.item from.there)))

-- the same prefixes
pub same_shown : (sizes : HashSizes) (entries : List Added) → IsMapOf sizes entries → All IsPublishable entries → IsStrictlySortedBy bytes_cmp (keys_of sizes) → (x : List ℕ) → Contains (map shown_entry sizes) x ↔ Contains (map prefix_of entries) x
same_shown sizes entries h publishable rises x = (there, back)
  where
    there : Contains (map shown_entry sizes) x → Contains (map prefix_of entries) x
    there c =
        let from = from_map shown_entry x sizes (in_contained x _ c) in
        let entry = entry_of from.item.0 from.item.1 in
        let kept : In entry entries = entry_in sizes entries h rises from.item from.there in
        let is = shown_is entry (All-contains IsPublishable entries entry publishable (contains_in entry entries kept)) in
        contains_in x _ (subst (λ y. In y (map prefix_of entries)) (sym is ∙ from.holds) (in_map prefix_of entry entries kept))

    back : Contains (map prefix_of entries) x → Contains (map shown_entry sizes) x
    back c =
        let from = from_map prefix_of x entries (in_contained x _ c) in
        let is = shown_is from.item (All-contains IsPublishable entries from.item publishable (contains_in from.item entries from.there)) in
        contains_in x _ (subst (λ y. In y (map shown_entry sizes)) (is ∙ from.holds) (in_map shown_entry (from.item.hash, from.item.size) sizes (pair_in sizes entries h from.item from.there)))

-- ---- what is listed of a map

-- what is known of sets
pub record SetLaws : Type 0 where
  pub rising : (xs : List (List ℕ)) → IsRising (set_of xs)
  pub members : (xs : List (List ℕ)) (x : List ℕ) → Contains (set_of xs) x ↔ Contains xs x
  pub only : (xs ys : List (List ℕ)) → IsRising xs → IsRising ys → ((x : List ℕ) → Contains xs x ↔ Contains ys x) → xs ≡ ys

pub set_is : SetLaws → (xs ys : List (List ℕ)) → IsRising xs → ((x : List ℕ) → Contains xs x ↔ Contains ys x) → xs ≡ set_of ys
set_is laws xs ys rises same = laws.only xs (set_of ys) rises (laws.rising ys) (λ x. (λ c. (laws.members ys x).1 ((same x).0 c), λ c. (same x).1 ((laws.members ys x).0 c)))

pub same_filtered : (p : List ℕ → Bool) (xs ys : List (List ℕ)) → ((x : List ℕ) → Contains xs x → Contains ys x) → (x : List ℕ) → Contains (filter p xs) x → Contains (filter p ys) x
same_filtered p xs ys same x c =
    let kept = from_filter p x xs (in_contained x (filter p xs) c) in
    contains_in x (filter p ys) (in_filter p x ys kept.1 (in_contained x ys (same x (contains_in x xs kept.0))))

abbrev hashes_in : List Added → List (List ℕ)
hashes_in entries = map (λ (entry : Added). entry.hash) entries

pub all_listed : SetLaws → (sizes : HashSizes) (entries : List Added) → IsMapOf sizes entries → IsRising (keys_of sizes) → keys_of sizes ≡ set_of (map (λ (entry : Added). entry.hash) entries)
all_listed laws sizes entries h rises = set_is laws (keys_of sizes) (hashes_in entries) rises (same_hashes sizes entries h rises)

pub begun_listed : SetLaws → (p : List ℕ → Bool) (sizes : HashSizes) (entries : List Added) → IsMapOf sizes entries → IsRising (keys_of sizes) → filter p (keys_of sizes) ≡ set_of (filter p (map (λ (entry : Added). entry.hash) entries))
begun_listed laws p sizes entries h rises =
    let same = same_hashes sizes entries h rises in
    set_is laws (filter p (keys_of sizes)) (filter p (hashes_in entries)) (IsStrictlySortedBy-filter bytes_cmp p (keys_of sizes) rises)
    (λ x. (same_filtered p (keys_of sizes) (hashes_in entries) (λ y. (same y).0) x, same_filtered p (hashes_in entries) (keys_of sizes) (λ y. (same y).1) x))
