-- Maps whose entries stand in any order, and these in the order of their hashes.
use Rattle.std.proofs.Common.{◌≡◌, ◌⊎◌, ℕ, List, [], ◌∷◌, map, refl, sym, ap, subst, ◌∙◌, inl, inr, Bool, true, false, cond, Option, Some, None, nat_eq}
use Rattle.std.specs.Prelude.{◌||◌, ◌↔◌, Contains, filter}
use Rattle.std.specs.BTreeMap.{is_at}
use Rattle.std.specs.Cmp.Lexicographic.{pointwise, bytes_decides, nat_list_cmp_total, nat_list_eq_equiv, texts_ties}
use Rattle.std.specs.List.{list_any, dedup, IsDistinct}
use Rattle.std.specs.List.Retain.{IsFiltered, DiffersFromLast}
use Rattle.std.specs.List.Sorted.{IsPermutation, IsSorted}
use Rattle.std.specs.Map.{keys_of, lookup}
use Rattle.std.specs.Option.{unwrap_or}
use Rattle.std.specs.Str.{bytes_eq}
use Rattle.std.proofs.lemmas.List.Filters.{dedup_is}
use Rattle.std.proofs.lemmas.List.Kept.{IsStrictlySortedBy-dedup, IsStrictlySortedBy-filter, Contains-dedup, Contains-from_dedup}
use Rattle.std.proofs.lemmas.List.Sorted.{Contains-permutation, IsPermutation-sym}
use Rattle.std.proofs.lemmas.Map.Text.{is_eq-slice_cmp}
use Rattle.std.proofs.lemmas.Map.Views.{Contains-from_any, Contains-from_lookup, Contains-keys_from_lookup, list_any-from_Contains, lookup-from_Contains}
use Rattle.sb_model.specs.declared.history.Added.{Added}
use Rattle.sb_model.specs.Prefixes.{bytes_cmp, IsRising, set_of}
use Rattle.list_versions.specs.HashSizes.{HashSizes, IsMapOf, entry_at, size_of_hash, rising_sizes, Sets, shown_entry}
use Rattle.list_versions.proofs.Finding.{same_bytes, bytes_are_same}
use Rattle.list_versions.proofs.Mapped.{SetLaws, set_is, same_filtered}
use Rattle.list_versions.proofs.Membership.{In, contains_in, in_contained, in_map, from_map}

-- ---- the entries in order

keys_listed : (g : List ℕ → ℕ) (ks : List (List ℕ)) → keys_of (map (λ (k : List ℕ). (k, g k)) ks) ≡ ks
keys_listed g [] = refl
keys_listed g (k ∷ ks) = ap (λ rest. k ∷ rest) (keys_listed g ks)

pub keys_rising : (entries : HashSizes) → keys_of (rising_sizes entries) ≡ set_of (keys_of entries)
keys_rising entries = keys_listed (λ hash. unwrap_or (lookup (bytes_eq hash) entries) 0) (set_of (keys_of entries))

pub they_rise : SetLaws → (entries : HashSizes) → IsRising (keys_of (rising_sizes entries))
they_rise laws entries = subst IsRising (sym (keys_rising entries)) (laws.rising (keys_of entries))

-- ---- the size of a hash

listed_at : (g : List ℕ → ℕ) (q k : List ℕ) (b more : Bool) (found : Option ℕ) → bytes_eq q k ≡ b → found ≡ cond more (Some (g q)) None → cond b (Some (g k)) found ≡ cond (b || more) (Some (g q)) None
listed_at g q k true more found e h = ap (λ x. Some (g x)) (sym (same_bytes q k e))
listed_at g q k false more found e h = h

lookup_listed : (g : List ℕ → ℕ) (q : List ℕ) (ks : List (List ℕ)) → lookup (is_at (bytes_cmp q)) (map (λ (k : List ℕ). (k, g k)) ks) ≡ cond (list_any (bytes_eq q) ks) (Some (g q)) None
lookup_listed g q [] = refl
lookup_listed g q (k ∷ ks) =
    ap (λ b. cond b (Some (g k)) (lookup (is_at (bytes_cmp q)) (map (λ (k : List ℕ). (k, g k)) ks))) (is_eq-slice_cmp q k)
    ∙ listed_at g q k (bytes_eq q k) (list_any (bytes_eq q) ks) _ refl (lookup_listed g q ks)

-- a hash that the map has is found
found_at : (q k : List ℕ) (v : ℕ) (rest : Option ℕ) (b : Bool) → bytes_eq q k ≡ b → (k ≡ q) ⊎ (rest ≡ None → ⊥) → cond b (Some v) rest ≡ None → ⊥
found_at q k v rest true e h none = cc (none)
found_at q k v rest false e (inl is) none = let same : bytes_eq q k ≡ true = ap (λ x. bytes_eq q x) is ∙ bytes_are_same q in cc (same, e)
found_at q k v rest false e (inr more) none = more none

found_key : (q : List ℕ) (entries : HashSizes) → In q (keys_of entries) → lookup (bytes_eq q) entries ≡ None → ⊥
found_key q [] i none = i
found_key q (entry ∷ entries) (inl is) none = found_at q entry.0 entry.1 (lookup (bytes_eq q) entries) (bytes_eq q entry.0) refl (inl is) none
found_key q (entry ∷ entries) (inr i) none = found_at q entry.0 entry.1 (lookup (bytes_eq q) entries) (bytes_eq q entry.0) refl (inr (found_key q entries i)) none

has_key : SetLaws → (entries : HashSizes) (q : List ℕ) → list_any (bytes_eq q) (set_of (keys_of entries)) ≡ true → In q (keys_of entries)
has_key laws entries q e = in_contained q (keys_of entries) ((laws.members (keys_of entries) q).0 (Contains-from_any {eq = bytes_eq} same_bytes q (set_of (keys_of entries)) e))

size_at : SetLaws → (entries : HashSizes) (q : List ℕ) (o : Option ℕ) (b : Bool) → lookup (bytes_eq q) entries ≡ o → list_any (bytes_eq q) (set_of (keys_of entries)) ≡ b → cond b (Some (unwrap_or o 0)) None ≡ o
size_at laws entries q (Some v) true e h = refl
size_at laws entries q None false e h = refl
size_at laws entries q None true e h = absurd (found_key q entries (has_key laws entries q h) e)
size_at laws entries q (Some v) false e h =
    let there : Contains (keys_of entries) q = Contains-keys_from_lookup {eq = bytes_eq} same_bytes q entries (rw e refl) in
    let any : list_any (bytes_eq q) (set_of (keys_of entries)) ≡ true = list_any-from_Contains nat_list_eq_equiv q (set_of (keys_of entries)) ((laws.members (keys_of entries) q).1 there) in
    absurd (cc (any, h))

pub size_in_rising : SetLaws → (entries : HashSizes) (q : List ℕ) → size_of_hash (rising_sizes entries) q ≡ lookup (bytes_eq q) entries
size_in_rising laws entries q =
    lookup_listed (λ hash. unwrap_or (lookup (bytes_eq hash) entries) 0) q (set_of (keys_of entries))
    ∙ size_at laws entries q (lookup (bytes_eq q) entries) (list_any (bytes_eq q) (set_of (keys_of entries))) refl refl

-- what is put or taken out
pub Sets-from_hashes : SetLaws → (before after : HashSizes) (hash : List ℕ) (size : Option ℕ)
    → ((other : List ℕ) → lookup (bytes_eq other) after ≡ cond (bytes_eq hash other) size (lookup (bytes_eq other) before)) → Sets (rising_sizes before) (rising_sizes after) hash size
Sets-from_hashes laws before after hash size h other =
    size_in_rising laws after other ∙ h other ∙ ap (λ (o : Option ℕ). cond (bytes_eq hash other) size o) (sym (size_in_rising laws before other))

-- ---- the same entries

value_of : (entries : HashSizes) (pair : List ℕ × ℕ) → IsDistinct bytes_eq (keys_of entries) → In pair entries → lookup (bytes_eq pair.0) entries ≡ Some pair.1
value_of entries pair unique i = lookup-from_Contains nat_list_eq_equiv pair.0 pair.1 entries unique (contains_in pair entries i)

into_rising : SetLaws → (entries : HashSizes) (pair : List ℕ × ℕ) → IsDistinct bytes_eq (keys_of entries) → In pair entries → In pair (rising_sizes entries)
into_rising laws entries pair unique i =
    let listed : List ℕ → List ℕ × ℕ = λ hash. (hash, unwrap_or (lookup (bytes_eq hash) entries) 0) in
    let key : In pair.0 (set_of (keys_of entries)) =
    in_contained pair.0 _ ((laws.members (keys_of entries) pair.0).1 (contains_in pair.0 _ (in_map (λ (e : List ℕ × ℕ). e.0) pair entries i))) in
    let is : listed pair.0 ≡ pair = ap (λ (o : Option ℕ). (pair.0, unwrap_or o 0)) (value_of entries pair unique i) in
    subst (λ (p : List ℕ × ℕ). In p (rising_sizes entries)) is (in_map listed pair.0 (set_of (keys_of entries)) key)

from_rising : SetLaws → (entries : HashSizes) (pair : List ℕ × ℕ) → IsDistinct bytes_eq (keys_of entries) → In pair (rising_sizes entries) → In pair entries
from_rising laws entries pair unique i =
    let listed : List ℕ → List ℕ × ℕ = λ hash. (hash, unwrap_or (lookup (bytes_eq hash) entries) 0) in
    let from = from_map listed pair (set_of (keys_of entries)) i in
    let key = in_contained from.item (keys_of entries) ((laws.members (keys_of entries) from.item).0 (contains_in from.item _ from.there)) in
    let entry = from_map (λ (e : List ℕ × ℕ). e.0) from.item entries key in
    let is : entry.item ≡ pair =
    sym (ap (λ (o : Option ℕ). (entry.item.0, unwrap_or o 0)) (value_of entries entry.item unique entry.there)) ∙ ap listed entry.holds ∙ from.holds in
    subst (λ (p : List ℕ × ℕ). In p entries) is entry.there

pub same_entries : SetLaws → (entries : HashSizes) → IsDistinct bytes_eq (keys_of entries) → (x : List ℕ) → Contains (map shown_entry entries) x ↔ Contains (map shown_entry (rising_sizes entries)) x
same_entries laws entries unique x = (there, back)
  where
    there : Contains (map shown_entry entries) x → Contains (map shown_entry (rising_sizes entries)) x
    there c =
        let from = from_map shown_entry x entries (in_contained x _ c) in
        contains_in x _ (subst (λ y. In y (map shown_entry (rising_sizes entries))) from.holds (in_map shown_entry from.item (rising_sizes entries) (into_rising laws entries from.item unique from.there)))

    back : Contains (map shown_entry (rising_sizes entries)) x → Contains (map shown_entry entries) x
    back c =
        let from = from_map shown_entry x (rising_sizes entries) (in_contained x _ c) in
        contains_in x _ (subst (λ y. In y (map shown_entry entries)) from.holds (in_map shown_entry from.item entries (from_rising laws entries from.item unique from.there)))

-- the entries of a map, in any order
pub listed_is_map : SetLaws → (entries : HashSizes) → IsDistinct bytes_eq (keys_of entries) → IsMapOf (rising_sizes entries) (map entry_at entries)
listed_is_map laws entries unique = record { same = λ hash size. (there hash size, back hash size) }
  where
    there : (hash : List ℕ) (size : ℕ) → Contains (map entry_at entries) (entry_at (hash, size)) → size_of_hash (rising_sizes entries) hash ≡ Some size
    there hash size c =
        let from = from_map entry_at (entry_at (hash, size)) entries (in_contained _ _ c) in
        let key : from.item.0 ≡ hash = ap (λ (entry : Added). entry.hash) from.holds in
        let value : from.item.1 ≡ size = ap (λ (entry : Added). entry.size) from.holds in
        size_in_rising laws entries hash
        ∙ subst (λ (h : List ℕ). lookup (bytes_eq h) entries ≡ Some from.item.1) key (value_of entries from.item unique from.there)
        ∙ ap Some value

    back : (hash : List ℕ) (size : ℕ) → size_of_hash (rising_sizes entries) hash ≡ Some size → Contains (map entry_at entries) (entry_at (hash, size))
    back hash size is =
        let found : lookup (bytes_eq hash) entries ≡ Some size = sym (size_in_rising laws entries hash) ∙ is in
        let pair : In (hash, size) entries = in_contained (hash, size) entries (Contains-from_lookup {eq = bytes_eq} same_bytes hash size entries found) in
        contains_in (entry_at (hash, size)) (map entry_at entries) (in_map entry_at (hash, size) entries pair)

pub hashes_are_keys : (entries : HashSizes) → map (λ (entry : Added). entry.hash) (map entry_at entries) ≡ keys_of entries
hashes_are_keys [] = refl
hashes_are_keys (pair ∷ entries) = ap (λ (rest : List (List ℕ)). pair.0 ∷ rest) (hashes_are_keys entries)

-- ---- the hashes in order

-- those that pass a test
pub set_filtered : SetLaws → (p : List ℕ → Bool) (keys : List (List ℕ)) → set_of (filter p keys) ≡ filter p (set_of keys)
set_filtered laws p keys =
    sym (set_is laws (filter p (set_of keys)) (filter p keys) (IsStrictlySortedBy-filter bytes_cmp p (set_of keys) (laws.rising keys))
    (λ x. (same_filtered p (set_of keys) keys (λ y. (laws.members keys y).0) x, same_filtered p keys (set_of keys) (λ y. (laws.members keys y).1) x)))

-- hashes that are sorted, and then rid of repeats
pub sorted_without_repeats : SetLaws → (xs sorted kept : List (List ℕ)) → IsPermutation xs sorted → IsSorted bytes_cmp sorted → IsFiltered (DiffersFromLast (pointwise nat_eq)) [] sorted kept → kept ≡ set_of xs
sorted_without_repeats laws xs sorted kept moved up filtered =
    let is : kept ≡ dedup (pointwise nat_eq) sorted = dedup_is (pointwise nat_eq) sorted kept filtered in
    is ∙ set_is laws (dedup (pointwise nat_eq) sorted) xs (IsStrictlySortedBy-dedup nat_list_cmp_total texts_ties sorted up) (λ z. (
      λ h. Contains-permutation sorted xs z (IsPermutation-sym xs sorted moved) (Contains-from_dedup (pointwise nat_eq) sorted z h),
      λ h. Contains-dedup nat_list_eq_equiv (λ x y same. (bytes_decides x y).0 same) sorted z (Contains-permutation xs sorted z moved h),
    ))
