-- What a search finds.
use Rattle.std.proofs.Common.{◌≡◌, ℕ, zero, suc, ◌+◌, ◌<◌, ◌≤◌, List, [], ◌∷◌, Bool, true, false, cond, length, map, get_or, refl, sym, ap, subst, ◌∙◌, arith, Some, None}
use Rattle.std.specs.Prelude.{Contains, find, slice_get, position, nat_lt, All}
use Rattle.std.specs.declared.cmp.Ordering.TheVariants.{Less}
use Rattle.std.specs.Cmp.{IsTotalOrder}
use Rattle.std.specs.List.{AllByRecursion, position_or_len, range_with_len}
use Rattle.std.proofs.lemmas.Bool.{ltb-true, ltb-false}
use Rattle.std.proofs.lemmas.List.Folds.{find_at}
use Rattle.std.specs.List.Sorted.{IsStrictlySortedBy}
use Rattle.std.proofs.lemmas.Cmp.{nat_cmp_total, on_total, then_total, tied_itself}
use Rattle.std.proofs.lemmas.Map.Keys.{sorted_head, sorted_tail}
use Rattle.std.proofs.lemmas.Option.{get_or_from_slice_get, slice_get_past, slice_get_within}
use Rattle.sb_model.specs.declared.names.ListName.{ListName}
use Rattle.sb_model.specs.Names.{threat_code, platform_code, entry_code, same_name, name_cmp}
use Rattle.update_client.specs.Held.{Held}
use Rattle.update_client.specs.Step.{list_named}
use Rattle.mirror_places.proofs.TokenFacts.{NamesGoByCodes}

-- what is found stands in the list and passes
pub found_by : {X : Type 0} (p : X → Bool) (xs : List X) (x : X) → find p xs ≡ Some x → Contains xs x × (p x ≡ true)
found_by p [] x h = absurd (cc)
found_by p (y ∷ ys) x h = go (p y) refl h (found_by p ys x)
  where
    go : (b : Bool) → p y ≡ b → cond b (Some y) (find p ys) ≡ Some x → (find p ys ≡ Some x → Contains ys x × (p x ≡ true)) → Contains (y ∷ ys) x × (p x ≡ true)
    go true e k more = let same : y ≡ x = cc in ((0, omega arith, same), ap p (sym same) ∙ e)
    go false e k more = let found = more k in ((suc found.0.0, omega (arith, found.0.1), found.0.2), found.1)

-- a number of a range is between its ends
pub from_range : (v a n : ℕ) → Contains (range_with_len a n) v → (a ≤ v) × (v < a + n)
from_range v a n c = at n a c.0 c.1 c.2
  where
    at : (n a k : ℕ) → k < length (range_with_len a n) → get_or (range_with_len a n) k v ≡ v → (a ≤ v) × (v < a + n)
    at zero a k below is = absurd (omega (arith, below))
    at (suc n) a zero below is = (omega (arith, is), omega (arith, is))
    at (suc n) a (suc k) below is = let more = at n (a + 1) k (omega (arith, below)) is in (omega (arith, more.0), omega (arith, more.1))

pub all_at : {X : Type 0} (P : X → Type 0) (xs : List X) (i : ℕ) (x : X) → All P xs → slice_get xs i ≡ Some x → P x
all_at P xs i x all is = subst P (get_or_from_slice_get xs i x x is) (all i x (slice_get_within xs i x is))

-- ---- the list of a name

name_total : IsTotalOrder name_cmp
name_total =
    then_total (on_total (λ (name : ListName). threat_code name.threat) nat_cmp_total)
    (then_total (on_total (λ (name : ListName). platform_code name.platform) nat_cmp_total) (on_total (λ (name : ListName). entry_code name.entry) nat_cmp_total))

not_before_itself : (a : ListName) → name_cmp a a ≡ Less → ⊥
not_before_itself a h = cc (sym h ∙ tied_itself name_total a)

name_at : (lists : List Held) (P : ListName → Type 0) → AllByRecursion P (map (λ (held : Held). held.name) lists) → (k : ℕ) (d : Held) → k < length lists → P (get_or lists k d).name
name_at [] P all k d below = absurd (omega (arith, below))
name_at (x ∷ xs) P all zero d below = all.0
name_at (x ∷ xs) P all (suc k) d below = name_at xs P all.1 k d (omega (arith, below))

-- of lists whose names rise, each is the one of its name
pub named_itself : NamesGoByCodes → (lists : List Held) → IsStrictlySortedBy name_cmp (map (λ (held : Held). held.name) lists) → (k : ℕ) (d : Held) → k < length lists
    → list_named (get_or lists k d).name lists ≡ Some (get_or lists k d)
named_itself by_codes [] rising k d below = absurd (omega (arith, below))
named_itself by_codes (x ∷ xs) rising zero d below =
    ap (λ (b : Bool). cond b (Some x) (list_named x.name xs)) ((by_codes x.name x.name).1 refl)
named_itself by_codes (x ∷ xs) rising (suc k) d below =
    go (same_name x.name y.name) refl (named_itself by_codes xs (sorted_tail name_cmp x.name (map (λ (held : Held). held.name) xs) rising) k d (omega (arith, below)))
  where
    y : Held
    y = get_or xs k d

    go : (b : Bool) → same_name x.name y.name ≡ b → list_named y.name xs ≡ Some y → cond b (Some x) (list_named y.name xs) ≡ Some y
    go true e more =
        let before : name_cmp x.name y.name ≡ Less =
        name_at xs (λ name. name_cmp x.name name ≡ Less) (sorted_head name_cmp x.name (map (λ (held : Held). held.name) xs) rising) k d (omega (arith, below)) in
        absurd (not_before_itself y.name (ap (λ (n : ListName). name_cmp n y.name) (sym ((by_codes x.name y.name).0 e)) ∙ before))
    go false e more = more

-- ---- a search by place

pub found_at : {X : Type 0} (p : X → Bool) (xs : List X) (i : ℕ) → position p xs ≡ Some i → (i < length xs) × (find p xs ≡ slice_get xs i)
found_at p xs i h = go (nat_lt (position_or_len p xs) (length xs)) refl h
  where
    go : (b : Bool) → nat_lt (position_or_len p xs) (length xs) ≡ b → cond b (Some (position_or_len p xs)) None ≡ Some i → (i < length xs) × (find p xs ≡ slice_get xs i)
    go true e k =
        let same : position_or_len p xs ≡ i = cc in
        let below = ltb-true (position_or_len p xs) (length xs) e in
        (omega (arith, same, below), find_at p xs ∙ ap (λ n. slice_get xs n) same)
    go false e k = absurd (cc)

pub not_found : {X : Type 0} (p : X → Bool) (xs : List X) → position p xs ≡ None → find p xs ≡ None
not_found p xs h = go (nat_lt (position_or_len p xs) (length xs)) refl h
  where
    go : (b : Bool) → nat_lt (position_or_len p xs) (length xs) ≡ b → cond b (Some (position_or_len p xs)) None ≡ None → find p xs ≡ None
    go true e k = absurd (cc)
    go false e k = find_at p xs ∙ slice_get_past xs (position_or_len p xs) (ltb-false (position_or_len p xs) (length xs) e)
