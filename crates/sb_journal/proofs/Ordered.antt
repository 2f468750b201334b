-- Full hashes in the order of their hashes, and the lists that are told anew by them.
use Rattle.std.proofs.Common.{◌≡◌, ◌∙◌, ◌⊎◌, inl, inr, ℕ, zero, suc, ◌<◌, ◌≤◌, List, [], ◌∷◌, ◌++◌, Bool, true, false, cond, length, filter, get_or, refl, sym, ap, subst, arith}
use Rattle.std.specs.Prelude.{Contains}
use Rattle.std.specs.List.{AllByRecursion, IsDistinct, flat_map}
use Rattle.std.specs.List.Sorted.{IsPermutation, IsSortedByKey, IsStrictlySortedBy}
use Rattle.std.specs.Cmp.Lexicographic.{nat_list_cmp_total}
use Rattle.std.specs.Ordering.{is_lt, ordering_reverse}
use Rattle.std.specs.declared.cmp.Ordering.{Ordering}
use Rattle.std.specs.declared.cmp.Ordering.TheVariants.{Less, Equal, Greater}
use Rattle.std.specs.Str.{bytes_eq}
use Rattle.std.proofs.lemmas.List.MinMax.{ranks_by}
use Rattle.std.proofs.lemmas.Slice.Eq.{bytes_eq-Decides}
use Rattle.std.proofs.lemmas.List.Sorted.{Contains-permutation, IsPermutation-map, IsPermutation-sym, sorted_far}
use Rattle.sb_model.specs.declared.history.Added.{Added}
use Rattle.sb_model.specs.Prefixes.{bytes_cmp, IsRising, set_of}
use Rattle.sb_journal.specs.Compacted.{by_hash}
use Rattle.sb_journal.proofs.Following.{bytes_sym, hashes_of}
use Rattle.sb_journal.proofs.RisingSets.{SetLaws, equal_bytes, set_is}

abbrev pub IsOnce : List Added → Type 0
IsOnce entries = IsDistinct bytes_eq (hashes_of entries)

-- ---- what is in a list

abbrev pub In : {X : Type 0} → X → List X → Type 0
In x [] = ⊥
In x (y ∷ ys) = (y ≡ x) ⊎ In x ys

pub contains_in : {X : Type 0} (x : X) (xs : List X) → In x xs → Contains xs x
contains_in x [] h = absurd h
contains_in x (y ∷ ys) (inl e) = (0, omega arith, e)
contains_in x (y ∷ ys) (inr h) = let c : Contains ys x = contains_in x ys h in (suc c.0, omega (arith, c.1), c.2)

in_at : {X : Type 0} (x : X) (xs : List X) (k : ℕ) → k < length xs → get_or xs k x ≡ x → In x xs
in_at x [] k below e = absurd (omega arith)
in_at x (y ∷ ys) zero below e = inl e
in_at x (y ∷ ys) (suc k) below e = inr (in_at x ys k (omega (arith, below)) e)

pub in_contained : {X : Type 0} (x : X) (xs : List X) → Contains xs x → In x xs
in_contained x xs c = in_at x xs c.0 c.1 c.2

-- ---- hashes that are sorted and of which each stands once rise

less : (a b : List ℕ) (o : Ordering) → bytes_cmp a b ≡ o → bytes_eq a b ≡ false → is_lt (bytes_cmp b a) ≡ false → bytes_cmp a b ≡ Less
less a b Less is apart up = is
less a b Equal is apart up = absurd (let same : bytes_eq a b ≡ true = equal_bytes a b is in cc (same, apart))
less a b Greater is apart up = absurd (let back : is_lt (bytes_cmp b a) ≡ true = ap is_lt (nat_list_cmp_total.antisymm b a ∙ ap ordering_reverse is) in cc (back, up))

below : (y : Added) (ys : List Added) → AllByRecursion (λ hash. bytes_eq y.hash hash ≡ false) (hashes_of ys)
    → ((k : ℕ) (d : Added) → k < length ys → is_lt (bytes_cmp (get_or ys k d).hash y.hash) ≡ false) → AllByRecursion (λ hash. bytes_cmp y.hash hash ≡ Less) (hashes_of ys)
below y [] apart up = tt
below y (z ∷ zs) apart up =
    (less y.hash z.hash (bytes_cmp y.hash z.hash) refl apart.0 (up zero z (omega arith)), below y zs apart.1 (λ k d lt. up (suc k) d (omega (arith, lt))))

rise : (ys : List Added) → IsOnce ys → ((i j : ℕ) (d : Added) → i ≤ j → j < length ys → is_lt (bytes_cmp (get_or ys j d).hash (get_or ys i d).hash) ≡ false) → IsRising (hashes_of ys)
unfolding IsDistinct IsStrictlySortedBy
rise [] once up = tt
rise (y ∷ ys) once up = (
  below y ys once.0 (λ k d lt. up zero (suc k) d (omega arith) (omega (arith, lt))),
  rise ys once.1 (λ i j d le lt. up (suc i) (suc j) d (omega (arith, le)) (omega (arith, lt))),
)

-- ---- one entry of each hash

abbrev pub has_hash : List ℕ → Added → Bool
has_hash hash entry = bytes_eq entry.hash hash

none_at : (hash : List ℕ) (x : Added) (rest : List Added) (b : Bool) → bytes_eq x.hash hash ≡ b → bytes_eq hash x.hash ≡ false → rest ≡ [] → cond b (x ∷ rest) rest ≡ []
none_at hash x rest true is apart e = absurd (let same = bytes_sym x.hash hash in cc (is, same, apart))
none_at hash x rest false is apart e = e

none_of : (hash : List ℕ) (xs : List Added) → AllByRecursion (λ other. bytes_eq hash other ≡ false) (hashes_of xs) → filter (has_hash hash) xs ≡ []
none_of hash [] apart = refl
none_of hash (x ∷ xs) apart = none_at hash x (filter (has_hash hash) xs) (bytes_eq x.hash hash) refl apart.0 (none_of hash xs apart.1)

in_hashes : (Q : List ℕ → Type 0) (entry : Added) (xs : List Added) → AllByRecursion Q (hashes_of xs) → In entry xs → Q entry.hash
in_hashes Q entry [] h i = absurd i
in_hashes Q entry (x ∷ xs) h (inl is) = subst (λ (e : Added). Q e.hash) is h.0
in_hashes Q entry (x ∷ xs) h (inr i) = in_hashes Q entry xs h.1 i

kept_one : (entry x : Added) (rest : List Added) (b : Bool) → bytes_eq x.hash entry.hash ≡ b → x ≡ entry → rest ≡ [] → cond b (x ∷ rest) rest ≡ entry ∷ []
kept_one entry x rest true e is none = cc (is, none)
kept_one entry x rest false e is none = absurd (let own : bytes_eq x.hash x.hash ≡ true = bytes_same x.hash in cc (own, e, is))
  where
    bytes_same : (a : List ℕ) → bytes_eq a a ≡ true
    bytes_same a = (bytes_eq-Decides a a).1 refl

kept_later : (entry x : Added) (rest : List Added) (b : Bool) → bytes_eq x.hash entry.hash ≡ b → bytes_eq x.hash entry.hash ≡ false → rest ≡ entry ∷ [] → cond b (x ∷ rest) rest ≡ entry ∷ []
kept_later entry x rest true e apart is = absurd (cc (e, apart))
kept_later entry x rest false e apart is = is

pub only_one : (entry : Added) (xs : List Added) → IsOnce xs → In entry xs → filter (has_hash entry.hash) xs ≡ entry ∷ []
unfolding IsDistinct
only_one entry [] once i = absurd i
only_one entry (x ∷ xs) once (inl is) =
    kept_one entry x (filter (has_hash entry.hash) xs) (bytes_eq x.hash entry.hash) refl is
    (subst (λ (hash : List ℕ). filter (has_hash hash) xs ≡ []) (ap (λ (e : Added). e.hash) is) (none_of x.hash xs once.0))
only_one entry (x ∷ xs) once (inr i) =
    kept_later entry x (filter (has_hash entry.hash) xs) (bytes_eq x.hash entry.hash) refl (in_hashes (λ hash. bytes_eq x.hash hash ≡ false) entry xs once.0 i) (only_one entry xs once.1 i)

each_once : (xs ys : List Added) → IsOnce xs → ((y : Added) → In y ys → In y xs) → flat_map (λ hash. filter (has_hash hash) xs) (hashes_of ys) ≡ ys
each_once xs [] once there = refl
each_once xs (y ∷ ys) once there =
    ap (λ (es : List Added). es ++ flat_map (λ hash. filter (has_hash hash) xs) (hashes_of ys)) (only_one y xs once (there y (inl refl)))
    ∙ ap (λ (es : List Added). y ∷ es) (each_once xs ys once (λ z i. there z (inr i)))

-- entries that are sorted by their hashes
pub ordered : SetLaws → (xs ys : List Added) → IsPermutation xs ys → IsOnce xs → IsOnce ys → IsSortedByKey (λ (entry : Added). entry.hash) bytes_cmp ys → ys ≡ by_hash xs
unfolding by_hash
ordered laws xs ys moved once still sorted =
    let up : IsRising (hashes_of ys) = rise ys still (λ i j d le lt.
    sorted_far (λ (a b : Added). is_lt (bytes_cmp a.hash b.hash)) (ranks_by nat_list_cmp_total (λ (entry : Added). entry.hash)) ys sorted i j d le lt) in
    let hashes = IsPermutation-map (λ (entry : Added). entry.hash) xs ys moved in
    let set : hashes_of ys ≡ set_of (hashes_of xs) = set_is laws (hashes_of ys) (hashes_of xs) up (λ x. (
      λ c. Contains-permutation (hashes_of ys) (hashes_of xs) x (IsPermutation-sym (hashes_of xs) (hashes_of ys) hashes) c,
      λ c. Contains-permutation (hashes_of xs) (hashes_of ys) x hashes c,
    )) in
    sym (ap (flat_map (λ hash. filter (has_hash hash) xs)) (sym set)
    ∙ each_once xs ys once (λ y i. in_contained y xs (Contains-permutation ys xs y (IsPermutation-sym xs ys moved) (contains_in y ys i))))
