-- Rising numbers of which some are put in and others taken out.
use Rattle.std.proofs.Common.{◌≡◌, ◌⊎◌, inl, inr, ℕ, zero, suc, ◌+◌, ◌<◌, ◌≤◌, List, [], ◌∷◌, ◌++◌, length, take, drop, get_or, refl, sym, ap, subst, ◌∙◌, arith, Result, Ok, Err}
use Rattle.std.specs.Prelude.{◌≢◌, ◌↔◌, Contains}
use Rattle.std.specs.List.{All, AllPairs}
use Rattle.std.specs.List.Sorted.{IsBinarySearchResult, IsStrictlyIncreasing}
use Rattle.std.specs.Ordering.{nat_cmp}
use Rattle.std.specs.Result.{MatchResult}
use Rattle.std.proofs.lemmas.List.{append_assoc, get_or_default, take-append-drop, take_more}
use Rattle.std.proofs.lemmas.List.Elements.{All-contains, Contains-get_or}
use Rattle.std.proofs.lemmas.List.Kept.{AllPairs-from_increasing}
use Rattle.std.proofs.lemmas.List.Sorted.{searched}
use Rattle.list_versions.specs.Numbers.{IsInOne, IsToggled}
use Rattle.list_versions.proofs.Membership.{In, contains_in, in_contained, in_left, in_right, in_either}

-- each number is below those after it
abbrev pub Rises : List ℕ → Type 0
Rises [] = Unit {0}
Rises (x ∷ xs) = ((n : ℕ) → In n xs → x < n) × Rises xs

from_pairs : (xs : List ℕ) → AllPairs (λ x y. x < y) xs → Rises xs
from_pairs [] pairs = tt
from_pairs (x ∷ xs) pairs = (
  λ n i. (let c : Contains xs n = contains_in n xs i in let lt : x < get_or xs c.0 n = pairs 0 (suc c.0) n (omega arith) (omega (arith, c.1)) in subst (λ y. x < y) c.2 lt),
  from_pairs xs (λ i j d less below. pairs (suc i) (suc j) d (omega (arith, less)) (omega (arith, below))),
)

pub rises : (xs : List ℕ) → IsStrictlyIncreasing xs → Rises xs
rises xs up = from_pairs xs (AllPairs-from_increasing xs up)

pub increases : (xs : List ℕ) → Rises xs → IsStrictlyIncreasing xs
increases [] up k lt = absurd (omega arith)
increases (x ∷ []) up k lt = absurd (omega arith)
increases (x ∷ y ∷ ys) up zero lt = up.0 y (inl refl)
increases (x ∷ y ∷ ys) up (suc k) lt =
    let next : suc (k + 1) ≡ suc k + 1 = omega arith in
    subst (λ j. get_or (y ∷ ys) k 0 < get_or (x ∷ y ∷ ys) j 0) next (increases (y ∷ ys) up.1 k (omega (arith, lt)))

same_or_not : (m n : ℕ) → (m ≡ n) ⊎ (m ≢ n)
same_or_not zero zero = inl refl
same_or_not zero (suc n) = inr (λ e. absurd (omega arith))
same_or_not (suc m) zero = inr (λ e. absurd (omega arith))
same_or_not (suc m) (suc n) = elim (same_or_not m n) [ inl e ↦ inl (ap (λ k. suc k) e) | inr ne ↦ inr (λ e. ne (omega (arith, e))) ]

-- ---- a number between

put_in : (left : List ℕ) (n : ℕ) (right : List ℕ) → Rises (left ++ right) → ((m : ℕ) → In m left → m < n) → ((m : ℕ) → In m right → n < m) → Rises (left ++ n ∷ right)
put_in [] n right up low high = (high, up)
put_in (x ∷ left) n right up low high = (
  λ m i. elim (in_either m left (n ∷ right) i) [
    | inl l ↦ up.0 m (in_left m left right l)
    | inr (inl is) ↦ subst (λ y. x < y) is (low x (inl refl))
    | inr (inr r) ↦ up.0 m (in_right m left right r)
  ],
  put_in left n right up.1 (λ m i. low m (inr i)) high,
)

without : (m n : ℕ) (left right : List ℕ) → In m (left ++ right) → In m (left ++ n ∷ right)
without m n left right i = elim (in_either m left right i) [ inl l ↦ in_left m left (n ∷ right) l | inr r ↦ in_right m left (n ∷ right) (inr r) ]

within : (m n : ℕ) (left right : List ℕ) → In m (left ++ n ∷ right) → m ≢ n → In m (left ++ right)
within m n left right i ne = elim (in_either m left (n ∷ right) i) [
  | inl l ↦ in_left m left right l
  | inr (inl is) ↦ absurd (ne (sym is))
  | inr (inr r) ↦ in_right m left right r
]

take_out : (left : List ℕ) (n : ℕ) (right : List ℕ) → Rises (left ++ n ∷ right) → Rises (left ++ right)
take_out [] n right up = up.1
take_out (x ∷ left) n right up = (λ m i. up.0 m (without m n left right i), take_out left n right up.1)

low_before : (left : List ℕ) (n : ℕ) (right : List ℕ) → Rises (left ++ n ∷ right) → (m : ℕ) → In m left → m < n
low_before [] n right up m i = absurd i
low_before (x ∷ left) n right up m (inl is) = subst (λ y. y < n) is (up.0 n (in_right n left (n ∷ right) (inl refl)))
low_before (x ∷ left) n right up m (inr i) = low_before left n right up.1 m i

high_after : (left : List ℕ) (n : ℕ) (right : List ℕ) → Rises (left ++ n ∷ right) → (m : ℕ) → In m right → n < m
high_after [] n right up m i = up.0 m i
high_after (x ∷ left) n right up m i = high_after left n right up.1 m i

not_itself : (n : ℕ) → n < n → ⊥
not_itself n lt = absurd (omega arith)

none_twice : (left : List ℕ) (n : ℕ) (right : List ℕ) → Rises (left ++ n ∷ right) → In n (left ++ right) → ⊥
none_twice left n right up i = elim (in_either n left right i) [
  | inl l ↦ not_itself n (low_before left n right up n l)
  | inr r ↦ not_itself n (high_after left n right up n r)
]

both : (xs ys : List ℕ) (n : ℕ) → (In n xs → In n ys) → (In n ys → In n xs) → Contains xs n ↔ Contains ys n
both xs ys n to back = (λ c. contains_in n ys (to (in_contained n xs c)), λ c. contains_in n xs (back (in_contained n ys c)))

taken_out : (left : List ℕ) (n : ℕ) (right : List ℕ) → Rises (left ++ n ∷ right) → IsToggled n (left ++ n ∷ right) (left ++ right)
taken_out left n right up = record {
  rising = increases (left ++ right) (take_out left n right up);
  own = (λ c. absurd (none_twice left n right up (in_contained n (left ++ right) c)), λ none. absurd (none (contains_in n (left ++ n ∷ right) (in_right n left (n ∷ right) (inl refl)))));
  others = λ m ne. both (left ++ right) (left ++ n ∷ right) m (without m n left right) (λ i. within m n left right i ne);
}

put_there : (left : List ℕ) (n : ℕ) (right : List ℕ) → Rises (left ++ right) → ((m : ℕ) → In m left → m < n) → ((m : ℕ) → In m right → n < m) → IsToggled n (left ++ right) (left ++ n ∷ right)
put_there left n right up low high =
    let now : Rises (left ++ n ∷ right) = put_in left n right up low high in
    record {
      rising = increases (left ++ n ∷ right) now;
      own = (
        λ c there. none_twice left n right now (in_contained n (left ++ right) there),
        λ none. contains_in n (left ++ n ∷ right) (in_right n left (n ∷ right) (inl refl)),
      );
      others = λ m ne. both (left ++ n ∷ right) (left ++ right) m (λ i. within m n left right i ne) (without m n left right);
    }

-- ---- the rest of the numbers, up to a place

right_rises : (left right : List ℕ) → Rises (left ++ right) → Rises right
right_rises [] right up = up
right_rises (x ∷ left) right up = right_rises left right up.1

pub rest_rises : (left right : List ℕ) → IsStrictlyIncreasing (left ++ right) → (i j : ℕ) → i ≤ j → j < length right → get_or right i 0 ≤ get_or right j 0
rest_rises left right up i j le lt = elim (same_or_not i j) [
  | inl same ↦ (let e : get_or right i 0 ≡ get_or right j 0 = ap (λ k. get_or right k 0) same in omega arith)
  | inr ne ↦ (let p : get_or right i 0 < get_or right j 0 =
      AllPairs-from_increasing right (increases right (right_rises left right (rises (left ++ right) up))) i j 0 (omega (arith, ne, le)) lt in omega arith)
]

split_at : (xs : List ℕ) (at : ℕ) → at < length xs → xs ≡ take at xs ++ get_or xs at 0 ∷ drop (suc at) xs
split_at [] at lt = absurd (omega arith)
split_at (x ∷ xs) zero lt = refl
split_at (x ∷ xs) (suc at) lt = ap (λ ys. x ∷ ys) (split_at xs at (omega (arith, lt)))

in_take : (xs : List ℕ) (at n : ℕ) → In n (take at xs) → (k : ℕ) × (k < at) × (k < length xs) × (get_or xs k 0 ≡ n)
in_take [] zero n i = absurd i
in_take [] (suc at) n i = absurd i
in_take (x ∷ xs) zero n i = absurd i
in_take (x ∷ xs) (suc at) n (inl is) = (0, omega arith, omega arith, is)
in_take (x ∷ xs) (suc at) n (inr i) = let more = in_take xs at n i in (suc more.0, omega (arith, more.1), omega (arith, more.2), more.3)

in_drop : (xs : List ℕ) (at n : ℕ) → In n (drop at xs) → (k : ℕ) × (at ≤ k) × (k < length xs) × (get_or xs k 0 ≡ n)
in_drop xs zero n i = let c : Contains xs n = contains_in n xs i in (c.0, omega arith, c.1, at_any xs c.0 n c.1 ∙ c.2)
  where
    at_any : (ys : List ℕ) (k d : ℕ) → k < length ys → get_or ys k 0 ≡ get_or ys k d
    at_any [] k d lt = absurd (omega arith)
    at_any (y ∷ ys) zero d lt = refl
    at_any (y ∷ ys) (suc k) d lt = at_any ys k d (omega (arith, lt))
in_drop [] (suc at) n i = absurd i
in_drop (x ∷ xs) (suc at) n i = let more = in_drop xs at n i in (suc more.0, omega (arith, more.1), omega (arith, more.2), more.3)

pub found_there : (old rest new after : List ℕ) (at n : ℕ) → IsStrictlyIncreasing (old ++ rest) → at < length rest → get_or rest at 0 ≡ n → new ≡ old ++ take at rest → after ≡ drop (at + 1) rest
    → IsToggled n (old ++ rest) (new ++ after)
found_there old rest new after at n up lt is e f =
    let whole : old ++ rest ≡ (old ++ take at rest) ++ n ∷ drop (suc at) rest =
    ap (λ xs. old ++ xs) (split_at rest at lt ∙ ap (λ m. take at rest ++ m ∷ drop (suc at) rest) is) ∙ sym (append_assoc old (take at rest) (n ∷ drop (suc at) rest)) in
    let last : new ++ after ≡ (old ++ take at rest) ++ drop (suc at) rest =
    ap (λ xs. xs ++ after) e ∙ ap (λ xs. (old ++ take at rest) ++ xs) (f ∙ ap (λ k. drop k rest) (let s : at + 1 ≡ suc at = omega arith in s)) in
    let now : Rises ((old ++ take at rest) ++ n ∷ drop (suc at) rest) = subst Rises whole (rises (old ++ rest) up) in
    subst (λ xs. IsToggled n xs (new ++ after)) (sym whole) (subst (λ xs. IsToggled n ((old ++ take at rest) ++ n ∷ drop (suc at) rest) xs) (sym last) (taken_out (old ++ take at rest) n (drop (suc at) rest) now))

pub all_in : (P : ℕ → Type 0) (xs : List ℕ) → ((n : ℕ) → In n xs → P n) → All P xs
all_in P xs h k d lt = h (get_or xs k d) (in_contained (get_or xs k d) xs (Contains-get_or xs k d lt))

-- the numbers below one, as far as they have gone
low_there : (left : List ℕ) (n : ℕ) (right new : List ℕ) → Rises (left ++ n ∷ right) → new ≡ left → All (λ m. m ≤ n) new
low_there left n right new up e = all_in (λ m. m ≤ n) new (λ m i. let lt : m < n = low_before left n right up m (subst (In m) e i) in omega arith)

pub found_low : (old rest new : List ℕ) (at n : ℕ) → IsStrictlyIncreasing (old ++ rest) → at < length rest → get_or rest at 0 ≡ n → new ≡ old ++ take at rest → All (λ m. m ≤ n) new
found_low old rest new at n up lt is e =
    let whole : old ++ rest ≡ (old ++ take at rest) ++ n ∷ drop (suc at) rest =
    ap (λ xs. old ++ xs) (split_at rest at lt ∙ ap (λ m. take at rest ++ m ∷ drop (suc at) rest) is) ∙ sym (append_assoc old (take at rest) (n ∷ drop (suc at) rest)) in
    low_there (old ++ take at rest) n (drop (suc at) rest) new (subst Rises whole (rises (old ++ rest) up)) e

pub of_all : (P : ℕ → Type 0) (xs : List ℕ) (n : ℕ) → All P xs → In n xs → P n
of_all P xs n h i = All-contains P xs n h (contains_in n xs i)

pub lower : (old rest new : List ℕ) (at n : ℕ) → All (λ m. m < n) old → ((k : ℕ) → k < at → get_or rest k 0 < n) → new ≡ old ++ take at rest → (m : ℕ) → In m new → m < n
lower old rest new at n low before e m i = elim (in_either m old (take at rest) (subst (In m) e i)) [
  | inl o ↦ of_all (λ m. m < n) old m low o
  | inr t ↦ (let there = in_take rest at m t in subst (λ y. y < n) there.3 (before there.0 there.1))
]

pub none_there : (old rest mid new after : List ℕ) (at n : ℕ) → IsStrictlyIncreasing (old ++ rest) → All (λ m. m < n) old → ((k : ℕ) → k < at → get_or rest k 0 < n)
    → ((k : ℕ) → at ≤ k → k < length rest → n < get_or rest k 0) → mid ≡ old ++ take at rest → new ≡ mid ++ n ∷ [] → after ≡ drop at rest → IsToggled n (old ++ rest) (new ++ after)
none_there old rest mid new after at n up low before later e f g =
    let whole : old ++ rest ≡ mid ++ drop at rest =
    ap (λ xs. old ++ xs) (sym (take-append-drop at rest)) ∙ sym (append_assoc old (take at rest) (drop at rest)) ∙ ap (λ xs. xs ++ drop at rest) (sym e) in
    let last : new ++ after ≡ mid ++ n ∷ drop at rest = ap (λ xs. xs ++ after) f ∙ append_assoc mid (n ∷ []) after ∙ ap (λ xs. mid ++ n ∷ xs) g in
    subst (λ xs. IsToggled n xs (new ++ after)) (sym whole) (subst (λ xs. IsToggled n (mid ++ drop at rest) xs) (sym last)
    (put_there mid n (drop at rest) (subst Rises whole (rises (old ++ rest) up)) (lower old rest mid at n low before e)
    (λ m i. let there = in_drop rest at m i in subst (λ y. n < y) there.3 (later there.0 there.1 there.2))))

pub none_low : (old rest mid new : List ℕ) (at n : ℕ) → All (λ m. m < n) old → ((k : ℕ) → k < at → get_or rest k 0 < n) → mid ≡ old ++ take at rest → new ≡ mid ++ n ∷ [] → All (λ m. m ≤ n) new
none_low old rest mid new at n low before e f = all_in (λ m. m ≤ n) new (λ m i. elim (in_either m mid (n ∷ []) (subst (In m) f i)) [
  | inl l ↦ (let lt : m < n = lower old rest mid at n low before e m l in omega arith)
  | inr (inl is) ↦ omega (arith, is)
  | inr (inr none) ↦ absurd none
])

-- what the search tells
abbrev Searched : List ℕ → ℕ → Result ℕ ℕ → Type 0
Searched xs n r = MatchResult r (λ i. (i < length xs) × (get_or xs i 0 ≡ n)) (λ i. (i ≤ length xs) × ((k : ℕ) → k < i → get_or xs k 0 < n) × ((k : ℕ) → i ≤ k → k < length xs → n < get_or xs k 0))

pub search_found : (old rest : List ℕ) (n : ℕ) (r : Result ℕ ℕ) (at : ℕ) → IsStrictlyIncreasing (old ++ rest) → IsBinarySearchResult (λ y. nat_cmp y n) rest r → r ≡ Ok at → (at < length rest) × (get_or rest at 0 ≡ n)
search_found old rest n r at up h e = subst (Searched rest n) e (searched rest n r h (rest_rises old rest up))

pub search_none : (old rest : List ℕ) (n : ℕ) (r : Result ℕ ℕ) (at : ℕ) → IsStrictlyIncreasing (old ++ rest) → IsBinarySearchResult (λ y. nat_cmp y n) rest r → r ≡ Err at
    → (at ≤ length rest) × ((k : ℕ) → k < at → get_or rest k 0 < n) × ((k : ℕ) → at ≤ k → k < length rest → n < get_or rest k 0)
search_none old rest n r at up h e = subst (Searched rest n) e (searched rest n r h (rest_rises old rest up))

-- ---- one number more that changes

step_to : (first seen : List ℕ) (before after : List ℕ) (n : ℕ) → (In n seen → ⊥) → IsToggled n before after → ((m : ℕ) → Contains before m ↔ IsInOne first seen m)
    → (m : ℕ) → (m ≡ n) ⊎ (m ≢ n) → Contains after m → IsInOne first (seen ++ n ∷ []) m
step_to first seen before after n new t h m (inl is) c =
    inr (
      λ f. t.own.0 (subst (Contains after) is c) ((h n).1 (inl (subst (Contains first) is f, λ s. new (in_contained n seen s)))),
      contains_in m (seen ++ n ∷ []) (in_right m seen (n ∷ []) (inl (sym is))),
    )
step_to first seen before after n new t h m (inr ne) c = elim ((h m).0 ((t.others m ne).0 c)) [
  | inl e ↦ inl (e.0, λ s. elim (in_either m seen (n ∷ []) (in_contained m (seen ++ n ∷ []) s)) [ inl i ↦ e.1 (contains_in m seen i) | inr (inl same) ↦ ne (sym same) | inr (inr none) ↦ none ])
  | inr e ↦ inr (e.0, contains_in m (seen ++ n ∷ []) (in_left m seen (n ∷ []) (in_contained m seen e.1)))
]

step_back : (first seen : List ℕ) (before after : List ℕ) (n : ℕ) → (In n seen → ⊥) → IsToggled n before after → ((m : ℕ) → Contains before m ↔ IsInOne first seen m)
    → (m : ℕ) → (m ≡ n) ⊎ (m ≢ n) → IsInOne first (seen ++ n ∷ []) m → Contains after m
step_back first seen before after n new t h m (inl is) (inl e) = absurd (e.1 (contains_in m (seen ++ n ∷ []) (in_right m seen (n ∷ []) (inl (sym is)))))
step_back first seen before after n new t h m (inl is) (inr e) =
    subst (Contains after) (sym is) (t.own.1 (λ b. elim ((h n).0 b) [ inl f ↦ e.0 (subst (Contains first) (sym is) f.0) | inr s ↦ new (in_contained n seen s.1) ]))
step_back first seen before after n new t h m (inr ne) (inl e) =
    (t.others m ne).1 ((h m).1 (inl (e.0, λ s. e.1 (contains_in m (seen ++ n ∷ []) (in_left m seen (n ∷ []) (in_contained m seen s))))))
step_back first seen before after n new t h m (inr ne) (inr e) = elim (in_either m seen (n ∷ []) (in_contained m (seen ++ n ∷ []) e.1)) [
  | inl i ↦ (t.others m ne).1 ((h m).1 (inr (e.0, contains_in m seen i)))
  | inr (inl same) ↦ absurd (ne (sym same))
  | inr (inr none) ↦ absurd none
]

not_yet : (changed : List ℕ) (i : ℕ) → IsStrictlyIncreasing changed → i < length changed → In (get_or changed i 0) (take i changed) → ⊥
not_yet changed i up lt there =
    let seen = in_take changed i (get_or changed i 0) there in
    let less : get_or changed seen.0 0 < get_or changed i 0 = AllPairs-from_increasing changed up seen.0 i 0 seen.1 lt in
    omega (arith, less, seen.3)

pub toggled_more : (first changed before after : List ℕ) (i n : ℕ) → IsStrictlyIncreasing changed → i < length changed → n ≡ get_or changed i 0 → IsToggled n before after
    → ((m : ℕ) → Contains before m ↔ IsInOne first (take i changed) m) → (m : ℕ) → Contains after m ↔ IsInOne first (take (i + 1) changed) m
toggled_more first changed before after i n up lt is t h m =
    let new : In n (take i changed) → ⊥ = λ there. not_yet changed i up lt (subst (λ k. In k (take i changed)) is there) in
    let seen : take (i + 1) changed ≡ take i changed ++ n ∷ [] = take_more changed i 0 lt ∙ ap (λ k. take i changed ++ k ∷ []) (sym is) in (
      λ c. subst (λ s. IsInOne first s m) (sym seen) (step_to first (take i changed) before after n new t h m (same_or_not m n) c),
      λ e. step_back first (take i changed) before after n new t h m (same_or_not m n) (subst (λ s. IsInOne first s m) seen e),
    )

pub below_later : (changed new : List ℕ) (i n k d : ℕ) → IsStrictlyIncreasing changed → n ≡ get_or changed i 0 → All (λ m. m ≤ n) new → i + 1 ≤ k → k < length changed → All (λ m. m < get_or changed k d) new
below_later changed new i n k d up is low le lt = all_in (λ m. m < get_or changed k d) new (λ m there.
    let at_most : m ≤ n = of_all (λ j. j ≤ n) new m low there in
    let less : get_or changed i d < get_or changed k d = AllPairs-from_increasing changed up i k d (omega arith) lt in
    let same : get_or changed i d ≡ get_or changed i 0 = get_or_default changed i d 0 (omega arith) in
    omega arith)

pub none_seen : (first : List ℕ) (m : ℕ) → Contains first m ↔ IsInOne first [] m
none_seen first m = (
  λ c. inl (c, λ none. in_contained m [] none),
  λ e. elim e [ inl f ↦ f.0 | inr s ↦ absurd (in_contained m [] s.1) ],
)
