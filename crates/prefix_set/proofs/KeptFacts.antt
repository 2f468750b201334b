-- What is kept of a list when the members at some places are left out.
use Rattle.std.proofs.Common.{◌≡◌, ℕ, zero, suc, ◌+◌, ◌-◌, ◌<◌, ◌≤◌, ◌⊎◌, inl, inr, Bool, true, false, cond, not, List, [], ◌∷◌, ◌++◌, length, take, drop, map, get_or, refl, sym, ap, subst, ◌∙◌, arith, append_assoc, append-nil, length-drop}
use Rattle.std.specs.Prelude.{◌↔◌, ◌==◌, slice_get, Some}
use Rattle.std.specs.List.{Any, AllByRecursion, Contains, list_any, enumerate_from, filter}
use Rattle.std.specs.List.Sorted.{IsStrictlyIncreasing}
use Rattle.std.proofs.lemmas.Bool.{cases_lt, eqb-true, eq-eqb}
use Rattle.std.proofs.lemmas.Bool.Decides.{eqb_tells}
use Rattle.std.proofs.lemmas.List.{drop-drop, length-take-le, take_all, get_or_default}
use Rattle.std.proofs.lemmas.Option.{slice_get-get_or}
use Rattle.std.proofs.lemmas.List.Folds.{list_any-from_Any, Any-from_list_any, list_any_none}
use Rattle.std.proofs.lemmas.List.Kept.{AllPairs-from_increasing}
use Rattle.std.proofs.lemmas.Map.Keys.{sorted_head, sorted_tail}
use Rattle.std.proofs.Math.Seq.{take-add}
use Rattle.sb_model.specs.Prefixes.{bytes_cmp, IsRising}
use Rattle.prefix_set.specs.Kept.{kept_from, kept_between, AreDone}
use Rattle.prefix_set.specs.Search.{run}
use Rattle.prefix_set.proofs.SetFacts.{IsBefore, rising_cons, Contains-here, Contains-there, Contains-cases, Contains-nil}

-- whether a place is among the removals
abbrev pub is_removed : List ℕ → ℕ → Bool
is_removed removals place = list_any (λ other. other == place) removals

-- ---- runs

pub run_split : (xs : List (List ℕ)) (i j k : ℕ) → i ≤ j → j ≤ k → run i k xs ≡ run i j xs ++ run j k xs
run_split xs i j k low high =
    let whole : k - i ≡ (j - i) + (k - j) = omega arith in
    let next : i + (j - i) ≡ j = omega arith in
    ap (λ (n : ℕ). take n (drop i xs)) whole ∙ take-add (j - i) (k - j) (drop i xs)
    ∙ ap (λ (ys : List (List ℕ)). run i j xs ++ take (k - j) ys) (drop-drop (j - i) i xs ∙ ap (λ (n : ℕ). drop n xs) next)

pub length-run : (xs : List (List ℕ)) (i j : ℕ) → i ≤ j → j ≤ length xs → length (run i j xs) ≡ j - i
length-run xs i j order within = let room : j - i ≤ length (drop i xs) = omega (arith, length-drop i xs) in length-take-le (j - i) (drop i xs) room

pub run_all : (xs : List (List ℕ)) → run 0 (length xs) xs ≡ xs
run_all xs = take_all (length xs - 0) xs (omega arith)

pub run_one : (xs : List (List ℕ)) (i : ℕ) (x : List ℕ) → slice_get xs i ≡ Some x → run i (i + 1) xs ≡ x ∷ []
run_one [] i x is = cc
run_one (y ∷ ys) zero x is = let same : y ≡ x = cc in ap (λ (z : List ℕ). z ∷ []) same
run_one (y ∷ ys) (suc i) x is =
    let one : suc i + 1 - suc i ≡ i + 1 - i = omega arith in
    ap (λ (n : ℕ). take n (drop i ys)) one ∙ run_one ys i x is

-- ---- one member, and one list after another

kept_cons : (n : ℕ) (x : List ℕ) (xs : List (List ℕ)) (removals : List ℕ)
    → kept_from n (x ∷ xs) removals ≡ cond (is_removed removals n) (kept_from (n + 1) xs removals) (x ∷ kept_from (n + 1) xs removals)
kept_cons n x xs removals = go (is_removed removals n)
  where
    go : (b : Bool) → map (λ (m : ℕ × List ℕ). m.1) (cond (not b) ((n, x) ∷ filter (λ (m : ℕ × List ℕ). not (is_removed removals m.0)) (enumerate_from (n + 1) xs)) (filter (λ (m : ℕ × List ℕ). not (is_removed removals m.0)) (enumerate_from (n + 1) xs)))
        ≡ cond b (kept_from (n + 1) xs removals) (x ∷ kept_from (n + 1) xs removals)
    go true = refl
    go false = refl

pub kept_append : (n : ℕ) (xs ys : List (List ℕ)) (removals : List ℕ)
    → kept_from n (xs ++ ys) removals ≡ kept_from n xs removals ++ kept_from (n + length xs) ys removals
kept_append n [] ys removals = let here : n ≡ n + 0 = omega arith in ap (λ (m : ℕ). kept_from m ys removals) here
kept_append n (x ∷ xs) ys removals =
    let next : n + 1 + length xs ≡ n + length (x ∷ xs) = omega arith in
    let rest : kept_from (n + 1) (xs ++ ys) removals ≡ kept_from (n + 1) xs removals ++ kept_from (n + length (x ∷ xs)) ys removals
    = kept_append (n + 1) xs ys removals ∙ ap (λ (m : ℕ). kept_from (n + 1) xs removals ++ kept_from m ys removals) next in
    kept_cons n x (xs ++ ys) removals ∙ go (is_removed removals n) rest
    ∙ ap (λ (zs : List (List ℕ)). zs ++ kept_from (n + length (x ∷ xs)) ys removals) (sym (kept_cons n x xs removals))
  where
    go : (b : Bool) → kept_from (n + 1) (xs ++ ys) removals ≡ kept_from (n + 1) xs removals ++ kept_from (n + length (x ∷ xs)) ys removals
        → cond b (kept_from (n + 1) (xs ++ ys) removals) (x ∷ kept_from (n + 1) (xs ++ ys) removals)
        ≡ cond b (kept_from (n + 1) xs removals) (x ∷ kept_from (n + 1) xs removals) ++ kept_from (n + length (x ∷ xs)) ys removals
    go true rest = rest
    go false rest = ap (λ (zs : List (List ℕ)). x ∷ zs) rest

pub kept_split : (xs : List (List ℕ)) (removals : List ℕ) (i j k : ℕ) → i ≤ j → j ≤ k → k ≤ length xs
    → kept_between xs removals i k ≡ kept_between xs removals i j ++ kept_between xs removals j k
kept_split xs removals i j k low high within =
    let inside : j ≤ length xs = omega arith in
    let next : i + length (run i j xs) ≡ j = omega (arith, length-run xs i j low inside) in
    ap (λ (ys : List (List ℕ)). kept_from i ys removals) (run_split xs i j k low high) ∙ kept_append i (run i j xs) (run j k xs) removals
    ∙ ap (λ (m : ℕ). kept_between xs removals i j ++ kept_from m (run j k xs) removals) next

-- ---- all of them, and none

kept_all : (n : ℕ) (xs : List (List ℕ)) (removals : List ℕ) → ((k : ℕ) → n ≤ k → k < n + length xs → is_removed removals k ≡ false) → kept_from n xs removals ≡ xs
kept_all n [] removals stays = refl
kept_all n (x ∷ xs) removals stays =
    kept_cons n x xs removals
    ∙ ap (λ (b : Bool). cond b (kept_from (n + 1) xs removals) (x ∷ kept_from (n + 1) xs removals)) (stays n (omega arith) (omega arith))
    ∙ ap (λ (ys : List (List ℕ)). x ∷ ys) (kept_all (n + 1) xs removals (λ k low high. stays k (omega arith) (omega arith)))

kept_none : (n : ℕ) (x : List ℕ) (removals : List ℕ) → is_removed removals n ≡ true → kept_from n (x ∷ []) removals ≡ []
kept_none n x removals goes = kept_cons n x [] removals ∙ ap (λ (b : Bool). cond b (kept_from (n + 1) [] removals) (x ∷ kept_from (n + 1) [] removals)) goes

pub Contains-kept : (n : ℕ) (xs : List (List ℕ)) (removals : List ℕ) (z : List ℕ) → Contains (kept_from n xs removals) z → Contains xs z
Contains-kept n [] removals z h = h
Contains-kept n (x ∷ xs) removals z h = go (is_removed removals n) (subst (λ (ys : List (List ℕ)). Contains ys z) (kept_cons n x xs removals) h) (Contains-kept (n + 1) xs removals z)
  where
    go : (b : Bool) → Contains (cond b (kept_from (n + 1) xs removals) (x ∷ kept_from (n + 1) xs removals)) z
        → (Contains (kept_from (n + 1) xs removals) z → Contains xs z) → Contains (x ∷ xs) z
    go true h more = Contains-there x z xs (more h)
    go false h more = elim (Contains-cases x z (kept_from (n + 1) xs removals) h) [
      | inl same ↦ subst (Contains (x ∷ xs)) same (Contains-here x xs)
      | inr later ↦ Contains-there x z xs (more later)
    ]

after-kept : (n : ℕ) (y : List ℕ) (xs : List (List ℕ)) (removals : List ℕ) → AllByRecursion (IsBefore y) xs → AllByRecursion (IsBefore y) (kept_from n xs removals)
after-kept n y [] removals h = tt
after-kept n y (x ∷ xs) removals h = subst (AllByRecursion (IsBefore y)) (sym (kept_cons n x xs removals)) (go (is_removed removals n) (after-kept (n + 1) y xs removals h.1))
  where
    go : (b : Bool) → AllByRecursion (IsBefore y) (kept_from (n + 1) xs removals)
        → AllByRecursion (IsBefore y) (cond b (kept_from (n + 1) xs removals) (x ∷ kept_from (n + 1) xs removals))
    go true more = more
    go false more = (h.0, more)

pub rising-kept : (n : ℕ) (xs : List (List ℕ)) (removals : List ℕ) → IsRising xs → IsRising (kept_from n xs removals)
rising-kept n [] removals up = up
rising-kept n (x ∷ xs) removals up = subst IsRising (sym (kept_cons n x xs removals)) (go (is_removed removals n) (rising-kept (n + 1) xs removals (sorted_tail bytes_cmp x xs up)))
  where
    go : (b : Bool) → IsRising (kept_from (n + 1) xs removals) → IsRising (cond b (kept_from (n + 1) xs removals) (x ∷ kept_from (n + 1) xs removals))
    go true more = more
    go false more = rising_cons x (kept_from (n + 1) xs removals) (after-kept (n + 1) x xs removals (sorted_head bytes_cmp x xs up)) more

-- ---- removals in rising order, of which some are done

removed_at : (removals : List ℕ) (i place : ℕ) → i < length removals → get_or removals i 0 ≡ place → is_removed removals place ≡ true
removed_at removals i place within is =
    list_any-from_Any (λ (other : ℕ). other == place) removals
    (i, get_or removals i 0, within, get_or_default removals i (get_or removals i 0) 0 within, eq-eqb (get_or removals i 0) place is)

later : (removals : List ℕ) (i j : ℕ) → IsStrictlyIncreasing removals → i ≤ j → j < length removals → get_or removals i 0 ≤ get_or removals j 0
later removals i j up order within = elim (cases_lt i j) [
  | inl lt ↦ omega (arith, AllPairs-from_increasing removals up i j 0 lt within)
  | inr ge ↦ let same : i ≡ j = omega arith in subst (λ (n : ℕ). get_or removals i 0 ≤ get_or removals n 0) same (omega arith)
]

pub not_equal : (a b : ℕ) → (a ≡ b → ⊥) → (a == b) ≡ false
not_equal a b unlike = elim (eqb_tells a b) [ inl same ↦ absurd (unlike same.1) | inr other ↦ other.0 ]

-- no removal is from one place on and before another, where those done are in front and the next is not before
none_between : (removals : List ℕ) (count place to k : ℕ) → IsStrictlyIncreasing removals → AreDone removals count place
    → (count < length removals → to ≤ get_or removals count 0) → place ≤ k → k < to → is_removed removals k ≡ false
none_between removals count place to k up done next low high =
    list_any_none (λ (other : ℕ). other == k) removals (λ i d within. unlike i d within (cases_lt i count))
  where
    unlike : (i d : ℕ) → i < length removals → (i < count) ⊎ (count ≤ i) → (get_or removals i d == k) ≡ false
    unlike i d within (inl lt) = not_equal (get_or removals i d) k (λ is. omega (arith, done.below i lt, get_or_default removals i 0 d within, is))
    unlike i d within (inr ge) = not_equal (get_or removals i d) k (λ is. omega (arith, next (omega arith), later removals count i up ge within, get_or_default removals i 0 d within, is))

-- ---- a copy of what is kept

pub kept_nothing : (out : List (List ℕ)) (xs : List (List ℕ)) (removals : List ℕ) (place : ℕ) → out ≡ out ++ kept_between xs removals place place
kept_nothing out xs removals place =
    let none : place - place ≡ 0 = omega arith in
    sym (append-nil out) ∙ ap (λ (n : ℕ). out ++ kept_from place (take n (drop place xs)) removals) (sym none)

-- a whole run, up to the next removal or to the end
pub kept_run : (old out new : List (List ℕ)) (xs : List (List ℕ)) (removals : List ℕ) (from start count to : ℕ) → IsStrictlyIncreasing removals
    → AreDone removals count start → (count < length removals → to ≤ get_or removals count 0) → from ≤ start → start ≤ to → to ≤ length xs
    → out ≡ old ++ kept_between xs removals from start → new ≡ out ++ run start to xs → new ≡ old ++ kept_between xs removals from to
kept_run old out new xs removals from start count to up done next low high within so_far pushed =
    let all : kept_between xs removals start to ≡ run start to xs = kept_all start (run start to xs) removals
    (λ k least most. none_between removals count start to k up done next least (omega (arith, length-run xs start to high within))) in
    pushed ∙ ap (λ (ys : List (List ℕ)). ys ++ run start to xs) so_far ∙ append_assoc old (kept_between xs removals from start) (run start to xs)
    ∙ ap (λ (ys : List (List ℕ)). old ++ (kept_between xs removals from start ++ ys)) (sym all)
    ∙ ap (λ (ys : List (List ℕ)). old ++ ys) (sym (kept_split xs removals from start to low high within))

-- the member at a removal
kept_past : (xs : List (List ℕ)) (removals : List ℕ) (from count place : ℕ) → from ≤ place → place < length xs → count < length removals
    → get_or removals count 0 ≡ place → kept_between xs removals from (place + 1) ≡ kept_between xs removals from place
kept_past xs removals from count place low within inside is =
    let next : place ≤ place + 1 = omega arith in
    let room : place + 1 ≤ length xs = omega arith in
    kept_split xs removals from place (place + 1) low next room
    ∙ ap (λ (ys : List (List ℕ)). kept_between xs removals from place ++ kept_from place ys removals) (run_one xs place (get_or xs place []) (slice_get-get_or xs place [] within))
    ∙ ap (λ (ys : List (List ℕ)). kept_between xs removals from place ++ ys) (kept_none place (get_or xs place []) removals (removed_at removals count place inside is))
    ∙ append-nil (kept_between xs removals from place)

-- a run up to a removal, and past it
pub kept_removed : (old out new : List (List ℕ)) (xs : List (List ℕ)) (removals : List ℕ) (from start count removal : ℕ) → IsStrictlyIncreasing removals
    → AreDone removals count start → count < length removals → get_or removals count 0 ≡ removal → from ≤ start → start ≤ removal → removal < length xs
    → out ≡ old ++ kept_between xs removals from start → new ≡ out ++ run start removal xs → new ≡ old ++ kept_between xs removals from (removal + 1)
kept_removed old out new xs removals from start count removal up done inside is low high within so_far pushed =
    let order : from ≤ removal = omega arith in
    kept_run old out new xs removals from start count removal up done (λ _. omega (arith, is)) low high (omega arith) so_far pushed
    ∙ ap (λ (ys : List (List ℕ)). old ++ ys) (sym (kept_past xs removals from count removal order within inside is))

pub done_more : (removals : List ℕ) (count place next : ℕ) → AreDone removals count place → count < length removals → place ≤ next → get_or removals count 0 < next → AreDone removals (count + 1) next
done_more removals count place next done inside order below = record {
  within = omega arith;
  below = λ k lt. elim (cases_lt k count) [
    | inl earlier ↦ omega (arith, done.below k earlier)
    | inr ge ↦ let same : count ≡ k = omega arith in subst (λ (n : ℕ). get_or removals n 0 < next) same below
  ];
}

pub done_further : (removals : List ℕ) (count place next : ℕ) → AreDone removals count place → place ≤ next → AreDone removals count next
done_further removals count place next done order = record { within = done.within; below = λ k lt. omega (arith, done.below k lt) }

pub done_none : (removals : List ℕ) → AreDone removals 0 0
done_none removals = record { within = omega arith; below = λ k lt. absurd (omega arith) }

-- ---- other removals at the same places

pub is_removed_Contains : (removals : List ℕ) (place : ℕ) → is_removed removals place ≡ true → Contains removals place
is_removed_Contains removals place h =
    let found : Any (λ (other : ℕ). (other == place) ≡ true) removals = Any-from_list_any (λ (other : ℕ). other == place) removals h in
    (found.0, found.2, get_or_default removals found.0 place found.1 found.2 ∙ found.3 ∙ eqb-true found.1 place found.4)

pub Contains-is_removed : (removals : List ℕ) (place : ℕ) → Contains removals place → is_removed removals place ≡ true
Contains-is_removed removals place h = removed_at removals h.0 place h.1 (get_or_default removals h.0 0 place h.1 ∙ h.2)

same_removed : (one other : List ℕ) (place : ℕ) → (Contains one place ↔ Contains other place) → is_removed one place ≡ is_removed other place
same_removed one other place same = go (is_removed one place) (is_removed other place)
    (λ h. Contains-is_removed other place (same.0 (is_removed_Contains one place h)))
    (λ h. Contains-is_removed one place (same.1 (is_removed_Contains other place h)))
  where
    go : (a b : Bool) → (a ≡ true → b ≡ true) → (b ≡ true → a ≡ true) → a ≡ b
    go true b to from = sym (to refl)
    go false true to from = from refl
    go false false to from = refl

pub same_kept : (n : ℕ) (xs : List (List ℕ)) (one other : List ℕ) → ((place : ℕ) → Contains one place ↔ Contains other place) → kept_from n xs one ≡ kept_from n xs other
same_kept n [] one other same = refl
same_kept n (x ∷ xs) one other same =
    kept_cons n x xs one
    ∙ (λ i. cond (same_removed one other n (same n) i) (same_kept (n + 1) xs one other same i) (x ∷ same_kept (n + 1) xs one other same i))
    ∙ sym (kept_cons n x xs other)

-- ---- what is kept, by members

-- a member stands at a place that is not removed, where places are counted from a number
pub record StaysAt (n : ℕ) (xs : List (List ℕ)) (removals z : List ℕ) : Type 0 where
  pub place : ℕ
  pub is : slice_get xs place ≡ Some z
  pub stays : is_removed removals (n + place) ≡ false

pub StaysAt-from_kept : (n : ℕ) (xs : List (List ℕ)) (removals z : List ℕ) → Contains (kept_from n xs removals) z → StaysAt n xs removals z
StaysAt-from_kept n [] removals z h = absurd (Contains-nil z h)
StaysAt-from_kept n (x ∷ xs) removals z h =
    go (is_removed removals n) refl (subst (λ (ys : List (List ℕ)). Contains ys z) (kept_cons n x xs removals) h) (λ k. further (StaysAt-from_kept (n + 1) xs removals z k))
  where
    further : StaysAt (n + 1) xs removals z → StaysAt n (x ∷ xs) removals z
    further s = let later : n + 1 + s.place ≡ n + suc s.place = omega arith in
        record { place = suc s.place; is = s.is; stays = subst (λ (place : ℕ). is_removed removals place ≡ false) later s.stays }

    go : (b : Bool) → is_removed removals n ≡ b → Contains (cond b (kept_from (n + 1) xs removals) (x ∷ kept_from (n + 1) xs removals)) z
        → (Contains (kept_from (n + 1) xs removals) z → StaysAt n (x ∷ xs) removals z) → StaysAt n (x ∷ xs) removals z
    go true is h more = more h
    go false is h more = elim (Contains-cases x z (kept_from (n + 1) xs removals) h) [
      | inl same ↦ let here : n ≡ n + 0 = omega arith in
          record { place = 0; is = (λ i. Some (same i)); stays = subst (λ (place : ℕ). is_removed removals place ≡ false) here is }
      | inr later ↦ more later
    ]

kept_at : (n k : ℕ) (xs : List (List ℕ)) (removals z : List ℕ) → slice_get xs k ≡ Some z → is_removed removals (n + k) ≡ false → Contains (kept_from n xs removals) z
kept_at n k [] removals z is stays = cc
kept_at n zero (x ∷ xs) removals z is stays =
    let same : x ≡ z = cc in
    let here : n + 0 ≡ n = omega arith in
    subst (λ (ys : List (List ℕ)). Contains ys z)
    (sym (kept_cons n x xs removals ∙ ap (λ (b : Bool). cond b (kept_from (n + 1) xs removals) (x ∷ kept_from (n + 1) xs removals)) (subst (λ (place : ℕ). is_removed removals place ≡ false) here stays)))
    (subst (Contains (x ∷ kept_from (n + 1) xs removals)) same (Contains-here x (kept_from (n + 1) xs removals)))
kept_at n (suc k) (x ∷ xs) removals z is stays =
    let later : n + suc k ≡ n + 1 + k = omega arith in
    subst (λ (ys : List (List ℕ)). Contains ys z) (sym (kept_cons n x xs removals))
    (go (is_removed removals n) (kept_at (n + 1) k xs removals z is (subst (λ (place : ℕ). is_removed removals place ≡ false) later stays)))
  where
    go : (b : Bool) → Contains (kept_from (n + 1) xs removals) z → Contains (cond b (kept_from (n + 1) xs removals) (x ∷ kept_from (n + 1) xs removals)) z
    go true h = h
    go false h = Contains-there x z (kept_from (n + 1) xs removals) h

pub kept_from_StaysAt : (n : ℕ) (xs : List (List ℕ)) (removals z : List ℕ) → StaysAt n xs removals z → Contains (kept_from n xs removals) z
kept_from_StaysAt n xs removals z s = kept_at n s.place xs removals z s.is s.stays
