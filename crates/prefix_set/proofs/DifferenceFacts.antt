-- The places that a newer set lacks and the members that an older one lacks, and that they lead from one to the other.
use Rattle.std.proofs.Common.{◌≡◌, ℕ, zero, suc, ◌+◌, ◌<◌, ◌≤◌, ◌⊎◌, inl, inr, Bool, true, false, cond, not, List, [], ◌∷◌, ◌++◌, length, take, drop, map, get_or, refl, sym, ap, subst, ◌∙◌, arith, append-nil}
use Rattle.std.specs.Prelude.{◌↔◌, IsTrue, ◌==◌, ◌||◌, slice_get, Some}
use Rattle.std.specs.List.{All, Any, Contains, enumerate_from, filter}
use Rattle.std.specs.Str.{bytes_eq}
use Rattle.std.specs.Cmp.Lexicographic.{bytes_decides}
use Rattle.std.proofs.lemmas.Bool.{cases_lt, eq-eqb, false≢true}
use Rattle.std.proofs.lemmas.List.{take-append-drop, length-take-le}
use Rattle.std.proofs.lemmas.List.Elements.{All-nil, All-cons, All-weaker, All-filter, All-contains, All-contains_itself, Contains-get_or, Contains-append_left, Contains-append_right, Contains-append_cases, filter_more}
use Rattle.std.proofs.lemmas.List.Folds.{list_any-from_Any, Any-from_list_any}
use Rattle.std.proofs.lemmas.Option.{get_or_from_slice_get, slice_get_within, slice_get-get_or}
use Rattle.sb_model.specs.Candidate.{without_places}
use Rattle.sb_model.specs.Difference.{has_member, removed_places, added_members}
use Rattle.sb_model.specs.Prefixes.{IsRising}
use Rattle.prefix_set.specs.Apply.{applied}
use Rattle.prefix_set.specs.Search.{run, IsPlaceOf}
use Rattle.prefix_set.proofs.KeptFacts.{is_removed, length-run, not_equal, StaysAt, StaysAt-from_kept, kept_from_StaysAt}
use Rattle.prefix_set.proofs.MergeFacts.{Contains-drop, Contains-run_back, front_more}
use Rattle.prefix_set.proofs.SetFacts.{IsBefore, before_itself, Contains-here, Contains-there, Contains-cases, rising-set_of, members-set_of, rising_unique}

-- ---- members, by the test

pub has_Contains : (set : List (List ℕ)) (x : List ℕ) → has_member set x ≡ true → Contains set x
has_Contains set x h =
    let found : Any (λ (other : List ℕ). bytes_eq other x ≡ true) set = Any-from_list_any (λ (other : List ℕ). bytes_eq other x) set h in
    subst (Contains set) ((bytes_decides found.1 x).0 found.4) (found.0, found.2, found.3)

pub Contains-has : (set : List (List ℕ)) (x : List ℕ) → Contains set x → has_member set x ≡ true
Contains-has set x h =
    list_any-from_Any (λ (other : List ℕ). bytes_eq other x) set (h.0, x, h.1, h.2, (bytes_decides x x).1 refl)

has_not : (set : List (List ℕ)) (x : List ℕ) → (Contains set x → ⊥) → has_member set x ≡ false
has_not set x none = go (has_member set x) (λ h. none (has_Contains set x h))
  where
    go : (b : Bool) → (b ≡ true → ⊥) → b ≡ false
    go true none = absurd (none refl)
    go false none = refl

-- ---- whether a place has its prefix

pub has_at_place : (set : List (List ℕ)) (x : List ℕ) (index past : ℕ) → IsPlaceOf set x index past → index < past → has_member set x ≡ true
has_at_place set x index past p found =
    let some : 0 < length (run index past set) = omega (arith, length-run set index past p.order p.within) in
    Contains-has set x
    (subst (Contains set) (p.here 0 [] some)
    (Contains-drop index set (get_or (run index past set) 0 []) (Contains-run_back index past set (get_or (run index past set) 0 []) (Contains-get_or (run index past set) 0 [] some))))

pub has_not_at_place : (set : List (List ℕ)) (x : List ℕ) (index past : ℕ) → IsPlaceOf set x index past → past ≤ index → has_member set x ≡ false
has_not_at_place set x index past p missed = has_not set x (λ h. elim (Contains-append_cases (take past set) (drop past set) x (subst (λ (ys : List (List ℕ)). Contains ys x) (sym (take-append-drop past set)) h)) [
  | inl front ↦
      let same : past ≡ index = omega (arith, p.order) in
      before_itself x (All-contains (λ y. IsBefore y x) (take index set) x p.before (subst (λ (n : ℕ). Contains (take n set) x) same front))
  | inr back ↦ before_itself x (All-contains (λ y. IsBefore x y) (drop past set) x p.after back)
])

pub missed_from_test : (found : Bool) (index past : ℕ) → (IsTrue found ↔ (index < past)) → found ≡ false → past ≤ index
missed_from_test found index past tells missed = elim (cases_lt index past) [
  | inl lt ↦ absurd (false≢true (sym missed ∙ tells.1 lt))
  | inr ge ↦ ge
]

-- ---- the places that were removed

-- the places, counted from a number, of the members that a newer set lacks
abbrev pub removed_from : ℕ → List (List ℕ) → List (List ℕ) → List ℕ
removed_from n xs newer = map (λ (member : ℕ × List ℕ). member.0) (filter (λ (member : ℕ × List ℕ). not (has_member newer member.1)) (enumerate_from n xs))

removed_cons : (n : ℕ) (x : List ℕ) (xs newer : List (List ℕ)) → removed_from n (x ∷ xs) newer ≡ cond (has_member newer x) (removed_from (n + 1) xs newer) (n ∷ removed_from (n + 1) xs newer)
removed_cons n x xs newer = go (has_member newer x)
  where
    go : (b : Bool) → map (λ (m : ℕ × List ℕ). m.0) (cond (not b) ((n, x) ∷ filter (λ (m : ℕ × List ℕ). not (has_member newer m.1)) (enumerate_from (n + 1) xs)) (filter (λ (m : ℕ × List ℕ). not (has_member newer m.1)) (enumerate_from (n + 1) xs)))
        ≡ cond b (removed_from (n + 1) xs newer) (n ∷ removed_from (n + 1) xs newer)
    go true = refl
    go false = refl

removed_append : (n : ℕ) (xs ys newer : List (List ℕ)) → removed_from n (xs ++ ys) newer ≡ removed_from n xs newer ++ removed_from (n + length xs) ys newer
removed_append n [] ys newer = let here : n ≡ n + 0 = omega arith in ap (λ (m : ℕ). removed_from m ys newer) here
removed_append n (x ∷ xs) ys newer =
    let next : n + 1 + length xs ≡ n + length (x ∷ xs) = omega arith in
    let rest : removed_from (n + 1) (xs ++ ys) newer ≡ removed_from (n + 1) xs newer ++ removed_from (n + length (x ∷ xs)) ys newer
    = removed_append (n + 1) xs ys newer ∙ ap (λ (m : ℕ). removed_from (n + 1) xs newer ++ removed_from m ys newer) next in
    removed_cons n x (xs ++ ys) newer ∙ go (has_member newer x) rest
    ∙ ap (λ (zs : List ℕ). zs ++ removed_from (n + length (x ∷ xs)) ys newer) (sym (removed_cons n x xs newer))
  where
    go : (b : Bool) → removed_from (n + 1) (xs ++ ys) newer ≡ removed_from (n + 1) xs newer ++ removed_from (n + length (x ∷ xs)) ys newer
        → cond b (removed_from (n + 1) (xs ++ ys) newer) (n ∷ removed_from (n + 1) (xs ++ ys) newer)
        ≡ cond b (removed_from (n + 1) xs newer) (n ∷ removed_from (n + 1) xs newer) ++ removed_from (n + length (x ∷ xs)) ys newer
    go true rest = rest
    go false rest = ap (λ (zs : List ℕ). n ∷ zs) rest

-- one member more
removed_more : (xs newer : List (List ℕ)) (i : ℕ) (x : List ℕ) → slice_get xs i ≡ Some x
    → removed_from 0 (take (i + 1) xs) newer ≡ removed_from 0 (take i xs) newer ++ cond (has_member newer x) [] (i ∷ [])
removed_more xs newer i x is =
    let inside : i ≤ length xs = omega (arith, slice_get_within xs i x is) in
    let place : 0 + length (take i xs) ≡ i = omega (arith, length-take-le i xs inside) in
    ap (λ (ys : List (List ℕ)). removed_from 0 ys newer) (front_more xs i x is)
    ∙ removed_append 0 (take i xs) (x ∷ []) newer
    ∙ ap (λ (n : ℕ). removed_from 0 (take i xs) newer ++ removed_from n (x ∷ []) newer) place
    ∙ ap (λ (ys : List ℕ). removed_from 0 (take i xs) newer ++ ys) (removed_cons i x [] newer)

pub removed_more_found : (xs newer : List (List ℕ)) (i index past : ℕ) (x : List ℕ) → slice_get xs i ≡ Some x → IsPlaceOf newer x index past → index < past
    → removed_from 0 (take (i + 1) xs) newer ≡ removed_from 0 (take i xs) newer
removed_more_found xs newer i index past x is p found =
    removed_more xs newer i x is
    ∙ ap (λ (b : Bool). removed_from 0 (take i xs) newer ++ cond b [] (i ∷ [])) (has_at_place newer x index past p found)
    ∙ append-nil (removed_from 0 (take i xs) newer)

pub removed_more_missed : (xs newer : List (List ℕ)) (i index past : ℕ) (x : List ℕ) → slice_get xs i ≡ Some x → IsPlaceOf newer x index past → past ≤ index
    → removed_from 0 (take (i + 1) xs) newer ≡ removed_from 0 (take i xs) newer ++ i ∷ []
removed_more_missed xs newer i index past x is p missed =
    removed_more xs newer i x is
    ∙ ap (λ (b : Bool). removed_from 0 (take i xs) newer ++ cond b [] (i ∷ [])) (has_not_at_place newer x index past p missed)

-- ---- the members that were added

added_more : (old xs : List (List ℕ)) (i : ℕ) (x : List ℕ) → slice_get xs i ≡ Some x
    → added_members old (take (i + 1) xs) ≡ added_members old (take i xs) ++ cond (not (has_member old x)) (x ∷ []) []
added_more old xs i x is =
    filter_more (λ (member : List ℕ). not (has_member old member)) xs i [] (slice_get_within xs i x is)
    ∙ ap (λ (y : List ℕ). added_members old (take i xs) ++ cond (not (has_member old y)) (y ∷ []) []) (get_or_from_slice_get xs i x [] is)

pub added_more_found : (old xs : List (List ℕ)) (i index past : ℕ) (x : List ℕ) → slice_get xs i ≡ Some x → IsPlaceOf old x index past → index < past
    → added_members old (take (i + 1) xs) ≡ added_members old (take i xs)
added_more_found old xs i index past x is p found =
    added_more old xs i x is
    ∙ ap (λ (b : Bool). added_members old (take i xs) ++ cond (not b) (x ∷ []) []) (has_at_place old x index past p found)
    ∙ append-nil (added_members old (take i xs))

pub added_more_missed : (old xs : List (List ℕ)) (i index past : ℕ) (x : List ℕ) → slice_get xs i ≡ Some x → IsPlaceOf old x index past → past ≤ index
    → added_members old (take (i + 1) xs) ≡ added_members old (take i xs) ++ x ∷ []
added_more_missed old xs i index past x is p missed =
    added_more old xs i x is
    ∙ ap (λ (b : Bool). added_members old (take i xs) ++ cond (not b) (x ∷ []) []) (has_not_at_place old x index past p missed)

-- ---- a list with its removals, by members

-- a place in front of those that are counted is not among them
removed_below : (n place : ℕ) (xs newer : List (List ℕ)) → place < n → is_removed (removed_from n xs newer) place ≡ false
removed_below n place [] newer lt = refl
removed_below n place (x ∷ xs) newer lt =
    ap (λ (places : List ℕ). is_removed places place) (removed_cons n x xs newer)
    ∙ go (has_member newer x) (removed_below (n + 1) place xs newer (omega arith)) (not_equal n place (λ same. omega (arith, same)))
  where
    go : (b : Bool) → is_removed (removed_from (n + 1) xs newer) place ≡ false → (n == place) ≡ false
        → is_removed (cond b (removed_from (n + 1) xs newer) (n ∷ removed_from (n + 1) xs newer)) place ≡ false
    go true more unlike = more
    go false more unlike = (λ i. unlike i || more i)

-- a place is among the removed ones exactly where the newer set lacks its member
removed_place : (n k : ℕ) (xs newer : List (List ℕ)) (x : List ℕ) → slice_get xs k ≡ Some x → is_removed (removed_from n xs newer) (n + k) ≡ not (has_member newer x)
removed_place n k [] newer x is = cc
removed_place n zero (y ∷ ys) newer x is =
    let same : y ≡ x = cc in
    let here : n ≡ n + 0 = omega arith in
    ap (λ (places : List ℕ). is_removed places (n + 0)) (removed_cons n y ys newer)
    ∙ go (has_member newer y) (removed_below (n + 1) (n + 0) ys newer (omega arith)) (eq-eqb n (n + 0) here)
    ∙ ap (λ (z : List ℕ). not (has_member newer z)) same
  where
    go : (b : Bool) → is_removed (removed_from (n + 1) ys newer) (n + 0) ≡ false → (n == n + 0) ≡ true
        → is_removed (cond b (removed_from (n + 1) ys newer) (n ∷ removed_from (n + 1) ys newer)) (n + 0) ≡ not b
    go true none same = none
    go false none same = ap (λ (t : Bool). t || is_removed (removed_from (n + 1) ys newer) (n + 0)) same
removed_place n (suc k) (y ∷ ys) newer x is =
    let later : n + 1 + k ≡ n + suc k = omega arith in
    ap (λ (places : List ℕ). is_removed places (n + suc k)) (removed_cons n y ys newer)
    ∙ go (has_member newer y) (not_equal n (n + suc k) (λ same. omega (arith, same)))
    ∙ ap (λ (place : ℕ). is_removed (removed_from (n + 1) ys newer) place) (sym later)
    ∙ removed_place (n + 1) k ys newer x is
  where
    go : (b : Bool) → (n == n + suc k) ≡ false
        → is_removed (cond b (removed_from (n + 1) ys newer) (n ∷ removed_from (n + 1) ys newer)) (n + suc k) ≡ is_removed (removed_from (n + 1) ys newer) (n + suc k)
    go true unlike = refl
    go false unlike = ap (λ (t : Bool). t || is_removed (removed_from (n + 1) ys newer) (n + suc k)) unlike

removed_inside : (n : ℕ) (xs newer : List (List ℕ)) → All (λ place. place < n + length xs) (removed_from n xs newer)
removed_inside n [] newer = All-nil (λ (place : ℕ). place < n + 0)
removed_inside n (x ∷ xs) newer =
    subst (All (λ place. place < n + length (x ∷ xs))) (sym (removed_cons n x xs newer))
    (go (has_member newer x) (All-weaker (λ place. place < n + 1 + length xs) (λ place. place < n + length (x ∷ xs)) (λ place h. omega arith) (removed_from (n + 1) xs newer) (removed_inside (n + 1) xs newer)))
  where
    go : (b : Bool) → All (λ place. place < n + length (x ∷ xs)) (removed_from (n + 1) xs newer)
        → All (λ place. place < n + length (x ∷ xs)) (cond b (removed_from (n + 1) xs newer) (n ∷ removed_from (n + 1) xs newer))
    go true more = more
    go false more = All-cons (λ place. place < n + length (x ∷ xs)) n (removed_from (n + 1) xs newer) (omega arith) more

Contains-filter : (test : List ℕ → Bool) (xs : List (List ℕ)) (z : List ℕ) → Contains xs z → test z ≡ true → Contains (filter test xs) z
Contains-filter test [] z h passes = h
Contains-filter test (x ∷ xs) z h passes = elim (Contains-cases x z xs h) [
  | inl same ↦ subst (λ (b : Bool). Contains (cond b (x ∷ filter test xs) (filter test xs)) z) (sym (ap test same ∙ passes))
      (subst (Contains (x ∷ filter test xs)) same (Contains-here x (filter test xs)))
  | inr later ↦ go (test x) (Contains-filter test xs z later passes)
]
  where
    go : (b : Bool) → Contains (filter test xs) z → Contains (cond b (x ∷ filter test xs) (filter test xs)) z
    go true more = Contains-there x z (filter test xs) more
    go false more = more

-- each removed place is one of the old set
pub removed_within : (old newer : List (List ℕ)) → All (λ place. place < length old) (removed_places old newer)
removed_within old newer = All-weaker (λ place. place < 0 + length old) (λ place. place < length old) (λ place h. omega arith) (removed_places old newer) (removed_inside 0 old newer)

-- ---- from one set to the other

module _ (old newer : List (List ℕ)) (up : IsRising newer) where
  abbrev removals : List ℕ
  removals = removed_places old newer

  abbrev additions : List (List ℕ)
  additions = added_members old newer

  stayed : (z : List ℕ) → Contains (without_places old removals) z → Contains newer z
  stayed z h =
      let from : StaysAt 0 old removals z = StaysAt-from_kept 0 old removals z h in
      has_Contains newer z (go (has_member newer z) (sym (removed_place 0 from.place old newer z from.is) ∙ from.stays))
    where
      go : (b : Bool) → not b ≡ false → b ≡ true
      go true h = refl
      go false h = sym h

  came : (z : List ℕ) → Contains additions z → Contains newer z
  came z h = All-contains (Contains newer) additions z (All-filter (λ member. not (has_member old member)) (Contains newer) newer (All-contains_itself newer)) h

  to_newer : (z : List ℕ) → Contains (without_places old removals) z ⊎ Contains additions z → Contains newer z
  to_newer z (inl h) = stayed z h
  to_newer z (inr h) = came z h

  was_there : (z : List ℕ) → Contains newer z → Contains old z → Contains (without_places old removals) z
  was_there z h k =
      let is : slice_get old k.0 ≡ Some z = slice_get-get_or old k.0 z k.1 ∙ (λ i. Some (k.2 i)) in
      kept_from_StaysAt 0 old removals z (record {
        place = k.0;
        is = is;
        stays = removed_place 0 k.0 old newer z is ∙ ap not (Contains-has newer z h);
      })

  from_newer : (z : List ℕ) → Contains newer z → Contains (without_places old removals ++ additions) z
  from_newer z h = go (has_member old z) refl
    where
      go : (b : Bool) → has_member old z ≡ b → Contains (without_places old removals ++ additions) z
      go true there = Contains-append_left (without_places old removals) additions z (was_there z h (has_Contains old z there))
      go false absent = Contains-append_right (without_places old removals) additions z (Contains-filter (λ member. not (has_member old member)) newer z h (ap not absent))

  -- the removals and the additions lead to the newer set
  pub leads_to_newer : applied old removals additions ≡ newer
  leads_to_newer =
      rising_unique (applied old removals additions) newer (rising-set_of (without_places old removals ++ additions)) up
      (λ z h. to_newer z (Contains-append_cases (without_places old removals) additions z ((members-set_of (without_places old removals ++ additions) z).0 h)))
      (λ z h. (members-set_of (without_places old removals ++ additions) z).1 (from_newer z h))
