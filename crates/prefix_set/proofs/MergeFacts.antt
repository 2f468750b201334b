-- A merge of a rising list with removals and rising additions: what holds after each addition, and at the end.
use Rattle.std.proofs.Common.{◌≡◌, ℕ, zero, suc, ◌+◌, ◌-◌, ◌≤◌, ◌⊎◌, inl, inr, List, [], ◌∷◌, ◌++◌, length, take, drop, get_or, sym, ap, subst, ◌∙◌, arith}
use Rattle.std.specs.Prelude.{◌↔◌, slice_get, Some}
use Rattle.std.specs.List.{AllByRecursion, Contains}
use Rattle.std.proofs.lemmas.List.{drop-drop, drop-take, take-append-drop, take_more, drop_more, take_all}
use Rattle.std.proofs.lemmas.List.Elements.{All-append, All-from_recursion, recursion_from_All, All-contains, Contains-get_or, Contains-append_left, Contains-append_right, Contains-append_cases, Contains-push, Contains-push_cases}
use Rattle.std.proofs.lemmas.Map.Keys.{sorted_head, sorted_tail}
use Rattle.std.proofs.lemmas.Option.{get_or_from_slice_get, slice_get_within}
use Rattle.std.proofs.Math.Seq.{take-add}
use Rattle.sb_model.specs.Candidate.{without_places}
use Rattle.sb_model.specs.Prefixes.{bytes_cmp, IsRising, set_of}
use Rattle.prefix_set.specs.Apply.{applied}
use Rattle.prefix_set.specs.Kept.{kept_from, kept_between, TakesAddition}
use Rattle.prefix_set.specs.Search.{run, AreBefore, IsPlaceOf}
use Rattle.prefix_set.proofs.KeptFacts.{run_all, kept_split, same_kept, Contains-kept, rising-kept}
use Rattle.prefix_set.proofs.SetFacts.{IsBefore, before_trans, rising_cons, rising_nil, after_head, Contains-here, Contains-there, Contains-cases, Contains-nil, rising-set_of, members-set_of, rising_unique}

-- each member of one list comes before each of another
pub record EachBefore (xs ys : List (List ℕ)) : Type 0 where
  pub before : (x y : List ℕ) → Contains xs x → Contains ys y → IsBefore x y

-- ---- members of parts of a list

Contains-take : (n : ℕ) (xs : List (List ℕ)) (z : List ℕ) → Contains (take n xs) z → Contains xs z
Contains-take n xs z h = subst (λ (ys : List (List ℕ)). Contains ys z) (take-append-drop n xs) (Contains-append_left (take n xs) (drop n xs) z h)

pub Contains-drop : (n : ℕ) (xs : List (List ℕ)) (z : List ℕ) → Contains (drop n xs) z → Contains xs z
Contains-drop n xs z h = subst (λ (ys : List (List ℕ)). Contains ys z) (take-append-drop n xs) (Contains-append_right (take n xs) (drop n xs) z h)

pub Contains-drop_later : (i j : ℕ) (xs : List (List ℕ)) (z : List ℕ) → i ≤ j → Contains (drop j xs) z → Contains (drop i xs) z
Contains-drop_later i j xs z order h =
    let place : i + (j - i) ≡ j = omega arith in
    Contains-drop (j - i) (drop i xs) z (subst (λ (ys : List (List ℕ)). Contains ys z) (sym (drop-drop (j - i) i xs ∙ ap (λ (n : ℕ). drop n xs) place)) h)

-- a run is in front of its end, and not in front of its start
Contains-run_front : (i j : ℕ) (xs : List (List ℕ)) (z : List ℕ) → i ≤ j → Contains (run i j xs) z → Contains (take j xs) z
Contains-run_front i j xs z order h =
    let whole : i + (j - i) ≡ j = omega arith in
    subst (λ (n : ℕ). Contains (take n xs) z) whole
    (Contains-drop i (take (i + (j - i)) xs) z (subst (λ (ys : List (List ℕ)). Contains ys z) (sym (drop-take i (j - i) xs)) h))

pub Contains-run_back : (i j : ℕ) (xs : List (List ℕ)) (z : List ℕ) → Contains (run i j xs) z → Contains (drop i xs) z
Contains-run_back i j xs z h = Contains-take (j - i) (drop i xs) z h

-- the front up to a place is a shorter front, and a run
Contains-front_cases : (i j : ℕ) (xs : List (List ℕ)) (z : List ℕ) → i ≤ j → Contains (take j xs) z → Contains (take i xs) z ⊎ Contains (run i j xs) z
Contains-front_cases i j xs z order h =
    let whole : j ≡ i + (j - i) = omega arith in
    Contains-append_cases (take i xs) (run i j xs) z
    (subst (λ (ys : List (List ℕ)). Contains ys z) (ap (λ (n : ℕ). take n xs) whole ∙ take-add i (j - i) xs) h)

-- the member at a place is the first of what stands from it on
pub first_of_rest : (xs : List (List ℕ)) (n : ℕ) (x : List ℕ) → slice_get xs n ≡ Some x → drop n xs ≡ x ∷ drop (n + 1) xs
first_of_rest xs n x is =
    drop_more xs n [] (slice_get_within xs n x is) ∙ ap (λ (y : List ℕ). y ∷ drop (n + 1) xs) (get_or_from_slice_get xs n x [] is)

pub Contains-rest : (xs : List (List ℕ)) (n : ℕ) (x : List ℕ) → slice_get xs n ≡ Some x → Contains (drop n xs) x
Contains-rest xs n x is = subst (λ (ys : List (List ℕ)). Contains ys x) (sym (first_of_rest xs n x is)) (Contains-here x (drop (n + 1) xs))

pub front_more : (xs : List (List ℕ)) (n : ℕ) (x : List ℕ) → slice_get xs n ≡ Some x → take (n + 1) xs ≡ take n xs ++ x ∷ []
front_more xs n x is =
    take_more xs n [] (slice_get_within xs n x is) ∙ ap (λ (y : List ℕ). take n xs ++ y ∷ []) (get_or_from_slice_get xs n x [] is)

pub rising-drop : (n : ℕ) (xs : List (List ℕ)) → IsRising xs → IsRising (drop n xs)
rising-drop zero xs up = up
rising-drop (suc n) [] up = up
rising-drop (suc n) (x ∷ xs) up = rising-drop n xs (sorted_tail bytes_cmp x xs up)

-- a member comes before what stands behind it
pub before_rest : (xs : List (List ℕ)) (n : ℕ) (x z : List ℕ) → IsRising xs → slice_get xs n ≡ Some x → Contains (drop (n + 1) xs) z → IsBefore x z
before_rest xs n x z up is h = after_head x z (drop (n + 1) xs) (subst IsRising (first_of_rest xs n x is) (rising-drop n xs up)) h

-- what stands in front of `past` comes before what comes after the prefix
before_past : (members : List (List ℕ)) (prefix : List ℕ) (index past : ℕ) (z w : List ℕ) → IsPlaceOf members prefix index past
    → IsBefore prefix w → Contains (take past members) z → IsBefore z w
before_past members prefix index past z w p after h = elim (Contains-front_cases index past members z p.order h) [
  | inl front ↦ before_trans z prefix w (All-contains (λ y. IsBefore y prefix) (take index members) z p.before front) after
  | inr same ↦ subst (λ (y : List ℕ). IsBefore y w) (sym (All-contains (λ y. y ≡ prefix) (run index past members) z p.here same)) after
]

-- ---- rising lists

after-take : (n : ℕ) (y : List ℕ) (xs : List (List ℕ)) → AllByRecursion (IsBefore y) xs → AllByRecursion (IsBefore y) (take n xs)
after-take zero y xs h = tt
after-take (suc n) y [] h = tt
after-take (suc n) y (x ∷ xs) h = (h.0, after-take n y xs h.1)

rising-take : (n : ℕ) (xs : List (List ℕ)) → IsRising xs → IsRising (take n xs)
rising-take zero xs up = rising_nil
rising-take (suc n) [] up = up
rising-take (suc n) (x ∷ xs) up = rising_cons x (take n xs) (after-take n x xs (sorted_head bytes_cmp x xs up)) (rising-take n xs (sorted_tail bytes_cmp x xs up))

rising-append : (xs ys : List (List ℕ)) → IsRising xs → IsRising ys → EachBefore xs ys → IsRising (xs ++ ys)
rising-append [] ys up_x up_y apart = up_y
rising-append (x ∷ xs) ys up_x up_y apart =
    rising_cons x (xs ++ ys)
    (recursion_from_All (IsBefore x) (xs ++ ys)
    (All-append (IsBefore x) xs ys (All-from_recursion (IsBefore x) xs (sorted_head bytes_cmp x xs up_x))
    (λ k d within. apart.before x (get_or ys k d) (Contains-here x xs) (Contains-get_or ys k d within))))
    (rising-append xs ys (sorted_tail bytes_cmp x xs up_x) up_y (record { before = λ z y h k. apart.before z y (Contains-there x z xs h) k }))

rising-one : (x : List ℕ) → IsRising (x ∷ [])
rising-one x = rising_cons x [] tt rising_nil

-- ---- the merge

-- The first members and the first additions were merged.
pub record IsMerged (old : List (List ℕ)) (removals : List ℕ) (additions : List (List ℕ)) (place count : ℕ) (out : List (List ℕ)) : Type 0 where
  pub within : place ≤ length old
  pub rising : IsRising out
  pub from : (z : List ℕ) → Contains out z → Contains (kept_between old removals 0 place) z ⊎ Contains (take count additions) z
  pub kept : (z : List ℕ) → Contains (kept_between old removals 0 place) z → Contains out z
  pub added : (z : List ℕ) → Contains (take count additions) z → Contains out z
  pub old_later : EachBefore out (drop place old)
  pub additions_later : EachBefore out (drop count additions)
  pub old_apart : EachBefore (take place old) (drop count additions)

before_nothing : (xs : List (List ℕ)) → EachBefore [] xs
before_nothing xs = record { before = λ x y h k. absurd (Contains-nil x h) }

pub IsMerged-none : (old : List (List ℕ)) (removals : List ℕ) (additions : List (List ℕ)) → IsMerged old removals additions 0 0 []
IsMerged-none old removals additions = record {
  within = omega arith;
  rising = rising_nil;
  from = λ z h. absurd (Contains-nil z h);
  kept = λ z h. h;
  added = λ z h. h;
  old_later = before_nothing (drop 0 old);
  additions_later = before_nothing (drop 0 additions);
  old_apart = before_nothing (drop 0 additions);
}

-- what is apart from the rest of a list comes before its next member
pub passed_before : (xs ys : List (List ℕ)) (count : ℕ) (y : List ℕ) → EachBefore xs (drop count ys) → slice_get ys count ≡ Some y → AreBefore xs y
passed_before xs ys count y apart is k d within = apart.before (get_or xs k d) y (Contains-get_or xs k d within) (Contains-rest ys count y is)

-- what stands in front of the place past a member comes before what is left after it
pub apart_more : (xs ys : List (List ℕ)) (count index past : ℕ) (y : List ℕ) → IsRising ys → slice_get ys count ≡ Some y → IsPlaceOf xs y index past
    → EachBefore (take past xs) (drop (count + 1) ys)
apart_more xs ys count index past y up is p = record { before = λ z w h k. before_past xs y index past z w p (before_rest ys count y w up is k) h }

-- one more addition
module _ (old : List (List ℕ)) (removals : List ℕ) (additions : List (List ℕ)) (place count next : ℕ) (out new : List (List ℕ)) (addition : List ℕ)
    (up : IsRising old) (up_additions : IsRising additions) (m : IsMerged old removals additions place count out)
    (is : slice_get additions count ≡ Some addition) (t : TakesAddition old removals addition place next out new) where
  -- what is copied in front of the addition
  abbrev copied : List (List ℕ)
  copied = kept_between old removals place t.index

  in_run : (z : List ℕ) → Contains copied z → Contains (run place t.index old) z
  in_run z h = Contains-kept place (run place t.index old) removals z h

  copied_before : (z : List ℕ) → Contains copied z → IsBefore z addition
  copied_before z h = All-contains (λ y. IsBefore y addition) (take t.index old) z t.place.before (Contains-run_front place t.index old z t.order (in_run z h))

  old_after : (w : List ℕ) → Contains (drop next old) w → IsBefore addition w
  old_after w h = All-contains (λ y. IsBefore addition y) (drop next old) w t.place.after h

  is_addition : (z : List ℕ) → Contains (run t.index next old) z → z ≡ addition
  is_addition z h = All-contains (λ y. y ≡ addition) (run t.index next old) z t.place.here h

  out_before : (z : List ℕ) → Contains out z → IsBefore z addition
  out_before z h = m.additions_later.before z addition h (Contains-rest additions count addition is)

  addition_before : (w : List ℕ) → Contains (drop (count + 1) additions) w → IsBefore addition w
  addition_before w h = before_rest additions count addition w up_additions is h

  -- where a member of the new list comes from
  data Source (z : List ℕ) : Type 0 where
    Was : Contains out z → Source z
    Copied : Contains copied z → Source z
    Addition : addition ≡ z → Source z

  source : (z : List ℕ) → Contains new z → Source z
  source z h = elim (Contains-push_cases (out ++ copied) addition z (subst (λ (ys : List (List ℕ)). Contains ys z) t.is h)) [
    | inl front ↦ elim (Contains-append_cases out copied z front) [ inl was ↦ Was was | inr here ↦ Copied here ]
    | inr same ↦ Addition same
  ]

  stays : (z : List ℕ) → Contains out z → Contains new z
  stays z h = subst (λ (ys : List (List ℕ)). Contains ys z) (sym t.is)
      (Contains-append_left (out ++ copied) (addition ∷ []) z (Contains-append_left out copied z h))

  comes : (z : List ℕ) → Contains copied z → Contains new z
  comes z h = subst (λ (ys : List (List ℕ)). Contains ys z) (sym t.is)
      (Contains-append_left (out ++ copied) (addition ∷ []) z (Contains-append_right out copied z h))

  has_addition : Contains new addition
  has_addition = subst (λ (ys : List (List ℕ)). Contains ys addition) (sym t.is) (Contains-push (out ++ copied) addition)

  rising_new : IsRising new
  rising_new = subst IsRising (sym t.is)
      (rising-append (out ++ copied) (addition ∷ [])
      (rising-append out copied m.rising (rising-kept place (run place t.index old) removals (rising-take (t.index - place) (drop place old) (rising-drop place old up)))
      (record { before = λ x y h k. m.old_later.before x y h (Contains-run_back place t.index old y (in_run y k)) }))
      (rising-one addition)
      (record { before = λ x y h k. subst (IsBefore x) (only y k) (elim (Contains-append_cases out copied x h) [ inl was ↦ out_before x was | inr here ↦ copied_before x here ]) }))
    where
      only : (y : List ℕ) → Contains (addition ∷ []) y → addition ≡ y
      only y k = elim (Contains-cases addition y [] k) [ inl same ↦ same | inr none ↦ absurd (Contains-nil y none) ]

  place_order : place ≤ next
  place_order = omega (arith, t.order, t.place.order)

  -- the members that are kept in front of the next place
  kept_parts : kept_between old removals 0 next ≡ kept_between old removals 0 place ++ (copied ++ kept_between old removals t.index next)
  kept_parts =
      let none : 0 ≤ place = omega arith in
      kept_split old removals 0 place next none place_order t.place.within
      ∙ ap (λ (ys : List (List ℕ)). kept_between old removals 0 place ++ ys) (kept_split old removals place t.index next t.order t.place.order t.place.within)

  kept_later : (z : List ℕ) → Contains (kept_between old removals 0 next) z → Contains new z
  kept_later z h = elim (Contains-append_cases (kept_between old removals 0 place) (copied ++ kept_between old removals t.index next) z (subst (λ (ys : List (List ℕ)). Contains ys z) kept_parts h)) [
    | inl front ↦ stays z (m.kept z front)
    | inr rest ↦ elim (Contains-append_cases copied (kept_between old removals t.index next) z rest) [
      | inl here ↦ comes z here
      | inr same ↦ subst (Contains new) (sym (is_addition z (Contains-kept t.index (run t.index next old) removals z same))) has_addition
    ]
  ]

  taken : take (count + 1) additions ≡ take count additions ++ addition ∷ []
  taken = front_more additions count addition is

  added_later : (z : List ℕ) → Contains (take (count + 1) additions) z → Contains new z
  added_later z h = elim (Contains-push_cases (take count additions) addition z (subst (λ (ys : List (List ℕ)). Contains ys z) taken h)) [
    | inl earlier ↦ stays z (m.added z earlier)
    | inr same ↦ subst (Contains new) same has_addition
  ]

  from_later : (z : List ℕ) → Source z → Contains (kept_between old removals 0 next) z ⊎ Contains (take (count + 1) additions) z
  from_later z (Was h) = elim (m.from z h) [
    | inl kept ↦ inl (subst (λ (ys : List (List ℕ)). Contains ys z) (sym kept_parts) (Contains-append_left (kept_between old removals 0 place) (copied ++ kept_between old removals t.index next) z kept))
    | inr earlier ↦ inr (subst (λ (ys : List (List ℕ)). Contains ys z) (sym taken) (Contains-append_left (take count additions) (addition ∷ []) z earlier))
  ]
  from_later z (Copied h) = inl (subst (λ (ys : List (List ℕ)). Contains ys z) (sym kept_parts)
      (Contains-append_right (kept_between old removals 0 place) (copied ++ kept_between old removals t.index next) z (Contains-append_left copied (kept_between old removals t.index next) z h)))
  from_later z (Addition h) = inr (subst (λ (ys : List (List ℕ)). Contains ys z) (sym taken)
      (subst (Contains (take count additions ++ addition ∷ [])) h (Contains-push (take count additions) addition)))

  new_before_old : (z w : List ℕ) → Source z → Contains (drop next old) w → IsBefore z w
  new_before_old z w (Was h) k = m.old_later.before z w h (Contains-drop_later place next old w place_order k)
  new_before_old z w (Copied h) k = before_trans z addition w (copied_before z h) (old_after w k)
  new_before_old z w (Addition h) k = subst (λ (y : List ℕ). IsBefore y w) h (old_after w k)

  new_before_additions : (z w : List ℕ) → Source z → Contains (drop (count + 1) additions) w → IsBefore z w
  new_before_additions z w (Was h) k = before_trans z addition w (out_before z h) (addition_before w k)
  new_before_additions z w (Copied h) k = before_trans z addition w (copied_before z h) (addition_before w k)
  new_before_additions z w (Addition h) k = subst (λ (y : List ℕ). IsBefore y w) h (addition_before w k)

  pub IsMerged-more : IsMerged old removals additions next (count + 1) new
  IsMerged-more = record {
    within = t.place.within;
    rising = rising_new;
    from = λ z h. from_later z (source z h);
    kept = kept_later;
    added = added_later;
    old_later = record { before = λ z w h k. new_before_old z w (source z h) k };
    additions_later = record { before = λ z w h k. new_before_additions z w (source z h) k };
    old_apart = apart_more old additions count t.index next addition up_additions is t.place;
  }

-- what is left of the members follows, and that is the set
module _ (old : List (List ℕ)) (removals : List ℕ) (additions : List (List ℕ)) (place : ℕ) (out new : List (List ℕ)) (up : IsRising old)
    (m : IsMerged old removals additions place (length additions) out) (is : new ≡ out ++ kept_between old removals place (length old)) where
  abbrev all : List (List ℕ)
  all = without_places old removals ++ additions

  abbrev rest : List (List ℕ)
  rest = kept_between old removals place (length old)

  rising_end : IsRising new
  rising_end = subst IsRising (sym is) (rising-append out rest m.rising
      (rising-kept place (run place (length old) old) removals (rising-take (length old - place) (drop place old) (rising-drop place old up)))
      (record { before = λ x y h k. m.old_later.before x y h (Contains-run_back place (length old) old y (Contains-kept place (run place (length old) old) removals y k)) }))

  -- what is kept of all is what was kept, and the rest
  parts : kept_between old removals 0 place ++ rest ≡ without_places old removals
  parts =
      let none : 0 ≤ place = omega arith in
      let end : length old ≤ length old = omega arith in
      sym (kept_split old removals 0 place (length old) none m.within end) ∙ ap (λ (ys : List (List ℕ)). kept_from 0 ys removals) (run_all old)

  whole : take (length additions) additions ≡ additions
  whole = take_all (length additions) additions (omega arith)

  to_all : (z : List ℕ) → Contains (out ++ rest) z → Contains all z
  to_all z h = elim (Contains-append_cases out rest z h) [
    | inl was ↦ elim (m.from z was) [
      | inl kept ↦ Contains-append_left (without_places old removals) additions z
          (subst (λ (ys : List (List ℕ)). Contains ys z) parts (Contains-append_left (kept_between old removals 0 place) rest z kept))
      | inr added ↦ Contains-append_right (without_places old removals) additions z (subst (λ (ys : List (List ℕ)). Contains ys z) whole added)
    ]
    | inr last ↦ Contains-append_left (without_places old removals) additions z
        (subst (λ (ys : List (List ℕ)). Contains ys z) parts (Contains-append_right (kept_between old removals 0 place) rest z last))
  ]

  from_all : (z : List ℕ) → Contains all z → Contains (out ++ rest) z
  from_all z h = elim (Contains-append_cases (without_places old removals) additions z h) [
    | inl stays ↦ elim (Contains-append_cases (kept_between old removals 0 place) rest z (subst (λ (ys : List (List ℕ)). Contains ys z) (sym parts) stays)) [
      | inl kept ↦ Contains-append_left out rest z (m.kept z kept)
      | inr last ↦ Contains-append_right out rest z last
    ]
    | inr added ↦ Contains-append_left out rest z (m.added z (subst (λ (ys : List (List ℕ)). Contains ys z) (sym whole) added))
  ]

  pub IsMerged-all : new ≡ applied old removals additions
  IsMerged-all =
      rising_unique new (set_of all) rising_end (rising-set_of all)
      (λ z h. (members-set_of all z).1 (to_all z (subst (λ (ys : List (List ℕ)). Contains ys z) is h)))
      (λ z h. subst (λ (ys : List (List ℕ)). Contains ys z) (sym is) (from_all z ((members-set_of all z).0 h)))

-- other removals at the same places give the same set
pub same_applied : (old : List (List ℕ)) (one other : List ℕ) (additions : List (List ℕ)) → ((place : ℕ) → Contains one place ↔ Contains other place)
    → applied old one additions ≡ applied old other additions
same_applied old one other additions same = ap (λ (ys : List (List ℕ)). set_of (ys ++ additions)) (same_kept 0 old one other same)

-- a rising list is the set of itself
pub set_of_rising : (xs : List (List ℕ)) → IsRising xs → xs ≡ set_of xs
set_of_rising xs up = rising_unique xs (set_of xs) up (rising-set_of xs) (λ z h. (members-set_of xs z).1 h) (λ z h. (members-set_of xs z).0 h)

-- the additions without repeats give the same set
module _ (kept additions : List (List ℕ)) where
  to_given : (z : List ℕ) → Contains kept z ⊎ Contains (set_of additions) z → Contains (kept ++ additions) z
  to_given z (inl h) = Contains-append_left kept additions z h
  to_given z (inr h) = Contains-append_right kept additions z ((members-set_of additions z).0 h)

  from_given : (z : List ℕ) → Contains kept z ⊎ Contains additions z → Contains (kept ++ set_of additions) z
  from_given z (inl h) = Contains-append_left kept (set_of additions) z h
  from_given z (inr h) = Contains-append_right kept (set_of additions) z ((members-set_of additions z).1 h)

  set_of-append-set_of : set_of (kept ++ set_of additions) ≡ set_of (kept ++ additions)
  set_of-append-set_of =
      rising_unique (set_of (kept ++ set_of additions)) (set_of (kept ++ additions)) (rising-set_of (kept ++ set_of additions)) (rising-set_of (kept ++ additions))
      (λ z h. (members-set_of (kept ++ additions) z).1 (to_given z (Contains-append_cases kept (set_of additions) z ((members-set_of (kept ++ set_of additions) z).0 h))))
      (λ z h. (members-set_of (kept ++ set_of additions) z).1 (from_given z (Contains-append_cases kept additions z ((members-set_of (kept ++ additions) z).0 h))))

pub applied_set_of : (old : List (List ℕ)) (removals : List ℕ) (additions : List (List ℕ)) → applied old removals (set_of additions) ≡ applied old removals additions
applied_set_of old removals additions = set_of-append-set_of (without_places old removals) additions
