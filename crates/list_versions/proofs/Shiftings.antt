-- A set of a list that goes from one version to another.
use Rattle.std.proofs.Common.{◌≡◌, ◌⊎◌, inl, inr, ℕ, zero, suc, ◌+◌, ◌<◌, ◌≤◌, nat_lt, Bool, true, false, ◌&&◌, ◌||◌, cond, List, [], ◌∷◌, ◌++◌, length, take, map, get_or, Some, refl, sym, ap, subst, ◌∙◌, arith}
use Rattle.std.specs.Prelude.{◌==◌, ◌↔◌, All, Contains, slice_get}
use Rattle.std.specs.List.{list_any, filter}
use Rattle.std.specs.Str.{bytes_eq}
use Rattle.std.proofs.lemmas.Bool.{cases_lt}
use Rattle.std.proofs.lemmas.Bool.Decides.{nat_tests}
use Rattle.std.proofs.lemmas.Bool.{ltb-true}
use Rattle.std.proofs.lemmas.List.{append-nil, map-append, take_more, take-take}
use Rattle.std.proofs.lemmas.List.Elements.{All-contains}
use Rattle.std.proofs.lemmas.Option.{get_or_from_slice_get, slice_get_within, slice_get-get_or}
use Rattle.prefix_set.specs.Apply.{Stays}
use Rattle.sb_model.specs.declared.history.Added.{Added}
use Rattle.sb_model.specs.History.{prefix_of}
use Rattle.sb_model.specs.Prefixes.{IsRising, set_of}
use Rattle.list_versions.specs.Ends.{Line, never, placed, unended}
use Rattle.list_versions.specs.Live.{Buckets, IsPlaced, IsPublishable, has_line, lines_in}
use Rattle.list_versions.specs.Shifting.{AreGoing, Goes, is_published, publishes}
use Rattle.list_versions.specs.declared.bucket.Standing.{Standing}
use Rattle.list_versions.specs.declared.live.Live.{Live}
use Rattle.list_versions.proofs.Finding.{same_bytes, bytes_are_same}
use Rattle.list_versions.proofs.Mapped.{SetLaws, set_is}
use Rattle.list_versions.proofs.Membership.{In, Shows, contains_in, in_contained, in_left, in_right, in_either, in_map, from_map, in_filter, from_filter}
use Rattle.list_versions.proofs.Rising.{IsBefore, before_itself, from_set, in_set, rising_places}

-- ---- places of a set

pub contains_at : (set : List (List ℕ)) (place : ℕ) (x : List ℕ) → slice_get set place ≡ Some x → Contains set x
contains_at set place x is = (place, slice_get_within set place x is, get_or_from_slice_get set place x x is)

same_at : (set : List (List ℕ)) (place : ℕ) (x y : List ℕ) → slice_get set place ≡ Some x → slice_get set place ≡ Some y → x ≡ y
same_at set place x y h k = sym (get_or_from_slice_get set place x x h) ∙ get_or_from_slice_get set place y x k

before_at : (set : List (List ℕ)) (i j : ℕ) (x : List ℕ) → IsRising set → slice_get set i ≡ Some x → slice_get set j ≡ Some x → i < j → ⊥
before_at set i j x up h k lt =
    let first = get_or_from_slice_get set i x x h in
    let second = get_or_from_slice_get set j x x k in
    before_itself x (subst (λ (y : List ℕ). IsBefore y x) first (subst (λ (y : List ℕ). IsBefore (get_or set i x) y) second (rising_places set i j x up lt (slice_get_within set j x k))))

one_place : (set : List (List ℕ)) (i j : ℕ) (x : List ℕ) → IsRising set → slice_get set i ≡ Some x → slice_get set j ≡ Some x → i ≡ j
one_place set i j x up h k = elim (cases_lt i j) [
  | inl lt ↦ absurd (before_at set i j x up h k lt)
  | inr ge ↦ elim (cases_lt j i) [
    | inl lt ↦ absurd (before_at set j i x up k h lt)
    | inr le ↦ omega arith
  ]
]

nothing_in : (place : ℕ) → Contains [] place → ⊥
nothing_in place c = in_contained place [] c

pub goes_not : (set : List (List ℕ)) (buckets : Buckets) (count : ℕ) (prefix : List ℕ) (places : List ℕ) → is_published count (lines_in buckets (take 4 prefix)) prefix ≡ true → Goes set buckets count prefix places places
goes_not set buckets count prefix places h = record {
  more = [];
  is = sym (append-nil places);
  only = λ place c. absurd (nothing_in place c);
  all = λ place at none. cc (h, none);
}

pub goes_nowhere : (set : List (List ℕ)) (buckets : Buckets) (count : ℕ) (prefix : List ℕ) (places : List ℕ) → (Contains set prefix → ⊥) → Goes set buckets count prefix places places
goes_nowhere set buckets count prefix places h = record {
  more = [];
  is = sym (append-nil places);
  only = λ place c. absurd (nothing_in place c);
  all = λ place at none. absurd (h (contains_at set place prefix at));
}

pub goes_at : (set : List (List ℕ)) (buckets : Buckets) (count : ℕ) (prefix : List ℕ) (old new : List ℕ) (place : ℕ) → IsRising set → slice_get set place ≡ Some prefix
    → is_published count (lines_in buckets (take 4 prefix)) prefix ≡ false → new ≡ old ++ place ∷ [] → Goes set buckets count prefix old new
goes_at set buckets count prefix old new place up at none is = record {
  more = place ∷ [];
  is = is;
  only = λ other c. elim (in_contained other (place ∷ []) c) [ inl e ↦ (subst (λ p. slice_get set p ≡ Some prefix) e at, none) | inr nothing ↦ absurd nothing ];
  all = λ other there none'. contains_in other (place ∷ []) (inl (one_place set place other prefix up at there));
}

pub going_nothing : (set : List (List ℕ)) (buckets : Buckets) (count : ℕ) → AreGoing set buckets count [] []
going_nothing set buckets count = record {
  only = λ place prefix c at. absurd (nothing_in place c);
  all = λ place prefix c at none. absurd (in_contained prefix [] c);
}

pub going_more : (set : List (List ℕ)) (buckets : Buckets) (count : ℕ) (leaving : List (List ℕ)) (prefix : List ℕ) (old new : List ℕ) → AreGoing set buckets count leaving old → Goes set buckets count prefix old new
    → AreGoing set buckets count (leaving ++ prefix ∷ []) new
going_more set buckets count leaving prefix old new h goes = record { only = only; all = all }
  where
    only : (place : ℕ) (x : List ℕ) → Contains new place → slice_get set place ≡ Some x → is_published count (lines_in buckets (take 4 x)) x ≡ false
    only place x c at =
        elim (in_either place old goes.more (subst (λ ps. In place ps) goes.is (in_contained place new c))) [
          | inl i ↦ h.only place x (contains_in place old i) at
          | inr i ↦ (let mine = goes.only place (contains_in place goes.more i) in
              subst (λ (y : List ℕ). is_published count (lines_in buckets (take 4 y)) y ≡ false) (same_at set place prefix x mine.0 at) mine.1)
        ]

    all : (place : ℕ) (x : List ℕ) → Contains (leaving ++ prefix ∷ []) x → slice_get set place ≡ Some x → is_published count (lines_in buckets (take 4 x)) x ≡ false → Contains new place
    all place x c at none =
        contains_in place new (subst (λ ps. In place ps) (sym goes.is) (elim (in_either x leaving (prefix ∷ []) (in_contained x (leaving ++ prefix ∷ []) c)) [
          | inl i ↦ in_left place old goes.more (in_contained place old (h.all place x (contains_in x leaving i) at none))
          | inr i ↦ elim i [
            | inl e ↦ in_right place old goes.more (in_contained place goes.more (goes.all place (at ∙ ap Some (sym e)) (subst (λ (y : List ℕ). is_published count (lines_in buckets (take 4 y)) y ≡ false) (sym e) none)))
            | inr nothing ↦ absurd nothing
          ]
        ]))

pub going_next : (set : List (List ℕ)) (buckets : Buckets) (count : ℕ) (leaving : List Added) (i : ℕ) (d : Added) (old new : List ℕ) → i < length leaving → AreGoing set buckets count (map prefix_of (take i leaving)) old
    → Goes set buckets count (prefix_of (get_or leaving i d)) old new → AreGoing set buckets count (map prefix_of (take (i + 1) leaving)) new
going_next set buckets count leaving i d old new lt h goes =
    subst (λ ps. AreGoing set buckets count ps new)
    (sym (ap (map prefix_of) (take_more leaving i d lt) ∙ map-append {B = List ℕ} prefix_of (take i leaving) (get_or leaving i d ∷ [])))
    (going_more set buckets count (map prefix_of (take i leaving)) (prefix_of (get_or leaving i d)) old new h goes)

-- ---- the first lines that stand

any_step : (p : Standing → Bool) (x : Standing) (xs : List Standing) (b : Bool) → p x ≡ b → (b || list_any p xs) ≡ true → (list_any p xs ≡ true → Shows (λ s. p s ≡ true) xs) → Shows (λ s. p s ≡ true) (x ∷ xs)
any_step p x xs true e h more = record { item = x; there = inl refl; holds = e }
any_step p x xs false e h more = let rest = more h in record { item = rest.item; there = inr rest.there; holds = rest.holds }

any_shows : (p : Standing → Bool) (xs : List Standing) → list_any p xs ≡ true → Shows (λ s. p s ≡ true) xs
any_shows p [] h = absurd (cc)
any_shows p (x ∷ xs) h = any_step p x xs (p x) refl h (any_shows p xs)

or_right : (b c : Bool) → c ≡ true → (b || c) ≡ true
or_right true c h = refl
or_right false c h = h

shows_any : (p : Standing → Bool) (x : Standing) (xs : List Standing) → In x xs → p x ≡ true → list_any p xs ≡ true
shows_any p x [] h e = absurd h
shows_any p x (y ∷ ys) (inl is) e = rw (ap p is ∙ e) refl
shows_any p x (y ∷ ys) (inr h) e = or_right (p y) (list_any p ys) (shows_any p x ys h e)

above_step : (n : ℕ) (line : Line) (rest : List Standing) (s : Standing) (b : Bool) → In s (cond b (record { added = line.0; place = n } ∷ rest) rest) → (In s rest → n + 1 ≤ s.place) → n ≤ s.place
above_step n line rest s true (inl is) more = omega (arith, ap (λ (x : Standing). x.place) is)
above_step n line rest s true (inr i) more = omega (arith, more i)
above_step n line rest s false i more = omega (arith, more i)

places_above : (n : ℕ) (lines : List Line) (s : Standing) → In s (placed n lines) → n ≤ s.place
places_above n [] s h = absurd h
places_above n (line ∷ lines) s h = above_step n line (placed (n + 1) lines) s (line.1 == never) h (λ i. places_above (n + 1) lines s i)

first_step : (n : ℕ) (line : Line) (lines : List Line) (rest : List Standing) (s : Standing) (b : Bool) → (line.1 == never) ≡ b → In s (cond b (record { added = line.0; place = n } ∷ rest) rest)
    → (In s rest → In s.added (unended lines)) → In s.added (unended (line ∷ lines))
first_step n line lines rest s true e (inl is) more = rw e (inl (ap (λ (x : Standing). x.added) is))
first_step n line lines rest s true e (inr i) more = rw e (inr (more i))
first_step n line lines rest s false e i more = rw e (more i)

into_first : (n k : ℕ) (lines : List Line) (s : Standing) → In s (placed n lines) → s.place < n + k → In s.added (unended (take k lines))
into_first n k [] s h lt = absurd h
into_first n zero (line ∷ lines) s h lt = absurd (omega (arith, lt, places_above n (line ∷ lines) s h))
into_first n (suc k) (line ∷ lines) s h lt =
    first_step n line (take k lines) (placed (n + 1) lines) s (line.1 == never) refl h (λ i. into_first (n + 1) k lines s i (omega (arith, lt)))

-- a line that stands, by what it adds
record IsFirst (n k : ℕ) (lines : List Line) (added : Added) : Type 0 where
  line : Standing
  there : In line (placed n lines)
  is : line.added ≡ added
  below : line.place < n + k

from_here : (n k : ℕ) (line : Line) (lines : List Line) (added : Added) (b : Bool) → (line.1 == never) ≡ b → In added (map (λ (l : Line). l.0) (cond b (line ∷ filter (λ (l : Line). l.1 == never) (take k lines)) (filter (λ (l : Line). l.1 == never) (take k lines))))
    → (In added (unended (take k lines)) → IsFirst (n + 1) k lines added) → IsFirst n (suc k) (line ∷ lines) added
from_here n k line lines added true e (inl is) later = record { line = record { added = line.0; place = n }; there = rw e (inl refl); is = is; below = omega arith }
from_here n k line lines added true e (inr more) later = let found = later more in record { line = found.line; there = rw e (inr found.there); is = found.is; below = omega (arith, found.below) }
from_here n k line lines added false e more later = let found = later more in record { line = found.line; there = rw e found.there; is = found.is; below = omega (arith, found.below) }

from_first : (n k : ℕ) (lines : List Line) (added : Added) → In added (unended (take k lines)) → IsFirst n k lines added
from_first n zero [] added h = absurd h
from_first n zero (line ∷ lines) added h = absurd h
from_first n (suc k) [] added h = absurd h
from_first n (suc k) (line ∷ lines) added h = from_here n k line lines added (line.1 == never) refl h (λ i. from_first (n + 1) k lines added i)

and_both : (a b : Bool) → (a && b) ≡ true → (a ≡ true) × (b ≡ true)
and_both true true h = (refl, refl)
and_both true false h = absurd (cc)
and_both false b h = absurd (cc)

-- the table tells what the first lines publish
pub published_then : (live : Live) (lines : List Line) (count : ℕ) (x : List ℕ) → IsPlaced live lines → is_published count (lines_in live.buckets.entries (take 4 x)) x ≡ true
    → In x (map prefix_of (unended (take count lines)))
published_then live lines count x h found =
    let shown = any_shows (publishes count x) (lines_in live.buckets.entries (take 4 x)) found in
    let there : In shown.item (filter (has_line (take 4 x)) (placed 0 lines)) = subst (λ ls. In shown.item ls) (h.places (take 4 x)) shown.there in
    let both = and_both (nat_lt shown.item.place count) (bytes_eq (prefix_of shown.item.added) x) shown.holds in
    let below : shown.item.place < 0 + count = omega (arith, ltb-true shown.item.place count both.0) in
    let first = into_first 0 count lines shown.item (from_filter (has_line (take 4 x)) shown.item (placed 0 lines) there).0 below in
    subst (λ y. In y (map prefix_of (unended (take count lines)))) (same_bytes (prefix_of shown.item.added) x both.1) (in_map prefix_of shown.item.added (unended (take count lines)) first)

pub then_published : (live : Live) (lines : List Line) (count : ℕ) (x : List ℕ) → IsPlaced live lines → All IsPublishable (unended (take count lines)) → In x (map prefix_of (unended (take count lines)))
    → is_published count (lines_in live.buckets.entries (take 4 x)) x ≡ true
then_published live lines count x h well there =
    let from = from_map prefix_of x (unended (take count lines)) there in
    let added = from.item in
    let low : 4 ≤ added.size = (All-contains IsPublishable (unended (take count lines)) added well (contains_in added (unended (take count lines)) from.there)).low in
    let first = from_first 0 count lines added from.there in
    let prefix : prefix_of first.line.added ≡ x = ap prefix_of first.is ∙ from.holds in
    let four : take 4 first.line.added.hash ≡ take 4 x = ap (λ (a : Added). take 4 a.hash) first.is ∙ sym (take-take 4 added.size added.hash low) ∙ ap (take 4) from.holds in
    let head : has_line (take 4 x) first.line ≡ true = ap (λ bs. bytes_eq bs (take 4 x)) four ∙ bytes_are_same (take 4 x) in
    let below : nat_lt first.line.place count ≡ true = (let lt : first.line.place < count = omega (arith, first.below) in grind (arith, nat_tests)) in
    let is : publishes count x first.line ≡ true = rw (below, ap (λ bs. bytes_eq bs x) prefix ∙ bytes_are_same x) refl in
    shows_any (publishes count x) first.line (lines_in live.buckets.entries (take 4 x))
    (subst (λ ls. In first.line ls) (sym (h.places (take 4 x))) (in_filter (has_line (take 4 x)) first.line (placed 0 lines) head first.there)) is

-- ---- the set that is reached

-- the prefixes of the first lines and of others
pub into_both : (x : List ℕ) (first others : List Added) → In x (map prefix_of first) ⊎ In x (map prefix_of others) → In x (map prefix_of (first ++ others))
into_both x first others e = subst (λ xs. In x xs) (sym (map-append {B = List ℕ} prefix_of first others)) (elim e [
  | inl i ↦ in_left x (map prefix_of first) (map prefix_of others) i
  | inr i ↦ in_right x (map prefix_of first) (map prefix_of others) i
])

pub from_both : (x : List ℕ) (first others : List Added) → In x (map prefix_of (first ++ others)) → In x (map prefix_of first) ⊎ In x (map prefix_of others)
from_both x first others i = in_either x (map prefix_of first) (map prefix_of others) (subst (λ xs. In x xs) (map-append {B = List ℕ} prefix_of first others) i)

pub reached : SetLaws → (live : Live) (lines : List Line) (count : ℕ) (set next : List (List ℕ)) (leaving coming : List Added) (removals : List ℕ) → IsPlaced live lines → All IsPublishable (unended (take count lines))
    → set ≡ set_of (map prefix_of (unended (take count lines) ++ leaving)) → AreGoing set live.buckets.entries count (map prefix_of leaving) removals
    → IsRising next → ((x : List ℕ) → Contains next x ↔ (Stays set removals x ⊎ Contains (map prefix_of coming) x))
    → next ≡ set_of (map prefix_of (unended (take count lines) ++ coming))
reached laws live lines count set next leaving coming removals h well is going up members = set_is laws next (map prefix_of (first ++ coming)) up (λ x. (there x, back x))
  where
    first : List Added
    first = unended (take count lines)

    stays_in : (x : List ℕ) (place : ℕ) → slice_get set place ≡ Some x → (Contains removals place → ⊥) → (b : Bool) → is_published count (lines_in live.buckets.entries (take 4 x)) x ≡ b → In x (map prefix_of first)
    stays_in x place at left true e = published_then live lines count x h e
    stays_in x place at left false e =
        let listed = subst (λ s. In x s) is (in_contained x set (contains_at set place x at)) in
        elim (from_both x first leaving (from_set x (map prefix_of (first ++ leaving)) listed)) [
          | inl i ↦ i
          | inr i ↦ absurd (left (going.all place x (contains_in x (map prefix_of leaving) i) at e))
        ]

    there : (x : List ℕ) → Contains next x → Contains (map prefix_of (first ++ coming)) x
    there x c = contains_in x (map prefix_of (first ++ coming)) (into_both x first coming (elim ((members x).0 c) [
      | inl stays ↦ inl (stays_in x stays.0 stays.1 stays.2 (is_published count (lines_in live.buckets.entries (take 4 x)) x) refl)
      | inr came ↦ inr (in_contained x (map prefix_of coming) came)
    ]))

    kept : (x : List ℕ) → In x (map prefix_of first) → Stays set removals x
    kept x i =
        let c : Contains set x = contains_in x set (subst (λ s. In x s) (sym is) (in_set x (map prefix_of (first ++ leaving)) (into_both x first leaving (inl i)))) in
        let at : slice_get set c.0 ≡ Some x = slice_get-get_or set c.0 x c.1 ∙ ap Some c.2 in
        (c.0, at, λ gone. let none = going.only c.0 x gone at in let yes = then_published live lines count x h well i in cc (none, yes))

    back : (x : List ℕ) → Contains (map prefix_of (first ++ coming)) x → Contains next x
    back x c = (members x).1 (elim (from_both x first coming (in_contained x (map prefix_of (first ++ coming)) c)) [
      | inl i ↦ inl (kept x i)
      | inr i ↦ inr (contains_in x (map prefix_of coming) i)
    ])
