-- What leads from the set of a list at a version to its newest one, by what went and what came.
use Rattle.std.proofs.Common.{◌≡◌, ◌⊎◌, inl, inr, ℕ, Bool, true, false, not, ◌||◌, cond, List, [], ◌∷◌, ◌++◌, ◌+◌, ◌<◌, length, get_or, take, map, Some, Result, Ok, Err, IfOk, add-one, refl, sym, ap, subst, ◌∙◌}
use Rattle.std.specs.Prelude.{◌↔◌, All, Contains, IsTrue, filter, slice_get}
use Rattle.std.proofs.lemmas.Bool.{false≢true}
use Rattle.std.proofs.lemmas.List.{append-nil, append_assoc, map-append, take_more}
use Rattle.std.proofs.lemmas.List.Elements.{filter-append}
use Rattle.std.proofs.lemmas.List.Kept.{IsStrictlySortedBy-filter}
use Rattle.sb_model.specs.declared.history.Added.{Added}
use Rattle.sb_model.specs.Difference.{has_member, removed_places, added_members}
use Rattle.sb_model.specs.History.{prefix_of}
use Rattle.sb_model.specs.Prefixes.{bytes_cmp, IsRising, set_of}
use Rattle.list_versions.specs.Ends.{Line, unended}
use Rattle.list_versions.specs.Leading.{gained_of, older_place, was_published}
use Rattle.list_versions.specs.Live.{IsPlaced, IsPublishable, lines_in, shown}
use Rattle.list_versions.specs.Shifting.{is_published}
use Rattle.list_versions.specs.declared.live.Live.{Live}
use Rattle.list_versions.proofs.Begun.{take_next}
use Rattle.list_versions.proofs.Mapped.{SetLaws, set_is}
use Rattle.list_versions.proofs.Membership.{In, contains_in, in_contained, in_filter, from_filter}
use Rattle.list_versions.proofs.Ranks.{places_by_counts}
use Rattle.list_versions.proofs.Rising.{has_Contains, Contains-has, from_set, in_set}
use Rattle.list_versions.proofs.Shiftings.{from_both, into_both, published_then, then_published}
use Rattle.list_versions.proofs.Shown.{all_shown}

not_true : (b : Bool) → not b ≡ true → b ≡ false
not_true true h = absurd (cc)
not_true false h = refl

pub or_false : (a b : Bool) → a ≡ false → b ≡ false → (a || b) ≡ false
or_false a b h k = rw (h, k) refl

pub first_or : (a b : Bool) → a ≡ true → (a || b) ≡ true
first_or a b h = rw h refl

pub second_or : (a b : Bool) → b ≡ true → (a || b) ≡ true
second_or true b h = refl
second_or false b h = h

or_first : (a b : Bool) → (a || b) ≡ false → a ≡ false
or_first true b h = absurd (cc)
or_first false b h = refl

or_second : (a b : Bool) → (a || b) ≡ false → b ≡ false
or_second true b h = absurd (cc)
or_second false b h = h

unless_true : (b : Bool) → (b ≡ true → ⊥) → b ≡ false
unless_true true h = absurd (h refl)
unless_true false h = refl

has_not : (set : List (List ℕ)) (x : List ℕ) → (Contains set x → ⊥) → has_member set x ≡ false
has_not set x none = unless_true (has_member set x) (λ h. none (has_Contains set x h))

-- what a look-up tells
pub tells_member : (set : List (List ℕ)) (x y : List ℕ) (found : Bool) → (IsTrue found ↔ Contains set x) → x ≡ y → found ≡ has_member set y
tells_member set x y true h is = sym (Contains-has set y (subst (Contains set) is (h.0 refl)))
tells_member set x y false h is = sym (has_not set y (λ c. false≢true (h.1 (subst (Contains set) (sym is) c))))

pub pushed : (p : List ℕ → Bool) (x y : List ℕ) (old new : List (List ℕ)) → x ≡ y → p y ≡ true → new ≡ old ++ x ∷ [] → new ≡ old ++ filter p (y ∷ [])
pushed p x y old new is passes e = e ∙ ap (λ z. old ++ z ∷ []) is ∙ ap (λ b. old ++ cond b (y ∷ []) []) (sym passes)

pub passed_over : (p : List ℕ → Bool) (y : List ℕ) (old : List (List ℕ)) → p y ≡ false → old ≡ old ++ filter p (y ∷ [])
passed_over p y old fails = sym (append-nil old) ∙ ap (λ b. old ++ cond b (y ∷ []) []) (sym fails)

-- what is published of one full hash more
pub filtered_more : (p : List ℕ → Bool) (entries : List Added) (i : ℕ) (d : Added) (old new : List (List ℕ)) → i < length entries → old ≡ filter p (map shown (take i entries))
    → new ≡ old ++ filter p (shown (get_or entries i d) ∷ []) → new ≡ filter p (map shown (take (i + 1) entries))
filtered_more p entries i d old new lt before e =
    e ∙ ap (λ ps. ps ++ filter p (shown (get_or entries i d) ∷ [])) before
    ∙ sym (filter-append p (map shown (take i entries)) (shown (get_or entries i d) ∷ []))
    ∙ ap (filter p) (sym (map-append {B = List ℕ} shown (take i entries) (get_or entries i d ∷ [])))
    ∙ ap (λ (es : List Added). filter p (map shown es)) (sym (take_more entries i d lt))

-- the same behind others
pub filtered_after : (p : List ℕ → Bool) (entries : List Added) (i : ℕ) (d : Added) (first old new : List (List ℕ)) → i < length entries → old ≡ first ++ filter p (map shown (take i entries))
    → new ≡ old ++ filter p (shown (get_or entries i d) ∷ []) → new ≡ first ++ filter p (map shown (take (i + 1) entries))
filtered_after p entries i d first old new lt before e =
    let some = filter p (map shown (take i entries)) in
    let one = filter p (shown (get_or entries i d) ∷ []) in
    e ∙ ap (λ ps. ps ++ one) before ∙ append_assoc first some one ∙ ap (λ ps. first ++ ps) (filtered_more p entries i d some (some ++ one) lt refl refl)

-- one place more
pub placed_more : (f : List ℕ → ℕ) (set : List (List ℕ)) (i : ℕ) (x : List ℕ) (old new : List ℕ) (place : ℕ) → slice_get set i ≡ Some x → old ≡ map f (take i set) → new ≡ old ++ place ∷ [] → place ≡ f x
    → new ≡ map f (take (i + 1) set)
placed_more f set i x old new place at before e is =
    let longer : take (i + 1) set ≡ take i set ++ x ∷ [] = rw add-one (take_next set i x at) in
    e ∙ ap (λ ps. ps ++ place ∷ []) before ∙ ap (λ p. map f (take i set) ++ p ∷ []) is
    ∙ sym (map-append {B = ℕ} f (take i set) (x ∷ [])) ∙ ap (map f) (sym longer)

-- the prefixes of a version: those of the first lines, and others
abbrev set_with : List Added → List Added → List (List ℕ)
set_with first others = set_of (map prefix_of (first ++ others))

into : (x : List ℕ) (first others : List Added) → In x (map prefix_of first) ⊎ In x (map prefix_of others) → In x (set_with first others)
into x first others e = in_set x (map prefix_of (first ++ others)) (into_both x first others e)

out : (x : List ℕ) (first others : List Added) → In x (set_with first others) → In x (map prefix_of first) ⊎ In x (map prefix_of others)
out x first others i = from_both x first others (from_set x (map prefix_of (first ++ others)) i)

has_not_in : (x : List ℕ) (set : List (List ℕ)) → has_member set x ≡ false → In x set → ⊥
has_not_in x set h i = let yes = Contains-has set x (contains_in x set i) in cc (h, yes)

abbrev lacks : List (List ℕ) → List ℕ → Bool
lacks set member = not (has_member set member)

-- ---- what the older set alone has

pub lost_is : SetLaws → (first went came : List Added) → set_of (added_members (set_with first came) (map prefix_of went)) ≡ added_members (set_with first came) (set_with first went)
lost_is laws first went came =
    sym (set_is laws (added_members newest older) (added_members newest (map prefix_of went))
    (IsStrictlySortedBy-filter bytes_cmp (lacks newest) older (laws.rising (map prefix_of (first ++ went)))) (λ z. (there z, back z)))
  where
    newest : List (List ℕ)
    newest = set_with first came

    older : List (List ℕ)
    older = set_with first went

    there : (z : List ℕ) → Contains (added_members newest older) z → Contains (added_members newest (map prefix_of went)) z
    there z c =
        let from = from_filter (lacks newest) z older (in_contained z (added_members newest older) c) in
        contains_in z (added_members newest (map prefix_of went)) (elim (out z first went from.0) [
          | inl i ↦ absurd (has_not_in z newest (not_true (has_member newest z) from.1) (into z first came (inl i)))
          | inr i ↦ in_filter (lacks newest) z (map prefix_of went) from.1 i
        ])

    back : (z : List ℕ) → Contains (added_members newest (map prefix_of went)) z → Contains (added_members newest older) z
    back z c =
        let from = from_filter (lacks newest) z (map prefix_of went) (in_contained z (added_members newest (map prefix_of went)) c) in
        contains_in z (added_members newest older) (in_filter (lacks newest) z older from.1 (into z first went (inr from.0)))

-- ---- what the newest set alone has

pub gained_is : SetLaws → (live : Live) (lines : List Line) (count : ℕ) (went came : List Added) → IsPlaced live lines → All IsPublishable (unended (take count lines))
    → set_of (gained_of live.buckets.entries count (set_of (map prefix_of went)) (map prefix_of came)) ≡ added_members (set_with (unended (take count lines)) went) (set_with (unended (take count lines)) came)
gained_is laws live lines count went came placed well =
    sym (set_is laws (added_members older newest) (filter is_new (map prefix_of came))
    (IsStrictlySortedBy-filter bytes_cmp (lacks older) newest (laws.rising (map prefix_of (first ++ came)))) (λ z. (there z, back z)))
  where
    first : List Added
    first = unended (take count lines)

    gone : List (List ℕ)
    gone = set_of (map prefix_of went)

    older : List (List ℕ)
    older = set_with first went

    newest : List (List ℕ)
    newest = set_with first came

    is_first : List ℕ → Bool
    is_first x = is_published count (lines_in live.buckets.entries (take 4 x)) x

    is_new : List ℕ → Bool
    is_new x = not (was_published live.buckets.entries count gone x)

    lacking : (z : List ℕ) → was_published live.buckets.entries count gone z ≡ false → In z older → ⊥
    lacking z none i = elim (out z first went i) [
      | inl j ↦ (let yes = then_published live lines count z placed well j in let no = or_first (is_first z) (has_member gone z) none in cc (yes, no))
      | inr j ↦ has_not_in z gone (or_second (is_first z) (has_member gone z) none) (in_set z (map prefix_of went) j)
    ]

    unpublished : (z : List ℕ) → has_member older z ≡ false → is_new z ≡ true
    unpublished z none =
        ap not (or_false (is_first z) (has_member gone z)
        (unless_true (is_first z) (λ yes. has_not_in z older none (into z first went (inl (published_then live lines count z placed yes)))))
        (has_not gone z (λ h. has_not_in z older none (into z first went (inr (from_set z (map prefix_of went) (in_contained z gone h)))))))

    there : (z : List ℕ) → Contains (added_members older newest) z → Contains (filter is_new (map prefix_of came)) z
    there z c =
        let from = from_filter (lacks older) z newest (in_contained z (added_members older newest) c) in
        let none = not_true (has_member older z) from.1 in
        contains_in z (filter is_new (map prefix_of came)) (elim (out z first came from.0) [
          | inl i ↦ absurd (has_not_in z older none (into z first went (inl i)))
          | inr i ↦ in_filter is_new z (map prefix_of came) (unpublished z none) i
        ])

    back : (z : List ℕ) → Contains (filter is_new (map prefix_of came)) z → Contains (added_members older newest) z
    back z c =
        let from = from_filter is_new z (map prefix_of came) (in_contained z (filter is_new (map prefix_of came)) c) in
        let none = not_true (was_published live.buckets.entries count gone z) from.1 in
        contains_in z (added_members older newest)
        (in_filter (lacks older) z newest (ap not (has_not older z (λ h. lacking z none (in_contained z older h)))) (into z first came (inr from.0)))

-- ---- both

-- what was found of two versions: the prefixes that one of the sets alone has
pub record AreApart (live : Live) (count : ℕ) (newest lost gained : List (List ℕ)) (went came : List Added) : Type 0 where
  pub well_went : All IsPublishable went
  pub well_came : All IsPublishable came
  pub is_lost : lost ≡ set_of (added_members newest (map shown went))
  pub is_gained : gained ≡ set_of (gained_of live.buckets.entries count (set_of (map prefix_of went)) (map shown came))

pub lost_apart : SetLaws → (live : Live) (lines : List Line) (count : ℕ) (newest lost gained : List (List ℕ)) (went came : List Added) → AreApart live count newest lost gained went came
    → newest ≡ set_of (map prefix_of (unended (take count lines) ++ came)) → lost ≡ added_members newest (set_of (map prefix_of (unended (take count lines) ++ went)))
lost_apart laws live lines count newest lost gained went came are is =
    are.is_lost ∙ ap (λ (xs : List (List ℕ)). set_of (added_members newest xs)) (all_shown went are.well_went)
    ∙ subst (λ (n : List (List ℕ)). set_of (added_members n (map prefix_of went)) ≡ added_members n (set_with (unended (take count lines)) went)) (sym is)
    (lost_is laws (unended (take count lines)) went came)

pub gained_apart : SetLaws → (live : Live) (lines : List Line) (count : ℕ) (newest lost gained : List (List ℕ)) (went came : List Added) → AreApart live count newest lost gained went came
    → IsPlaced live lines → All IsPublishable (unended (take count lines)) → newest ≡ set_of (map prefix_of (unended (take count lines) ++ came))
    → gained ≡ added_members (set_of (map prefix_of (unended (take count lines) ++ went))) newest
gained_apart laws live lines count newest lost gained went came are placed well is =
    are.is_gained ∙ ap (λ (xs : List (List ℕ)). set_of (gained_of live.buckets.entries count (set_of (map prefix_of went)) xs)) (all_shown came are.well_came)
    ∙ gained_is laws live lines count went came placed well
    ∙ ap (added_members (set_with (unended (take count lines)) went)) (sym is)

pub removals_apart : SetLaws → (live : Live) (lines : List Line) (count : ℕ) (newest lost gained : List (List ℕ)) (went came : List Added) (removals : List ℕ) → AreApart live count newest lost gained went came
    → IsPlaced live lines → All IsPublishable (unended (take count lines)) → newest ≡ set_of (map prefix_of (unended (take count lines) ++ came))
    → removals ≡ map (older_place newest lost gained) lost → removals ≡ removed_places (set_of (map prefix_of (unended (take count lines) ++ went))) newest
removals_apart laws live lines count newest lost gained went came removals are placed well is places =
    let older = set_with (unended (take count lines)) went in
    let up : IsRising newest = subst IsRising (sym is) (laws.rising (map prefix_of (unended (take count lines) ++ came))) in
    places ∙ ap (λ (l : List (List ℕ)). map (older_place newest l gained) l) (lost_apart laws live lines count newest lost gained went came are is)
    ∙ ap (λ (g : List (List ℕ)). map (older_place newest (added_members newest older) g) (added_members newest older)) (gained_apart laws live lines count newest lost gained went came are placed well is)
    ∙ sym (places_by_counts laws older newest (laws.rising (map prefix_of (unended (take count lines) ++ went))) up)

pub ok_then : {D E : Type 0} (result : Result D E) (P Q : D → Type 0) → ((found : D) → P found → Q found) → IfOk result P → IfOk result Q
ok_then (Err fault) P Q more h = tt
ok_then (Ok found) P Q more h = more found h

-- what leads from one version to the newest, of the lines that are placed
pub led_to : {D E : Type 0} (result : Result D E) (leads : D → List (List ℕ) → Type 0) (live : Live) (lines : List Line) (count : ℕ) (older newest : List (List ℕ)) (went came gone come : List Added)
    → IsPlaced live lines → All IsPublishable (unended (take count lines)) → went ≡ gone → came ≡ come
    → older ≡ set_of (map prefix_of (unended (take count lines) ++ gone)) → newest ≡ set_of (map prefix_of (unended (take count lines) ++ come))
    → IfOk result (λ delta. (ls : List Line) → IsPlaced live ls → All IsPublishable (unended (take count ls)) → newest ≡ set_of (map prefix_of (unended (take count ls) ++ came)) → leads delta (set_of (map prefix_of (unended (take count ls) ++ went))))
    → IfOk result (λ delta. leads delta older)
led_to (Err fault) leads live lines count older newest went came gone come placed first g c o n h = tt
led_to (Ok delta) leads live lines count older newest went came gone come placed first g c o n h =
    subst (λ (set : List (List ℕ)). leads delta set) (ap (λ (es : List Added). set_of (map prefix_of (unended (take count lines) ++ es))) g ∙ sym o)
    (h lines placed first (n ∙ ap (λ (es : List Added). set_of (map prefix_of (unended (take count lines) ++ es))) (sym c)))
