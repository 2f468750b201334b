-- Sets of prefixes with one member more, and how many members they share with a held set.
use Rattle.std.proofs.Common.{◌≡◌, ℕ, suc, ◌+◌, ◌*◌, ◌⊎◌, inl, inr, Bool, true, false, cond, not, List, [], ◌∷◌, length, map, refl, sym, ap, subst, ◌∙◌, arith}
use Rattle.std.specs.Prelude.{◌||◌, filter, if◌then◌else◌}
use Rattle.std.specs.declared.cmp.Ordering.{Ordering}
use Rattle.std.specs.declared.cmp.Ordering.TheVariants.{Less, Equal, Greater}
use Rattle.std.specs.Ordering.{match_ordering}
use Rattle.std.specs.Str.{bytes_eq}
use Rattle.std.specs.List.{AllByRecursion, enumerate_from}
use Rattle.std.proofs.lemmas.Bool.{false≢true}
use Rattle.std.proofs.lemmas.Cmp.{tied_itself, nat_list_cmp_total}
use Rattle.std.proofs.lemmas.Map.Keys.{sorted_head, sorted_tail}
use Rattle.std.proofs.lemmas.Map.Lookups.{exact_bytes}
use Rattle.std.proofs.lemmas.List.Filters.{length-filter_both}
use Rattle.std.proofs.lemmas.Slice.Eq.{bytes_eq-Decides}
use Rattle.sb_model.specs.Difference.{has_member, removed_places, added_members, difference_count}
use Rattle.sb_model.specs.Prefixes.{bytes_cmp, IsRising, with_member}
use Rattle.delta_server.proofs.Membership.{In}

-- ---- equal strings

pub equal_bytes : (a b : List ℕ) → bytes_eq a b ≡ true → a ≡ b
equal_bytes a b is = (bytes_eq-Decides a b).0 is

pub same_bytes : (a b : List ℕ) → a ≡ b → bytes_eq a b ≡ true
same_bytes a b is = (bytes_eq-Decides a b).1 is

pub other_bytes : (a b : List ℕ) → (a ≡ b → ⊥) → bytes_eq a b ≡ false
other_bytes a b other = go (bytes_eq a b) (equal_bytes a b)
  where
    go : (t : Bool) → (t ≡ true → a ≡ b) → t ≡ false
    go true same = absurd (other (same refl))
    go false same = refl

pub has_in : (set : List (List ℕ)) (x : List ℕ) → has_member set x ≡ true → In x set
has_in [] x is = absurd (false≢true is)
has_in (y ∷ ys) x is = go (bytes_eq y x) refl is (has_in ys x)
  where
    go : (t : Bool) → bytes_eq y x ≡ t → (t || has_member ys x) ≡ true → (has_member ys x ≡ true → In x ys) → (y ≡ x) ⊎ In x ys
    go true same is more = inl (equal_bytes y x same)
    go false same is more = inr (more is)

pub in_has : (set : List (List ℕ)) (x : List ℕ) → In x set → has_member set x ≡ true
in_has [] x h = absurd h
in_has (y ∷ ys) x (inl same) = ap (λ (t : Bool). t || has_member ys x) (same_bytes y x same)
in_has (y ∷ ys) x (inr h) = go (bytes_eq y x) (in_has ys x h)
  where
    go : (t : Bool) → has_member ys x ≡ true → (t || has_member ys x) ≡ true
    go true is = refl
    go false is = is

pub has_not : (set : List (List ℕ)) (x : List ℕ) → (In x set → ⊥) → has_member set x ≡ false
has_not set x none = go (has_member set x) (has_in set x)
  where
    go : (t : Bool) → (t ≡ true → In x set) → t ≡ false
    go true there = absurd (none (there refl))
    go false there = refl

-- no later member of a rising list is its first
pub first_apart : (x : List ℕ) (xs : List (List ℕ)) → IsRising (x ∷ xs) → In x xs → ⊥
first_apart x xs up = go xs (sorted_head bytes_cmp x xs up)
  where
    go : (ys : List (List ℕ)) → AllByRecursion (λ y. bytes_cmp x y ≡ Less) ys → In x ys → ⊥
    go [] all h = h
    go (y ∷ ys) all (inl same) =
        let before : bytes_cmp x x ≡ Less = subst (λ (z : List ℕ). bytes_cmp x z ≡ Less) same all.0 in
        let tied : bytes_cmp x x ≡ Equal = tied_itself nat_list_cmp_total x in
        absurd (cc)
    go (y ∷ ys) all (inr h) = go ys all.1 h

-- ---- one member more

pub length-with_member : (q : List ℕ) (set : List (List ℕ)) → (In q set → ⊥) → length (with_member q set) ≡ suc (length set)
length-with_member q [] new = refl
length-with_member q (y ∷ ys) new = go (bytes_cmp q y) refl (length-with_member q ys (λ h. new (inr h)))
  where
    go : (o : Ordering) → bytes_cmp q y ≡ o → length (with_member q ys) ≡ suc (length ys)
        → length (match_ordering o (q ∷ y ∷ ys) (y ∷ ys) (y ∷ with_member q ys)) ≡ suc (suc (length ys))
    go Less is more = refl
    go Equal is more = absurd (new (inl (sym (exact_bytes q y is))))
    go Greater is more = ap suc more

or_again : (a b : Bool) → (a || (a || b)) ≡ (a || b)
or_again true b = refl
or_again false b = refl

or_swap : (a b c : Bool) → (a || (b || c)) ≡ (b || (a || c))
or_swap true true c = refl
or_swap true false c = refl
or_swap false b c = refl

pub has-with_member : (q : List ℕ) (set : List (List ℕ)) (x : List ℕ) → has_member (with_member q set) x ≡ (bytes_eq q x || has_member set x)
has-with_member q [] x = refl
has-with_member q (y ∷ ys) x = go (bytes_cmp q y) refl (has-with_member q ys x)
  where
    go : (o : Ordering) → bytes_cmp q y ≡ o → has_member (with_member q ys) x ≡ (bytes_eq q x || has_member ys x)
        → has_member (match_ordering o (q ∷ y ∷ ys) (y ∷ ys) (y ∷ with_member q ys)) x ≡ (bytes_eq q x || (bytes_eq y x || has_member ys x))
    go Less is more = refl
    go Equal is more =
        let same : q ≡ y = exact_bytes q y is in
        subst (λ (z : List ℕ). (bytes_eq y x || has_member ys x) ≡ (bytes_eq z x || (bytes_eq y x || has_member ys x))) (sym same) (sym (or_again (bytes_eq y x) (has_member ys x)))
    go Greater is more = ap (λ (t : Bool). bytes_eq y x || t) more ∙ or_swap (bytes_eq y x) (bytes_eq q x) (has_member ys x)

-- ---- what is shared

-- how many members of a held set another set has
abbrev pub kept : List (List ℕ) → List (List ℕ) → ℕ
kept set held = length (filter (has_member set) held)

-- where the held set rises
pub kept-with_member : (q : List ℕ) (set held : List (List ℕ)) → IsRising held → (In q set → ⊥)
    → kept (with_member q set) held ≡ kept set held + (if has_member held q then 1 else 0)
kept-with_member q set [] up new = refl
kept-with_member q set (h ∷ hs) up new = go (bytes_eq q h) refl (kept-with_member q set hs (sorted_tail bytes_cmp h hs up) new)
  where
    last : (t : Bool) → kept (with_member q set) hs ≡ kept set hs + (if has_member hs q then 1 else 0)
        → length (cond t (h ∷ filter (has_member (with_member q set)) hs) (filter (has_member (with_member q set)) hs))
        ≡ length (cond t (h ∷ filter (has_member set) hs) (filter (has_member set) hs)) + (if has_member hs q then 1 else 0)
    last true more = omega (arith, more)
    last false more = more

    go : (t : Bool) → bytes_eq q h ≡ t → kept (with_member q set) hs ≡ kept set hs + (if has_member hs q then 1 else 0)
        → kept (with_member q set) (h ∷ hs) ≡ kept set (h ∷ hs) + (if has_member (h ∷ hs) q then 1 else 0)
    go true is more =
        let same : q ≡ h = equal_bytes q h is in
        let there : has_member (with_member q set) h ≡ true = has-with_member q set h ∙ ap (λ (t : Bool). t || has_member set h) is in
        let absent : has_member set h ≡ false = has_not set h (subst (λ (z : List ℕ). In z set → ⊥) same new) in
        let own : has_member (h ∷ hs) q ≡ true = in_has (h ∷ hs) q (inl (sym same)) in
        let none : has_member hs q ≡ false = has_not hs q (subst (λ (z : List ℕ). In z hs → ⊥) (sym same) (first_apart h hs up)) in
        let before : kept (with_member q set) hs ≡ kept set hs = more ∙ ap (λ (t : Bool). kept set hs + (if t then 1 else 0)) none ∙ omega arith in
        ap (λ (t : Bool). length (cond t (h ∷ filter (has_member (with_member q set)) hs) (filter (has_member (with_member q set)) hs))) there
        ∙ ap suc before
        ∙ let more_one : suc (kept set hs) ≡ kept set hs + 1 = omega arith in more_one
        ∙ sym (ap (λ (t : Bool). length (cond t (h ∷ filter (has_member set) hs) (filter (has_member set) hs)) + 1) absent)
        ∙ sym (ap (λ (t : Bool). kept set (h ∷ hs) + (if t then 1 else 0)) own)
    go false is more =
        let same : has_member (with_member q set) h ≡ has_member set h = has-with_member q set h ∙ ap (λ (t : Bool). t || has_member set h) is in
        let other : bytes_eq h q ≡ false = other_bytes h q (λ e. false≢true (sym is ∙ same_bytes q h (sym e))) in
        ap (λ (t : Bool). length (cond t (h ∷ filter (has_member (with_member q set)) hs) (filter (has_member (with_member q set)) hs))) same
        ∙ last (has_member set h) more
        ∙ sym (ap (λ (t : Bool). kept set (h ∷ hs) + (if t || has_member hs q then 1 else 0)) other)

-- the other way round: how many members of a set a held set has
pub known-with_member : (q : List ℕ) (set held : List (List ℕ)) → (In q set → ⊥)
    → kept held (with_member q set) ≡ kept held set + (if has_member held q then 1 else 0)
known-with_member q set held new = go set new
  where
    one : (t : Bool) (ms : List (List ℕ)) → length (cond t (q ∷ ms) ms) ≡ length ms + (if t then 1 else 0)
    one true ms = omega arith
    one false ms = omega arith

    step : (t : Bool) (y : List ℕ) (ms ns : List (List ℕ)) (n : ℕ) → length ms ≡ length ns + n → length (cond t (y ∷ ms) ms) ≡ length (cond t (y ∷ ns) ns) + n
    step true y ms ns n is = omega (arith, is)
    step false y ms ns n is = is

    go : (ys : List (List ℕ)) → (In q ys → ⊥) → kept held (with_member q ys) ≡ kept held ys + (if has_member held q then 1 else 0)
    go [] new = one (has_member held q) []
    go (y ∷ ys) new = place (bytes_cmp q y) refl (go ys (λ h. new (inr h)))
      where
        place : (o : Ordering) → bytes_cmp q y ≡ o → kept held (with_member q ys) ≡ kept held ys + (if has_member held q then 1 else 0)
            → kept held (match_ordering o (q ∷ y ∷ ys) (y ∷ ys) (y ∷ with_member q ys)) ≡ kept held (y ∷ ys) + (if has_member held q then 1 else 0)
        place Less is more = one (has_member held q) (filter (has_member held) (y ∷ ys))
        place Equal is more = absurd (new (inl (sym (exact_bytes q y is))))
        place Greater is more = step (has_member held y) y (filter (has_member held) (with_member q ys)) (filter (has_member held) ys) (if has_member held q then 1 else 0) more

-- ---- the difference

gone : (set : List (List ℕ)) (n : ℕ) (held : List (List ℕ))
    → length (map (λ (member : ℕ × List ℕ). member.0) (filter (λ member. not (has_member set member.1)) (enumerate_from n held))) + kept set held ≡ length held
gone set n [] = refl
gone set n (h ∷ hs) = go (has_member set h) (gone set (n + 1) hs)
  where
    go : (t : Bool) → length (map (λ (member : ℕ × List ℕ). member.0) (filter (λ member. not (has_member set member.1)) (enumerate_from (n + 1) hs))) + kept set hs ≡ length hs
        → length (map (λ (member : ℕ × List ℕ). member.0) (cond (not t) ((n, h) ∷ filter (λ member. not (has_member set member.1)) (enumerate_from (n + 1) hs)) (filter (λ member. not (has_member set member.1)) (enumerate_from (n + 1) hs))))
        + length (cond t (h ∷ filter (has_member set) hs) (filter (has_member set) hs)) ≡ suc (length hs)
    go true more = omega (arith, more)
    go false more = omega (arith, more)

-- how many members are in exactly one of a held set and another
pub difference_by_shared : (held set : List (List ℕ)) (shared : ℕ) → shared ≡ kept set held → shared ≡ kept held set
    → difference_count held set + 2 * shared ≡ length held + length set
difference_by_shared held set shared stay known =
    let first : length (removed_places held set) + kept set held ≡ length held = gone set 0 held in
    let second : kept held set + length (added_members held set) ≡ length set =
    length-filter_both (has_member held) (λ (x : List ℕ). not (has_member held x)) (λ x. refl) set in
    omega (arith, first, second, stay, known)

-- a set keeps all of its own members
all_kept : (set members : List (List ℕ)) → ((x : List ℕ) → In x members → In x set) → kept set members ≡ length members
all_kept set [] own = refl
all_kept set (m ∷ ms) own =
    ap (λ (b : Bool). length (cond b (m ∷ filter (has_member set) ms) (filter (has_member set) ms))) (in_has set m (own m (inl refl)))
    ∙ ap suc (all_kept set ms (λ x h. own x (inr h)))

pub kept_whole : (set : List (List ℕ)) → kept set set ≡ length set
kept_whole set = all_kept set set (λ x h. h)
