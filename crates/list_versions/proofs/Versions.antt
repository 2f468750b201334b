-- The lines of a list with their ends, while changes come.
use Rattle.std.proofs.Common.{◌≡◌, ℕ, ◌+◌, ◌<◌, ◌≤◌, Bool, true, false, List, [], ◌∷◌, ◌++◌, length, take, drop, map, get_or, fold, refl, sym, ap, subst, ◌∙◌, inl, inr, arith, append_assoc, length-append}
use Rattle.std.specs.Prelude.{All, if◌then◌else◌}
use Rattle.std.proofs.Math.Nat.{eq-or-lt_of_le}
use Rattle.std.proofs.lemmas.List.{take_all, take_more, take-append-le, take-append-drop, append-nil, length-map}
use Rattle.std.proofs.lemmas.List.Elements.{All-nil}
use Rattle.sb_model.specs.declared.history.Added.{Added}
use Rattle.sb_model.specs.declared.history.Change.{Change}
use Rattle.sb_model.specs.declared.names.ListName.{ListName}
use Rattle.sb_model.specs.History.{after_change, with_added, without_hash}
use Rattle.sb_model.specs.Names.{same_name}
use Rattle.list_versions.specs.Draft.{lines_after}
use Rattle.list_versions.specs.Ends.{Line, HasEnds, adds_if, adds_of, after_lines, never, standing, unended}
use Rattle.list_versions.specs.Folding.{after_changes}
use Rattle.list_versions.proofs.Ended.{IsEndBy, after_adds, by_after, by_more, front_after, newest_stand, unended_after}

pub adds_both : (list : ListName) (first second : List Change) → adds_of list (first ++ second) ≡ adds_of list first ++ adds_of list second
adds_both list [] second = refl
adds_both list (change ∷ first) second =
    ap (λ (es : List Added). adds_if (same_name change.list list) change.adds ++ es) (adds_both list first second)
    ∙ sym (append_assoc (adds_if (same_name change.list list) change.adds) (adds_of list first) (adds_of list second))

pub adds_more : (list : ListName) (changes : List Change) (change : Change) → adds_of list (changes ++ change ∷ []) ≡ adds_of list changes ++ adds_if (same_name change.list list) change.adds
adds_more list changes change = adds_both list changes (change ∷ []) ∙ ap (λ (es : List Added). adds_of list changes ++ es) (append-nil (adds_if (same_name change.list list) change.adds))

pub adds_front : (list : ListName) (changes : List Change) (v : ℕ) → length (adds_of list (take v changes)) ≤ length (adds_of list changes)
adds_front list changes v =
    omega (
      arith,
      ap (λ (cs : List Change). length (adds_of list cs)) (take-append-drop v changes),
      ap length (adds_both list (take v changes) (drop v changes)),
      length-append (adds_of list (take v changes)) (adds_of list (drop v changes)),
    )

pub count_step : (list : ListName) (changes : List Change) (i : ℕ) (item : Change) (b : Bool) → i < length changes → item ≡ get_or changes i item → same_name item.list list ≡ b
    → length (adds_of list (take (i + 1) changes)) ≡ length (adds_of list (take i changes)) + length (adds_if b item.adds)
count_step list changes i item b lt is e =
    let next : take (i + 1) changes ≡ take i changes ++ item ∷ [] = take_more changes i item lt ∙ ap (λ (c : Change). take i changes ++ c ∷ []) (sym is) in
    ap (λ (cs : List Change). length (adds_of list cs)) next ∙ ap length (adds_more list (take i changes) item)
    ∙ length-append (adds_of list (take i changes)) (adds_if (same_name item.list list) item.adds) ∙ ap (λ (t : Bool). length (adds_of list (take i changes)) + length (adds_if t item.adds)) e

pub lines_long : (list : ListName) (changes : List Change) (lines : List Line) → HasEnds list changes lines → length lines ≡ length (adds_of list changes)
lines_long list changes lines h = sym (length-map {B = Added} lines (λ (l : Line). l.0)) ∙ ap length h.adds

fold_both : (f : List Added → Change → List Added) (a : List Added) (xs ys : List Change) → fold f a (xs ++ ys) ≡ fold f (fold f a xs) ys
fold_both f a [] ys = refl
fold_both f a (x ∷ xs) ys = fold_both f (f a x) xs ys

-- the newest full hashes
pub newest_lines : (list : ListName) (changes : List Change) (lines : List Line) → HasEnds list changes lines → length changes < never → after_changes list changes ≡ unended lines
newest_lines list changes lines h small =
    let whole : take (length changes) changes ≡ changes = take_all (length changes) changes (omega arith) in
    let all : take (length (adds_of list (take (length changes) changes))) lines ≡ lines =
    take_all (length (adds_of list (take (length changes) changes))) lines (omega (arith, lines_long list changes lines h, ap (λ (cs : List Change). length (adds_of list cs)) whole)) in
    ap (after_changes list) (sym whole) ∙ h.versions (length changes) (omega arith) ∙ ap (standing (length changes)) all ∙ newest_stand (length changes) lines small h.within

-- ---- a change more

split_last : (P : ℕ → Type 0) (n version : ℕ) → version ≤ n + 1 → (version ≤ n → P version) → (version ≡ n + 1 → P version) → P version
split_last P n version h low last = elim (eq-or-lt_of_le h) [ inl e ↦ last e | inr lt ↦ low (omega arith) ]

abbrev StandsAt : ListName → List Change → List Line → ℕ → Type 0
StandsAt list changes lines version = after_changes list (take version changes) ≡ standing version (take (length (adds_of list (take version changes))) lines)

own_change : (list : ListName) (entries : List Added) (change : Change) (b : Bool) → same_name change.list list ≡ b → b ≡ true → after_change list entries change ≡ fold with_added (fold without_hash entries change.removes) change.adds
own_change list entries change true e h = rw e refl
own_change list entries change false e h = absurd (cc)

other_change : (list : ListName) (entries : List Added) (change : Change) (b : Bool) → same_name change.list list ≡ b → b ≡ false → after_change list entries change ≡ entries
other_change list entries change true e h = absurd (cc)
other_change list entries change false e h = rw e refl

pub one_more : (list : ListName) (changes : List Change) (change : Change) → after_changes list (changes ++ change ∷ []) ≡ after_change list (after_changes list changes) change
one_more list changes change = fold_both (after_change list) [] changes (change ∷ [])

take_front : (changes : List Change) (change : Change) (v : ℕ) → v ≤ length changes → take v (changes ++ change ∷ []) ≡ take v changes
take_front changes change v h = take-append-le v changes (change ∷ []) h

take_last : (changes : List Change) (change : Change) (v : ℕ) → v ≡ length changes + 1 → take v (changes ++ change ∷ []) ≡ changes ++ change ∷ []
take_last changes change v e = take_all v (changes ++ change ∷ []) (omega (arith, e, length-append changes (change ∷ [])))

earlier : (list : ListName) (changes : List Change) (change : Change) (lines more : List Line) (v : ℕ) → v ≤ length changes → HasEnds list changes lines
    → standing v (take (length (adds_of list (take v changes))) more) ≡ standing v (take (length (adds_of list (take v changes))) lines)
    → StandsAt list (changes ++ change ∷ []) more v
earlier list changes change lines more v le h same =
    let front = take_front changes change v le in
    ap (after_changes list) front ∙ h.versions v le ∙ sym same ∙ ap (λ (cs : List Change). standing v (take (length (adds_of list cs)) more)) (sym front)

-- a version of which all lines stand that have no end
latest : (list : ListName) (changes : List Change) (lines : List Line) (v : ℕ) → map (λ (l : Line). l.0) lines ≡ adds_of list changes → length changes ≡ v → v < never → All (IsEndBy v) lines
    → after_changes list changes ≡ unended lines → StandsAt list changes lines v
latest list changes lines v adds long small within is =
    let whole : take v changes ≡ changes = take_all v changes (omega (arith, long)) in
    let all : take (length (adds_of list (take v changes))) lines ≡ lines =
    take_all (length (adds_of list (take v changes))) lines
    (omega (arith, length-map {B = Added} lines (λ (l : Line). l.0), ap length adds, ap (λ (cs : List Change). length (adds_of list cs)) whole)) in
    ap (after_changes list) whole ∙ is ∙ sym (newest_stand v lines small within) ∙ ap (standing v) (sym all)

ends_own : (list : ListName) (changes : List Change) (change : Change) (lines : List Line) (w : ℕ) → w ≡ length changes + 1 → w < never → same_name change.list list ≡ true → HasEnds list changes lines
    → HasEnds list (changes ++ change ∷ []) (after_lines w lines change.removes change.adds)
ends_own list changes change lines w e small own h =
    let more = after_lines w lines change.removes change.adds in
    let adds : map (λ (l : Line). l.0) more ≡ adds_of list (changes ++ change ∷ []) =
    after_adds w lines change.removes change.adds ∙ ap (λ (es : List Added). es ++ change.adds) h.adds
    ∙ ap (λ (b : Bool). adds_of list changes ++ adds_if b change.adds) (sym own) ∙ sym (adds_more list changes change) in
    let long : length (changes ++ change ∷ []) ≡ w = omega (arith, e, length-append changes (change ∷ [])) in
    let within : All (IsEndBy w) more = by_after (length changes) w lines change.removes change.adds (omega (arith, e)) h.within in
    let now : after_changes list (changes ++ change ∷ []) ≡ unended more =
    one_more list changes change ∙ own_change list (after_changes list changes) change (same_name change.list list) refl own
    ∙ ap (λ (es : List Added). fold with_added (fold without_hash es change.removes) change.adds) (newest_lines list changes lines h (omega (arith, e, small)))
    ∙ sym (unended_after w lines change.removes change.adds small) in
    record {
      adds = adds;
      versions = λ version le. split_last (StandsAt list (changes ++ change ∷ []) more) (length changes) version (omega (arith, le, length-append changes (change ∷ [])))
          (λ low. earlier list changes change lines more version low h
          (front_after version w (length (adds_of list (take version changes))) lines change.removes change.adds (omega (arith, low, e)) small
          (omega (arith, lines_long list changes lines h, adds_front list changes version))))
          (λ last. latest list (changes ++ change ∷ []) more version adds (omega (arith, long, last, e)) (omega (arith, last, e, small)) (subst (λ (v : ℕ). All (IsEndBy v) more) (omega (arith, last, e)) within) now);
      within = subst (λ (v : ℕ). All (IsEndBy v) more) (sym long) within;
    }

ends_other : (list : ListName) (changes : List Change) (change : Change) (lines : List Line) → length changes + 1 < never → same_name change.list list ≡ false → HasEnds list changes lines
    → HasEnds list (changes ++ change ∷ []) lines
ends_other list changes change lines small other h =
    let adds : map (λ (l : Line). l.0) lines ≡ adds_of list (changes ++ change ∷ []) =
    h.adds ∙ sym (append-nil (adds_of list changes)) ∙ ap (λ (b : Bool). adds_of list changes ++ adds_if b change.adds) (sym other) ∙ sym (adds_more list changes change) in
    let long : length (changes ++ change ∷ []) ≡ length changes + 1 = length-append changes (change ∷ []) in
    let within : All (IsEndBy (length changes + 1)) lines = by_more (length changes) (length changes + 1) lines (omega arith) h.within in
    let now : after_changes list (changes ++ change ∷ []) ≡ unended lines =
    one_more list changes change ∙ other_change list (after_changes list changes) change (same_name change.list list) refl other ∙ newest_lines list changes lines h (omega (arith, small)) in
    record {
      adds = adds;
      versions = λ version le. split_last (StandsAt list (changes ++ change ∷ []) lines) (length changes) version (omega (arith, le, long))
          (λ low. earlier list changes change lines lines version low h refl)
          (λ last. latest list (changes ++ change ∷ []) lines version adds (omega (arith, long, last)) (omega (arith, last, small)) (subst (λ (v : ℕ). All (IsEndBy v) lines) (sym last) within) now);
      within = subst (λ (v : ℕ). All (IsEndBy v) lines) (sym long) within;
    }

ends_at : (list : ListName) (changes : List Change) (change : Change) (lines : List Line) (w : ℕ) (b : Bool) → same_name change.list list ≡ b → w ≡ length changes + 1 → w < never → HasEnds list changes lines
    → HasEnds list (changes ++ change ∷ []) (if b then after_lines w lines change.removes change.adds else lines)
ends_at list changes change lines w true own e small h = ends_own list changes change lines w e small own h
ends_at list changes change lines w false other e small h = ends_other list changes change lines (omega (arith, e, small)) other h

pub ends_after : (list : ListName) (changes : List Change) (change : Change) (lines : List Line) (w : ℕ) → w ≡ length changes + 1 → w < never → HasEnds list changes lines
    → HasEnds list (changes ++ change ∷ []) (lines_after list w lines change)
ends_after list changes change lines w e small h = ends_at list changes change lines w (same_name change.list list) refl e small h

-- ---- a list that no change is of

pub ends_nothing : (list : ListName) (changes : List Change) → adds_of list changes ≡ [] → ((version : ℕ) → after_changes list (take version changes) ≡ []) → HasEnds list changes []
ends_nothing list changes adds none = record {
  adds = sym adds;
  versions = λ version le. none version ∙ ap (standing version) (sym (take_none (length (adds_of list (take version changes)))));
  within = All-nil (IsEndBy (length changes));
}
  where
    take_none : (n : ℕ) → take {A = Line} n [] ≡ []
    take_none n = take_all n [] (omega arith)
