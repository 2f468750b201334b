-- The stretches of the lines of a list, one change after the other, and the prefixes that they show.
use Rattle.std.proofs.Common.{◌≡◌, ◌∙◌, ℕ, zero, suc, ◌+◌, ◌<◌, ◌≤◌, nat_lt, nat_le, ◌&&◌, ◌||◌, not, Bool, true, false, List, [], ◌∷◌, ◌++◌, length, take, drop, map, get_or, refl, sym, ap, subst, inl, inr, arith}
use Rattle.std.specs.Int.{w32, to_be_bytes}
use Rattle.std.specs.List.{list_all, list_any}
use Rattle.std.specs.List.Sorted.{IsPermutation}
use Rattle.std.specs.Prelude.{◌==◌, All}
use Rattle.std.specs.Str.{bytes_eq}
use Rattle.std.proofs.lemmas.Bool.{cases_lt, eqb-true}
use Rattle.std.proofs.lemmas.Bool.Decides.{nat_tests}
use Rattle.std.proofs.lemmas.List.{get_or-map, length-map, length-take, take-take, take_all}
use Rattle.std.proofs.lemmas.List.Elements.{All-nil}
use Rattle.std.proofs.lemmas.List.Folds.{list_all-append, list_any-append, list_any_more}
use Rattle.std.proofs.lemmas.List.Sorted.{All-permutation, list_any-IsPermutation}
use Rattle.sb_model.specs.declared.history.Added.{Added}
use Rattle.sb_model.specs.declared.history.Change.{Change}
use Rattle.sb_model.specs.declared.names.ListName.{ListName}
use Rattle.sb_model.specs.Difference.{has_member}
use Rattle.sb_model.specs.History.{prefix_of}
use Rattle.sb_model.specs.Names.{same_name}
use Rattle.sb_model.specs.Prefixes.{set_of}
use Rattle.list_versions.specs.declared.draft.Draft.{Draft}
use Rattle.list_versions.specs.declared.draft.Listed.{Listed}
use Rattle.list_versions.specs.declared.live.Live.{Live}
use Rattle.list_versions.specs.declared.stretch.Stretch.{Stretch}
use Rattle.list_versions.specs.Draft.{history_of}
use Rattle.list_versions.specs.Ends.{Line, HasEnds, adds_if, adds_of, standing}
use Rattle.list_versions.specs.Folding.{after_changes}
use Rattle.list_versions.specs.Live.{HasRead}
use Rattle.list_versions.specs.Loaded.{IsStem}
use Rattle.list_versions.specs.Showing.{ShowLines, is_shown, publishes_four}
use Rattle.list_versions.specs.Stretches.{AreInOrder, AreStretches, IsStretch, shows_at}
use Rattle.list_versions.proofs.PrefixBytes.{has_map, has_set, is_published_in}
use Rattle.list_versions.proofs.ReadBack.{none_there}
use Rattle.list_versions.proofs.Standings.{part}
use Rattle.list_versions.proofs.Versions.{count_step}

-- whether an add is published with four bytes
abbrev pub of_four : Added → Bool
of_four added = added.size == 4

-- ---- all with four bytes

all_if : (b : Bool) (adds : List Added) → list_all of_four (adds_if b adds) ≡ (not b || list_all of_four adds)
all_if true adds = refl
all_if false adds = refl

pub all_adds : (list : ListName) (changes : List Change) → list_all of_four (adds_of list changes) ≡ list_all (publishes_four list) changes
all_adds list [] = refl
all_adds list (change ∷ changes) =
    list_all-append of_four (adds_if (same_name change.list list) change.adds) (adds_of list changes)
    ∙ ap (λ b. b && list_all of_four (adds_of list changes)) (all_if (same_name change.list list) change.adds)
    ∙ ap (λ b. (not (same_name change.list list) || list_all of_four change.adds) && b) (all_adds list changes)

-- ---- one line after the other

or_false : (b : Bool) → (b || false) ≡ b
or_false true = refl
or_false false = refl

and_true : (b : Bool) → (b && true) ≡ b
and_true true = refl
and_true false = refl

and_false : (b : Bool) → (b && false) ≡ false
and_false true = refl
and_false false = refl

one_more : (a f b p t : Bool) → ((a || (f && b)) || ((p && (f && t)) || false)) ≡ (a || (f && (b || (p && t))))
one_more true f b p t = refl
one_more false true true p t = refl
one_more false true false p t = or_false (p && t)
one_more false false b p t = or_false (p && false) ∙ and_false p

lines_as : (lines : List Line) (adds : List Added) → map (λ (l : Line). l.0) lines ≡ adds → length lines ≡ length adds
lines_as lines adds e = sym (length-map {B = Added} lines (λ (l : Line). l.0)) ∙ ap length e

pub line_shown : (v : ℕ) (q : List ℕ) (lines : List Line) (adds : List Added) (ends : List ℕ) (i : ℕ) (d : Added) (found : List Stretch) (before : Bool) (stretch : Stretch)
    → map (λ (l : Line). l.0) lines ≡ adds → map (λ (l : Line). l.1) lines ≡ ends → i < length adds → to_be_bytes w32 stretch.head ≡ take 4 (get_or adds i d).hash → stretch.until ≡ get_or ends i 0
    → list_any (shows_at v q) found ≡ (before || (nat_le stretch.from v && list_any (is_shown v q) (take i lines)))
    → list_any (shows_at v q) (found ++ stretch ∷ []) ≡ (before || (nat_le stretch.from v && list_any (is_shown v q) (take (i + 1) lines)))
line_shown v q lines adds ends i d found before stretch a e lt head until more =
    let line : Line = get_or lines i (d, 0) in
    let there : i < length lines = omega (arith, lt, lines_as lines adds a) in
    let added : get_or adds i d ≡ line.0 = ap (λ (xs : List Added). get_or xs i d) (sym a) ∙ get_or-map (λ (l : Line). l.0) lines i (d, 0) d there in
    let end : get_or ends i 0 ≡ line.1 = ap (λ (es : List ℕ). get_or es i 0) (sym e) ∙ get_or-map (λ (l : Line). l.1) lines i (d, 0) 0 there in
    let bytes : to_be_bytes w32 stretch.head ≡ take 4 line.0.hash = head ∙ ap (λ (x : Added). take 4 x.hash) added in
    let last : shows_at v q stretch ≡ (bytes_eq (take 4 line.0.hash) q && (nat_le stretch.from v && nat_lt v line.1)) =
    ap (λ bs. bytes_eq bs q && (nat_le stretch.from v && nat_lt v stretch.until)) bytes ∙ ap (λ n. bytes_eq (take 4 line.0.hash) q && (nat_le stretch.from v && nat_lt v n)) (until ∙ end) in
    list_any-append (shows_at v q) found (stretch ∷ [])
    ∙ ap (λ b. b || (shows_at v q stretch || false)) more
    ∙ ap (λ b. (before || (nat_le stretch.from v && list_any (is_shown v q) (take i lines))) || (b || false)) last
    ∙ one_more before (nat_le stretch.from v) (list_any (is_shown v q) (take i lines)) (bytes_eq (take 4 line.0.hash) q) (nat_lt v line.1)
    ∙ ap (λ b. before || (nat_le stretch.from v && b)) (sym (list_any_more (is_shown v q) lines i (d, 0) there))

pub lines_whole : (lines : List Line) (adds : List Added) (i : ℕ) → map (λ (l : Line). l.0) lines ≡ adds → length adds ≤ i → take i lines ≡ lines
lines_whole lines adds i a past = take_all i lines (omega (arith, past, lines_as lines adds a))

-- ---- one change after the other

le_true : (m n : ℕ) → m ≤ n → nat_le m n ≡ true
le_true m n h = grind (arith, nat_tests)

le_false : (m n : ℕ) → n < m → nat_le m n ≡ false
le_false m n h = grind (arith, nat_tests)

front : (n m : ℕ) (ls : List Line) → take (n + m) ls ≡ take n ls ++ take m (drop n ls)
front zero m ls = ap (λ k. take k ls) (omega arith)
front (suc n) m [] = take_all (suc n + m) [] (omega arith) ∙ sym (take_all m [] (omega arith))
front (suc n) m (l ∷ ls) = ap (λ k. take k (l ∷ ls)) (suc_plus n m) ∙ ap (λ zs. l ∷ zs) (front n m ls)
  where
    suc_plus : (n m : ℕ) → suc n + m ≡ suc (n + m)
    suc_plus n m = omega arith

-- the changes up to a version, of some that there are more of
same_front : (changes : List Change) (v i : ℕ) → v ≤ i → take v (take i changes) ≡ take v (take (i + 1) changes)
same_front changes v i le = take-take v i changes le ∙ sym (take-take v (i + 1) changes (omega (arith, le)))

whole_front : (changes : List Change) (v i : ℕ) → i ≤ v → take v (take i changes) ≡ take i changes
whole_front changes v i le = take_all v (take i changes) (omega (arith, le, length-take i changes))

pub shown_other : (list : ListName) (changes : List Change) (i : ℕ) (item : Change) (lines : List Line) (found : List Stretch) → i < length changes → item ≡ get_or changes i item → same_name item.list list ≡ false
    → ShowLines list (take i changes) lines found → ShowLines list (take (i + 1) changes) lines found
shown_other list changes i item lines found lt is other shown = λ v q. shown v q ∙ ap (λ n. list_any (is_shown v q) (take n lines)) (count v)
  where
    count : (v : ℕ) → length (adds_of list (take v (take i changes))) ≡ length (adds_of list (take v (take (i + 1) changes)))
    count v = elim (cases_lt i v) [
      | inl lower ↦ (
          let step = count_step list changes i item false lt is other in
          ap (λ (cs : List Change). length (adds_of list cs)) (whole_front changes v i (omega (arith, lower))) ∙ sym (step ∙ omega arith)
          ∙ ap (λ (cs : List Change). length (adds_of list cs)) (sym (whole_front changes v (i + 1) (omega (arith, lower)))))
      | inr le ↦ ap (λ (cs : List Change). length (adds_of list cs)) (same_front changes v i le)
    ]

pub shown_own : (list : ListName) (changes : List Change) (i : ℕ) (item : Change) (lines : List Line) (found more : List Stretch) → i < length changes → item ≡ get_or changes i item → same_name item.list list ≡ true
    → ((v : ℕ) (q : List ℕ) → list_any (shows_at v q) more
    ≡ (list_any (shows_at v q) found || (nat_le (i + 1) v && list_any (is_shown v q) (part (length (adds_of list (take i changes))) (length item.adds) lines))))
    → ShowLines list (take i changes) lines found → ShowLines list (take (i + 1) changes) lines more
shown_own list changes i item lines found more lt is own pushed shown = λ v q.
    let from = length (adds_of list (take i changes)) in
    let count = length item.adds in
    elim (cases_lt i v) [
      | inl lower ↦ (
          let next : from + count ≡ length (adds_of list (take (i + 1) changes)) = sym (count_step list changes i item true lt is own) in
          pushed v q ∙ ap (λ b. list_any (shows_at v q) found || (b && list_any (is_shown v q) (part from count lines))) (le_true (i + 1) v (omega (arith, lower)))
          ∙ ap (λ b. b || list_any (is_shown v q) (part from count lines))
          (shown v q ∙ ap (λ (cs : List Change). list_any (is_shown v q) (take (length (adds_of list cs)) lines)) (whole_front changes v i (omega (arith, lower))))
          ∙ sym (list_any-append (is_shown v q) (take from lines) (part from count lines)) ∙ ap (list_any (is_shown v q)) (sym (front from count lines))
          ∙ ap (λ n. list_any (is_shown v q) (take n lines)) next
          ∙ ap (λ (cs : List Change). list_any (is_shown v q) (take (length (adds_of list cs)) lines)) (sym (whole_front changes v (i + 1) (omega (arith, lower)))))
      | inr le ↦ (
          pushed v q ∙ ap (λ b. list_any (shows_at v q) found || (b && list_any (is_shown v q) (part from count lines))) (le_false (i + 1) v (omega (arith, le)))
          ∙ or_false (list_any (shows_at v q) found) ∙ shown v q
          ∙ ap (λ (cs : List Change). list_any (is_shown v q) (take (length (adds_of list cs)) lines)) (same_front changes v i le))
    ]

-- ---- the prefixes of the lines that stand

first_true : (a b : Bool) → (a && b) ≡ true → a ≡ true
first_true true b h = refl
first_true false b h = h

second_true : (a b : Bool) → (a && b) ≡ true → b ≡ true
second_true true b h = h
second_true false b h = absurd (cc)

one_stands : (v : ℕ) (q : List ℕ) (line : Line) (lines : List Line) (b : Bool) → nat_lt v line.1 ≡ b → line.0.size ≡ 4 → is_published_in (standing v lines) q ≡ list_any (is_shown v q) lines
    → is_published_in (standing v (line ∷ lines)) q ≡ list_any (is_shown v q) (line ∷ lines)
one_stands v q line lines true e four more =
    rw e (ap (λ n. bytes_eq (take n line.0.hash) q || is_published_in (standing v lines) q) four ∙ ap (λ b. bytes_eq (take 4 line.0.hash) q || b) more
    ∙ ap (λ b. b || list_any (is_shown v q) lines) (sym (and_true (bytes_eq (take 4 line.0.hash) q))))
one_stands v q line lines false e four more = rw e (more ∙ ap (λ b. b || list_any (is_shown v q) lines) (sym (and_false (bytes_eq (take 4 line.0.hash) q))))

stand_shown : (v : ℕ) (q : List ℕ) (n : ℕ) (lines : List Line) → list_all of_four (map (λ (l : Line). l.0) lines) ≡ true
    → is_published_in (standing v (take n lines)) q ≡ list_any (is_shown v q) (take n lines)
stand_shown v q zero lines all = refl
stand_shown v q (suc n) [] all = refl
stand_shown v q (suc n) (line ∷ lines) all =
    let rest = list_all of_four (map (λ (l : Line). l.0) lines) in
    one_stands v q line (take n lines) (nat_lt v line.1) refl (eqb-true line.0.size 4 (first_true (line.0.size == 4) rest all))
    (stand_shown v q n lines (second_true (line.0.size == 4) rest all))

has_shown : (list : ListName) (changes : List Change) (lines : List Line) → HasEnds list changes lines → list_all of_four (adds_of list changes) ≡ true → (v : ℕ) → v ≤ length changes → (q : List ℕ)
    → has_member (set_of (map prefix_of (after_changes list (take v changes)))) q ≡ list_any (is_shown v q) (take (length (adds_of list (take v changes))) lines)
has_shown list changes lines h all v le q =
    let entries = after_changes list (take v changes) in
    has_set q (map prefix_of entries) ∙ has_map q entries ∙ ap (λ (es : List Added). is_published_in es q) (h.versions v le)
    ∙ stand_shown v q (length (adds_of list (take v changes))) lines (ap (list_all of_four) h.adds ∙ all)

-- the stretches of a list, once they are in order
pub stretches_are : (draft : Draft) (list : ListName) (live : Live) (changes : List Change) (ends : List ℕ) (found sorted : List Stretch) → HasRead list draft.changes.items live
    → changes ≡ draft.changes.items → ends ≡ live.ends.items → list_all of_four (adds_of list changes) ≡ true
    → ((lines : List Line) → map (λ (l : Line). l.0) lines ≡ adds_of list changes → map (λ (l : Line). l.1) lines ≡ ends → ShowLines list changes lines found)
    → All (IsStretch (history_of draft)) found → IsPermutation found sorted → AreInOrder sorted → AreStretches (history_of draft) list sorted
stretches_are draft list live changes ends found sorted read same kept all shown each moved order =
    let told : ShowLines list draft.changes.items read.lines found =
    subst (λ (cs : List Change). ShowLines list cs read.lines found) same (shown read.lines (read.are.adds ∙ ap (adds_of list) (sym same)) (sym read.ends ∙ sym kept)) in
    record {
      order = order;
      each = All-permutation (IsStretch (history_of draft)) found sorted moved each;
      published = λ v le q.
          has_shown list draft.changes.items read.lines read.are (ap (λ (cs : List Change). list_all of_four (adds_of list cs)) (sym same) ∙ all) v le q
          ∙ sym (told v q) ∙ list_any-IsPermutation (shows_at v q) found sorted moved;
    }

-- a list that is not declared has none
pub no_stretches : (draft : Draft) (list : ListName) → IsStem draft → list_any (λ (listed : Listed). same_name listed.name list) draft.lists.items ≡ false → AreStretches (history_of draft) list []
no_stretches draft list h none = record {
  order = tt;
  each = All-nil (IsStretch (history_of draft));
  published = λ v le q. ap (λ (es : List Added). has_member (set_of (map prefix_of es)) q) (none_there draft list v h none);
}
