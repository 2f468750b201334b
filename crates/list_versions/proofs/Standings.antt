-- The lines of a list that stand at a version, one change after the other.
use Rattle.std.proofs.Common.{◌≡◌, ℕ, zero, suc, ◌+◌, ◌<◌, ◌≤◌, nat_lt, ◌&&◌, ◌||◌, not, Bool, true, false, List, [], ◌∷◌, ◌++◌, length, take, drop, map, get_or, refl, sym, ap, ◌∙◌, arith, append_assoc, length-append, add-one}
use Rattle.std.specs.List.{filter}
use Rattle.std.specs.Prelude.{◌==◌}
use Rattle.std.proofs.lemmas.Bool.{eqb-true}
use Rattle.std.proofs.lemmas.Bool.Decides.{nat_tests}
use Rattle.std.proofs.lemmas.List.{take-append-drop, take_at, drop_at, take_all, take-map, map-append, length-map}
use Rattle.std.proofs.lemmas.List.Elements.{filter-append}
use Rattle.sb_model.specs.declared.history.Added.{Added}
use Rattle.sb_model.specs.declared.history.Change.{Change}
use Rattle.sb_model.specs.declared.names.ListName.{ListName}
use Rattle.sb_model.specs.Names.{same_name}
use Rattle.list_versions.specs.Ends.{Line, adds_if, adds_of, lasting, lasts, never, standing, unended}
use Rattle.list_versions.proofs.Versions.{adds_both}

-- ---- one line after the other

pushed_step : (v : ℕ) (endless : Bool) (line : Line) (xs ys : List Line) (x : Added) (b : Bool) → lasts v endless line ≡ b → lasting v endless xs ≡ lasting v endless ys ++ x ∷ [] → lasting v endless (line ∷ xs) ≡ lasting v endless (line ∷ ys) ++ x ∷ []
pushed_step v endless line xs ys x true e more = rw e (ap (λ (es : List Added). line.0 ∷ es) more)
pushed_step v endless line xs ys x false e more = rw e more

pushed : (v : ℕ) (endless : Bool) (lines : List Line) (i : ℕ) (d : Added) → i < length lines → (nat_lt v (get_or (map (λ (l : Line). l.1) lines) i 0) && (endless || not (get_or (map (λ (l : Line). l.1) lines) i 0 == never))) ≡ true
    → lasting v endless (take (suc i) lines) ≡ lasting v endless (take i lines) ++ get_or (map (λ (l : Line). l.0) lines) i d ∷ []
pushed v endless [] i d h above = absurd (omega arith)
pushed v endless (line ∷ lines) zero d h above = rw above refl
pushed v endless (line ∷ lines) (suc i) d h above =
    pushed_step v endless line (take (suc i) lines) (take i lines) (get_or (map (λ (l : Line). l.0) lines) i d) (lasts v endless line) refl (pushed v endless lines i d (omega (arith, h)) above)

left_step : (v : ℕ) (endless : Bool) (line : Line) (xs ys : List Line) (b : Bool) → lasts v endless line ≡ b → lasting v endless xs ≡ lasting v endless ys → lasting v endless (line ∷ xs) ≡ lasting v endless (line ∷ ys)
left_step v endless line xs ys true e more = rw e (ap (λ (es : List Added). line.0 ∷ es) more)
left_step v endless line xs ys false e more = rw e more

left : (v : ℕ) (endless : Bool) (lines : List Line) (i : ℕ) → i < length lines → (nat_lt v (get_or (map (λ (l : Line). l.1) lines) i 0) && (endless || not (get_or (map (λ (l : Line). l.1) lines) i 0 == never))) ≡ false
    → lasting v endless (take (suc i) lines) ≡ lasting v endless (take i lines)
left v endless [] i h below = absurd (omega arith)
left v endless (line ∷ lines) zero h below = rw below refl
left v endless (line ∷ lines) (suc i) h below = left_step v endless line (take (suc i) lines) (take i lines) (lasts v endless line) refl (left v endless lines i (omega (arith, h)) below)

lines_as : (lines : List Line) (adds : List Added) → map (λ (l : Line). l.0) lines ≡ adds → length lines ≡ length adds
lines_as lines adds e = sym (length-map {B = Added} lines (λ (l : Line). l.0)) ∙ ap length e

-- whether a line lasts, by its end
abbrev pub end_lasts : ℕ → Bool → ℕ → Bool
end_lasts v endless end = nat_lt v end && (endless || not (end == never))

pub line_pushed : (v : ℕ) (endless : Bool) (lines : List Line) (adds front : List Added) (ends : List ℕ) (i : ℕ) (d : Added) → map (λ (l : Line). l.0) lines ≡ adds → map (λ (l : Line). l.1) lines ≡ ends → i < length adds
    → end_lasts v endless (get_or ends i 0) ≡ true → (front ++ lasting v endless (take i lines)) ++ get_or adds i d ∷ [] ≡ front ++ lasting v endless (take (i + 1) lines)
line_pushed v endless lines adds front ends i d a e lt above =
    let here = ap (λ (es : List ℕ). end_lasts v endless (get_or es i 0)) e ∙ above in
    append_assoc front (lasting v endless (take i lines)) (get_or adds i d ∷ [])
    ∙ ap (λ (es : List Added). front ++ es) (ap (λ (es : List Added). lasting v endless (take i lines) ++ get_or es i d ∷ []) (sym a)
    ∙ rw add-one (sym (pushed v endless lines i d (omega (arith, lt, lines_as lines adds a)) here)))

pub line_left : (v : ℕ) (endless : Bool) (lines : List Line) (adds front : List Added) (ends : List ℕ) (i : ℕ) → map (λ (l : Line). l.0) lines ≡ adds → map (λ (l : Line). l.1) lines ≡ ends → i < length adds
    → end_lasts v endless (get_or ends i 0) ≡ false → front ++ lasting v endless (take i lines) ≡ front ++ lasting v endless (take (i + 1) lines)
line_left v endless lines adds front ends i a e lt below =
    let here = ap (λ (es : List ℕ). end_lasts v endless (get_or es i 0)) e ∙ below in
    ap (λ (es : List Added). front ++ es) (rw add-one (sym (left v endless lines i (omega (arith, lt, lines_as lines adds a)) here)))

pub lines_whole : (v : ℕ) (endless : Bool) (lines : List Line) (adds front : List Added) (i : ℕ) → map (λ (l : Line). l.0) lines ≡ adds → length adds ≤ i → front ++ lasting v endless (take i lines) ≡ front ++ lasting v endless lines
lines_whole v endless lines adds front i a past = ap (λ (ls : List Line). front ++ lasting v endless ls) (take_all i lines (omega (arith, past, lines_as lines adds a)))

-- ---- one change after the other

pub lasting-append : (v : ℕ) (endless : Bool) (xs ys : List Line) → lasting v endless (xs ++ ys) ≡ lasting v endless xs ++ lasting v endless ys
lasting-append v endless xs ys =
    ap (map (λ (l : Line). l.0)) (filter-append (lasts v endless) xs ys) ∙ map-append {B = Added} (λ (l : Line). l.0) (filter (lasts v endless) xs) (filter (lasts v endless) ys)

-- the lines of a change
abbrev pub part : ℕ → ℕ → List Line → List Line
part from count lines = take count (drop from lines)

pub part_more : (v : ℕ) (endless : Bool) (from count : ℕ) (lines : List Line) → lasting v endless (take (from + count) lines) ≡ lasting v endless (take from lines) ++ lasting v endless (part from count lines)
part_more v endless from count lines =
    ap (lasting v endless) (front from count lines) ∙ lasting-append v endless (take from lines) (part from count lines)
  where
    front : (n m : ℕ) (ls : List Line) → take (n + m) ls ≡ take n ls ++ take m (drop n ls)
    front zero m ls = ap (λ k. take k ls) (omega arith)
    front (suc n) m [] = take_all (suc n + m) [] (omega arith) ∙ sym (take_all m [] (omega arith))
    front (suc n) m (l ∷ ls) = ap (λ k. take k (l ∷ ls)) (suc_plus n m) ∙ ap (λ zs. l ∷ zs) (front n m ls)
      where
        suc_plus : (n m : ℕ) → suc n + m ≡ suc (n + m)
        suc_plus n m = omega arith

-- all that stand last, with those that have no end
all_last : (v : ℕ) (lines : List Line) (b : Bool) (line : Line) → nat_lt v line.1 ≡ b → standing v lines ≡ lasting v true lines → standing v (line ∷ lines) ≡ lasting v true (line ∷ lines)
all_last v lines true line e more = rw e (ap (λ (es : List Added). line.0 ∷ es) more)
all_last v lines false line e more = rw e more

pub standing_lasts : (v : ℕ) (lines : List Line) → standing v lines ≡ lasting v true lines
standing_lasts v [] = refl
standing_lasts v (line ∷ lines) = all_last v lines (nat_lt v line.1) line refl (standing_lasts v lines)

pub map_drop : {B : Type 0} (f : Line → B) (n : ℕ) (lines : List Line) → map f (drop n lines) ≡ drop n (map f lines)
map_drop f zero lines = refl
map_drop f (suc n) [] = refl
map_drop f (suc n) (l ∷ ls) = map_drop f n ls

pub part_ends : (from count : ℕ) (lines : List Line) (ends rest : List ℕ) → map (λ (l : Line). l.1) lines ≡ ends → rest ≡ drop from ends → map (λ (l : Line). l.1) (part from count lines) ≡ take count rest
part_ends from count lines ends rest e r =
    sym (take-map {Y = ℕ} (λ (l : Line). l.1) count (drop from lines)) ∙ ap (take count) (map_drop (λ (l : Line). l.1) from lines ∙ ap (drop from) e ∙ sym r)

split_adds : (list : ListName) (changes : List Change) (i : ℕ) (item : Change) → i < length changes → item ≡ get_or changes i item → same_name item.list list ≡ true
    → adds_of list changes ≡ adds_of list (take i changes) ++ (item.adds ++ adds_of list (drop (suc i) changes))
split_adds list [] i item lt is own = absurd (omega arith)
split_adds list (change ∷ changes) zero item lt is own =
    ap (λ (c : Change). adds_if (same_name c.list list) c.adds ++ adds_of list changes) (sym is) ∙ ap (λ (b : Bool). adds_if b item.adds ++ adds_of list changes) own
split_adds list (change ∷ changes) (suc i) item lt is own =
    ap (λ (es : List Added). adds_if (same_name change.list list) change.adds ++ es) (split_adds list changes i item (omega (arith, lt)) is own)
    ∙ sym (append_assoc (adds_if (same_name change.list list) change.adds) (adds_of list (take i changes)) (item.adds ++ adds_of list (drop (suc i) changes)))

pub part_adds : (list : ListName) (changes : List Change) (i : ℕ) (item : Change) (lines : List Line) → i < length changes → item ≡ get_or changes i item → same_name item.list list ≡ true
    → map (λ (l : Line). l.0) lines ≡ adds_of list changes → map (λ (l : Line). l.0) (part (length (adds_of list (take i changes))) (length item.adds) lines) ≡ item.adds
part_adds list changes i item lines lt is own a =
    let from = length (adds_of list (take i changes)) in
    let rest = adds_of list (drop (suc i) changes) in
    sym (take-map {Y = Added} (λ (l : Line). l.0) (length item.adds) (drop from lines))
    ∙ ap (take (length item.adds)) (map_drop (λ (l : Line). l.0) from lines ∙ ap (drop from) (a ∙ split_adds list changes i item lt is own)
    ∙ drop_at (adds_of list (take i changes)) (item.adds ++ rest) from refl) ∙ take_at item.adds rest (length item.adds) refl

-- the ends of the lines of a change are there
pub part_fits : (list : ListName) (changes : List Change) (i : ℕ) (item : Change) → i < length changes → item ≡ get_or changes i item → same_name item.list list ≡ true
    → length (adds_of list (take i changes)) + length item.adds ≤ length (adds_of list changes)
part_fits list changes i item lt is own =
    omega (
      arith,
      ap length (split_adds list changes i item lt is own),
      length-append (adds_of list (take i changes)) (item.adds ++ adds_of list (drop (suc i) changes)),
      length-append item.adds (adds_of list (drop (suc i) changes)),
    )

lt_true : (m n : ℕ) → m < n → nat_lt m n ≡ true
lt_true m n h = grind (arith, nat_tests)

lt_false : (m n : ℕ) → n ≤ m → nat_lt m n ≡ false
lt_false m n h = grind (arith, nat_tests)

-- lines whose end is above all but the greatest number have none
last_step : (line : Line) (lines : List Line) (b : Bool) → line.1 < 4294967296 → (line.1 == never) ≡ b → lasting 4294967294 true lines ≡ unended lines → lasting 4294967294 true (line ∷ lines) ≡ unended (line ∷ lines)
last_step line lines true small e more =
    let is : line.1 ≡ never = eqb-true line.1 never e in
    let above : nat_lt 4294967294 line.1 ≡ true = lt_true 4294967294 line.1 (omega (arith, is)) in
    rw (above, e) (ap (λ (es : List Added). line.0 ∷ es) more)
last_step line lines false small e more =
    let below : line.1 ≤ 4294967294 = grind (arith, nat_tests) in
    rw (lt_false 4294967294 line.1 below, e) more

last_all : (lines : List Line) → ((i : ℕ) → get_or (map (λ (l : Line). l.1) lines) i 0 < 4294967296) → lasting 4294967294 true lines ≡ unended lines
last_all [] h = refl
last_all (line ∷ lines) h = last_step line lines (line.1 == never) (h zero) refl (last_all lines (λ i. h (suc i)))

pub last_after : (n : ℕ) (lines : List Line) → ((i : ℕ) → get_or (map (λ (l : Line). l.1) lines) i 0 < 4294967296) → lasting 4294967294 true (drop n lines) ≡ unended (drop n lines)
last_after zero lines h = last_all lines h
last_after (suc n) [] h = refl
last_after (suc n) (line ∷ lines) h = last_after n lines (λ i. h (suc i))

pub rest_adds : (list : ListName) (changes : List Change) (version : ℕ) → drop (length (adds_of list (take version changes))) (adds_of list changes) ≡ adds_of list (drop version changes)
rest_adds list changes version =
    ap (λ (cs : List Change). drop (length (adds_of list (take version changes))) (adds_of list cs)) (sym (take-append-drop version changes))
    ∙ ap (drop (length (adds_of list (take version changes)))) (adds_both list (take version changes) (drop version changes))
    ∙ drop_at (adds_of list (take version changes)) (adds_of list (drop version changes)) (length (adds_of list (take version changes))) refl
