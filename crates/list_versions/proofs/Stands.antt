-- Whether a full hash stands at a version, one line after the other.
use Rattle.std.proofs.Common.{◌≡◌, ℕ, ◌+◌, ◌<◌, ◌≤◌, ◌||◌, Bool, true, false, List, [], ◌∷◌, ◌++◌, length, take, drop, map, get_or, refl, sym, ap, ◌∙◌}
use Rattle.std.specs.List.{list_any}
use Rattle.std.specs.Str.{bytes_eq}
use Rattle.std.proofs.lemmas.List.{map-append, take-append-drop}
use Rattle.std.proofs.lemmas.List.Folds.{list_any-append}
use Rattle.sb_model.specs.declared.history.Added.{Added}
use Rattle.list_versions.specs.Ends.{Line, has_standing, lasting}
use Rattle.list_versions.proofs.Standings.{end_lasts, lasting-append, line_left, line_pushed, lines_whole, part, part_more}

abbrev pub has_hash : List ℕ → List Added → Bool
has_hash hash adds = list_any (bytes_eq hash) (map (λ (added : Added). added.hash) adds)

has_hash-append : (hash : List ℕ) (xs ys : List Added) → has_hash hash (xs ++ ys) ≡ (has_hash hash xs || has_hash hash ys)
has_hash-append hash xs ys =
    ap (list_any (bytes_eq hash)) (map-append {B = List ℕ} (λ (added : Added). added.hash) xs ys)
    ∙ list_any-append (bytes_eq hash) (map (λ (added : Added). added.hash) xs) (map (λ (added : Added). added.hash) ys)

or_none : (b : Bool) → (b || false) ≡ b
or_none true = refl
or_none false = refl

or_here : (a b : Bool) → b ≡ true → (a || b) ≡ true
or_here true b h = refl
or_here false b h = h

or_neither : (a b : Bool) → a ≡ false → b ≡ false → (a || b) ≡ false
or_neither true b h k = absurd (cc)
or_neither false b h k = k

-- what stands by the first lines stands by all
pub stands_in_front : (v : ℕ) (hash : List ℕ) (n : ℕ) (lines : List Line) → has_standing v hash (take n lines) ≡ true → has_standing v hash lines ≡ true
stands_in_front v hash n lines h =
    ap (has_standing v hash) (sym (take-append-drop n lines)) ∙ ap (has_hash hash) (lasting-append v true (take n lines) (drop n lines))
    ∙ has_hash-append hash (lasting v true (take n lines)) (lasting v true (drop n lines)) ∙ ap (λ (b : Bool). b || has_standing v hash (drop n lines)) h

-- ---- one line after the other

with_line : (v : ℕ) (hash : List ℕ) (lines : List Line) (adds : List Added) (ends : List ℕ) (i : ℕ) (d : Added) → map (λ (l : Line). l.0) lines ≡ adds → map (λ (l : Line). l.1) lines ≡ ends → i < length adds
    → end_lasts v true (get_or ends i 0) ≡ true → has_standing v hash (take (i + 1) lines) ≡ (has_standing v hash (take i lines) || bytes_eq hash (get_or adds i d).hash)
with_line v hash lines adds ends i d a e lt above =
    ap (has_hash hash) (sym (line_pushed v true lines adds [] ends i d a e lt above)) ∙ has_hash-append hash (lasting v true (take i lines)) (get_or adds i d ∷ [])
    ∙ ap (λ (b : Bool). has_standing v hash (take i lines) || b) (or_none (bytes_eq hash (get_or adds i d).hash))

pub line_stands : (v : ℕ) (hash : List ℕ) (lines : List Line) (adds : List Added) (ends : List ℕ) (i : ℕ) (d : Added) → map (λ (l : Line). l.0) lines ≡ adds → map (λ (l : Line). l.1) lines ≡ ends → i < length adds
    → end_lasts v true (get_or ends i 0) ≡ true → bytes_eq hash (get_or adds i d).hash ≡ true → true ≡ has_standing v hash lines
line_stands v hash lines adds ends i d a e lt above is =
    sym (stands_in_front v hash (i + 1) lines (with_line v hash lines adds ends i d a e lt above ∙ or_here (has_standing v hash (take i lines)) (bytes_eq hash (get_or adds i d).hash) is))

pub line_other : (v : ℕ) (hash : List ℕ) (lines : List Line) (adds : List Added) (ends : List ℕ) (i : ℕ) (d : Added) → map (λ (l : Line). l.0) lines ≡ adds → map (λ (l : Line). l.1) lines ≡ ends → i < length adds
    → end_lasts v true (get_or ends i 0) ≡ true → bytes_eq hash (get_or adds i d).hash ≡ false → has_standing v hash (take i lines) ≡ false → has_standing v hash (take (i + 1) lines) ≡ false
line_other v hash lines adds ends i d a e lt above other before =
    with_line v hash lines adds ends i d a e lt above ∙ or_neither (has_standing v hash (take i lines)) (bytes_eq hash (get_or adds i d).hash) before other

pub line_ended : (v : ℕ) (hash : List ℕ) (lines : List Line) (adds : List Added) (ends : List ℕ) (i : ℕ) → map (λ (l : Line). l.0) lines ≡ adds → map (λ (l : Line). l.1) lines ≡ ends → i < length adds
    → end_lasts v true (get_or ends i 0) ≡ false → has_standing v hash (take i lines) ≡ false → has_standing v hash (take (i + 1) lines) ≡ false
line_ended v hash lines adds ends i a e lt below before = ap (has_hash hash) (sym (line_left v true lines adds [] ends i a e lt below)) ∙ before

pub none_stands : (v : ℕ) (hash : List ℕ) (lines : List Line) (adds : List Added) (i : ℕ) → map (λ (l : Line). l.0) lines ≡ adds → length adds ≤ i → has_standing v hash (take i lines) ≡ false → has_standing v hash lines ≡ false
none_stands v hash lines adds i a past h = ap (has_hash hash) (sym (lines_whole v true lines adds [] i a past)) ∙ h

-- ---- one change after the other

pub part_stands : (v : ℕ) (hash : List ℕ) (from count : ℕ) (lines : List Line)
    → has_standing v hash (take (from + count) lines) ≡ (has_standing v hash (take from lines) || has_standing v hash (part from count lines))
part_stands v hash from count lines =
    ap (has_hash hash) (part_more v true from count lines) ∙ has_hash-append hash (lasting v true (take from lines)) (lasting v true (part from count lines))

pub part_here : (v : ℕ) (hash : List ℕ) (from count : ℕ) (lines : List Line) → has_standing v hash (part from count lines) ≡ true → has_standing v hash lines ≡ true
part_here v hash from count lines h =
    stands_in_front v hash (from + count) lines (part_stands v hash from count lines ∙ or_here (has_standing v hash (take from lines)) (has_standing v hash (part from count lines)) h)

pub part_none : (v : ℕ) (hash : List ℕ) (from count : ℕ) (lines : List Line) → has_standing v hash (take from lines) ≡ false → has_standing v hash (part from count lines) ≡ false
    → has_standing v hash (take (from + count) lines) ≡ false
part_none v hash from count lines before h =
    part_stands v hash from count lines ∙ or_neither (has_standing v hash (take from lines)) (has_standing v hash (part from count lines)) before h
