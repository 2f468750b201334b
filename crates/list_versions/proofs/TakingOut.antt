-- A full hash that is taken out of a list from the end on.
use Rattle.std.proofs.Common.{◌≡◌, ℕ, ◌+◌, ◌<◌, List, [], ◌∷◌, ◌++◌, Bool, true, false, not, ◌||◌, cond, length, take, drop, get_or, refl, sym, ap, ◌∙◌, arith, append_assoc, length-append}
use Rattle.std.specs.List.{list_any}
use Rattle.std.specs.Str.{bytes_eq}
use Rattle.sb_model.specs.declared.history.Added.{Added}
use Rattle.std.proofs.lemmas.List.{take_more, drop_more, take_all, drop_all, append-nil, take_at, drop_at, get_or_at, length-take-le, take-append-drop, map-append}
use Rattle.sb_model.specs.History.{prefix_of}
use Rattle.list_versions.specs.Buckets.{added_of, without}
use Rattle.list_versions.specs.declared.bucket.Standing.{Standing}
use Rattle.list_versions.specs.Limits.{prefix_bytes}
use Rattle.list_versions.proofs.PrefixBytes.{prefix_bytes-insert, is_published_in}

-- The first entries are still to be looked at.
abbrev pub left_at : List Standing → List ℕ → ℕ → List Standing
left_at entries hash i = take i entries ++ without (drop i entries) hash

-- where nothing was looked at
pub left_at-all : (entries : List Standing) (hash : List ℕ) (n : ℕ) → n ≡ length entries → entries ≡ left_at entries hash n
left_at-all entries hash n h =
    let front = take_all n entries (omega arith) in
    let back = drop_all n entries (omega arith) in
    rw (front, back) (sym (append-nil entries))

-- the entry that is looked at
pub left_at-next : (entries : List Standing) (hash : List ℕ) (i : ℕ) (d : Standing) → i < length entries
    → left_at entries hash (i + 1) ≡ take i entries ++ get_or entries i d ∷ without (drop (i + 1) entries) hash
left_at-next entries hash i d lt =
    ap (λ front. front ++ without (drop (i + 1) entries) hash) (take_more entries i d lt)
    ∙ append_assoc (take i entries) (get_or entries i d ∷ []) (without (drop (i + 1) entries) hash)

pub entry_at : (entries cur : List Standing) (hash : List ℕ) (i : ℕ) (d : Standing) → i < length entries → cur ≡ left_at entries hash (i + 1) → get_or cur i d ≡ get_or entries i d
entry_at entries cur hash i d lt h =
    ap (λ es. get_or es i d) (h ∙ left_at-next entries hash i d lt)
    ∙ get_or_at (take i entries) (get_or entries i d) (without (drop (i + 1) entries) hash) d i (length-take-le i entries (omega arith))

without-drop : (entries : List Standing) (hash : List ℕ) (i : ℕ) (d : Standing) (b : Bool) → i < length entries → bytes_eq (get_or entries i d).added.hash hash ≡ b
    → without (drop i entries) hash ≡ cond (not b) (get_or entries i d ∷ without (drop (i + 1) entries) hash) (without (drop (i + 1) entries) hash)
without-drop entries hash i d b lt h =
    ap (λ es. without es hash) (drop_more entries i d lt)
    ∙ ap (λ t. cond (not t) (get_or entries i d ∷ without (drop (i + 1) entries) hash) (without (drop (i + 1) entries) hash)) h

-- an entry that stays
pub left_at-stays : (entries cur : List Standing) (hash : List ℕ) (i : ℕ) (d : Standing) → i < length entries → bytes_eq (get_or entries i d).added.hash hash ≡ false
    → cur ≡ left_at entries hash (i + 1) → cur ≡ left_at entries hash i
left_at-stays entries cur hash i d lt e h =
    h ∙ left_at-next entries hash i d lt ∙ ap (λ back. take i entries ++ back) (sym (without-drop entries hash i d false lt e))

-- an entry that goes
pub left_at-goes : (entries cur next : List Standing) (hash : List ℕ) (i : ℕ) (d : Standing) → i < length entries → bytes_eq (get_or entries i d).added.hash hash ≡ true
    → cur ≡ left_at entries hash (i + 1) → next ≡ take i cur ++ drop (i + 1) cur → next ≡ left_at entries hash i
left_at-goes entries cur next hash i d lt e h is =
    let front = take i entries in
    let back = without (drop (i + 1) entries) hash in
    let x = get_or entries i d in
    let cur_is : cur ≡ front ++ x ∷ back = h ∙ left_at-next entries hash i d lt in
    let long : length front ≡ i = length-take-le i entries (omega arith) in
    let first : take i cur ≡ front = ap (take i) cur_is ∙ take_at front (x ∷ back) i long in
    let last : drop (i + 1) cur ≡ back =
    ap (drop (i + 1)) (cur_is ∙ sym (append_assoc front (x ∷ []) back))
    ∙ drop_at (front ++ x ∷ []) back (i + 1) (length-append front (x ∷ []) ∙ omega (arith, long)) in
    is ∙ ap (λ es. es ++ drop (i + 1) cur) first ∙ ap (λ es. front ++ es) last ∙ ap (λ es. front ++ es) (sym (without-drop entries hash i d true lt e))

-- the bytes that are published no more
pub bytes_gone : (cur next : List Standing) (i : ℕ) (d : Standing) → i < length cur → next ≡ take i cur ++ drop (i + 1) cur
    → prefix_bytes (added_of cur) ≡ cond (is_published_in (added_of next) (prefix_of (get_or cur i d).added)) 0 (length (prefix_of (get_or cur i d).added)) + prefix_bytes (added_of next)
bytes_gone cur next i d lt is =
    let x = (get_or cur i d).added in
    let front = added_of (take i cur) in
    let back = added_of (drop (i + 1) cur) in
    let whole : added_of cur ≡ front ++ x ∷ back = ap added_of (cut cur i d lt) ∙ map-append {B = Added} (λ (l : Standing). l.added) (take i cur) (get_or cur i d ∷ drop (i + 1) cur) in
    let rest : added_of next ≡ front ++ back = ap added_of is ∙ map-append {B = Added} (λ (l : Standing). l.added) (take i cur) (drop (i + 1) cur) in
    ap prefix_bytes whole ∙ prefix_bytes-insert front x back
    ∙ ap (λ es. cond (is_published_in es (prefix_of x)) 0 (length (prefix_of x)) + prefix_bytes es) (sym rest)
  where
    cut : (cur : List Standing) (i : ℕ) (d : Standing) → i < length cur → cur ≡ take i cur ++ get_or cur i d ∷ drop (i + 1) cur
    cut cur i d lt = sym (take-append-drop i cur) ∙ ap (λ back. take i cur ++ back) (drop_more cur i d lt)

-- the same asked of lines
pub published_lines : (lines : List Standing) (prefix : List ℕ) → list_any (λ (line : Standing). bytes_eq (prefix_of line.added) prefix) lines ≡ is_published_in (added_of lines) prefix
published_lines [] prefix = refl
published_lines (line ∷ lines) prefix = ap (λ b. bytes_eq (prefix_of line.added) prefix || b) (published_lines lines prefix)
