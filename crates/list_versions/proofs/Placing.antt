-- The lines that have no end, in the buckets of a list.
use Rattle.std.proofs.Common.{◌≡◌, ℕ, zero, suc, ◌+◌, ◌<◌, Bool, true, false, not, ◌&&◌, cond, List, [], ◌∷◌, ◌++◌, length, take, map, set, refl, sym, ap, ◌∙◌, arith, length-append}
use Rattle.std.specs.Prelude.{◌==◌}
use Rattle.std.specs.List.{filter}
use Rattle.std.specs.Str.{bytes_eq}
use Rattle.std.proofs.lemmas.List.{append-nil, length-map}
use Rattle.std.proofs.lemmas.List.Elements.{filter-append}
use Rattle.sb_model.specs.declared.history.Added.{Added}
use Rattle.list_versions.specs.Buckets.{without, with_line}
use Rattle.list_versions.specs.Ends.{Line, never, placed, ended, lengthened, ended_at, is_of, restored}
use Rattle.list_versions.specs.Live.{Replaces, IsPlaced, KeepsEnds, has_line, lines_in}
use Rattle.list_versions.specs.declared.bucket.Standing.{Standing}
use Rattle.list_versions.specs.declared.live.Live.{Live}
use Rattle.list_versions.proofs.Ended.{not_never, restored_ended, restored_longer, length-ended}
use Rattle.list_versions.proofs.Filtering.{filters_commute, others_left, passes_both}
use Rattle.list_versions.proofs.Finding.{same_bytes, bytes_are_same}

placed_step : (version place : ℕ) (hash : List ℕ) (line : Line) (xs ys : List Line) (a b : Bool) → (version == never) ≡ false → (line.1 == never) ≡ a → bytes_eq line.0.hash hash ≡ b
    → placed (place + 1) xs ≡ without (placed (place + 1) ys) hash → placed place (cond (a && b) (line.0, version) line ∷ xs) ≡ without (placed place (line ∷ ys)) hash
placed_step version place hash line xs ys true true ne e f more = rw (ne, e, f) more
placed_step version place hash line xs ys true false ne e f more = let first : Standing = record { added = line.0; place = place } in rw (e, f) (ap (λ (ls : List Standing). first ∷ ls) more)
placed_step version place hash line xs ys false b ne e f more = rw e more

pub placed_ended : (version place : ℕ) (lines : List Line) (hash : List ℕ) → version < never → placed place (ended version lines hash) ≡ without (placed place lines) hash
placed_ended version place [] hash small = refl
placed_ended version place (line ∷ lines) hash small =
    placed_step version place hash line (ended version lines hash) lines (line.1 == never) (bytes_eq line.0.hash hash) (not_never version small) refl refl
    (placed_ended version (place + 1) lines hash small)

push_step : (place : ℕ) (line : Line) (lines : List Line) (added : Added) (at : ℕ) (b : Bool) → (line.1 == never) ≡ b
    → placed (place + 1) (lines ++ (added, never) ∷ []) ≡ placed (place + 1) lines ++ record { added = added; place = at } ∷ []
    → placed place (line ∷ lines ++ (added, never) ∷ []) ≡ placed place (line ∷ lines) ++ record { added = added; place = at } ∷ []
push_step place line lines added at true e more = let first : Standing = record { added = line.0; place = place } in rw e (ap (λ (ls : List Standing). first ∷ ls) more)
push_step place line lines added at false e more = rw e more

placed_push : (place : ℕ) (lines : List Line) (added : Added) (at : ℕ) → at ≡ place + length lines → placed place (lines ++ (added, never) ∷ []) ≡ placed place lines ++ record { added = added; place = at } ∷ []
placed_push place [] added at e = let is : place ≡ at = omega (arith, e) in ap (λ (n : ℕ). record { added = added; place = n } ∷ []) is
placed_push place (line ∷ lines) added at e = push_step place line lines added at (line.1 == never) refl (placed_push (place + 1) lines added at (omega (arith, e)))

pub placed_lengthened : (version : ℕ) (lines : List Line) (line : Standing) → version < never → line.place ≡ length lines
    → placed 0 (lengthened version lines line.added) ≡ with_line (placed 0 lines) line
placed_lengthened version lines line small e =
    placed_push 0 (ended version lines line.added.hash) line.added line.place (omega (arith, e, length-ended version lines line.added.hash))
    ∙ ap (λ (ls : List Standing). ls ++ line ∷ []) (placed_ended version 0 lines line.added.hash small)

-- ---- the ends of the lines of a hash

set_here : (front : List ℕ) (x v : ℕ) (back : List ℕ) (n : ℕ) → length front ≡ n → set (front ++ x ∷ back) n v ≡ (front ++ v ∷ []) ++ back
set_here [] x v back zero e = refl
set_here [] x v back (suc n) e = absurd (omega arith)
set_here (y ∷ front) x v back zero e = absurd (omega arith)
set_here (y ∷ front) x v back (suc n) e = ap (λ zs. y ∷ zs) (set_here front x v back n (omega (arith, e)))

move : (front : List ℕ) (x : ℕ) (back : List ℕ) → (front ++ x ∷ []) ++ back ≡ front ++ x ∷ back
move [] x back = refl
move (y ∷ front) x back = ap (λ zs. y ∷ zs) (move front x back)

ends_step : (version : ℕ) (hash front : List ℕ) (place : ℕ) (line : Line) (lines : List Line) (a b : Bool) → length front ≡ place → (line.1 == never) ≡ a → bytes_eq line.0.hash hash ≡ b
    → ((next : List ℕ) → length next ≡ place + 1 → ended_at version (next ++ map (λ (l : Line). l.1) lines) (filter (is_of hash) (placed (place + 1) lines)) ≡ next ++ map (λ (l : Line). l.1) (ended version lines hash))
    → ended_at version (front ++ line.1 ∷ map (λ (l : Line). l.1) lines) (filter (is_of hash) (placed place (line ∷ lines)))
    ≡ front ++ (cond (a && b) (line.0, version) line).1 ∷ map (λ (l : Line). l.1) (ended version lines hash)
ends_step version hash front place line lines true true long e f more =
    let rest = filter (is_of hash) (placed (place + 1) lines) in
    let next : length (front ++ version ∷ []) ≡ place + 1 = omega (arith, long, length-append front (version ∷ [])) in
    rw (e, f) (ap (λ (es : List ℕ). ended_at version es rest) (set_here front line.1 version (map (λ (l : Line). l.1) lines) place long)
    ∙ more (front ++ version ∷ []) next ∙ move front version (map (λ (l : Line). l.1) (ended version lines hash)))
ends_step version hash front place line lines true false long e f more =
    let rest = filter (is_of hash) (placed (place + 1) lines) in
    let next : length (front ++ line.1 ∷ []) ≡ place + 1 = omega (arith, long, length-append front (line.1 ∷ [])) in
    rw (e, f) (ap (λ (es : List ℕ). ended_at version es rest) (sym (move front line.1 (map (λ (l : Line). l.1) lines)))
    ∙ more (front ++ line.1 ∷ []) next ∙ move front line.1 (map (λ (l : Line). l.1) (ended version lines hash)))
ends_step version hash front place line lines false b long e f more =
    let rest = filter (is_of hash) (placed (place + 1) lines) in
    let next : length (front ++ line.1 ∷ []) ≡ place + 1 = omega (arith, long, length-append front (line.1 ∷ [])) in
    rw e (ap (λ (es : List ℕ). ended_at version es rest) (sym (move front line.1 (map (λ (l : Line). l.1) lines)))
    ∙ more (front ++ line.1 ∷ []) next ∙ move front line.1 (map (λ (l : Line). l.1) (ended version lines hash)))

ends_ended : (version : ℕ) (hash front : List ℕ) (place : ℕ) (lines : List Line) → length front ≡ place
    → ended_at version (front ++ map (λ (l : Line). l.1) lines) (filter (is_of hash) (placed place lines)) ≡ front ++ map (λ (l : Line). l.1) (ended version lines hash)
ends_ended version hash front place [] long = refl
ends_ended version hash front place (line ∷ lines) long =
    ends_step version hash front place line lines (line.1 == never) (bytes_eq line.0.hash hash) long refl refl (λ next e. ends_ended version hash next (place + 1) lines e)

own_head : (hash head : List ℕ) (line : Standing) → head ≡ take 4 hash → is_of hash line ≡ true → has_line head line ≡ true
own_head hash head line e h = ap (λ (own : List ℕ). bytes_eq (take 4 own) head) (same_bytes line.added.hash hash h) ∙ ap (λ (own : List ℕ). bytes_eq own head) (sym e) ∙ bytes_are_same head

-- the ends, once the line of a hash has ended
pub ends_of : (live : Live) (lines : List Line) (version : ℕ) (hash head ends : List ℕ) → head ≡ take 4 hash → IsPlaced live lines
    → ends ≡ ended_at version live.ends.items (filter (is_of hash) (lines_in live.buckets.entries head)) → ends ≡ map (λ (l : Line). l.1) (ended version lines hash)
ends_of live lines version hash head ends e placed_in is =
    is ∙ ap (λ (ls : List Standing). ended_at version live.ends.items (filter (is_of hash) ls)) (placed_in.places head)
    ∙ ap (λ (ls : List Standing). ended_at version live.ends.items ls) (passes_both (has_line head) (is_of hash) (λ line h. own_head hash head line e h) (placed 0 lines))
    ∙ ap (λ (es : List ℕ). ended_at version es (filter (is_of hash) (placed 0 lines))) placed_in.ends
    ∙ ends_ended version hash [] 0 lines refl

-- ---- buckets

bucket_is : (b : Bool) (next before after bucket : List Standing) → bucket ≡ cond b next before → (b ≡ true → next ≡ after) → (b ≡ false → before ≡ after) → bucket ≡ after
bucket_is true next before after bucket h here there = h ∙ here refl
bucket_is false next before after bucket h here there = h ∙ there refl

no_head : (head hash other : List ℕ) (line : Standing) → head ≡ take 4 hash → bytes_eq head other ≡ false → is_of hash line ≡ true → has_line other line ≡ false
no_head head hash other line e ne h =
    ap (λ (own : List ℕ). bytes_eq (take 4 own) other) (same_bytes line.added.hash hash h) ∙ ap (λ (own : List ℕ). bytes_eq own other) (sym e) ∙ ne

-- a line that goes
pub places_without : (before after : Live) (lines : List Line) (version : ℕ) (hash head : List ℕ) → head ≡ take 4 hash → version < never
    → ((other : List ℕ) → lines_in before.buckets.entries other ≡ filter (has_line other) (placed 0 lines))
    → Replaces before after head (without (lines_in before.buckets.entries head) hash)
    → (other : List ℕ) → lines_in after.buckets.entries other ≡ filter (has_line other) (placed 0 (ended version lines hash))
places_without before after lines version hash head e small places replaces other =
    let gone : filter (has_line other) (without (placed 0 lines) hash) ≡ filter (has_line other) (placed 0 (ended version lines hash)) =
    ap (filter (has_line other)) (sym (placed_ended version 0 lines hash small)) in
    bucket_is (bytes_eq head other) (without (lines_in before.buckets.entries head) hash) (lines_in before.buckets.entries other) _ (lines_in after.buckets.entries other) (replaces.buckets other)
    (λ same. ap (λ (ls : List Standing). without ls hash) (places head ∙ ap (λ (h : List ℕ). filter (has_line h) (placed 0 lines)) (same_bytes head other same))
    ∙ sym (filters_commute (has_line other) (λ (line : Standing). not (is_of hash line)) (placed 0 lines)) ∙ gone)
    (λ ne. places other ∙ sym (others_left (has_line other) (is_of hash) (λ line h. no_head head hash other line e ne h) (placed 0 lines)) ∙ gone)

one_line : (p : Standing → Bool) (line : Standing) (b : Bool) → p line ≡ b → filter p (line ∷ []) ≡ cond b (line ∷ []) []
one_line p line true h = rw h refl
one_line p line false h = rw h refl

filter_with : (other : List ℕ) (line : Standing) (lines : List Standing) (b : Bool) → has_line other line ≡ b
    → filter (has_line other) (with_line lines line) ≡ filter (has_line other) (without lines line.added.hash) ++ cond b (line ∷ []) []
filter_with other line lines b h =
    filter-append (has_line other) (without lines line.added.hash) (line ∷ []) ∙ ap (λ (ls : List Standing). filter (has_line other) (without lines line.added.hash) ++ ls) (one_line (has_line other) line b h)

-- a line that comes
pub places_with : (before after : Live) (lines : List Line) (version : ℕ) (line : Standing) (head : List ℕ) → head ≡ take 4 line.added.hash → version < never → line.place ≡ length lines
    → ((other : List ℕ) → lines_in before.buckets.entries other ≡ filter (has_line other) (placed 0 lines))
    → Replaces before after head (with_line (lines_in before.buckets.entries head) line)
    → (other : List ℕ) → lines_in after.buckets.entries other ≡ filter (has_line other) (placed 0 (lengthened version lines line.added))
places_with before after lines version line head e small at places replaces other =
    let hash = line.added.hash in
    let come : filter (has_line other) (with_line (placed 0 lines) line) ≡ filter (has_line other) (placed 0 (lengthened version lines line.added)) =
    ap (filter (has_line other)) (sym (placed_lengthened version lines line small at)) in
    let own : has_line other line ≡ bytes_eq head other = ap (λ (h : List ℕ). bytes_eq h other) (sym e) in
    bucket_is (bytes_eq head other) (with_line (lines_in before.buckets.entries head) line) (lines_in before.buckets.entries other) _ (lines_in after.buckets.entries other) (replaces.buckets other)
    (λ same. ap (λ (ls : List Standing). with_line ls line) (places head ∙ ap (λ (h : List ℕ). filter (has_line h) (placed 0 lines)) (same_bytes head other same))
    ∙ ap (λ (ls : List Standing). ls ++ line ∷ []) (sym (filters_commute (has_line other) (λ (l : Standing). not (is_of hash l)) (placed 0 lines)))
    ∙ sym (filter_with other line (placed 0 lines) true (own ∙ same)) ∙ come)
    (λ ne. places other ∙ sym (others_left (has_line other) (is_of hash) (λ l h. no_head head hash other l e ne h) (placed 0 lines))
    ∙ sym (append-nil (filter (has_line other) (without (placed 0 lines) hash))) ∙ sym (filter_with other line (placed 0 lines) false (own ∙ ne)) ∙ come)

-- ---- what stays of the ends where a line comes

pub keeps_added : (before after : Live) (version : ℕ) (hash head : List ℕ) (ends : List ℕ) → head ≡ take 4 hash → version < never
    → ends ≡ ended_at version before.ends.items (filter (is_of hash) (lines_in before.buckets.entries head))
    → (more : List ℕ) → after.ends.items ≡ ends ++ more → KeepsEnds version 1 before after
keeps_added before after version hash head ends e small is more long lines placed_in few earlier count lt within =
    let now = ends_of before lines version hash head ends e placed_in is in
    ap (restored earlier count) (long ∙ ap (λ (es : List ℕ). es ++ more) now)
    ∙ restored_longer earlier count (map (λ (l : Line). l.1) (ended version lines hash)) more
    (omega (arith, within, length-map {B = ℕ} (ended version lines hash) (λ (l : Line). l.1), length-ended version lines hash))
    ∙ restored_ended earlier version count lines hash lt small ∙ ap (restored earlier count) (sym placed_in.ends)
