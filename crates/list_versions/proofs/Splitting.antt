-- Full hashes that begin with four bytes, and the others.
use Rattle.std.proofs.Common.{◌≡◌, ℕ, ◌+◌, ◌≤◌, List, [], ◌∷◌, ◌++◌, Bool, true, false, not, ◌||◌, cond, length, take, refl, sym, ap, ◌∙◌, arith}
use Rattle.std.specs.List.{filter}
use Rattle.std.specs.Str.{bytes_eq}
use Rattle.std.specs.Prelude.{All}
use Rattle.std.proofs.lemmas.List.{take-take, append-nil}
use Rattle.std.proofs.lemmas.List.Elements.{filter-append, All-head, All-tail}
use Rattle.std.proofs.lemmas.List.Filters.{length-filter_both}
use Rattle.sb_model.specs.declared.history.Added.{Added}
use Rattle.sb_model.specs.History.{prefix_of, without_hash, with_added}
use Rattle.list_versions.specs.Limits.{prefix_bytes, has_head}
use Rattle.list_versions.specs.Live.{IsPublishable}
use Rattle.list_versions.proofs.Finding.{same_bytes}
use Rattle.list_versions.proofs.PrefixBytes.{is_published_in, prefix_bytes-cons}

-- ---- filters

commuted_at : (p : Added → Bool) (b c : Bool) (x : Added) (xs : List Added) (q : Added → Bool) → p x ≡ b → q x ≡ c → filter p (filter q xs) ≡ filter q (filter p xs)
    → filter p (cond c (x ∷ filter q xs) (filter q xs)) ≡ filter q (cond b (x ∷ filter p xs) (filter p xs))
commuted_at p true true x xs q e f more = rw (e, f) (ap (λ ys. x ∷ ys) more)
commuted_at p true false x xs q e f more = rw f more
commuted_at p false true x xs q e f more = rw e more
commuted_at p false false x xs q e f more = more

pub filters_commute : (p q : Added → Bool) (xs : List Added) → filter p (filter q xs) ≡ filter q (filter p xs)
filters_commute p q [] = refl
filters_commute p q (x ∷ xs) = commuted_at p (p x) (q x) x xs q refl refl (filters_commute p q xs)

dropped_at : (p : Added → Bool) (x : Added) (before after : List Added) (b c : Bool) → p x ≡ c → (b ≡ true → c ≡ false) → filter p after ≡ filter p before
    → filter p (cond (not b) (x ∷ after) after) ≡ cond c (x ∷ filter p before) (filter p before)
dropped_at p x before after true true e h more = let no = h refl in absurd (cc)
dropped_at p x before after true false e h more = more
dropped_at p x before after false true e h more = rw e (ap (λ ys. x ∷ ys) more)
dropped_at p x before after false false e h more = rw e more

-- a hash is taken out of what does not pass
pub others_stay : (p : Added → Bool) (hash : List ℕ) → ((entry : Added) → bytes_eq entry.hash hash ≡ true → p entry ≡ false) → (entries : List Added) → filter p (without_hash entries hash) ≡ filter p entries
others_stay p hash h [] = refl
others_stay p hash h (x ∷ xs) = dropped_at p x xs (without_hash xs hash) (bytes_eq x.hash hash) (p x) refl (h x) (others_stay p hash h xs)

false_not : (b : Bool) → b ≡ true → not b ≡ false
false_not true h = refl
false_not false h = absurd (cc)

pub without-other : (head hash : List ℕ) (entries : List Added) → bytes_eq (take 4 hash) head ≡ false → filter (has_head head) (without_hash entries hash) ≡ filter (has_head head) entries
without-other head hash entries h =
    others_stay (has_head head) hash (λ entry e. ap (λ (own : List ℕ). bytes_eq (take 4 own) head) (same_bytes entry.hash hash e) ∙ h) entries

pub without-same : (head hash : List ℕ) (entries : List Added) → filter (has_head head) (without_hash entries hash) ≡ without_hash (filter (has_head head) entries) hash
without-same head hash entries = filters_commute (has_head head) (λ entry. not (bytes_eq entry.hash hash)) entries

-- those that do not begin with these bytes
abbrev pub lacks_head : List ℕ → Added → Bool
lacks_head head entry = not (has_head head entry)

pub without-lacking : (head hash : List ℕ) (entries : List Added) → bytes_eq (take 4 hash) head ≡ true → filter (lacks_head head) (without_hash entries hash) ≡ filter (lacks_head head) entries
without-lacking head hash entries h =
    others_stay (lacks_head head) hash (λ entry e. false_not _ (ap (λ (own : List ℕ). bytes_eq (take 4 own) head) (same_bytes entry.hash hash e) ∙ h)) entries

one_kept : (p : Added → Bool) (added : Added) (b : Bool) → p added ≡ b → filter p (added ∷ []) ≡ cond b (added ∷ []) []
one_kept p added true h = rw h refl
one_kept p added false h = rw h refl

pub with-other : (head : List ℕ) (added : Added) (entries : List Added) → bytes_eq (take 4 added.hash) head ≡ false → filter (has_head head) (with_added entries added) ≡ filter (has_head head) entries
with-other head added entries h =
    filter-append (has_head head) (without_hash entries added.hash) (added ∷ [])
    ∙ ap (λ ys. filter (has_head head) (without_hash entries added.hash) ++ ys) (one_kept (has_head head) added false h)
    ∙ append-nil _ ∙ without-other head added.hash entries h

pub with-same : (head : List ℕ) (added : Added) (entries : List Added) → bytes_eq (take 4 added.hash) head ≡ true → filter (has_head head) (with_added entries added) ≡ with_added (filter (has_head head) entries) added
with-same head added entries h =
    filter-append (has_head head) (without_hash entries added.hash) (added ∷ [])
    ∙ ap (λ ys. filter (has_head head) (without_hash entries added.hash) ++ ys) (one_kept (has_head head) added true h)
    ∙ ap (λ ys. ys ++ added ∷ []) (without-same head added.hash entries)

pub with-lacking : (head : List ℕ) (added : Added) (entries : List Added) → bytes_eq (take 4 added.hash) head ≡ true → filter (lacks_head head) (with_added entries added) ≡ filter (lacks_head head) entries
with-lacking head added entries h =
    filter-append (lacks_head head) (without_hash entries added.hash) (added ∷ [])
    ∙ ap (λ ys. filter (lacks_head head) (without_hash entries added.hash) ++ ys) (one_kept (lacks_head head) added false (false_not _ h))
    ∙ append-nil _ ∙ without-lacking head added.hash entries h

-- ---- counts

pub length-split : (head : List ℕ) (entries : List Added) → length (filter (has_head head) entries) + length (filter (lacks_head head) entries) ≡ length entries
length-split head entries = length-filter_both (has_head head) (lacks_head head) (λ _. refl) entries

kept_at : (r : Added → Bool) (prefix : List ℕ) (y : Added) (ys : List Added) (b c : Bool) → bytes_eq (prefix_of y) prefix ≡ b → r y ≡ c → (b ≡ true → c ≡ true)
    → is_published_in (filter r ys) prefix ≡ is_published_in ys prefix
    → is_published_in (cond c (y ∷ filter r ys) (filter r ys)) prefix ≡ (b || is_published_in ys prefix)
kept_at r prefix y ys true true e f h more = rw e refl
kept_at r prefix y ys true false e f h more = let no = h refl in absurd (cc)
kept_at r prefix y ys false true e f h more = rw e more
kept_at r prefix y ys false false e f h more = more

-- what publishes the same bytes is kept by a filter that goes by them
published_kept : (r : Added → Bool) (prefix : List ℕ) (entries : List Added) → All IsPublishable entries → ((entry : Added) → 4 ≤ entry.size → bytes_eq (prefix_of entry) prefix ≡ true → r entry ≡ true)
    → is_published_in (filter r entries) prefix ≡ is_published_in entries prefix
published_kept r prefix [] a h = refl
published_kept r prefix (y ∷ ys) a h =
    kept_at r prefix y ys (bytes_eq (prefix_of y) prefix) (r y) refl refl (h y (All-head IsPublishable y ys a).low) (published_kept r prefix ys (All-tail IsPublishable y ys a) h)

same_four : (x y : Added) → 4 ≤ x.size → 4 ≤ y.size → bytes_eq (prefix_of y) (prefix_of x) ≡ true → take 4 y.hash ≡ take 4 x.hash
same_four x y h k e = sym (take-take 4 y.size y.hash k) ∙ ap (λ p. take 4 p) (same_bytes _ _ e) ∙ take-take 4 x.size x.hash h

split_at : (head : List ℕ) (x : Added) (xs : List Added) (b : Bool) → has_head head x ≡ b → 4 ≤ x.size → All IsPublishable xs
    → prefix_bytes (filter (has_head head) xs) + prefix_bytes (filter (lacks_head head) xs) ≡ prefix_bytes xs
    → prefix_bytes (cond b (x ∷ filter (has_head head) xs) (filter (has_head head) xs)) + prefix_bytes (cond (not b) (x ∷ filter (lacks_head head) xs) (filter (lacks_head head) xs)) ≡ prefix_bytes (x ∷ xs)
split_at head x xs true e h a more =
    let kept = published_kept (has_head head) (prefix_of x) xs a (λ y k s. ap (λ f. bytes_eq f head) (same_four x y h k s) ∙ e) in
    let front = rw kept at (prefix_bytes-cons x (filter (has_head head) xs)) in
    omega (arith, front, prefix_bytes-cons x xs, more)
split_at head x xs false e h a more =
    let kept = published_kept (lacks_head head) (prefix_of x) xs a (λ y k s. ap (λ f. not (bytes_eq f head)) (same_four x y h k s) ∙ ap not e) in
    let front = rw kept at (prefix_bytes-cons x (filter (lacks_head head) xs)) in
    omega (arith, front, prefix_bytes-cons x xs, more)

pub prefix_bytes-split : (head : List ℕ) (entries : List Added) → All IsPublishable entries → prefix_bytes (filter (has_head head) entries) + prefix_bytes (filter (lacks_head head) entries) ≡ prefix_bytes entries
prefix_bytes-split head [] a = refl
prefix_bytes-split head (x ∷ xs) a = split_at head x xs (has_head head x) refl (All-head IsPublishable x xs a).low (All-tail IsPublishable x xs a) (prefix_bytes-split head xs (All-tail IsPublishable x xs a))
