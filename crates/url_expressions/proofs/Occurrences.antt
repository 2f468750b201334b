-- One more text after a list without repeats.
use Rattle.std.proofs.Common.{◌≡◌, ℕ, List, [], ◌∷◌, ◌++◌, Bool, true, false, not, cond, ◌||◌, refl, sym, ap, ◌∙◌, subst, ◌⊎◌, inl, inr, ⊎_elim}
use Rattle.std.specs.Prelude.{filter}
use Rattle.std.specs.List.{list_any, AllByRecursion, IsDistinct}
use Rattle.std.proofs.lemmas.Bool.{cond_both}
use Rattle.std.specs.Str.{bytes_eq}
use Rattle.std.proofs.lemmas.List.{append-nil}
use Rattle.std.proofs.lemmas.List.Elements.{filter-append}
use Rattle.std.proofs.lemmas.Map.Views.{any-filter_same}
use Rattle.std.proofs.lemmas.Slice.Eq.{bytes_eq-Decides}
use Rattle.url_expressions.specs.Expressions.{first_occurrences}

-- a list with one more at its end, unless it has that already
abbrev pub with_new : List (List ℕ) → List ℕ → List (List ℕ)
with_new xs x = cond (list_any (λ y. bytes_eq y x) xs) xs (xs ++ x ∷ [])

abbrev pub differs : List ℕ → List ℕ → Bool
differs a y = not (bytes_eq y a)

pub equal : (a : List ℕ) → bytes_eq a a ≡ true
equal a = (bytes_eq-Decides a a).1 refl

either : (b : Bool) → (b ≡ true) ⊎ (b ≡ false)
either true = inl refl
either false = inr refl

-- a text that is looked for is gone with those that equal it
without_same : (found : List (List ℕ)) (x : List ℕ) (b : Bool) → filter (differs x) (cond b found (found ++ x ∷ [])) ≡ filter (differs x) found
without_same found x true = refl
without_same found x false =
    filter-append (differs x) found (x ∷ []) ∙ ap (λ b. filter (differs x) found ++ cond (not b) (x ∷ []) []) (equal x) ∙ append-nil (filter (differs x) found)

same : (found : List (List ℕ)) (x : List ℕ) → x ∷ filter (differs x) (with_new found x) ≡ with_new (x ∷ filter (differs x) found) x
same found x =
    let here : with_new (x ∷ filter (differs x) found) x ≡ x ∷ filter (differs x) found = ap (λ b. cond (b || list_any (λ y. bytes_eq y x) (filter (differs x) found)) (x ∷ filter (differs x) found) ((x ∷ filter (differs x) found) ++ x ∷ [])) (equal x) in
    ap (λ xs. x ∷ xs) (without_same found x (list_any (λ y. bytes_eq y x) found)) ∙ sym here

-- another is looked for among the rest
with_other : (found : List (List ℕ)) (a x : List ℕ) (b : Bool) → bytes_eq x a ≡ false → filter (differs a) (cond b found (found ++ x ∷ [])) ≡ cond b (filter (differs a) found) (filter (differs a) found ++ x ∷ [])
with_other found a x true h = refl
with_other found a x false h =
    filter-append (differs a) found (x ∷ []) ∙ ap (λ b. filter (differs a) found ++ cond (not b) (x ∷ []) []) h

apart : (a x : List ℕ) → bytes_eq a x ≡ false → bytes_eq x a ≡ false
apart a x h = ⊎_elim (λ t. absurd (true_false (sym (subst (λ y. bytes_eq a y ≡ true) (sym ((bytes_eq-Decides x a).0 t)) (equal a)) ∙ h))) (λ f. f) (either (bytes_eq x a))
  where
    true_false : true ≡ false → ⊥
    true_false e = cc

kept : (a x : List ℕ) → bytes_eq x a ≡ false → (k : List ℕ) → bytes_eq k x ≡ true → differs a k ≡ true
kept a x h k t = ap not (subst (λ y. bytes_eq y a ≡ false) (sym ((bytes_eq-Decides k x).0 t)) h)

other : (found : List (List ℕ)) (a x : List ℕ) → bytes_eq a x ≡ false → a ∷ filter (differs a) (with_new found x) ≡ with_new (a ∷ filter (differs a) found) x
other found a x h =
    let back = apart a x h in
    let looked : list_any (λ y. bytes_eq y x) (filter (differs a) found) ≡ list_any (λ y. bytes_eq y x) found = any-filter_same (λ y. bytes_eq y x) (differs a) true (kept a x back) found in
    let there : with_new (a ∷ filter (differs a) found) x ≡ cond (list_any (λ y. bytes_eq y x) found) (a ∷ filter (differs a) found) ((a ∷ filter (differs a) found) ++ x ∷ []) = ap (λ b. cond (b || list_any (λ y. bytes_eq y x) (filter (differs a) found)) (a ∷ filter (differs a) found) ((a ∷ filter (differs a) found) ++ x ∷ [])) h ∙ ap (λ b. cond b (a ∷ filter (differs a) found) ((a ∷ filter (differs a) found) ++ x ∷ [])) looked in
    ap (λ xs. a ∷ xs) (with_other found a x (list_any (λ y. bytes_eq y x) found) back) ∙ onto (list_any (λ y. bytes_eq y x) found) ∙ sym there
  where
    onto : (b : Bool) → a ∷ cond b (filter (differs a) found) (filter (differs a) found ++ x ∷ []) ≡ cond b (a ∷ filter (differs a) found) ((a ∷ filter (differs a) found) ++ x ∷ [])
    onto true = refl
    onto false = refl

-- one more text comes last, unless it stands before
pub first_occurrences_push : (xs : List (List ℕ)) (x : List ℕ) → first_occurrences (xs ++ x ∷ []) ≡ with_new (first_occurrences xs) x
unfolding first_occurrences
first_occurrences_push [] x = refl
first_occurrences_push (a ∷ xs) x =
    ap (λ rest. a ∷ filter (differs a) rest) (first_occurrences_push xs x)
    ∙ ⊎_elim (λ t. subst (λ y. y ∷ filter (differs y) (with_new (first_occurrences xs) x) ≡ with_new (y ∷ filter (differs y) (first_occurrences xs)) x) (sym ((bytes_eq-Decides a x).0 t)) (same (first_occurrences xs) x)) (other (first_occurrences xs) a x) (either (bytes_eq a x))

passing : (p : List ℕ → Bool) (P : List ℕ → Type 0) (each : (y : List ℕ) → p y ≡ true → P y) (xs : List (List ℕ)) → AllByRecursion P (filter p xs)
passing p P each [] = tt
passing p P each (x ∷ xs) =
    cond_both (p x) (x ∷ filter p xs) (filter p xs) (AllByRecursion P) (λ t. (each x t, passing p P each xs)) (λ _. passing p P each xs)

filtered : (p : List ℕ → Bool) (P : List ℕ → Type 0) (xs : List (List ℕ)) → AllByRecursion P xs → AllByRecursion P (filter p xs)
filtered p P [] h = tt
filtered p P (x ∷ xs) h =
    cond_both (p x) (x ∷ filter p xs) (filter p xs) (AllByRecursion P) (λ _. (h.0, filtered p P xs h.1)) (λ _. filtered p P xs h.1)

distinct_filtered : (p : List ℕ → Bool) (xs : List (List ℕ)) → IsDistinct bytes_eq xs → IsDistinct bytes_eq (filter p xs)
unfolding IsDistinct
distinct_filtered p [] h = tt
distinct_filtered p (x ∷ xs) h =
    cond_both (p x) (x ∷ filter p xs) (filter p xs) (IsDistinct bytes_eq) (λ _. (filtered p (λ y. bytes_eq x y ≡ false) xs h.0, distinct_filtered p xs h.1)) (λ _. distinct_filtered p xs h.1)

not_true : (b : Bool) → not b ≡ true → b ≡ false
not_true true h = absurd (cc)
not_true false h = refl

-- no text comes twice
pub distinct_occurrences : (xs : List (List ℕ)) → IsDistinct bytes_eq (first_occurrences xs)
unfolding first_occurrences IsDistinct
distinct_occurrences [] = tt
distinct_occurrences (x ∷ xs) =
    (passing (differs x) (λ y. bytes_eq x y ≡ false) (λ y t. apart y x (not_true (bytes_eq y x) t)) (first_occurrences xs), distinct_filtered (differs x) (first_occurrences xs) (distinct_occurrences xs))
