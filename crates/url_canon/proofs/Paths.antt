-- The components of a path: none has a slash, and a canonical path stays.
use Rattle.std.proofs.Common.{◌≢◌, ◌/◌, ◌%◌, eqb, subst, codes, ⊎_elim, ◌≡◌, ℕ, zero, suc, ◌-◌, ◌<◌, List, [], ◌∷◌, ◌++◌, Bool, true, false, ◌||◌, cond, length, take, drop, map, refl, sym, ap, ◌∙◌, arith}
use Rattle.std.specs.List.{All, flat_map, list_any, AllByRecursion, slice_split, onto_first, fold}
use Rattle.std.proofs.lemmas.Bool.{eqb-true, false≢true, false_from_ne_true, cases_Bool, or_right, cond_both, cond-true, cond-false, or_from, or_parts}
use Rattle.std.proofs.lemmas.List.{append_assoc, append-nil, length-append}
use Rattle.url_canon.specs.Words.{is_nil, last_part}
use Rattle.url_canon.specs.Path.{is_dot_segment, directories, IsNormalPath, is_slash, is_single_dot, is_double_dot, path_text, components_of, with_component, without_dot_segments, without_empty, path_of}
use Rattle.url_canon.specs.Escaping.{hex_digit, is_unsafe, escape_of, escaped}
use Rattle.url_canon.proofs.Splits.{All_ne-lacking, Lacks, Lacks-slice_split, some-slice_split}
use Rattle.url_canon.proofs.Cuts.{split_none}
use Rattle.url_canon.proofs.Escapes.{any-escaped, any-append, escaped_safe}
use Rattle.std.specs.Str.{bytes_eq}
use Rattle.std.proofs.lemmas.List.Elements.{All-from_recursion}
use Rattle.std.proofs.lemmas.Slice.Eq.{bytes_eq-Decides}

-- a split at the first that passes
pub split_at : {X : Type 0} (p : X → Bool) (xs : List X) (y : X) (ys : List X) → list_any p xs ≡ false → p y ≡ true → slice_split p (xs ++ y ∷ ys) ≡ xs ∷ slice_split p ys
split_at p [] y ys none e = cond-true (p y) ([] ∷ slice_split p ys) (onto_first y (slice_split p ys)) e
split_at p (x ∷ xs) y ys none e =
    let parts = or_parts (p x) (list_any p xs) none in
    cond-false (p x) ([] ∷ slice_split p (xs ++ y ∷ ys)) (onto_first x (slice_split p (xs ++ y ∷ ys))) parts.0 ∙ ap (onto_first x) (split_at p xs y ys parts.1 e)

-- the components of a path text are those that it was made of
pub components_again : (cs : List (List ℕ)) → 0 < length cs → AllByRecursion (Lacks is_slash) cs → components_of (path_text cs) ≡ cs
components_again [] some h = absurd (omega arith)
components_again (c ∷ []) some h = ap (slice_split is_slash) (append-nil c) ∙ split_none is_slash c h.0
components_again (c ∷ d ∷ cs) some h =
    split_at is_slash c 47 (d ++ path_text cs) h.0 refl ∙ ap (λ r. c ∷ r) (components_again (d ∷ cs) (omega arith) h.1)

-- facts that each component of a without_dot_segments path has

module _ (Q : List ℕ → Type 0) where
  each-append : (xs ys : List (List ℕ)) → AllByRecursion Q xs → AllByRecursion Q ys → AllByRecursion Q (xs ++ ys)
  each-append [] ys h k = k
  each-append (x ∷ xs) ys h k = (h.0, each-append xs ys h.1 k)

  each-take : (n : ℕ) (xs : List (List ℕ)) → AllByRecursion Q xs → AllByRecursion Q (take n xs)
  each-take zero xs h = tt
  each-take (suc n) [] h = tt
  each-take (suc n) (x ∷ xs) h = (h.0, each-take n xs h.1)

  each-with_component : (before : List (List ℕ)) (c : List ℕ) → AllByRecursion Q before → ((is_single_dot c || is_double_dot c) ≡ false → Q c) → AllByRecursion Q (with_component before c)
  each-with_component before c h q =
      cond_both (is_single_dot c) before (cond (is_double_dot c) (take (length before - 1) before) (before ++ c ∷ [])) (AllByRecursion Q) (λ _. h)
      (λ not_same. cond_both (is_double_dot c) (take (length before - 1) before) (before ++ c ∷ []) (AllByRecursion Q) (λ _. each-take (length before - 1) before h) (λ not_parent. each-append before (c ∷ []) h (q (or_from (is_single_dot c) (is_double_dot c) not_same not_parent), tt)))

  each-fold : (before cs : List (List ℕ)) → AllByRecursion Q before → AllByRecursion (λ c. (is_single_dot c || is_double_dot c) ≡ false → Q c) cs → AllByRecursion Q (fold with_component before cs)
  each-fold before [] h q = h
  each-fold before (c ∷ cs) h q = each-fold (with_component before c) cs (each-with_component before c h q.0) q.1

  each-without_dot_segments : (cs : List (List ℕ)) → Q [] → AllByRecursion (λ c. (is_single_dot c || is_double_dot c) ≡ false → Q c) cs → AllByRecursion Q (without_dot_segments cs)
  unfolding without_dot_segments
  each-without_dot_segments cs nil q =
      each-append (fold with_component [] cs) (cond (is_single_dot (last_part cs) || is_double_dot (last_part cs)) ([] ∷ []) []) (each-fold [] cs tt q)
      (cond_both (is_single_dot (last_part cs) || is_double_dot (last_part cs)) ([] ∷ []) [] (AllByRecursion Q) (λ _. (nil, tt)) (λ _. tt))

  each-without_empty : (cs : List (List ℕ)) → AllByRecursion Q cs → AllByRecursion Q (without_empty cs)
  each-without_empty [] h = tt
  each-without_empty (c ∷ []) h = h
  each-without_empty (c ∷ d ∷ cs) h =
      cond_both (is_nil c) (without_empty (d ∷ cs)) (c ∷ without_empty (d ∷ cs)) (AllByRecursion Q) (λ _. each-without_empty (d ∷ cs) h.1) (λ _. (h.0, each-without_empty (d ∷ cs) h.1))

each-weaker : (P Q : List ℕ → Type 0) (cs : List (List ℕ)) → ((c : List ℕ) → P c → Q c) → AllByRecursion P cs → AllByRecursion Q cs
each-weaker P Q [] f h = tt
each-weaker P Q (c ∷ cs) f h = (f c h.0, each-weaker P Q cs f h.1)

each-map : (P : List ℕ → Type 0) (f : List ℕ → List ℕ) (cs : List (List ℕ)) → AllByRecursion (λ c. P (f c)) cs → AllByRecursion P (map f cs)
each-map P f [] h = tt
each-map P f (c ∷ cs) h = (h.0, each-map P f cs h.1)

-- what holds of each part of the path, and of the empty one, holds of each component
pub each-path_of : (Q : List ℕ → Type 0) (path : List ℕ) → Q [] → AllByRecursion Q (components_of path) → AllByRecursion Q (path_of path)
unfolding path_of
each-path_of Q path nil h =
    each-without_empty Q (without_dot_segments (components_of path)) (each-without_dot_segments Q (components_of path) nil (each-weaker Q (λ c. (is_single_dot c || is_double_dot c) ≡ false → Q c) (components_of path) (λ c q _. q) h))

-- no component is `.` or `..`
abbrev pub IsName : List ℕ → Type 0
IsName c = (is_single_dot c || is_double_dot c) ≡ false

always : (cs : List (List ℕ)) → AllByRecursion (λ c. IsName c → IsName c) cs
always [] = tt
always (c ∷ cs) = ((λ h. h), always cs)

pub names-path_of : (path : List ℕ) → AllByRecursion IsName (path_of path)
unfolding path_of
names-path_of path =
    each-without_empty IsName (without_dot_segments (components_of path)) (each-without_dot_segments IsName (components_of path) refl (always (components_of path)))

-- there is a component at least

some-push : (before : List (List ℕ)) (c : List ℕ) → IsName c → 0 < length (with_component before c)
some-push before c e =
    let parts = or_parts (is_single_dot c) (is_double_dot c) e in
    let pushed : with_component before c ≡ before ++ c ∷ [] = cond-false (is_single_dot c) before (cond (is_double_dot c) (take (length before - 1) before) (before ++ c ∷ [])) parts.0 ∙ cond-false (is_double_dot c) (take (length before - 1) before) (before ++ c ∷ []) parts.1 in
    omega (arith, ap length pushed, length-append before (c ∷ []))

some-fold : (before : List (List ℕ)) (c : List ℕ) (cs : List (List ℕ)) → IsName (last_part (c ∷ cs)) → 0 < length (fold with_component before (c ∷ cs))
some-fold before c [] e = some-push before c e
some-fold before c (d ∷ cs) e = some-fold (with_component before c) d cs e

some-without_dot_segments : (c : List ℕ) (cs : List (List ℕ)) → 0 < length (without_dot_segments (c ∷ cs))
unfolding without_dot_segments
some-without_dot_segments c cs =
    let last = last_part (c ∷ cs) in
    let kept = fold with_component [] (c ∷ cs) in
    cond_both (is_single_dot last || is_double_dot last) ([] ∷ []) [] (λ end. 0 < length (kept ++ end)) (λ _. omega (arith, length-append kept ([] ∷ []))) (λ e. let some = some-fold [] c cs e in omega (arith, length-append kept []))

some-without_empty : (cs : List (List ℕ)) → 0 < length cs → 0 < length (without_empty cs)
some-without_empty [] some = some
some-without_empty (c ∷ []) some = some
some-without_empty (c ∷ d ∷ cs) some =
    cond_both (is_nil c) (without_empty (d ∷ cs)) (c ∷ without_empty (d ∷ cs)) (λ r. 0 < length r) (λ _. some-without_empty (d ∷ cs) (omega arith)) (λ _. omega arith)

some_from : (parts : List (List ℕ)) → 0 < length parts → 0 < length (without_dot_segments parts)
some_from [] some = absurd (omega arith)
some_from (c ∷ cs) some = some-without_dot_segments c cs

pub some-path_of : (path : List ℕ) → 0 < length (path_of path)
unfolding path_of
some-path_of path = some-without_empty (without_dot_segments (components_of path)) (some_from (components_of path) (some-slice_split is_slash (drop 1 path)))

-- a canonical path stays

same-fold : (before cs : List (List ℕ)) → AllByRecursion IsName cs → fold with_component before cs ≡ before ++ cs
same-fold before [] h = sym (append-nil before)
same-fold before (c ∷ cs) h =
    let parts = or_parts (is_single_dot c) (is_double_dot c) h.0 in
    let pushed : with_component before c ≡ before ++ c ∷ [] = cond-false (is_single_dot c) before (cond (is_double_dot c) (take (length before - 1) before) (before ++ c ∷ [])) parts.0 ∙ cond-false (is_double_dot c) (take (length before - 1) before) (before ++ c ∷ []) parts.1 in
    ap (λ b. fold with_component b cs) pushed ∙ (same-fold (before ++ c ∷ []) cs h.1 ∙ append_assoc before (c ∷ []) cs)

name-last : (cs : List (List ℕ)) → AllByRecursion IsName cs → IsName (last_part cs)
name-last [] h = refl
name-last (c ∷ []) h = h.0
name-last (c ∷ d ∷ cs) h = name-last (d ∷ cs) h.1

same-without_dot_segments : (cs : List (List ℕ)) → AllByRecursion IsName cs → without_dot_segments cs ≡ cs
unfolding without_dot_segments
same-without_dot_segments cs h =
    ap (λ end. fold with_component [] cs ++ end) (cond-false (is_single_dot (last_part cs) || is_double_dot (last_part cs)) ([] ∷ []) [] (name-last cs h)) ∙ (append-nil (fold with_component [] cs) ∙ same-fold [] cs h)

without_empty-front : (c : List ℕ) (cs : List (List ℕ)) → is_nil c ≡ false → 0 < length cs → without_empty (c ∷ cs) ≡ c ∷ without_empty cs
without_empty-front c [] e some = absurd (omega arith)
without_empty-front c (d ∷ cs) e some = cond-false (is_nil c) (without_empty (d ∷ cs)) (c ∷ without_empty (d ∷ cs)) e

same-without_empty : (cs : List (List ℕ)) → without_empty (without_empty cs) ≡ without_empty cs
same-without_empty [] = refl
same-without_empty (c ∷ []) = refl
same-without_empty (c ∷ d ∷ cs) =
    cond_both (is_nil c) (without_empty (d ∷ cs)) (c ∷ without_empty (d ∷ cs)) (λ r. without_empty r ≡ r) (λ _. same-without_empty (d ∷ cs))
    (λ e. without_empty-front c (without_empty (d ∷ cs)) e (some-without_empty (d ∷ cs) (omega arith)) ∙ ap (λ r. c ∷ r) (same-without_empty (d ∷ cs)))

pub slashless : (path : List ℕ) → AllByRecursion (Lacks is_slash) (path_of path)
slashless path = each-path_of (Lacks is_slash) path refl (Lacks-slice_split is_slash (drop 1 path))

pub path_of-again : (path : List ℕ) → path_of (path_text (path_of path)) ≡ path_of path
unfolding path_of
path_of-again path =
    let kept = path_of path in
    ap (λ cs. without_empty (without_dot_segments cs)) (components_again kept (some-path_of path) (slashless path))
    ∙ (ap without_empty (same-without_dot_segments kept (names-path_of path)) ∙ same-without_empty (without_dot_segments (components_of path)))

-- the same of the components escaped

some-map : (f : List ℕ → List ℕ) (cs : List (List ℕ)) → 0 < length cs → 0 < length (map f cs)
some-map f [] some = some
some-map f (c ∷ cs) some = omega arith

slashless-escaped : (path : List ℕ) → AllByRecursion (Lacks is_slash) (map escaped (path_of path))
slashless-escaped path =
    each-map (Lacks is_slash) escaped (path_of path) (each-weaker (Lacks is_slash) (λ c. Lacks is_slash (escaped c)) (path_of path) (λ c h. any-escaped 47 c (record { safe = refl; below = omega arith; apart = λ e. omega arith }) ∙ h) (slashless path))

pub components_of-escaped : (path : List ℕ) → components_of (path_text (map escaped (path_of path))) ≡ map escaped (path_of path)
components_of-escaped path =
    components_again (map escaped (path_of path)) (some-map escaped (path_of path) (some-path_of path)) (slashless-escaped path)

-- what a canonical path is

is_percent : ℕ → Bool
is_percent byte = eqb byte 37

percent-escaped : (c : List ℕ) → list_any is_unsafe c ≡ true → list_any is_percent (escaped c) ≡ true
unfolding escaped is_percent
percent-escaped [] e = absurd (false≢true e)
percent-escaped (b ∷ bs) e =
    any-append is_percent (escape_of b) (flat_map escape_of bs)
    ∙ cond_both (is_unsafe b) (37 ∷ hex_digit (b / 16) ∷ hex_digit (b % 16) ∷ []) (b ∷ []) (λ bytes. (list_any is_percent bytes || list_any is_percent (flat_map escape_of bs)) ≡ true)
    (λ _. refl)
    (λ safe. or_right (list_any is_percent (b ∷ [])) (list_any is_percent (flat_map escape_of bs)) (percent-escaped bs (sym (ap (λ t. t || list_any is_unsafe bs) safe) ∙ e)))

not_text : (c text : List ℕ) → list_any is_unsafe c ≡ true → list_any is_percent text ≡ false → bytes_eq (escaped c) text ≡ false
not_text c text unsafe none =
    false_from_ne_true (bytes_eq (escaped c) text) (λ same. false≢true (sym none ∙ (ap (list_any is_percent) (sym ((bytes_eq-Decides (escaped c) text).0 same)) ∙ percent-escaped c unsafe)))

name-escaped : (c : List ℕ) → IsName c → IsName (escaped c)
unfolding is_percent
name-escaped c h =
    ⊎_elim
    (λ unsafe. or_from (is_single_dot (escaped c)) (is_double_dot (escaped c)) (not_text c (codes ".") unsafe refl) (not_text c (codes "..") unsafe refl))
    (λ safe. ap (λ t. is_single_dot t || is_double_dot t) (escaped_safe c safe) ∙ h)
    (cases_Bool (list_any is_unsafe c))

nil-escaped : (c : List ℕ) → is_nil (escaped c) ≡ is_nil c
unfolding escaped
nil-escaped [] = refl
nil-escaped (b ∷ bs) = cond_both (is_unsafe b) (37 ∷ hex_digit (b / 16) ∷ hex_digit (b % 16) ∷ []) (b ∷ []) (λ bytes. is_nil (bytes ++ flat_map escape_of bs) ≡ false) (λ _. refl) (λ _. refl)

abbrev IsSome : List ℕ → Type 0
IsSome c = is_nil c ≡ false

full-front : (c : List ℕ) (cs : List (List ℕ)) → IsSome c → AllByRecursion IsSome (directories cs) → AllByRecursion IsSome (directories (c ∷ cs))
full-front c [] e h = tt
full-front c (d ∷ cs) e h = (e, h)

full-without_empty : (cs : List (List ℕ)) → AllByRecursion IsSome (directories (without_empty cs))
full-without_empty [] = tt
full-without_empty (c ∷ []) = tt
full-without_empty (c ∷ d ∷ cs) =
    cond_both (is_nil c) (without_empty (d ∷ cs)) (c ∷ without_empty (d ∷ cs)) (λ r. AllByRecursion IsSome (directories r)) (λ _. full-without_empty (d ∷ cs)) (λ e. full-front c (without_empty (d ∷ cs)) e (full-without_empty (d ∷ cs)))

full-path_of : (path : List ℕ) → AllByRecursion IsSome (directories (path_of path))
unfolding path_of
full-path_of path = full-without_empty (without_dot_segments (components_of path))

directories-map : (f : List ℕ → List ℕ) (cs : List (List ℕ)) → directories (map f cs) ≡ map f (directories cs)
directories-map f [] = refl
directories-map f (c ∷ []) = refl
directories-map f (c ∷ d ∷ cs) = ap (λ r. f c ∷ r) (directories-map f (d ∷ cs))

some_bytes : (c : List ℕ) → IsSome c → c ≡ [] → ⊥
some_bytes c h e = false≢true (sym h ∙ ap is_nil e)

each_ne : (c : List ℕ) → Lacks is_slash c → All (λ byte. byte ≢ 47) c
each_ne c h = All_ne-lacking 47 c h

normal_from : (cs : List (List ℕ)) → 0 < length cs → AllByRecursion (Lacks is_slash) cs → AllByRecursion IsName cs → AllByRecursion IsSome (directories cs) → IsNormalPath cs
normal_from cs some slash names full = record {
  some = some;
  no_slash = All-from_recursion (λ c. All (λ byte. byte ≢ 47) c) cs (each-weaker (Lacks is_slash) (λ c. All (λ byte. byte ≢ 47) c) cs each_ne slash);
  no_dots = All-from_recursion (λ c. is_dot_segment c ≡ false) cs names;
  no_empty = All-from_recursion (λ c. c ≢ []) (directories cs) (each-weaker IsSome (λ c. c ≢ []) (directories cs) some_bytes full);
}

pub normal-path_of : (path : List ℕ) → IsNormalPath (path_of path)
normal-path_of path = normal_from (path_of path) (some-path_of path) (slashless path) (names-path_of path) (full-path_of path)

pub normal-escaped : (path : List ℕ) → IsNormalPath (map escaped (path_of path))
normal-escaped path =
    let cs = path_of path in
    normal_from (map escaped cs) (some-map escaped cs (some-path_of path)) (slashless-escaped path)
    (each-map IsName escaped cs (each-weaker IsName (λ c. IsName (escaped c)) cs name-escaped (names-path_of path)))
    (subst (AllByRecursion IsSome) (sym (directories-map escaped cs)) (each-map IsSome escaped (directories cs) (each-weaker IsSome (λ c. IsSome (escaped c)) (directories cs) (λ c h. nil-escaped c ∙ h) (full-path_of path))))

-- components that stay as they are

abbrev pub Stays : List (List ℕ) → Type 0
Stays cs = AllByRecursion IsName cs × AllByRecursion IsSome (directories cs)

pub stays_more : (c : List ℕ) (cs : List (List ℕ)) → IsName c → (0 < length cs → is_nil c ≡ false) → Stays cs → Stays (c ∷ cs)
stays_more c [] name full h = ((name, tt), tt)
stays_more c (d ∷ cs) name full h = ((name, h.0), (full (omega arith), h.1))

same-full : (cs : List (List ℕ)) → AllByRecursion IsSome (directories cs) → without_empty cs ≡ cs
same-full [] h = refl
same-full (c ∷ []) h = refl
same-full (c ∷ d ∷ cs) h =
    cond-false (is_nil c) (without_empty (d ∷ cs)) (c ∷ without_empty (d ∷ cs)) h.0 ∙ ap (λ r. c ∷ r) (same-full (d ∷ cs) h.1)

pub same-stays : (cs : List (List ℕ)) → Stays cs → without_empty (without_dot_segments cs) ≡ cs
same-stays cs h = ap without_empty (same-without_dot_segments cs h.0) ∙ same-full cs h.1

-- components, escaped and each after its slash, are the text that they were cut out of, escaped after a slash

onto_text : (x : ℕ) (parts : List (List ℕ)) (text : List ℕ) → 0 < length parts → path_text (map escaped parts) ≡ 47 ∷ escaped text → path_text (map escaped (onto_first x parts)) ≡ 47 ∷ escaped (x ∷ text)
unfolding escaped
onto_text x [] text some e = absurd (omega arith)
onto_text x (c ∷ cs) text some e =
    ap (λ r. 47 ∷ r) (append_assoc (escape_of x) (flat_map escape_of c) (path_text (map escaped cs)) ∙ ap (λ r. escape_of x ++ r) (ap (drop 1) e))

slash_text : (x : ℕ) (text : List ℕ) → is_slash x ≡ true → 47 ∷ 47 ∷ escaped text ≡ 47 ∷ escaped (x ∷ text)
unfolding escaped
slash_text x text e = ap (λ y. 47 ∷ (escape_of y ++ flat_map escape_of text)) (sym (eqb-true x 47 e))

pub split_text : (text : List ℕ) → path_text (map escaped (slice_split is_slash text)) ≡ 47 ∷ escaped text
unfolding escaped
split_text [] = refl
split_text (x ∷ text) =
    cond_both (is_slash x) ([] ∷ slice_split is_slash text) (onto_first x (slice_split is_slash text)) (λ cs. path_text (map escaped cs) ≡ 47 ∷ escaped (x ∷ text))
    (λ e. ap (λ r. 47 ∷ r) (split_text text) ∙ slash_text x text e)
    (λ _. onto_text x (slice_split is_slash text) text (some-slice_split is_slash text) (split_text text))

pub normal_text : (path : List ℕ) → without_empty (without_dot_segments (slice_split is_slash (drop 1 path))) ≡ slice_split is_slash (drop 1 path) → path_text (map escaped (path_of path)) ≡ 47 ∷ escaped (drop 1 path)
unfolding path_of
normal_text path h = ap (λ cs. path_text (map escaped cs)) h ∙ split_text (drop 1 path)
