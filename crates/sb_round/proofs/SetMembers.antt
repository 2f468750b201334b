-- What holds of each member of a set of prefixes, and sets whose members all have one size.
use Rattle.std.proofs.Common.{◌≡◌, ℕ, ◌+◌, ◌≤◌, List, [], ◌∷◌, ◌++◌, length, map, Bool, true, false, cond, refl, sym, subst, arith}
use Rattle.std.specs.declared.cmp.Ordering.{Ordering}
use Rattle.std.specs.declared.cmp.Ordering.TheVariants.{Less, Equal, Greater}
use Rattle.std.specs.Ordering.{match_ordering}
use Rattle.std.specs.Prelude.{filter, fold}
use Rattle.std.specs.List.{AllByRecursion, enumerate_from}
use Rattle.std.proofs.lemmas.Map.Lookups.{exact_bytes}
use Rattle.sb_model.specs.Prefixes.{bytes_cmp, with_member, set_of, concatenation}

-- ---- what holds of each item of a list

module _ {X : Type 0} (P : X → Type 0) where
  pub append-all : (xs ys : List X) → AllByRecursion P xs → AllByRecursion P ys → AllByRecursion P (xs ++ ys)
  append-all [] ys all more = more
  append-all (x ∷ xs) ys all more = (all.0, append-all xs ys all.1 more)

  pub all-append_right : (xs ys : List X) → AllByRecursion P (xs ++ ys) → AllByRecursion P ys
  all-append_right [] ys all = all
  all-append_right (x ∷ xs) ys all = all-append_right xs ys all.1

  pub filter-all : (test : X → Bool) (xs : List X) → AllByRecursion P xs → AllByRecursion P (filter test xs)
  filter-all test [] all = tt
  filter-all test (x ∷ xs) all = go (test x) (filter-all test xs all.1)
    where
      go : (b : Bool) → AllByRecursion P (filter test xs) → AllByRecursion P (cond b (x ∷ filter test xs) (filter test xs))
      go true more = (all.0, more)
      go false more = more

  pub map-all : {Y : Type 0} (f : Y → X) (ys : List Y) → AllByRecursion (λ y. P (f y)) ys → AllByRecursion P (map f ys)
  map-all f [] all = tt
  map-all f (y ∷ ys) all = (all.0, map-all f ys all.1)

  pub weaker-all : (R : X → Type 0) → ((x : X) → P x → R x) → (xs : List X) → AllByRecursion P xs → AllByRecursion R xs
  weaker-all R each [] all = tt
  weaker-all R each (x ∷ xs) all = (each x all.0, weaker-all R each xs all.1)

-- what each step of a fold keeps
pub fold-keeps : {A B : Type 0} (I : B → Type 0) (P : A → Type 0) (f : B → A → B) → ((b : B) (a : A) → P a → I b → I (f b a))
    → (b : B) (xs : List A) → I b → AllByRecursion P xs → I (fold f b xs)
fold-keeps I P f step b [] start all = start
fold-keeps I P f step b (x ∷ xs) start all = fold-keeps I P f step (f b x) xs (step b x all.0 start) all.1

pub fold-keeps_always : {A B : Type 0} (I : B → Type 0) (f : B → A → B) → ((b : B) (a : A) → I b → I (f b a))
    → (b : B) (xs : List A) → I b → I (fold f b xs)
fold-keeps_always I f step b [] start = start
fold-keeps_always I f step b (x ∷ xs) start = fold-keeps_always I f step (f b x) xs (step b x start)

-- ---- what holds of each member of a set

module _ (Q : List ℕ → Type 0) where
  with_member-all : (x : List ℕ) (ys : List (List ℕ)) → Q x → AllByRecursion Q ys → AllByRecursion Q (with_member x ys)
  with_member-all x [] here all = (here, tt)
  with_member-all x (y ∷ ys) here all = go (bytes_cmp x y) (with_member-all x ys here all.1)
    where
      go : (o : Ordering) → AllByRecursion Q (with_member x ys) → AllByRecursion Q (match_ordering o (x ∷ y ∷ ys) (y ∷ ys) (y ∷ with_member x ys))
      go Less more = (here, all)
      go Equal more = all
      go Greater more = (all.0, more)

  pub set_of-all : (xs : List (List ℕ)) → AllByRecursion Q xs → AllByRecursion Q (set_of xs)
  set_of-all [] all = tt
  set_of-all (x ∷ xs) all = with_member-all x (set_of xs) all.0 (set_of-all xs all.1)

  all-with_member : (x : List ℕ) (ys : List (List ℕ)) → AllByRecursion Q (with_member x ys) → Q x × AllByRecursion Q ys
  all-with_member x [] all = (all.0, tt)
  all-with_member x (y ∷ ys) all = go (bytes_cmp x y) refl all (all-with_member x ys)
    where
      go : (o : Ordering) → bytes_cmp x y ≡ o → AllByRecursion Q (match_ordering o (x ∷ y ∷ ys) (y ∷ ys) (y ∷ with_member x ys))
          → (AllByRecursion Q (with_member x ys) → Q x × AllByRecursion Q ys) → Q x × AllByRecursion Q (y ∷ ys)
      go Less is all more = (all.0, all.1)
      go Equal is all more = (subst Q (sym (exact_bytes x y is)) all.0, all)
      go Greater is all more = ((more all.1).0, (all.0, (more all.1).1))

  pub all-set_of : (xs : List (List ℕ)) → AllByRecursion Q (set_of xs) → AllByRecursion Q xs
  all-set_of [] all = tt
  all-set_of (x ∷ xs) all = ((all-with_member x (set_of xs) all).0, all-set_of xs (all-with_member x (set_of xs) all).1)

  -- the members at places that pass a test
  pub kept-all : (test : ℕ × List ℕ → Bool) (n : ℕ) (set : List (List ℕ)) → AllByRecursion Q set
      → AllByRecursion Q (map (λ member. member.1) (filter test (enumerate_from n set)))
  kept-all test n [] all = tt
  kept-all test n (x ∷ xs) all = go (test (n, x)) (kept-all test (n + 1) xs all.1)
    where
      go : (b : Bool) → AllByRecursion Q (map (λ (m : ℕ × List ℕ). m.1) (filter test (enumerate_from (n + 1) xs)))
          → AllByRecursion Q (map (λ (m : ℕ × List ℕ). m.1) (cond b ((n, x) ∷ filter test (enumerate_from (n + 1) xs)) (filter test (enumerate_from (n + 1) xs))))
      go true more = (all.0, more)
      go false more = more

-- ---- sets of one size

equal_fronts : (x y s t : List ℕ) → length x ≡ length y → x ++ s ≡ y ++ t → (x ≡ y) × (s ≡ t)
equal_fronts [] [] s t same e = (refl, e)
equal_fronts [] (b ∷ y) s t same e = absurd (omega arith)
equal_fronts (a ∷ x) [] s t same e = absurd (omega arith)
equal_fronts (a ∷ x) (b ∷ y) s t same e =
    let head : a ≡ b = cc in
    let tail : x ++ s ≡ y ++ t = cc in
    let lengths : length x ≡ length y = omega arith in
    let rest = equal_fronts x y s t lengths tail in
    let front : x ≡ y = rest.0 in
    (cc, rest.1)

no_front : (y s : List ℕ) → 1 ≤ length y → [] ≡ y ++ s → ⊥
no_front [] s some e = omega arith
no_front (b ∷ y) s some e = cc

-- Lists of texts of one size, which is not 0, are the same where their concatenations are.
pub same_pieces : (Q : List ℕ → Type 0) → ((p q : List ℕ) → Q p → Q q → length p ≡ length q) → ((p : List ℕ) → Q p → 1 ≤ length p)
    → (a b : List (List ℕ)) → AllByRecursion Q a → AllByRecursion Q b → concatenation a ≡ concatenation b → a ≡ b
same_pieces Q size some [] [] all all' e = refl
same_pieces Q size some [] (y ∷ ys) all all' e = absurd (no_front y (concatenation ys) (some y all'.0) e)
same_pieces Q size some (x ∷ xs) [] all all' e = absurd (no_front x (concatenation xs) (some x all.0) (sym e))
same_pieces Q size some (x ∷ xs) (y ∷ ys) all all' e =
    let parts = equal_fronts x y (concatenation xs) (concatenation ys) (size x y all.0 all'.0) e in
    let head : x ≡ y = parts.0 in
    let tail : xs ≡ ys = same_pieces Q size some xs ys all.1 all'.1 parts.1 in
    cc
