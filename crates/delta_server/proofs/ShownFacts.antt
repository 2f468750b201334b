-- What stretches show at a version, and what the next of them shows first.
use Rattle.std.proofs.Common.{◌≡◌, ℕ, suc, ◌+◌, ◌^◌, ◌<◌, ◌≤◌, ◌⊎◌, inl, inr, Bool, true, false, cond, not, List, [], ◌∷◌, ◌++◌, length, map, refl, sym, ap, subst, ◌∙◌, arith}
use Rattle.std.specs.Prelude.{◌&&◌, ◌||◌, ◌==◌, nat_le, nat_lt, filter, Contains, All, if◌then◌else◌}
use Rattle.std.specs.declared.cmp.Ordering.{Ordering}
use Rattle.std.specs.declared.cmp.Ordering.TheVariants.{Less, Equal, Greater}
use Rattle.std.specs.Ordering.{match_ordering}
use Rattle.std.specs.Int.{w32, to_be_bytes, from_be_bytes}
use Rattle.std.specs.List.{list_any}
use Rattle.std.specs.Str.{bytes_eq}
use Rattle.std.proofs.lemmas.Bool.{false≢true, eq-eqb, eqb-true, lt-ltb, ltb-true, le-leb, leb-true}
use Rattle.std.proofs.lemmas.List.{append-nil, map-append}
use Rattle.std.proofs.lemmas.List.Elements.{All-nil, All-cons, All-contains, filter-append}
use Rattle.std.proofs.lemmas.List.Folds.{list_any-append}
use Rattle.std.proofs.lemmas.Nat.{from_be_bytes-to_be_bytes_4}
use Rattle.sb_model.specs.declared.names.ListName.{ListName}
use Rattle.sb_model.specs.Difference.{has_member}
use Rattle.sb_model.specs.History.{History, version_count, sizes_at, prefixes_at, prefix_of}
use Rattle.sb_model.specs.Prefixes.{bytes_cmp, IsRising, with_member, set_of}
use Rattle.list_versions.specs.declared.stretch.Stretch.{Stretch}
use Rattle.list_versions.specs.Stretches.{prefix_in, shows_at, ComesBefore, AreInOrder, AreStretches}
use Rattle.delta_server.specs.Sweeping.{has_version, shown_at, is_head_shown, shows_first}
use Rattle.delta_server.proofs.CountFacts.{SetLaws, nothing_held}
use Rattle.delta_server.proofs.Membership.{In, contains_in, in_contained, in_left, in_right, in_either, in_map, from_map, in_filter, from_filter}
use Rattle.delta_server.proofs.SetCounts.{equal_bytes, same_bytes, has_in, in_has, kept, length-with_member, kept-with_member, known-with_member}

-- ---- tests

pub same_test : (a b : Bool) → (a ≡ true → b ≡ true) → (b ≡ true → a ≡ true) → a ≡ b
same_test true b to from = sym (to refl)
same_test false true to from = from refl
same_test false false to from = refl

pub both_true : (a b : Bool) → a ≡ true → b ≡ true → (a && b) ≡ true
both_true true b first second = second
both_true false b first second = absurd (false≢true first)

pub first_true : (a b : Bool) → (a && b) ≡ true → a ≡ true
first_true true b h = refl
first_true false b h = h

pub second_true : (a b : Bool) → (a && b) ≡ true → b ≡ true
second_true true b h = h
second_true false b h = absurd (false≢true h)

pub not_true : (a : Bool) → (a ≡ true → ⊥) → a ≡ false
not_true true none = absurd (none refl)
not_true false none = refl

pub either_true : (a b : Bool) → (a || b) ≡ true → (a ≡ true) ⊎ (b ≡ true)
either_true true b h = inl refl
either_true false b h = inr h

pub left_true : (a b : Bool) → a ≡ true → (a || b) ≡ true
left_true true b h = refl
left_true false b h = absurd (false≢true h)

pub right_true : (a b : Bool) → b ≡ true → (a || b) ≡ true
right_true true b h = refl
right_true false b h = h

pub not_false : (a : Bool) → a ≡ false → not a ≡ true
not_false true h = absurd (false≢true (sym h))
not_false false h = refl

pub false_not : (a : Bool) → not a ≡ true → a ≡ false
false_not true h = absurd (false≢true h)
false_not false h = refl

or_false : (a : Bool) → (a || false) ≡ a
or_false true = refl
or_false false = refl

pub any_in : (p : Stretch → Bool) (xs : List Stretch) → list_any p xs ≡ true → (x : Stretch) × In x xs × (p x ≡ true)
any_in p [] h = absurd (false≢true h)
any_in p (y ∷ ys) h = go (p y) refl h (any_in p ys)
  where
    go : (b : Bool) → p y ≡ b → (b || list_any p ys) ≡ true → (list_any p ys ≡ true → (x : Stretch) × In x ys × (p x ≡ true)) → (x : Stretch) × In x (y ∷ ys) × (p x ≡ true)
    go true is h more = (y, inl refl, is)
    go false is h more = let found = more h in (found.0, inr found.1, found.2)

pub in_any : (p : Stretch → Bool) (x : Stretch) (xs : List Stretch) → In x xs → p x ≡ true → list_any p xs ≡ true
in_any p x [] h is = absurd h
in_any p x (y ∷ ys) (inl e) is = left_true (p y) (list_any p ys) (ap p e ∙ is)
in_any p x (y ∷ ys) (inr h) is = right_true (p y) (list_any p ys) (in_any p x ys h is)

pub of_all : (P : Stretch → Type 0) (xs : List Stretch) → All P xs → (x : Stretch) → In x xs → P x
of_all P xs all x h = All-contains P xs x all (contains_in x xs h)

pub all_of : (P : Stretch → Type 0) (xs : List Stretch) → ((x : Stretch) → In x xs → P x) → All P xs
all_of P [] each = All-nil P
all_of P (x ∷ xs) each = All-cons P x xs (each x (inl refl)) (all_of P xs (λ y h. each y (inr h)))

-- ---- order

pub order_before : (done : List Stretch) (s : Stretch) (rest : List Stretch) → AreInOrder (done ++ s ∷ rest) → (t : Stretch) → In t done → ComesBefore t s
order_before [] s rest order t h = absurd h
order_before (d ∷ ds) s rest order t (inl e) =
    subst (λ (x : Stretch). ComesBefore x s) e (of_all (ComesBefore d) (ds ++ s ∷ rest) order.0 s (in_right s ds (s ∷ rest) (inl refl)))
order_before (d ∷ ds) s rest order t (inr h) = order_before ds s rest order.1 t h

pub order_after : (done : List Stretch) (s : Stretch) (rest : List Stretch) → AreInOrder (done ++ s ∷ rest) → (t : Stretch) → In t rest → ComesBefore s t
order_after [] s rest order t h = of_all (ComesBefore s) rest order.0 t h
order_after (d ∷ ds) s rest order t h = order_after ds s rest order.1 t h

-- ---- prefixes

same_head : (a b : ℕ) → a < 2 ^ 32 → b < 2 ^ 32 → to_be_bytes w32 a ≡ to_be_bytes w32 b → a ≡ b
same_head a b few less is = sym (from_be_bytes-to_be_bytes_4 a few) ∙ ap (from_be_bytes w32) is ∙ from_be_bytes-to_be_bytes_4 b less

abbrev shown_in : List Stretch → ℕ → List (List ℕ)
shown_in stretches version = map prefix_in (filter (has_version version) stretches)

-- what one of them shows
shows : (stretches : List Stretch) (version : ℕ) (t : Stretch) → In t stretches → has_version version t ≡ true → In (prefix_in t) (shown_in stretches version)
shows stretches version t there has =
    in_map prefix_in t (filter (has_version version) stretches) (in_filter (has_version version) t stretches there has)

shown_by : (stretches : List Stretch) (version : ℕ) (x : List ℕ) → In x (shown_in stretches version) → (t : Stretch) × In t stretches × (has_version version t ≡ true) × (prefix_in t ≡ x)
shown_by stretches version x h =
    let from = from_map prefix_in x (filter (has_version version) stretches) h in
    let kept = from_filter (has_version version) from.0 stretches from.1 in
    (from.0, kept.0, kept.1, from.2)

module _ (laws : SetLaws) where
  abbrev entries : History → ListName → ℕ → List (List ℕ)
  entries versions list version = map prefix_of (sizes_at versions list version)

  -- the set of a version is what the stretches show
  pub shown_is : (versions : History) (list : ListName) (stretches : List Stretch) (version : ℕ) → AreStretches versions list stretches → version ≤ version_count versions
      → prefixes_at versions list version ≡ shown_at stretches version
  shown_is versions list stretches version are within = laws.same (entries versions list version) (shown_in stretches version) (λ x. (
    λ c. contains_in x (shown_in stretches version) (to x (in_contained x (set_of (entries versions list version)) ((laws.members (entries versions list version) x).1 c))),
    λ c. (laws.members (entries versions list version) x).0 (contains_in x (set_of (entries versions list version)) (from x (in_contained x (shown_in stretches version) c))),
  ))
    where
      to : (x : List ℕ) → In x (set_of (entries versions list version)) → In x (shown_in stretches version)
      to x h =
          let found = any_in (shows_at version x) stretches (sym (are.published version within x) ∙ in_has (set_of (entries versions list version)) x h) in
          subst (λ (y : List ℕ). In y (shown_in stretches version)) (equal_bytes (prefix_in found.0) x (first_true _ _ found.2))
          (shows stretches version found.0 found.1 (second_true (bytes_eq (prefix_in found.0) x) _ found.2))

      from : (x : List ℕ) → In x (shown_in stretches version) → In x (set_of (entries versions list version))
      from x h =
          let found = shown_by stretches version x h in
          has_in (set_of (entries versions list version)) x (are.published version within x
          ∙ in_any (shows_at version x) found.0 stretches found.1 (both_true (bytes_eq (prefix_in found.0) x) _ (same_bytes (prefix_in found.0) x found.3) found.2))

  -- ---- one stretch more

  module _ (done : List Stretch) (s : Stretch) (heads : (t : Stretch) → In t done → t.head < 2 ^ 32) (own : s.head < 2 ^ 32) (version : ℕ) where
    there : is_head_shown done s.head version ≡ true → In (prefix_in s) (shown_in done version)
    there h =
        let found = any_in (λ t. t.head == s.head && has_version version t) done h in
        subst (λ (y : List ℕ). In y (shown_in done version)) (ap (to_be_bytes w32) (eqb-true found.0.head s.head (first_true _ _ found.2)))
        (shows done version found.0 found.1 (second_true (found.0.head == s.head) _ found.2))

    was_there : In (prefix_in s) (shown_in done version) → is_head_shown done s.head version ≡ true
    was_there h =
        let found = shown_by done version (prefix_in s) h in
        in_any (λ t. t.head == s.head && has_version version t) found.0 done found.1
        (both_true (found.0.head == s.head) _ (eq-eqb found.0.head s.head (same_head found.0.head s.head (heads found.0 found.1) own found.3)) found.2)

    new : is_head_shown done s.head version ≡ false → In (prefix_in s) (shown_at done version) → ⊥
    new none h = false≢true (sym none ∙ was_there (in_contained (prefix_in s) (shown_in done version)
        ((laws.members (shown_in done version) (prefix_in s)).0 (contains_in (prefix_in s) (shown_at done version) h))))

    pushed : (b : Bool) → has_version version s ≡ b → shown_in (done ++ s ∷ []) version ≡ shown_in done version ++ map prefix_in (cond b (s ∷ []) [])
    pushed b is =
        ap (map prefix_in) (filter-append (has_version version) done (s ∷ []))
        ∙ map-append prefix_in (filter (has_version version) done) (filter (has_version version) (s ∷ []))
        ∙ ap (λ (t : Bool). shown_in done version ++ map prefix_in (cond t (s ∷ []) [])) is

    absent : has_version version s ≡ false → shown_at (done ++ s ∷ []) version ≡ shown_at done version
    absent is = ap set_of (pushed false is ∙ append-nil (shown_in done version))

    again : has_version version s ≡ true → is_head_shown done s.head version ≡ true → shown_at (done ++ s ∷ []) version ≡ shown_at done version
    again is shown = ap set_of (pushed true is) ∙ laws.same (shown_in done version ++ prefix_in s ∷ []) (shown_in done version) (λ x. (
      λ c. contains_in x (shown_in done version) (go x (in_either x (shown_in done version) (prefix_in s ∷ []) (in_contained x (shown_in done version ++ prefix_in s ∷ []) c))),
      λ c. contains_in x (shown_in done version ++ prefix_in s ∷ []) (in_left x (shown_in done version) (prefix_in s ∷ []) (in_contained x (shown_in done version) c)),
    ))
      where
        go : (x : List ℕ) → In x (shown_in done version) ⊎ In x (prefix_in s ∷ []) → In x (shown_in done version)
        go x (inl h) = h
        go x (inr (inl e)) = subst (λ (y : List ℕ). In y (shown_in done version)) e (there shown)
        go x (inr (inr h)) = absurd h

    first : has_version version s ≡ true → shown_at (done ++ s ∷ []) version ≡ with_member (prefix_in s) (shown_at done version)
    first is = ap set_of (pushed true is) ∙ laws.same (shown_in done version ++ prefix_in s ∷ []) (prefix_in s ∷ shown_in done version) (λ x. (
      λ c. contains_in x (prefix_in s ∷ shown_in done version) (to x (in_either x (shown_in done version) (prefix_in s ∷ []) (in_contained x (shown_in done version ++ prefix_in s ∷ []) c))),
      λ c. contains_in x (shown_in done version ++ prefix_in s ∷ []) (from x (in_contained x (prefix_in s ∷ shown_in done version) c)),
    ))
      where
        to : (x : List ℕ) → In x (shown_in done version) ⊎ In x (prefix_in s ∷ []) → (prefix_in s ≡ x) ⊎ In x (shown_in done version)
        to x (inl h) = inr h
        to x (inr (inl e)) = inl e
        to x (inr (inr h)) = absurd h

        from : (x : List ℕ) → (prefix_in s ≡ x) ⊎ In x (shown_in done version) → In x (shown_in done version ++ prefix_in s ∷ [])
        from x (inl e) = in_right x (shown_in done version) (prefix_in s ∷ []) (inl e)
        from x (inr h) = in_left x (shown_in done version) (prefix_in s ∷ []) h

    pub length_shown : length (shown_at (done ++ s ∷ []) version) ≡ length (shown_at done version) + (if shows_first done s version then 1 else 0)
    length_shown = go (has_version version s) refl (is_head_shown done s.head version) refl
      where
        go : (a : Bool) → has_version version s ≡ a → (b : Bool) → is_head_shown done s.head version ≡ b
            → length (shown_at (done ++ s ∷ []) version) ≡ length (shown_at done version) + (if a && not b then 1 else 0)
        go false has b shown = ap length (absent has) ∙ omega arith
        go true has true shown = ap length (again has shown) ∙ omega arith
        go true has false shown = ap length (first has) ∙ length-with_member (prefix_in s) (shown_at done version) (new shown) ∙ omega arith

    pub kept_shown : (held : List (List ℕ))
        → kept held (shown_at (done ++ s ∷ []) version) ≡ kept held (shown_at done version) + (if shows_first done s version && has_member held (prefix_in s) then 1 else 0)
    kept_shown held = go (has_version version s) refl (is_head_shown done s.head version) refl
      where
        go : (a : Bool) → has_version version s ≡ a → (b : Bool) → is_head_shown done s.head version ≡ b
            → kept held (shown_at (done ++ s ∷ []) version) ≡ kept held (shown_at done version) + (if (a && not b) && has_member held (prefix_in s) then 1 else 0)
        go false has b shown = ap (kept held) (absent has) ∙ omega arith
        go true has true shown = ap (kept held) (again has shown) ∙ omega arith
        go true has false shown = ap (kept held) (first has) ∙ known-with_member (prefix_in s) (shown_at done version) held (new shown)

  -- ---- what is held

  module _ (done : List Stretch) (s : Stretch) (rest : List Stretch) (order : AreInOrder (done ++ s ∷ rest)) (heads : (t : Stretch) → In t (done ++ s ∷ rest) → t.head < 2 ^ 32) (from version : ℕ) where
    abbrev whole : List Stretch
    whole = done ++ s ∷ rest

    abbrev test : Stretch → Bool
    test t = t.head == s.head && has_version from t

    own_head : s.head < 2 ^ 32
    own_head = heads s (in_right s done (s ∷ rest) (inl refl))

    -- A prefix that a stretch shows first is held only if a stretch up to this one shows it at the first version: those behind
    -- it begin no earlier.
    pub held_is : from ≤ version → shows_first done s version ≡ true → has_member (shown_at whole from) (prefix_in s) ≡ is_head_shown (done ++ s ∷ []) s.head from
    held_is low first = same_test (has_member (shown_at whole from) (prefix_in s)) (is_head_shown (done ++ s ∷ []) s.head from) to back
      where
        place : (t : Stretch) → t.head ≡ s.head → has_version from t ≡ true → In t done ⊎ In t (s ∷ rest) → is_head_shown (done ++ s ∷ []) s.head from ≡ true
        place t same has (inl h) = in_any test t (done ++ s ∷ []) (in_left t done (s ∷ []) h) (both_true (t.head == s.head) _ (eq-eqb t.head s.head same) has)
        place t same has (inr (inl e)) = in_any test t (done ++ s ∷ []) (in_right t done (s ∷ []) (inl e)) (both_true (t.head == s.head) _ (eq-eqb t.head s.head same) has)
        place t same has (inr (inr h)) =
            let shown : has_version version s ≡ true = first_true (has_version version s) _ first in
            let until : version < s.until = ltb-true version s.until (second_true (nat_le s.from version) _ shown) in
            let begins : t.from ≤ from = leb-true t.from from (first_true _ (nat_lt from t.until) has) in
            let before : s.from ≤ t.from = elim (order_after done s rest order t h) [ inl less ↦ absurd (omega (arith, less, same)) | inr both ↦ both.1 ] in
            in_any test s (done ++ s ∷ []) (in_right s done (s ∷ []) (inl refl))
            (both_true (s.head == s.head) _ (eq-eqb s.head s.head refl) (both_true _ _ (le-leb s.from from (omega arith)) (lt-ltb from s.until (omega arith))))

        to : has_member (shown_at whole from) (prefix_in s) ≡ true → is_head_shown (done ++ s ∷ []) s.head from ≡ true
        to h =
            let inside = in_contained (prefix_in s) (shown_in whole from) ((laws.members (shown_in whole from) (prefix_in s)).0
            (contains_in (prefix_in s) (shown_at whole from) (has_in (shown_at whole from) (prefix_in s) h))) in
            let found = shown_by whole from (prefix_in s) inside in
            place found.0 (same_head found.0.head s.head (heads found.0 found.1) own_head found.3) found.2 (in_either found.0 done (s ∷ rest) found.1)

        wider : (t : Stretch) → In t done ⊎ In t (s ∷ []) → In t whole
        wider t (inl h) = in_left t done (s ∷ rest) h
        wider t (inr (inl e)) = in_right t done (s ∷ rest) (inl e)
        wider t (inr (inr h)) = absurd h

        back : is_head_shown (done ++ s ∷ []) s.head from ≡ true → has_member (shown_at whole from) (prefix_in s) ≡ true
        back h =
            let found = any_in test (done ++ s ∷ []) h in
            let there = shows whole from found.0 (wider found.0 (in_either found.0 done (s ∷ []) found.1)) (second_true (found.0.head == s.head) _ found.2) in
            let own = subst (λ (y : List ℕ). In y (shown_in whole from)) (ap (to_be_bytes w32) (eqb-true found.0.head s.head (first_true _ _ found.2))) there in
            in_has (shown_at whole from) (prefix_in s) (in_contained (prefix_in s) (shown_at whole from)
            ((laws.members (shown_in whole from) (prefix_in s)).1 (contains_in (prefix_in s) (shown_in whole from) own)))

  -- ---- sets beside each other

  -- as many members of one set are in another as the other way round
  pub kept_both : (held xs : List (List ℕ)) → IsRising held → kept (set_of xs) held ≡ kept held (set_of xs)
  kept_both held [] up = sym (nothing_held held)
  kept_both held (x ∷ xs) up = go (has_member (set_of xs) x) refl (kept_both held xs up)
    where
      go : (b : Bool) → has_member (set_of xs) x ≡ b → kept (set_of xs) held ≡ kept held (set_of xs) → kept (set_of (x ∷ xs)) held ≡ kept held (set_of (x ∷ xs))
      go true is more =
          let same : set_of (x ∷ xs) ≡ set_of xs = laws.same (x ∷ xs) xs (λ y. (
            λ c. inside y (in_contained y (x ∷ xs) c),
            λ c. contains_in y (x ∷ xs) (inr (in_contained y xs c)),
          )) in
          ap (λ (set : List (List ℕ)). kept set held) same ∙ more ∙ sym (ap (kept held) same)
        where
          inside : (y : List ℕ) → (x ≡ y) ⊎ In y xs → Contains xs y
          inside y (inl e) = subst (λ (z : List ℕ). Contains xs z) e ((laws.members xs x).0 (contains_in x (set_of xs) (has_in (set_of xs) x is)))
          inside y (inr h) = contains_in y xs h
      go false is more =
          let none = λ (h : In x (set_of xs)). false≢true (sym is ∙ in_has (set_of xs) x h) in
          kept-with_member x (set_of xs) held up none ∙ ap (λ n. n + (if has_member held x then 1 else 0)) more ∙ sym (known-with_member x (set_of xs) held none)

-- ---- how many

pub few_kept : (p : List ℕ → Bool) (ms : List (List ℕ)) → length (filter p ms) ≤ length ms
few_kept p [] = omega arith
few_kept p (m ∷ ms) = go (p m) (few_kept p ms)
  where
    go : (b : Bool) → length (filter p ms) ≤ length ms → length (cond b (m ∷ filter p ms) (filter p ms)) ≤ suc (length ms)
    go true more = omega (arith, more)
    go false more = omega (arith, more)

pub few_with : (q : List ℕ) (set : List (List ℕ)) → length (with_member q set) ≤ suc (length set)
few_with q [] = omega arith
few_with q (y ∷ ys) = go (bytes_cmp q y) (few_with q ys)
  where
    go : (o : Ordering) → length (with_member q ys) ≤ suc (length ys) → length (match_ordering o (q ∷ y ∷ ys) (y ∷ ys) (y ∷ with_member q ys)) ≤ suc (suc (length ys))
    go Less more = omega arith
    go Equal more = omega arith
    go Greater more = omega (arith, more)

pub few_shown : (stretches : List Stretch) (version : ℕ) → length (shown_at stretches version) ≤ length stretches
few_shown [] version = omega arith
few_shown (s ∷ ss) version = go (has_version version s) (few_shown ss version)
  where
    go : (b : Bool) → length (shown_at ss version) ≤ length ss
        → length (set_of (map prefix_in (cond b (s ∷ filter (has_version version) ss) (filter (has_version version) ss)))) ≤ suc (length ss)
    go true more = omega (arith, more, few_with (prefix_in s) (shown_at ss version))
    go false more = omega (arith, more)

pub shown_push : (done : List Stretch) (s : Stretch) (version : ℕ) → is_head_shown (done ++ s ∷ []) s.head version ≡ (is_head_shown done s.head version || has_version version s)
shown_push done s version =
    list_any-append (λ t. t.head == s.head && has_version version t) done (s ∷ [])
    ∙ ap (λ (t : Bool). is_head_shown done s.head version || ((t && has_version version s) || false)) (eq-eqb s.head s.head refl)
    ∙ ap (λ (t : Bool). is_head_shown done s.head version || t) (or_false (has_version version s))
