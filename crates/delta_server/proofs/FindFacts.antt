-- The full hashes that a find request asks for, gathered prefix by prefix.
use Rattle.std.proofs.Common.{◌≡◌, ℕ, ◌+◌, ◌<◌, Bool, true, false, List, [], ◌∷◌, ◌++◌, length, take, get_or, nat_eq, inl, inr, refl, sym, ap, ◌∙◌, append-nil, append_assoc}
use Rattle.std.specs.Prelude.{◌||◌, ◌↔◌, Contains, filter}
use Rattle.std.specs.Cmp.Lexicographic.{pointwise, bytes_decides, nat_list_cmp_total, nat_list_eq_equiv, texts_ties}
use Rattle.std.specs.List.{list_any, flat_map, dedup}
use Rattle.std.specs.List.Retain.{IsFiltered, DiffersFromLast}
use Rattle.std.specs.List.Sorted.{IsPermutation, IsSorted}
use Rattle.std.specs.Str.{bytes_eq}
use Rattle.std.proofs.lemmas.List.{take_more}
use Rattle.std.proofs.lemmas.List.Concat.{flat_map-append}
use Rattle.std.proofs.lemmas.List.Filters.{dedup_is}
use Rattle.std.proofs.lemmas.List.Kept.{IsStrictlySortedBy-dedup, Contains-dedup, Contains-from_dedup}
use Rattle.std.proofs.lemmas.List.Sorted.{Contains-permutation, IsPermutation-sym}
use Rattle.sb_model.specs.declared.names.ListName.{ListName}
use Rattle.sb_model.specs.History.{History, version_count, full_hashes_at}
use Rattle.sb_model.specs.Prefixes.{bytes_cmp, IsRising, set_of}
use Rattle.hash_messages.specs.Messages.{AskedHashes}
use Rattle.hash_messages.specs.Matches.{asks_hash, hashes_asked}
use Rattle.delta_server.specs.Finding.{hashes_begun}
use Rattle.delta_server.proofs.Membership.{In, contains_in, in_contained, in_flat_map, from_flat_map, in_filter, from_filter}

-- the lists of one item more are appended
pub joined_more : {X Y : Type 0} (f : X → List Y) (xs : List X) (i : ℕ) (d : X) (start old new : List Y) → i < length xs
    → old ≡ start ++ flat_map f (take i xs) → new ≡ old ++ f (get_or xs i d) → new ≡ start ++ flat_map f (take (i + 1) xs)
joined_more f xs i d start old new below before pushed =
    pushed ∙ ap (λ (ys : List _). ys ++ f (get_or xs i d)) before
    ∙ append_assoc start (flat_map f (take i xs)) (f (get_or xs i d))
    ∙ ap (λ (ys : List _). start ++ (flat_map f (take i xs) ++ ys)) (sym (append-nil (f (get_or xs i d))))
    ∙ ap (λ (ys : List _). start ++ ys) (sym (flat_map-append f (take i xs) (get_or xs i d ∷ [])) ∙ ap (flat_map f) (sym (take_more xs i d below)))

-- ---- what a test finds

any_at : {X : Type 0} (p : X → Bool) (x : X) (xs : List X) → In x xs → p x ≡ true → list_any p xs ≡ true
any_at p x [] there passes = absurd there
any_at p x (y ∷ ys) there passes = go (p y) refl there (λ h. any_at p x ys h passes)
  where
    go : (b : Bool) → p y ≡ b → In x (y ∷ ys) → (In x ys → list_any p ys ≡ true) → (b || list_any p ys) ≡ true
    go true is h more = refl
    go false is (inl same) more = absurd (cc)
    go false is (inr h) more = more h

at_any : {X : Type 0} (p : X → Bool) (xs : List X) → list_any p xs ≡ true → (x : X) × In x xs × (p x ≡ true)
at_any p [] h = absurd (cc)
at_any p (y ∷ ys) h = go (p y) refl h (at_any p ys)
  where
    go : (b : Bool) → p y ≡ b → (b || list_any p ys) ≡ true → (list_any p ys ≡ true → (x : _) × In x ys × (p x ≡ true)) → (x : _) × In x (y ∷ ys) × (p x ≡ true)
    go true is k more = (y, inl refl, is)
    go false is k more = let found = more k in (found.0, inr found.1, found.2)

-- ---- hashes

-- what the law of sets says
abbrev pub GoesByMembers : Type 0
GoesByMembers = (xs ys : List (List ℕ)) → IsRising xs → IsRising ys → ((x : List ℕ) → Contains xs x ↔ Contains ys x) → xs ≡ ys

-- a list that is sorted, and then rid of repeats, is the rising list of its members
pub sorted_without_repeats : (xs sorted kept : List (List ℕ)) → ((ys : List (List ℕ)) → IsRising (set_of ys)) → ((ys : List (List ℕ)) (y : List ℕ) → Contains (set_of ys) y ↔ Contains ys y)
    → GoesByMembers → IsPermutation xs sorted → IsSorted bytes_cmp sorted → IsFiltered (DiffersFromLast (pointwise nat_eq)) [] sorted kept → kept ≡ set_of xs
sorted_without_repeats xs sorted kept rising members only moved up filtered =
    let is : kept ≡ dedup (pointwise nat_eq) sorted = dedup_is (pointwise nat_eq) sorted kept filtered in
    is ∙ only (dedup (pointwise nat_eq) sorted) (set_of xs) (IsStrictlySortedBy-dedup nat_list_cmp_total texts_ties sorted up) (rising xs) (λ z. (
      λ h. (members xs z).1 (Contains-permutation sorted xs z (IsPermutation-sym xs sorted moved) (Contains-from_dedup (pointwise nat_eq) sorted z h)),
      λ h. Contains-dedup nat_list_eq_equiv (λ x y same. (bytes_decides x y).0 same) sorted z (Contains-permutation xs sorted z moved ((members xs z).0 h)),
    ))

module _ (history : History) (asked : AskedHashes) (list : ListName) (members : (ys : List (List ℕ)) (y : List ℕ) → Contains (set_of ys) y ↔ Contains ys y) where
  abbrev all : List (List ℕ)
  all = full_hashes_at history list (version_count history)

  abbrev begins : List ℕ → List ℕ → Bool
  begins prefix hash = bytes_eq (take (length prefix) hash) prefix

  -- what is found by one prefix after the other is what some prefix begins
  found_some : (x : List ℕ) → In x (flat_map (hashes_begun history list) asked.prefixes) → In x (filter (asks_hash asked) all)
  found_some x h =
      let found : (prefix : List ℕ) × In prefix asked.prefixes × In x (hashes_begun history list prefix) = from_flat_map (hashes_begun history list) x asked.prefixes h in
      let kept : In x all × (begins found.0 x ≡ true) = from_filter (begins found.0) x all (in_contained x (filter (begins found.0) all)
      ((members (filter (begins found.0) all) x).0 (contains_in x (hashes_begun history list found.0) found.2))) in
      in_filter (asks_hash asked) x all kept.0 (any_at (λ (prefix : List ℕ). begins prefix x) found.0 asked.prefixes found.1 kept.1)

  some_found : (x : List ℕ) → In x (filter (asks_hash asked) all) → In x (flat_map (hashes_begun history list) asked.prefixes)
  some_found x h =
      let kept : In x all × (asks_hash asked x ≡ true) = from_filter (asks_hash asked) x all h in
      let begun : (prefix : List ℕ) × In prefix asked.prefixes × (begins prefix x ≡ true) = at_any (λ (prefix : List ℕ). begins prefix x) asked.prefixes kept.1 in
      in_flat_map (hashes_begun history list) x begun.0 asked.prefixes begun.1 (in_contained x (hashes_begun history list begun.0)
      ((members (filter (begins begun.0) all) x).1 (contains_in x (filter (begins begun.0) all) (in_filter (begins begun.0) x all kept.0 begun.2))))

  pub hashes_found : (found kept : List (List ℕ)) → ((xs ys : List (List ℕ)) → ((x : List ℕ) → Contains xs x ↔ Contains ys x) → set_of xs ≡ set_of ys)
      → found ≡ flat_map (hashes_begun history list) asked.prefixes → kept ≡ set_of found → kept ≡ hashes_asked history asked list
  hashes_found found kept same is put =
      put ∙ ap set_of is ∙ same (flat_map (hashes_begun history list) asked.prefixes) (filter (asks_hash asked) all) (λ x. (
        λ h. contains_in x _ (found_some x (in_contained x _ h)),
        λ h. contains_in x _ (some_found x (in_contained x _ h)),
      ))
