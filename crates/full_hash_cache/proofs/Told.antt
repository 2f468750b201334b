-- What a cache keeps was told by answers that it took.
use Rattle.std.proofs.Common.{rules, ◌≡◌, ℕ, zero, suc, ◌-◌, Bool, true, false, cond, nat_eq, List, [], ◌∷◌, ◌++◌, take, filter, map, Contains, Option, Some, None, IfSome, refl, sym, subst, arith}
use Rattle.std.specs.Prelude.{◌&&◌}
use Rattle.std.specs.declared.cmp.Ordering.{Ordering}
use Rattle.std.specs.declared.cmp.Ordering.TheVariants.{Less, Equal, Greater}
use Rattle.std.specs.Ordering.{nat_cmp, ordering_then, is_eq, match_ordering}
use Rattle.std.specs.List.{fold, AllByRecursion}
use Rattle.std.specs.Option.{option_map_or}
use Rattle.std.specs.Str.{bytes_eq}
use Rattle.std.specs.Map.{lookup_entry, remove_entry}
use Rattle.std.specs.BTreeMap.{insert_entry}
use Rattle.std.proofs.lemmas.Bool.Decides.{nat_tests}
use Rattle.lru.specs.LruCache.{promoted}
use Rattle.sb_model.specs.declared.names.ThreatType.{ThreatType}
use Rattle.sb_model.specs.declared.names.PlatformType.{PlatformType}
use Rattle.sb_model.specs.declared.names.EntryType.{EntryType}
use Rattle.sb_model.specs.declared.names.ListName.{ListName}
use Rattle.sb_model.specs.declared.time.Moment.{Moment}
use Rattle.sb_model.specs.Names.{threat_code, platform_code, entry_code, same_name}
use Rattle.sb_model.specs.Prefixes.{bytes_cmp}
use Rattle.sb_model.specs.Time.{later_than, cache_of}
use Rattle.hash_prefixes.specs.declared.hashes.FullHash.{FullHash}
use Rattle.hash_messages.specs.Messages.{AskedHashes}
use Rattle.hash_messages.specs.declared.response.Match.{Match}
use Rattle.hash_messages.specs.declared.response.FindResponse.{FindResponse}
use Rattle.full_hash_cache.specs.declared.pair.Pair.{Pair}
use Rattle.full_hash_cache.specs.declared.pair.Cached.TheVariants.{Unsafe, Safe, Ask}
use Rattle.full_hash_cache.specs.Cache.{Matches, KeptOfPair, Pairs, most_pairs, same_pair, same_hash, hash_cmp, is_earlier, kept_of_pair, match_end, said_by_pair, cached_of, later_end, with_match, ending, matches_for, begins_full_hash, kept_matches_of, with_pair, put_pair, put_pairs, pairs_asked}
use Rattle.full_hash_cache.specs.Law.{Step, after_step, after_steps, IsMatchTold, IsToldAfter}
use Rattle.full_hash_cache.specs.Law.Step.{Takes, Asks}

-- ---- lists

abbrev Each : {X : Type 0} → (X → Type 0) → List X → Type 0
Each P xs = AllByRecursion P xs

each_map : {X : Type 0} (P Q : X → Type 0) → ((x : X) → P x → Q x) → (xs : List X) → Each P xs → Each Q xs
each_map P Q f [] h = tt
each_map P Q f (x ∷ xs) h = (f x h.0, each_map P Q f xs h.1)

pub here : {X : Type 0} (x : X) (xs : List X) → Contains (x ∷ xs) x
here x xs = (0, omega arith, refl)

pub there : {X : Type 0} (x : X) (xs : List X) (y : X) → Contains xs y → Contains (x ∷ xs) y
there x xs y h = (suc h.0, (let lt = h.1 in omega (arith, lt)), h.2)

each_there : {X : Type 0} (xs : List X) → Each (Contains xs) xs
each_there [] = tt
each_there (x ∷ xs) = (here x xs, each_map (Contains xs) (Contains (x ∷ xs)) (there x xs) xs (each_there xs))

each_append : {X : Type 0} (P : X → Type 0) (xs ys : List X) → Each P xs → Each P ys → Each P (xs ++ ys)
each_append P [] ys h k = k
each_append P (x ∷ xs) ys h k = (h.0, each_append P xs ys h.1 k)

each_filter : {X : Type 0} (P : X → Type 0) (test : X → Bool) (xs : List X) → Each P xs → Each P (filter test xs)
each_filter P test [] h = tt
each_filter P test (x ∷ xs) h = go (test x) (each_filter P test xs h.1)
  where
    go : (b : Bool) → Each P (filter test xs) → Each P (cond b (x ∷ filter test xs) (filter test xs))
    go true more = (h.0, more)
    go false more = more

each_take : {X : Type 0} (P : X → Type 0) (n : ℕ) (xs : List X) → Each P xs → Each P (take n xs)
each_take P zero xs h = tt
each_take P (suc n) [] h = tt
each_take P (suc n) (x ∷ xs) h = (h.0, each_take P n xs h.1)

-- ---- entries

module _ {K V : Type 0} (P : K × V → Type 0) (test : K → Bool) where
  each_removed : (es : List (K × V)) → Each P es → Each P (remove_entry test es)
  each_removed [] h = tt
  each_removed (e ∷ es) h = go (test e.0) (each_removed es h.1)
    where
      go : (b : Bool) → Each P (remove_entry test es) → Each P (cond b es (e ∷ remove_entry test es))
      go true more = h.1
      go false more = (h.0, more)

  found_entry : (es : List (K × V)) → Each P es → IfSome (lookup_entry test es) (λ e. P e × (test e.0 ≡ true))
  found_entry [] h = tt
  found_entry (e ∷ es) h = go (test e.0) refl (found_entry es h.1)
    where
      go : (b : Bool) → test e.0 ≡ b → IfSome (lookup_entry test es) (λ e. P e × (test e.0 ≡ true))
          → IfSome (cond b (Some e) (lookup_entry test es)) (λ e. P e × (test e.0 ≡ true))
      go true is more = (h.0, is)
      go false is more = more

  each_promoted : (es : List (K × V)) → Each P es → Each P (promoted test es)
  each_promoted es h = go (lookup_entry test es) (found_entry es h)
    where
      go : (o : Option (K × V)) → IfSome o (λ e. P e × (test e.0 ≡ true)) → Each P (option_map_or (λ e. e ∷ remove_entry test es) o es)
      go None is = h
      go (Some e) is = (is.0, each_removed es h)

-- ---- equal pairs and hashes

threat_by_code : (a b : ThreatType) → nat_eq (threat_code a) (threat_code b) ≡ true → a ≡ b
threat_by_code a b h = search rules

platform_by_code : (a b : PlatformType) → nat_eq (platform_code a) (platform_code b) ≡ true → a ≡ b
platform_by_code a b h = search rules

entry_by_code : (a b : EntryType) → nat_eq (entry_code a) (entry_code b) ≡ true → a ≡ b
entry_by_code a b h = search rules

all_three : (p q r : Bool) → (p && q && r) ≡ true → (p ≡ true) × (q ≡ true) × (r ≡ true)
all_three p q r h = search rules

named : (a b : ListName) → a.threat ≡ b.threat → a.platform ≡ b.platform → a.entry ≡ b.entry → a ≡ b
named a b t p e = search rules

equal_names : (a b : ListName) → same_name a b ≡ true → a ≡ b
equal_names a b h =
    let parts = all_three _ _ _ h in
    named a b (threat_by_code _ _ parts.0) (platform_by_code _ _ parts.1) (entry_by_code _ _ parts.2)

first_of_two : (p q : Bool) → (p && q) ≡ true → p ≡ true
first_of_two p q h = search rules

equal_prefixes : (a b : List ℕ) → bytes_eq a b ≡ true → a ≡ b
equal_prefixes [] [] h = refl
equal_prefixes [] (y ∷ ys) h = cc h
equal_prefixes (x ∷ xs) [] h = cc h
equal_prefixes (x ∷ xs) (y ∷ ys) h = go (nat_eq x y) refl h (equal_prefixes xs ys)
  where
    go : (b : Bool) → nat_eq x y ≡ b → (b && bytes_eq xs ys) ≡ true → (bytes_eq xs ys ≡ true → xs ≡ ys) → x ∷ xs ≡ y ∷ ys
    go true is h more = let same : x ≡ y = grind (arith, nat_tests) in λ i. same i ∷ more h i
    go false is h more = cc h

second_of_two : (p q : Bool) → (p && q) ≡ true → q ≡ true
second_of_two p q h = search rules

pub equal_pairs : (a b : Pair) → same_pair a b ≡ true → a ≡ b
equal_pairs a b h =
    let lists = equal_names a.list b.list (first_of_two _ _ h) in
    let prefixes = equal_prefixes a.prefix b.prefix (second_of_two _ _ h) in
    λ i. record { list = lists i; prefix = prefixes i }

equal_numbers : (x y : ℕ) → nat_cmp x y ≡ Equal → x ≡ y
equal_numbers x y h = grind (arith, nat_tests)

equal_bytes : (a b : List ℕ) → bytes_cmp a b ≡ Equal → a ≡ b
equal_bytes [] [] h = refl
equal_bytes [] (y ∷ ys) h = cc h
equal_bytes (x ∷ xs) [] h = cc h
equal_bytes (x ∷ xs) (y ∷ ys) h = go (nat_cmp x y) refl h (equal_bytes xs ys)
  where
    go : (o : Ordering) → nat_cmp x y ≡ o → ordering_then o (bytes_cmp xs ys) ≡ Equal → (bytes_cmp xs ys ≡ Equal → xs ≡ ys) → x ∷ xs ≡ y ∷ ys
    go Less is h more = cc h
    go Equal is h more = λ i. equal_numbers x y is i ∷ more h i
    go Greater is h more = cc h

pub equal_hashes : (a b : FullHash) → hash_cmp a b ≡ Equal → a ≡ b
equal_hashes a b h = λ i. record { bytes = equal_bytes a.bytes b.bytes h i }

pub by_is_eq : (o : Ordering) → is_eq o ≡ true → o ≡ Equal
by_is_eq Less h = cc h
by_is_eq Equal h = refl
by_is_eq Greater h = cc h

-- ---- matches of a pair that were told

module _ (T : Pair → FullHash → Moment → Type 0) where
  abbrev Holds : Pair → Matches → Type 0
  Holds pair matches = Each (λ m. T pair m.0 m.1) matches

  kept_end : (pair : Pair) (hash : FullHash) (matches : Matches) → Holds pair matches → IfSome (match_end matches hash) (λ end. T pair hash end)
  kept_end pair hash [] h = tt
  kept_end pair hash (m ∷ ms) h = go (same_hash hash m.0) refl (kept_end pair hash ms h.1)
    where
      go : (b : Bool) → same_hash hash m.0 ≡ b → IfSome (match_end ms hash) (λ end. T pair hash end)
          → IfSome (cond b (Some m.1) (match_end ms hash)) (λ end. T pair hash end)
      go true is more = subst (λ k. T pair k m.1) (sym (equal_hashes hash m.0 (by_is_eq _ is))) h.0
      go false is more = more

  told_later : (pair : Pair) (hash : FullHash) (end : Moment) (o : Option Moment) → T pair hash end → IfSome o (λ end. T pair hash end) → T pair hash (later_end end o)
  told_later pair hash end None h k = h
  told_later pair hash end (Some other) h k = go (is_earlier end other)
    where
      go : (b : Bool) → T pair hash (cond b other end)
      go true = k
      go false = h

  inserted : (pair : Pair) (hash : FullHash) (end : Moment) (matches : Matches) → T pair hash end → Holds pair matches → Holds pair (insert_entry hash_cmp matches hash end)
  inserted pair hash end [] t h = (t, tt)
  inserted pair hash end (m ∷ ms) t h = go (hash_cmp hash m.0) refl (inserted pair hash end ms t h.1)
    where
      go : (o : Ordering) → hash_cmp hash m.0 ≡ o → Holds pair (insert_entry hash_cmp ms hash end)
          → Holds pair (match_ordering o ((hash, end) ∷ m ∷ ms) ((m.0, end) ∷ ms) (m ∷ insert_entry hash_cmp ms hash end))
      go Less is more = (t, h)
      go Equal is more = (subst (λ k. T pair k end) (equal_hashes hash m.0 is) t, h.1)
      go Greater is more = (h.0, more)

  with_told : (pair : Pair) (matches : Matches) (m : FullHash × Moment) → Holds pair matches → T pair m.0 m.1 → Holds pair (with_match matches m)
  with_told pair matches m h t = inserted pair m.0 _ matches (told_later pair m.0 m.1 (match_end matches m.0) t (kept_end pair m.0 matches h)) h

  all_told : (pair : Pair) (found matches : Matches) → Holds pair matches → Holds pair found → Holds pair (fold with_match matches found)
  all_told pair [] matches h k = h
  all_told pair (m ∷ ms) matches h k = all_told pair ms (with_match matches m) (with_told pair matches m h k.0) k.1

  -- ---- pairs

  abbrev IsFounded : Pairs → Type 0
  IsFounded pairs = Each (λ (e : Pair × KeptOfPair). Holds e.0 e.1.matches) pairs

  kept_matches : (pair : Pair) (pairs : Pairs) → IsFounded pairs → Holds pair (kept_matches_of pairs pair)
  kept_matches pair [] h = tt
  kept_matches pair (e ∷ es) h = go (same_pair pair e.0) refl (kept_matches pair es h.1)
    where
      go : (b : Bool) → same_pair pair e.0 ≡ b → Holds pair (kept_matches_of es pair)
          → Holds pair (option_map_or (λ (kept : KeptOfPair). kept.matches) (cond b (Some e.1) (kept_of_pair es pair)) [])
      go true is more = subst (λ p. Holds p e.1.matches) (sym (equal_pairs pair e.0 is)) h.0
      go false is more = more

  founded_with : (pairs : Pairs) (pair : Pair) (kept : KeptOfPair) → IsFounded pairs → Holds pair kept.matches → IsFounded (with_pair pairs pair kept)
  founded_with pairs pair kept h k = go (lookup_entry (same_pair pair) pairs) (found_entry (λ (e : Pair × KeptOfPair). Holds e.0 e.1.matches) (same_pair pair) pairs h)
    where
      go : (o : Option (Pair × KeptOfPair)) → IfSome o (λ e. Holds e.0 e.1.matches × (same_pair pair e.0 ≡ true))
          → IsFounded (option_map_or (λ e. (e.0, kept) ∷ remove_entry (same_pair pair) pairs) o ((pair, kept) ∷ take (most_pairs - 1) pairs))
      go None is = (k, each_take (λ (e : Pair × KeptOfPair). Holds e.0 e.1.matches) (most_pairs - 1) pairs h)
      go (Some e) is = (
        subst (λ p. Holds p kept.matches) (equal_pairs pair e.0 is.1) k,
        each_removed (λ (e : Pair × KeptOfPair). Holds e.0 e.1.matches) (same_pair pair) pairs h,
      )

  -- what an answer received at a moment returned tells of a pair
  abbrev Returns : Moment → Pair → List Match → Type 0
  Returns at pair found = Each (λ (m : Match). same_name m.name pair.list ≡ true → T pair m.hash (later_than at (cache_of m.cache))) found

  listed : (at : Moment) (pair : Pair) (found : List Match) → Returns at pair found → Holds pair (map (ending at) (filter (λ m. same_name m.name pair.list) found))
  listed at pair [] h = tt
  listed at pair (m ∷ ms) h = go (same_name m.name pair.list) refl (listed at pair ms h.1)
    where
      go : (b : Bool) → same_name m.name pair.list ≡ b → Holds pair (map (ending at) (filter (λ m. same_name m.name pair.list) ms))
          → Holds pair (map (ending at) (cond b (m ∷ filter (λ m. same_name m.name pair.list) ms) (filter (λ m. same_name m.name pair.list) ms)))
      go true is more = (h.0 is, more)
      go false is more = more

  founded_put : (at : Moment) (response : FindResponse) (pair : Pair) → Returns at pair response.matches → (pairs : Pairs) → IsFounded pairs → IsFounded (put_pair at response pairs pair)
  founded_put at response pair returned pairs h =
      let told = λ (m : FullHash × Moment). T pair m.0 m.1 in
      let old = each_filter told (λ m. is_earlier at m.1) (kept_matches_of pairs pair) (kept_matches pair pairs h) in
      let found = all_told pair (map (ending at) (filter (λ m. same_name m.name pair.list) response.matches)) [] tt (listed at pair response.matches returned) in
      let new = each_filter told (λ m. begins_full_hash pair.prefix m.0) (matches_for at pair.list response.matches) found in
      founded_with pairs pair _ h (all_told pair _ [] tt (each_append told _ _ old new))

  founded_puts : (at : Moment) (response : FindResponse) (asked : List Pair) → Each (λ pair. Returns at pair response.matches) asked → (pairs : Pairs) → IsFounded pairs
      → IsFounded (put_pairs at response pairs asked)
  founded_puts at response [] returned pairs h = h
  founded_puts at response (pair ∷ asked) returned pairs h =
      founded_puts at response asked returned.1 (put_pair at response pairs pair) (founded_put at response pair returned.0 pairs h)

-- ---- steps

returned_by : (all : List Step) (at : Moment) (lists : List ListName) (asked : AskedHashes) (response : FindResponse) → Contains all (Takes at lists asked response)
    → (pair : Pair) → Contains (pairs_asked asked lists) pair → Returns (IsMatchTold all) at pair response.matches
returned_by all at lists asked response h pair a =
    each_map (Contains response.matches) _
    (λ m c is. record { at = at; lists = lists; asked = asked; response = response; found = m; was_taken = h; was_asked = a; was_returned = c; of_list = is; of_hash = refl; ends = refl })
    response.matches (each_there response.matches)

all_returned : (all : List Step) (at : Moment) (lists : List ListName) (asked : AskedHashes) (response : FindResponse) → Contains all (Takes at lists asked response)
    → Each (λ pair. Returns (IsMatchTold all) at pair response.matches) (pairs_asked asked lists)
all_returned all at lists asked response h =
    each_map (Contains (pairs_asked asked lists)) _ (returned_by all at lists asked response h) (pairs_asked asked lists) (each_there (pairs_asked asked lists))

founded_step : (all : List Step) (step : Step) (pairs : Pairs) → Contains all step → IsFounded (IsMatchTold all) pairs → IsFounded (IsMatchTold all) (after_step pairs step)
founded_step all (Takes at lists asked response) pairs c h =
    founded_puts (IsMatchTold all) at response (pairs_asked asked lists) (all_returned all at lists asked response c) pairs h
founded_step all (Asks now pair hash) pairs c h = each_promoted _ (same_pair pair) pairs h

-- from any pairs whose matches were told
pub founded_steps : (all steps : List Step) (pairs : Pairs) → Each (Contains all) steps → IsFounded (IsMatchTold all) pairs → IsFounded (IsMatchTold all) (after_steps pairs steps)
founded_steps all [] pairs c h = h
founded_steps all (step ∷ steps) pairs c h = founded_steps all steps (after_step pairs step) c.1 (founded_step all step pairs c.0 h)

unsafe_is_told : (all : List Step) (now : Moment) (pair : Pair) (hash : FullHash) (negative_end : Moment) (o : Option Moment)
    → IfSome o (λ end. IsMatchTold all pair hash end) → said_by_pair now negative_end o ≡ Unsafe → IsToldAfter all now pair hash
unsafe_is_told all now pair hash negative_end None h is = go (is_earlier now negative_end) is
  where
    go : (b : Bool) → cond b Safe Ask ≡ Unsafe → IsToldAfter all now pair hash
    go true e = cc e
    go false e = cc e
unsafe_is_told all now pair hash negative_end (Some end) h is = go (is_earlier now end) refl is
  where
    go : (b : Bool) → is_earlier now end ≡ b → cond b Unsafe Ask ≡ Unsafe → IsToldAfter all now pair hash
    go true before e = record { end = end; told = h; not_ended = before }
    go false before e = cc e

unsafe_in : (all : List Step) (now : Moment) (pair : Pair) (hash : FullHash) (pairs : Pairs) → IsFounded (IsMatchTold all) pairs
    → cached_of pairs now pair hash ≡ Unsafe → IsToldAfter all now pair hash
unsafe_in all now pair hash pairs h is =
    go (kept_of_pair pairs pair) (kept_matches (IsMatchTold all) pair pairs h) is
  where
    go : (o : Option KeptOfPair) → Holds (IsMatchTold all) pair (option_map_or (λ (kept : KeptOfPair). kept.matches) o [])
        → option_map_or (λ (kept : KeptOfPair). said_by_pair now kept.negative_end (match_end kept.matches hash)) o Ask ≡ Unsafe → IsToldAfter all now pair hash
    go None h e = cc e
    go (Some kept) h e = unsafe_is_told all now pair hash kept.negative_end (match_end kept.matches hash) (kept_end (IsMatchTold all) pair hash kept.matches h) e

pub told_after : (steps : List Step) (now : Moment) (pair : Pair) (hash : FullHash) → cached_of (after_steps [] steps) now pair hash ≡ Unsafe → IsToldAfter steps now pair hash
told_after steps now pair hash is = unsafe_in steps now pair hash (after_steps [] steps) (founded_steps steps steps [] (each_there steps) tt) is
