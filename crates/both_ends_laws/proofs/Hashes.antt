-- Each match of a server's answer has a full hash, where each hash of the history has 32 bytes.
use Rattle.std.proofs.Common.{◌≡◌, ℕ, zero, suc, ◌*◌, Bool, true, false, cond, List, [], ◌∷◌, ◌++◌, length, take, map}
use Rattle.std.specs.Prelude.{All, not, filter, fold}
use Rattle.std.specs.Ordering.{match_ordering}
use Rattle.std.specs.List.{AllByRecursion, flat_map}
use Rattle.std.specs.Str.{bytes_eq}
use Rattle.std.specs.declared.cmp.Ordering.{Ordering}
use Rattle.std.specs.declared.cmp.Ordering.TheVariants.{Less, Equal, Greater}
use Rattle.std.proofs.lemmas.List.Elements.{recursion_from_All}
use Rattle.sb_model.specs.declared.history.Added.{Added}
use Rattle.sb_model.specs.declared.history.Change.{Change}
use Rattle.sb_model.specs.declared.names.ListName.{ListName}
use Rattle.sb_model.specs.Names.{same_name}
use Rattle.sb_model.specs.History.{History, IsPrefixSize, IsWellFormed, version_count, without_hash, with_added, after_change, sizes_at, full_hashes_at}
use Rattle.sb_model.specs.Prefixes.{bytes_cmp, set_of, with_member}
use Rattle.hash_messages.specs.Messages.{AskedHashes}
use Rattle.hash_messages.specs.Matches.{asks_hash, lists_asked, hashes_asked, matches_in, matches_of}
use Rattle.hash_messages.specs.declared.response.Match.{Match}

-- ---- what holds of each member

module _ {A : Type 0} (P : A → Type 0) where
  kept_by_filter : (test : A → Bool) (xs : List A) → AllByRecursion P xs → AllByRecursion P (filter test xs)
  kept_by_filter test [] h = tt
  kept_by_filter test (x ∷ xs) h = go (test x) (kept_by_filter test xs h.1)
    where
      go : (b : Bool) → AllByRecursion P (filter test xs) → AllByRecursion P (cond b (x ∷ filter test xs) (filter test xs))
      go true rest = (h.0, rest)
      go false rest = rest

  kept_by_append : (xs ys : List A) → AllByRecursion P xs → AllByRecursion P ys → AllByRecursion P (xs ++ ys)
  kept_by_append [] ys h g = g
  kept_by_append (x ∷ xs) ys h g = (h.0, kept_by_append xs ys h.1 g)

  kept_by_take : (n : ℕ) (xs : List A) → AllByRecursion P xs → AllByRecursion P (take n xs)
  kept_by_take zero xs h = tt
  kept_by_take (suc n) [] h = tt
  kept_by_take (suc n) (x ∷ xs) h = (h.0, kept_by_take n xs h.1)

kept_by_fold : {A B : Type 0} (P : B → Type 0) (Q : A → Type 0) (f : B → A → B) → ((b : B) (a : A) → P b → Q a → P (f b a))
    → (b : B) (xs : List A) → P b → AllByRecursion Q xs → P (fold f b xs)
kept_by_fold P Q f step b [] h g = h
kept_by_fold P Q f step b (x ∷ xs) h g = kept_by_fold P Q f step (f b x) xs (step b x h g.0) g.1

-- ---- the full hashes of a history

abbrev IsWhole : List ℕ → Type 0
IsWhole hash = length hash ≡ 32

abbrev AreWhole : List Added → Type 0
AreWhole entries = AllByRecursion (λ entry. IsWhole entry.hash) entries

abbrev AddsWhole : Change → Type 0
AddsWhole change = AreWhole change.adds

without_whole : (entries : List Added) (hash : List ℕ) → AreWhole entries → AreWhole (without_hash entries hash)
without_whole entries hash h = kept_by_filter (λ (entry : Added). IsWhole entry.hash) (λ entry. not (bytes_eq entry.hash hash)) entries h

with_whole : (entries : List Added) (added : Added) → AreWhole entries → IsWhole added.hash → AreWhole (with_added entries added)
with_whole entries added h g =
    kept_by_append (λ (entry : Added). IsWhole entry.hash) (without_hash entries added.hash) (added ∷ []) (without_whole entries added.hash h) (g, tt)

change_whole : (list : ListName) (entries : List Added) (change : Change) → AreWhole entries → AddsWhole change
    → AreWhole (after_change list entries change)
change_whole list entries change h g = go (same_name change.list list)
  where
    every : (hashes : List (List ℕ)) → AllByRecursion (λ (hash : List ℕ). Unit {0}) hashes
    every [] = tt
    every (hash ∷ hashes) = (tt, every hashes)

    removed : AreWhole (fold without_hash entries change.removes)
    removed = kept_by_fold AreWhole (λ (hash : List ℕ). Unit {0}) without_hash (λ b a w u. without_whole b a w) entries change.removes h (every change.removes)

    go : (b : Bool) → AreWhole (cond b (fold with_added (fold without_hash entries change.removes) change.adds) entries)
    go true = kept_by_fold AreWhole (λ (added : Added). IsWhole added.hash) with_added with_whole (fold without_hash entries change.removes) change.adds removed g
    go false = h

changes_whole : (changes : List Change)
    → AllByRecursion (λ change. All (λ added. (length added.hash ≡ 32) × IsPrefixSize added.size) change.adds) changes
    → AllByRecursion AddsWhole changes
changes_whole [] h = tt
changes_whole (change ∷ changes) h =
    (recursion_from_All (λ (added : Added). IsWhole added.hash) change.adds (λ k d below. (h.0 k d below).0), changes_whole changes h.1)

sizes_whole : (history : History) → IsWellFormed history → (list : ListName) (version : ℕ) → AreWhole (sizes_at history list version)
sizes_whole history formed list version =
    let adds = changes_whole history.changes (recursion_from_All (λ (change : Change). All (λ (added : Added). (length added.hash ≡ 32) × IsPrefixSize added.size) change.adds) history.changes formed.adds) in
    kept_by_fold AreWhole AddsWhole (after_change list) (change_whole list) [] (take version history.changes) tt (kept_by_take AddsWhole version history.changes adds)

hashes_whole : (entries : List Added) → AreWhole entries → AllByRecursion IsWhole (map (λ entry. entry.hash) entries)
hashes_whole [] h = tt
hashes_whole (entry ∷ entries) h = (h.0, hashes_whole entries h.1)

-- ---- the matches

by_order : (order : Ordering) (x y : List ℕ) (ys rest : List (List ℕ)) → IsWhole x → IsWhole y → AllByRecursion IsWhole ys
    → AllByRecursion IsWhole rest
    → AllByRecursion IsWhole (match_ordering order (x ∷ y ∷ ys) (y ∷ ys) (y ∷ rest))
by_order Less x y ys rest hx hy h g = (hx, (hy, h))
by_order Equal x y ys rest hx hy h g = (hy, h)
by_order Greater x y ys rest hx hy h g = (hy, g)

kept_by_member : (x : List ℕ) (xs : List (List ℕ)) → IsWhole x → AllByRecursion IsWhole xs → AllByRecursion IsWhole (with_member x xs)
kept_by_member x [] hx h = (hx, tt)
kept_by_member x (y ∷ ys) hx h = by_order (bytes_cmp x y) x y ys (with_member x ys) hx h.0 h.1 (kept_by_member x ys hx h.1)

kept_by_set : (xs : List (List ℕ)) → AllByRecursion IsWhole xs → AllByRecursion IsWhole (set_of xs)
kept_by_set [] h = tt
kept_by_set (x ∷ xs) h = kept_by_member x (set_of xs) h.0 (kept_by_set xs h.1)

abbrev HasWhole : Match → Type 0
HasWhole found = IsWhole found.hash.bytes

module _ (history : History) (formed : IsWellFormed history) (cache : ℕ) (asked : AskedHashes) where
  asked_whole : (list : ListName) → AllByRecursion IsWhole (hashes_asked history asked list)
  asked_whole list =
      kept_by_set _
      (kept_by_filter IsWhole (asks_hash asked) (full_hashes_at history list (version_count history))
      (hashes_whole (sizes_at history list (version_count history)) (sizes_whole history formed list (version_count history))))

  matches_whole : (list : ListName) (hashes : List (List ℕ)) → AllByRecursion IsWhole hashes
      → AllByRecursion HasWhole (map (λ hash. record { name = list; hash = record { bytes = hash }; cache = cache * 1000000000 }) hashes)
  matches_whole list [] h = tt
  matches_whole list (hash ∷ hashes) h = (h.0, matches_whole list hashes h.1)

  lists_whole : (lists : List ListName) → AllByRecursion HasWhole (flat_map (matches_in history cache asked) lists)
  lists_whole [] = tt
  lists_whole (list ∷ lists) =
      kept_by_append HasWhole (matches_in history cache asked list) (flat_map (matches_in history cache asked) lists)
      (matches_whole list (hashes_asked history asked list) (asked_whole list)) (lists_whole lists)

  pub answer_whole : AllByRecursion HasWhole (matches_of history cache asked)
  answer_whole = lists_whole (lists_asked history asked)
