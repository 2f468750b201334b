-- The prefixes of a well-formed history: none is empty.
use Rattle.std.proofs.Common.{◌≡◌, ℕ, ◌≤◌, List, [], ◌∷◌, length, take, map, Bool, true, false, cond, not, arith}
use Rattle.std.specs.Prelude.{fold, All, Contains}
use Rattle.std.specs.Str.{bytes_eq}
use Rattle.std.specs.List.{AllByRecursion}
use Rattle.std.proofs.lemmas.List.{length-take}
use Rattle.std.proofs.lemmas.List.Elements.{recursion_from_All, All-weaker, All-take, All-contains, All-contains_itself, All-from_recursion}
use Rattle.sb_model.specs.declared.history.Added.{Added}
use Rattle.sb_model.specs.declared.history.Change.{Change}
use Rattle.sb_model.specs.declared.names.ListName.{ListName}
use Rattle.sb_model.specs.Names.{same_name}
use Rattle.sb_model.specs.History.{History, IsPrefixSize, IsWellFormed, version_count, without_hash, with_added, after_change, sizes_at, prefix_of, prefixes_at}
use Rattle.sb_round.proofs.SetMembers.{append-all, filter-all, map-all, weaker-all, fold-keeps, fold-keeps_always, set_of-all}

-- a hash of 32 bytes with a size that a prefix may have
abbrev IsSized : Added → Type 0
IsSized added = (length added.hash ≡ 32) × IsPrefixSize added.size

sized-after_change : (list : ListName) (entries : List Added) (change : Change) → AllByRecursion IsSized change.adds
    → AllByRecursion IsSized entries → AllByRecursion IsSized (after_change list entries change)
sized-after_change list entries change adds all = go (same_name change.list list)
  where
    taken_out : AllByRecursion IsSized (fold without_hash entries change.removes)
    taken_out = fold-keeps_always (AllByRecursion IsSized) without_hash
        (λ es hash more. filter-all IsSized (λ entry. not (bytes_eq entry.hash hash)) es more) entries change.removes all

    put_in : AllByRecursion IsSized (fold with_added (fold without_hash entries change.removes) change.adds)
    put_in = fold-keeps (AllByRecursion IsSized) IsSized with_added
        (λ es added here more. append-all IsSized (without_hash es added.hash) (added ∷ [])
        (filter-all IsSized (λ entry. not (bytes_eq entry.hash added.hash)) es more) (here, tt))
        (fold without_hash entries change.removes) change.adds taken_out adds

    go : (b : Bool) → AllByRecursion IsSized (cond b (fold with_added (fold without_hash entries change.removes) change.adds) entries)
    go true = put_in
    go false = all

sized-sizes_at : (history : History) → IsWellFormed history → (list : ListName) (version : ℕ) → AllByRecursion IsSized (sizes_at history list version)
sized-sizes_at history formed list version =
    let each : All (λ change. AllByRecursion IsSized change.adds) history.changes =
    All-weaker (λ (change : Change). All IsSized change.adds) (λ (change : Change). AllByRecursion IsSized change.adds)
    (λ change all. recursion_from_All IsSized change.adds all) history.changes formed.adds in
    fold-keeps (AllByRecursion IsSized) (λ (change : Change). AllByRecursion IsSized change.adds) (after_change list)
    (λ entries change adds all. sized-after_change list entries change adds all) [] (take version history.changes) tt
    (recursion_from_All (λ (change : Change). AllByRecursion IsSized change.adds) (take version history.changes)
    (All-take (λ (change : Change). AllByRecursion IsSized change.adds) version history.changes each))

some-prefix_of : (entry : Added) → IsSized entry → 1 ≤ length (prefix_of entry)
some-prefix_of entry (whole, size) = let low = size.low in omega (arith, length-take entry.size entry.hash, whole, low)

some-prefixes_at : (history : History) → IsWellFormed history → (list : ListName) (version : ℕ) → AllByRecursion (λ p. 1 ≤ length p) (prefixes_at history list version)
some-prefixes_at history formed list version =
    set_of-all (λ p. 1 ≤ length p) (map prefix_of (sizes_at history list version))
    (map-all (λ (p : List ℕ). 1 ≤ length p) prefix_of (sizes_at history list version)
    (weaker-all IsSized (λ entry. 1 ≤ length (prefix_of entry)) some-prefix_of (sizes_at history list version) (sized-sizes_at history formed list version)))

-- a prefix of the list at some version
pub record IsServed (history : History) (list : ListName) (prefix : List ℕ) : Type 0 where
  pub version : ℕ
  pub within : version ≤ version_count history
  pub there : Contains (prefixes_at history list version) prefix

pub served-prefixes_at : (history : History) (list : ListName) (version : ℕ) → version ≤ version_count history
    → AllByRecursion (IsServed history list) (prefixes_at history list version)
served-prefixes_at history list version within =
    weaker-all (Contains (prefixes_at history list version)) (IsServed history list)
    (λ prefix there. record { version = version; within = within; there = there }) (prefixes_at history list version)
    (recursion_from_All (Contains (prefixes_at history list version)) (prefixes_at history list version) (All-contains_itself (prefixes_at history list version)))

pub some-served : (history : History) → IsWellFormed history → (list : ListName) (prefix : List ℕ) → IsServed history list prefix → 1 ≤ length prefix
some-served history formed list prefix served =
    All-contains (λ (p : List ℕ). 1 ≤ length p) (prefixes_at history list served.version) prefix
    (All-from_recursion (λ (p : List ℕ). 1 ≤ length p) (prefixes_at history list served.version) (some-prefixes_at history formed list served.version))
    served.there
