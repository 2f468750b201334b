-- The prefixes of the versions of a well-formed history, and of its fronts.
use Rattle.std.proofs.Common.{◌≡◌, ℕ, zero, suc, ◌<◌, ◌≤◌, inl, inr, List, [], ◌∷◌, length, take, map, Bool, true, false, cond, not, ap, subst, arith}
use Rattle.std.specs.Prelude.{fold, All, Contains, ◌↔◌}
use Rattle.std.specs.Str.{bytes_eq}
use Rattle.std.specs.List.{AllByRecursion}
use Rattle.std.proofs.lemmas.List.{length-take, take-take}
use Rattle.std.proofs.lemmas.List.Elements.{recursion_from_All}
use Rattle.sb_model.specs.declared.history.Added.{Added}
use Rattle.sb_model.specs.declared.history.Change.{Change}
use Rattle.sb_model.specs.declared.names.ListName.{ListName}
use Rattle.sb_model.specs.Names.{same_name}
use Rattle.sb_model.specs.Prefixes.{set_of}
use Rattle.sb_model.specs.History.{History, IsPrefixSize, IsWellFormed, up_to_version, without_hash, with_added, after_change, sizes_at, prefix_of, prefixes_at}
use Rattle.update_client.specs.Genuine.{HasByteHashes}
use Rattle.update_client.proofs.Membership.{In, in_contained, contains_in, from_map, of_each, each_in, in_either, from_filter}

-- a string of 4 to 32 bytes
pub record IsPrefix (prefix : List ℕ) : Type 0 where
  pub low : 4 ≤ length prefix
  pub high : length prefix ≤ 32
  pub bytes : AllByRecursion (λ byte. byte < 256) prefix

-- a hash of 32 bytes with a size that a prefix may have
pub record IsSized (added : Added) : Type 0 where
  pub whole : length added.hash ≡ 32
  pub size : IsPrefixSize added.size
  pub bytes : AllByRecursion (λ byte. byte < 256) added.hash

take_bytes : (n : ℕ) (bytes : List ℕ) → AllByRecursion (λ byte. byte < 256) bytes → AllByRecursion (λ byte. byte < 256) (take n bytes)
take_bytes zero bytes all = tt
take_bytes (suc n) [] all = tt
take_bytes (suc n) (byte ∷ bytes) all = (all.0, take_bytes n bytes all.1)

prefix_of_sized : (added : Added) → IsSized added → IsPrefix (prefix_of added)
prefix_of_sized added sized =
    let low : 4 ≤ added.size = sized.size.low in
    let high : added.size ≤ 32 = sized.size.high in
    record {
      low = omega (arith, length-take added.size added.hash, sized.whole);
      high = omega (arith, length-take added.size added.hash, sized.whole);
      bytes = take_bytes added.size added.hash sized.bytes;
    }

-- ---- a change keeps what holds of each entry

without_keeps : (entries : List Added) (hash : List ℕ) → AllByRecursion IsSized entries → AllByRecursion IsSized (without_hash entries hash)
without_keeps entries hash all =
    each_in IsSized (without_hash entries hash) (λ e h. of_each IsSized e entries all (from_filter (λ (entry : Added). not (bytes_eq entry.hash hash)) e entries h).0)

added_keeps : (entries : List Added) (added : Added) → IsSized added → AllByRecursion IsSized entries → AllByRecursion IsSized (with_added entries added)
added_keeps entries added sized all = each_in IsSized (with_added entries added) (λ e h. elim (in_either e (without_hash entries added.hash) (added ∷ []) h) [
  | inl front ↦ of_each IsSized e (without_hash entries added.hash) (without_keeps entries added.hash all) front
  | inr one ↦ of_each IsSized e (added ∷ []) (sized, tt) one
])

removes_keep : (entries : List Added) (hashes : List (List ℕ)) → AllByRecursion IsSized entries → AllByRecursion IsSized (fold without_hash entries hashes)
removes_keep entries [] all = all
removes_keep entries (hash ∷ hashes) all = removes_keep (without_hash entries hash) hashes (without_keeps entries hash all)

adds_keep : (entries : List Added) (adds : List Added) → AllByRecursion IsSized adds → AllByRecursion IsSized entries → AllByRecursion IsSized (fold with_added entries adds)
adds_keep entries [] sized all = all
adds_keep entries (added ∷ adds) sized all = adds_keep (with_added entries added) adds sized.1 (added_keeps entries added sized.0 all)

change_keeps : (list : ListName) (entries : List Added) (change : Change) → AllByRecursion IsSized change.adds → AllByRecursion IsSized entries
    → AllByRecursion IsSized (after_change list entries change)
change_keeps list entries change sized all = go (same_name change.list list)
  where
    go : (b : Bool) → AllByRecursion IsSized (cond b (fold with_added (fold without_hash entries change.removes) change.adds) entries)
    go true = adds_keep (fold without_hash entries change.removes) change.adds sized (removes_keep entries change.removes all)
    go false = all

-- each of the adds is sized
abbrev AddsSized : Change → Type 0
AddsSized change = AllByRecursion IsSized change.adds

folded : (list : ListName) (entries : List Added) (changes : List Change) → AllByRecursion AddsSized changes → AllByRecursion IsSized entries
    → AllByRecursion IsSized (fold (after_change list) entries changes)
folded list entries [] sized all = all
folded list entries (change ∷ changes) sized all = folded list (after_change list entries change) changes sized.1 (change_keeps list entries change sized.0 all)

take_sized : (n : ℕ) (changes : List Change) → AllByRecursion AddsSized changes → AllByRecursion AddsSized (take n changes)
take_sized zero changes all = tt
take_sized (suc n) [] all = tt
take_sized (suc n) (change ∷ changes) all = (all.0, take_sized n changes all.1)

adds_sized : (adds : List Added) → AllByRecursion (λ added. (length added.hash ≡ 32) × IsPrefixSize added.size) adds
    → AllByRecursion (λ added. All (λ byte. byte < 256) added.hash) adds → AllByRecursion IsSized adds
adds_sized [] formed bytes = tt
adds_sized (added ∷ adds) formed bytes = (
  record {
    whole = formed.0.0;
    size = formed.0.1;
    bytes = recursion_from_All (λ byte. byte < 256) added.hash bytes.0;
  },
  adds_sized adds formed.1 bytes.1,
)

changes_sized : (changes : List Change) → AllByRecursion (λ (change : Change). All (λ added. (length added.hash ≡ 32) × IsPrefixSize added.size) change.adds) changes
    → AllByRecursion (λ (change : Change). All (λ added. All (λ byte. byte < 256) added.hash) change.adds) changes → AllByRecursion AddsSized changes
changes_sized [] formed bytes = tt
changes_sized (change ∷ changes) formed bytes = (
  adds_sized change.adds (recursion_from_All (λ (added : Added). (length added.hash ≡ 32) × IsPrefixSize added.size) change.adds formed.0)
      (recursion_from_All (λ (added : Added). All (λ byte. byte < 256) added.hash) change.adds bytes.0),
  changes_sized changes formed.1 bytes.1,
)

-- ---- the prefixes of a version

sized-sizes_at : (history : History) → IsWellFormed history → HasByteHashes history → (list : ListName) (version : ℕ) → AllByRecursion IsSized (sizes_at history list version)
sized-sizes_at history formed bytes list version =
    folded list [] (take version history.changes)
    (take_sized version history.changes
    (changes_sized history.changes
    (recursion_from_All (λ (change : Change). All (λ added. (length added.hash ≡ 32) × IsPrefixSize added.size) change.adds) history.changes formed.adds)
    (recursion_from_All (λ (change : Change). All (λ added. All (λ byte. byte < 256) added.hash) change.adds) history.changes bytes))) tt

pub prefixes-prefixes_at : ((xs : List (List ℕ)) (x : List ℕ) → Contains (set_of xs) x ↔ Contains xs x)
    → (history : History) → IsWellFormed history → HasByteHashes history → (list : ListName) (version : ℕ) → AllByRecursion IsPrefix (prefixes_at history list version)
prefixes-prefixes_at members history formed bytes list version = each_in IsPrefix (prefixes_at history list version) (λ prefix h.
    let there : In prefix (map prefix_of (sizes_at history list version)) =
    in_contained prefix (map prefix_of (sizes_at history list version))
    ((members (map prefix_of (sizes_at history list version)) prefix).0 (contains_in prefix (prefixes_at history list version) h)) in
    let from : (added : Added) × In added (sizes_at history list version) × (prefix_of added ≡ prefix) = from_map prefix_of prefix (sizes_at history list version) there in
    subst IsPrefix from.2 (prefix_of_sized from.0 (of_each IsSized from.0 (sizes_at history list version) (sized-sizes_at history formed bytes list version) from.1)))

-- a front has the prefixes of the whole, as far as it goes
pub prefixes_at-up_to : (history : History) (count : ℕ) (list : ListName) (version : ℕ) → version ≤ count
    → prefixes_at (up_to_version count history) list version ≡ prefixes_at history list version
prefixes_at-up_to history count list version below =
    ap (λ (changes : List Change). set_of (map prefix_of (fold (after_change list) [] changes))) (take-take version count history.changes below)
