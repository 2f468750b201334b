-- Full hashes of which each stands once.
use Rattle.std.proofs.Common.{◌≡◌, ℕ, List, [], ◌∷◌, ◌++◌, refl, sym, ap, subst, ◌∙◌, Bool, true, false, not, cond, fold, map, take}
use Rattle.std.specs.Prelude.{filter}
use Rattle.std.specs.Cmp.Lexicographic.{nat_list_eq_equiv}
use Rattle.std.specs.List.{AllByRecursion, IsDistinct, list_any}
use Rattle.std.specs.Str.{bytes_eq}
use Rattle.std.proofs.lemmas.List.{map-append}
use Rattle.std.proofs.lemmas.Map.Keys.{IsDistinct-push}
use Rattle.sb_model.specs.declared.history.Added.{Added}
use Rattle.sb_model.specs.declared.history.Change.{Change}
use Rattle.sb_model.specs.declared.names.ListName.{ListName}
use Rattle.sb_model.specs.History.{History, after_change, sizes_at, without_hash, with_added}
use Rattle.sb_model.specs.Names.{same_name}
use Rattle.list_versions.proofs.Finding.{same_bytes, bytes_are_same}

abbrev hashes_of : List Added → List (List ℕ)
hashes_of entries = map (λ (entry : Added). entry.hash) entries

abbrev IsOnce : List Added → Type 0
IsOnce entries = IsDistinct bytes_eq (hashes_of entries)

-- ---- some of them

others_kept : (Q : List ℕ → Type 0) (p : Added → Bool) (x : Added) (xs : List Added) (b : Bool) → Q x.hash → AllByRecursion Q (hashes_of (filter p xs))
    → AllByRecursion Q (hashes_of (cond b (x ∷ filter p xs) (filter p xs)))
others_kept Q p x xs true h rest = (h, rest)
others_kept Q p x xs false h rest = rest

all_kept : (Q : List ℕ → Type 0) (p : Added → Bool) (xs : List Added) → AllByRecursion Q (hashes_of xs) → AllByRecursion Q (hashes_of (filter p xs))
all_kept Q p [] h = tt
all_kept Q p (x ∷ xs) h = others_kept Q p x xs (p x) h.0 (all_kept Q p xs h.1)

once_kept : (p : Added → Bool) (x : Added) (xs : List Added) (b : Bool) → AllByRecursion (λ hash. bytes_eq x.hash hash ≡ false) (hashes_of (filter p xs)) → IsOnce (filter p xs)
    → IsOnce (cond b (x ∷ filter p xs) (filter p xs))
unfolding IsDistinct
once_kept p x xs true apart rest = (apart, rest)
once_kept p x xs false apart rest = rest

once_filter : (p : Added → Bool) (xs : List Added) → IsOnce xs → IsOnce (filter p xs)
unfolding IsDistinct
once_filter p [] h = tt
once_filter p (x ∷ xs) h = once_kept p x xs (p x) (all_kept (λ hash. bytes_eq x.hash hash ≡ false) p xs h.0) (once_filter p xs h.1)

-- ---- one more

lacks_at : (hash : List ℕ) (x : Added) (xs : List Added) (b : Bool) → bytes_eq x.hash hash ≡ b → list_any (bytes_eq hash) (hashes_of (without_hash xs hash)) ≡ false
    → list_any (bytes_eq hash) (hashes_of (cond (not b) (x ∷ without_hash xs hash) (without_hash xs hash))) ≡ false
lacks_at hash x xs true e rest = rest
lacks_at hash x xs false e rest = at (bytes_eq hash x.hash) refl
  where
    at : (c : Bool) → bytes_eq hash x.hash ≡ c → list_any (bytes_eq hash) (x.hash ∷ hashes_of (without_hash xs hash)) ≡ false
    at true same = absurd (let is : bytes_eq x.hash hash ≡ true = subst (λ (other : List ℕ). bytes_eq other hash ≡ true) (same_bytes hash x.hash same) (bytes_are_same hash) in cc (is, e))
    at false apart = rw apart rest

-- a hash that was taken out is not there
lacks_hash : (hash : List ℕ) (xs : List Added) → list_any (bytes_eq hash) (hashes_of (without_hash xs hash)) ≡ false
lacks_hash hash [] = refl
lacks_hash hash (x ∷ xs) = lacks_at hash x xs (bytes_eq x.hash hash) refl (lacks_hash hash xs)

once_without : (xs : List Added) (hash : List ℕ) → IsOnce xs → IsOnce (without_hash xs hash)
once_without xs hash h = once_filter (λ (entry : Added). not (bytes_eq entry.hash hash)) xs h

once_with : (xs : List Added) (added : Added) → IsOnce xs → IsOnce (with_added xs added)
once_with xs added h =
    subst (λ (hashes : List (List ℕ)). IsDistinct bytes_eq hashes) (sym (map-append (λ (entry : Added). entry.hash) (without_hash xs added.hash) (added ∷ [])))
    (IsDistinct-push nat_list_eq_equiv (hashes_of (without_hash xs added.hash)) added.hash (once_without xs added.hash h) (lacks_hash added.hash xs))

-- ---- a version

once_removed : (removes : List (List ℕ)) (xs : List Added) → IsOnce xs → IsOnce (fold without_hash xs removes)
once_removed [] xs h = h
once_removed (hash ∷ removes) xs h = once_removed removes (without_hash xs hash) (once_without xs hash h)

once_added : (adds : List Added) (xs : List Added) → IsOnce xs → IsOnce (fold with_added xs adds)
once_added [] xs h = h
once_added (added ∷ adds) xs h = once_added adds (with_added xs added) (once_with xs added h)

once_cond : (b : Bool) (xs ys : List Added) → IsOnce xs → IsOnce ys → IsOnce (cond b xs ys)
once_cond true xs ys h k = h
once_cond false xs ys h k = k

once_changed : (list : ListName) (changes : List Change) (xs : List Added) → IsOnce xs → IsOnce (fold (after_change list) xs changes)
once_changed list [] xs h = h
once_changed list (change ∷ changes) xs h =
    once_changed list changes (after_change list xs change) (once_cond (same_name change.list list) _ xs (once_added change.adds (fold without_hash xs change.removes) (once_removed change.removes xs h)) h)

once_nothing : IsOnce []
unfolding IsDistinct
once_nothing = tt

-- each full hash of a version stands there once
pub once_at : (history : History) (list : ListName) (version : ℕ) → IsOnce (sizes_at history list version)
once_at history list version = once_changed list (take version history.changes) [] once_nothing
