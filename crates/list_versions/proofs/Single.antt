-- Lists that have each full hash once.
use Rattle.std.proofs.Common.{◌≡◌, ◌⊎◌, ℕ, List, [], ◌∷◌, refl, sym, ap, subst, ◌∙◌, inl, inr, Bool, true, false, not, cond, fold, Some, Result, Ok, Err, IfOk}
use Rattle.std.specs.Prelude.{Contains}
use Rattle.std.specs.Str.{bytes_eq}
use Rattle.sb_model.specs.declared.history.Added.{Added}
use Rattle.sb_model.specs.declared.history.Change.{Change}
use Rattle.sb_model.specs.declared.names.ListName.{ListName}
use Rattle.sb_model.specs.History.{after_change, without_hash, with_added}
use Rattle.sb_model.specs.Names.{same_name}
use Rattle.list_versions.specs.Folding.{after_changes}
use Rattle.list_versions.specs.HashSizes.{HashSizes, size_of_hash, IsMapOf}
use Rattle.list_versions.proofs.Finding.{same_bytes, bytes_are_same}
use Rattle.list_versions.proofs.Membership.{In, contains_in, in_contained, in_left, in_right, in_either, in_filter, from_filter}

-- each full hash stands there with one size
pub record IsSingle (entries : List Added) : Type 0 where
  pub one : (a b : Added) → In a entries → In b entries → a.hash ≡ b.hash → a ≡ b

abbrev lacks : List ℕ → Added → Bool
lacks hash entry = not (bytes_eq entry.hash hash)

single_nothing : IsSingle []
single_nothing = record { one = λ a b i j e. absurd i }

single_without : (entries : List Added) (hash : List ℕ) → IsSingle entries → IsSingle (without_hash entries hash)
single_without entries hash h = record { one = λ a b i j e. h.one a b (from_filter (lacks hash) a entries i).0 (from_filter (lacks hash) b entries j).0 e }

-- a hash that was taken out is not there
not_left : (entries : List Added) (hash : List ℕ) (a : Added) → In a (without_hash entries hash) → a.hash ≡ hash → ⊥
not_left entries hash a i e =
    let kept = (from_filter (lacks hash) a entries i).1 in
    let same : bytes_eq a.hash hash ≡ true = ap (λ x. bytes_eq x hash) e ∙ bytes_are_same hash in
    cc (ap not same, kept)

one_with : (entries : List Added) (added a b : Added) → IsSingle entries → In a (without_hash entries added.hash) ⊎ In a (added ∷ []) → In b (without_hash entries added.hash) ⊎ In b (added ∷ []) → a.hash ≡ b.hash → a ≡ b
one_with entries added a b h (inl i) (inl j) e = (single_without entries added.hash h).one a b i j e
one_with entries added a b h (inl i) (inr (inl is)) e = absurd (not_left entries added.hash a i (e ∙ ap (λ (x : Added). x.hash) (sym is)))
one_with entries added a b h (inl i) (inr (inr nothing)) e = absurd nothing
one_with entries added a b h (inr (inl is)) (inl j) e = absurd (not_left entries added.hash b j (sym e ∙ ap (λ (x : Added). x.hash) (sym is)))
one_with entries added a b h (inr (inl is)) (inr (inl is')) e = sym is ∙ is'
one_with entries added a b h (inr (inl is)) (inr (inr nothing)) e = absurd nothing
one_with entries added a b h (inr (inr nothing)) j e = absurd nothing

single_with : (entries : List Added) (added : Added) → IsSingle entries → IsSingle (with_added entries added)
single_with entries added h = record {
  one = λ a b i j e. one_with entries added a b h (in_either a (without_hash entries added.hash) (added ∷ []) i) (in_either b (without_hash entries added.hash) (added ∷ []) j) e;
}

single_removed : (removes : List (List ℕ)) (entries : List Added) → IsSingle entries → IsSingle (fold without_hash entries removes)
single_removed [] entries h = h
single_removed (hash ∷ removes) entries h = single_removed removes (without_hash entries hash) (single_without entries hash h)

single_added : (adds entries : List Added) → IsSingle entries → IsSingle (fold with_added entries adds)
single_added [] entries h = h
single_added (added ∷ adds) entries h = single_added adds (with_added entries added) (single_with entries added h)

single_cond : (b : Bool) (x y : List Added) → IsSingle x → IsSingle y → IsSingle (cond b x y)
single_cond true x y h k = h
single_cond false x y h k = k

single_change : (list : ListName) (entries : List Added) (change : Change) → IsSingle entries → IsSingle (after_change list entries change)
single_change list entries change h =
    single_cond (same_name change.list list) _ entries (single_added change.adds (fold without_hash entries change.removes) (single_removed change.removes entries h)) h

single_changes : (list : ListName) (changes : List Change) (entries : List Added) → IsSingle entries → IsSingle (fold (after_change list) entries changes)
single_changes list [] entries h = h
single_changes list (change ∷ changes) entries h = single_changes list changes (after_change list entries change) (single_change list entries change h)

pub single_after : (list : ListName) (changes : List Change) → IsSingle (after_changes list changes)
single_after list changes = single_changes list changes [] single_nothing

-- ---- entries that are put one after the other

from_fold : (adds entries : List Added) (x : Added) → In x (fold with_added entries adds) → In x entries ⊎ In x adds
from_fold [] entries x i = inl i
from_fold (added ∷ adds) entries x i = from_more (from_fold adds (with_added entries added) x i)
  where
    from_one : In x (without_hash entries added.hash) ⊎ In x (added ∷ []) → In x entries ⊎ In x (added ∷ adds)
    from_one (inl k) = inl (from_filter (lacks added.hash) x entries k).0
    from_one (inr (inl is)) = inr (inl is)
    from_one (inr (inr nothing)) = absurd nothing

    from_more : In x (with_added entries added) ⊎ In x adds → In x entries ⊎ In x (added ∷ adds)
    from_more (inl k) = from_one (in_either x (without_hash entries added.hash) (added ∷ []) k)
    from_more (inr k) = inr (inr k)

-- what is there stays, since all are of one list that has each hash once
stays_with : (all entries : List Added) (added x : Added) (b : Bool) → bytes_eq x.hash added.hash ≡ b → IsSingle all → In added all → In x all → In x entries → In x (with_added entries added)
stays_with all entries added x true e h i j k = in_right x (without_hash entries added.hash) (added ∷ []) (inl (h.one added x i j (sym (same_bytes x.hash added.hash e))))
stays_with all entries added x false e h i j k = in_left x (without_hash entries added.hash) (added ∷ []) (in_filter (lacks added.hash) x entries (ap not e) k)

into_fold : (all adds entries : List Added) (x : Added) → IsSingle all → ((y : Added) → In y adds → In y all) → In x all → In x entries ⊎ In x adds → In x (fold with_added entries adds)
into_fold all [] entries x h within i (inl k) = k
into_fold all [] entries x h within i (inr nothing) = absurd nothing
into_fold all (added ∷ adds) entries x h within i (inl k) =
    into_fold all adds (with_added entries added) x h (λ y j. within y (inr j)) i (inl (stays_with all entries added x (bytes_eq x.hash added.hash) refl h (within added (inl refl)) i k))
into_fold all (added ∷ adds) entries x h within i (inr (inl is)) =
    into_fold all adds (with_added entries added) x h (λ y j. within y (inr j)) i (inl (in_right x (without_hash entries added.hash) (added ∷ []) (inl is)))
into_fold all (added ∷ adds) entries x h within i (inr (inr k)) = into_fold all adds (with_added entries added) x h (λ y j. within y (inr j)) i (inr k)

-- a map of the entries, put one after the other
pub mapped_each : (sizes : HashSizes) (entries : List Added) → IsSingle entries → IsMapOf sizes (fold with_added [] entries) → IsMapOf sizes entries
mapped_each sizes entries h map = record { same = λ hash size. (there hash size, back hash size) }
  where
    there : (hash : List ℕ) (size : ℕ) → Contains entries (record { hash = hash; size = size }) → size_of_hash sizes hash ≡ Some size
    there hash size c =
        let x : Added = record { hash = hash; size = size } in
        (map.same hash size).0 (contains_in x (fold with_added [] entries) (into_fold entries entries [] x h (λ y j. j) (in_contained x entries c) (inr (in_contained x entries c))))

    back : (hash : List ℕ) (size : ℕ) → size_of_hash sizes hash ≡ Some size → Contains entries (record { hash = hash; size = size })
    back hash size k =
        let x : Added = record { hash = hash; size = size } in
        elim (from_fold entries [] x (in_contained x (fold with_added [] entries) ((map.same hash size).1 k))) [ inl nothing ↦ absurd nothing | inr j ↦ contains_in x entries j ]

pub map_after : {E : Type 0} (result : Result HashSizes E) (list : ListName) (changes : List Change) (entries : List Added) → entries ≡ after_changes list changes
    → IfOk result (λ sizes. IsMapOf sizes (fold with_added [] entries)) → IfOk result (λ sizes. IsMapOf sizes (after_changes list changes))
map_after (Ok sizes) list changes entries e h = mapped_each sizes (after_changes list changes) (single_after list changes) (subst (λ es. IsMapOf sizes (fold with_added [] es)) e h)
map_after (Err fault) list changes entries e h = tt
