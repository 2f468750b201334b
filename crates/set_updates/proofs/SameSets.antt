-- Nothing leads from a set to itself.
use Rattle.std.proofs.Common.{◌≡◌, ℕ, ◌+◌, inl, inr, Bool, true, false, cond, not, List, [], ◌∷◌, map, refl, ap, ◌∙◌}
use Rattle.std.specs.Prelude.{◌||◌, filter}
use Rattle.std.specs.List.{enumerate_from}
use Rattle.std.specs.Str.{bytes_eq}
use Rattle.std.proofs.lemmas.Slice.Eq.{bytes_eq-Decides}
use Rattle.sb_model.specs.Difference.{has_member, removed_places, added_members}
use Rattle.set_updates.proofs.Membership.{In}

in_has : (set : List (List ℕ)) (x : List ℕ) → In x set → has_member set x ≡ true
in_has [] x h = absurd h
in_has (y ∷ ys) x (inl same) = ap (λ (t : Bool). t || has_member ys x) ((bytes_eq-Decides y x).1 same)
in_has (y ∷ ys) x (inr h) = go (bytes_eq y x) (in_has ys x h)
  where
    go : (t : Bool) → has_member ys x ≡ true → (t || has_member ys x) ≡ true
    go true is = refl
    go false is = is

module _ (set : List (List ℕ)) where
  none_added : (members : List (List ℕ)) → ((x : List ℕ) → In x members → In x set) → filter (λ (member : List ℕ). not (has_member set member)) members ≡ []
  none_added [] own = refl
  none_added (m ∷ ms) own =
      ap (λ (b : Bool). cond (not b) (m ∷ filter (λ (member : List ℕ). not (has_member set member)) ms) (filter (λ (member : List ℕ). not (has_member set member)) ms)) (in_has set m (own m (inl refl)))
      ∙ none_added ms (λ x h. own x (inr h))

  none_removed : (n : ℕ) (members : List (List ℕ)) → ((x : List ℕ) → In x members → In x set)
      → map (λ (member : ℕ × List ℕ). member.0) (filter (λ (member : ℕ × List ℕ). not (has_member set member.1)) (enumerate_from n members)) ≡ []
  none_removed n [] own = refl
  none_removed n (m ∷ ms) own =
      ap (λ (b : Bool). map (λ (member : ℕ × List ℕ). member.0) (cond (not b) ((n, m) ∷ filter (λ (member : ℕ × List ℕ). not (has_member set member.1)) (enumerate_from (n + 1) ms)) (filter (λ (member : ℕ × List ℕ). not (has_member set member.1)) (enumerate_from (n + 1) ms))))
      (in_has set m (own m (inl refl)))
      ∙ none_removed (n + 1) ms (λ x h. own x (inr h))

  pub unchanged_adds : added_members set set ≡ []
  unchanged_adds = none_added set (λ x h. h)

  pub unchanged_removes : removed_places set set ≡ []
  unchanged_removes = none_removed 0 set (λ x h. h)
