-- What leads from one version of a list to another, told by its stretches.
use Rattle.std.proofs.Common.{◌≡◌, ℕ, ◌^◌, ◌<◌, ◌≤◌, inl, inr, List, [], ◌∷◌, ◌++◌, length, map, take, drop, refl, ap, sym, ◌∙◌, arith, length-append}
use Rattle.std.proofs.lemmas.List.{length-map, take_at, drop_at}
use Rattle.std.proofs.lemmas.List.Elements.{All-contains}
use Rattle.sha2.specs.Sha256.{sha256}
use Rattle.prefix_set.specs.declared.difference.Delta.{Delta}
use Rattle.prefix_set.specs.Packing.{HaveSize}
use Rattle.prefix_set.specs.declared.set.TheConstants.{MAX_PREFIXES}
use Rattle.sb_model.specs.declared.names.ListName.{ListName}
use Rattle.sb_model.specs.Difference.{removed_places, added_members}
use Rattle.sb_model.specs.History.{History, version_count, prefix_of, sizes_at, prefixes_at}
use Rattle.sb_model.specs.Prefixes.{concatenation, set_of}
use Rattle.list_versions.specs.Limits.{WithinLimits}
use Rattle.list_versions.specs.Stretches.{AreStretches}
use Rattle.list_versions.specs.declared.stretch.Stretch.{Stretch}
use Rattle.delta_server.specs.Served.{LeadsTo}
use Rattle.delta_server.specs.Sweeping.{shown_at}
use Rattle.delta_server.proofs.CountFacts.{SetLaws}
use Rattle.delta_server.proofs.Membership.{In, contains_in}
use Rattle.delta_server.proofs.PassageFacts.{quads_shown}
use Rattle.delta_server.proofs.ShownFacts.{few_with, shown_is}

few_members : (xs : List (List ℕ)) → length (set_of xs) ≤ length xs
few_members [] = omega arith
few_members (x ∷ xs) = omega (arith, few_with x (set_of xs), few_members xs)

-- a version has no more prefixes than a set
pub few_prefixes : (versions : History) (list : ListName) (version : ℕ) → WithinLimits versions → version ≤ version_count versions → length (prefixes_at versions list version) ≤ MAX_PREFIXES
few_prefixes versions list version within below =
    omega (arith, (within list version below).count, few_members (map prefix_of (sizes_at versions list version)), length-map (sizes_at versions list version) prefix_of)

-- strings of four bytes that stand one after the other are told apart
same_quads : (xs ys : List (List ℕ)) → ((x : List ℕ) → In x xs → length x ≡ 4) → ((y : List ℕ) → In y ys → length y ≡ 4) → concatenation xs ≡ concatenation ys → xs ≡ ys
same_quads [] [] few less is = refl
same_quads [] (y ∷ ys) few less is =
    let long : 0 ≡ length (y ++ concatenation ys) = ap length is in absurd (omega (arith, long, length-append y (concatenation ys), less y (inl refl)))
same_quads (x ∷ xs) [] few less is =
    let long : length (x ++ concatenation xs) ≡ 0 = ap length is in absurd (omega (arith, long, length-append x (concatenation xs), few x (inl refl)))
same_quads (x ∷ xs) (y ∷ ys) few less is =
    let joined : x ++ concatenation xs ≡ y ++ concatenation ys = is in
    let first : x ≡ y = sym (take_at x (concatenation xs) 4 (few x (inl refl))) ∙ ap (take 4) joined ∙ take_at y (concatenation ys) 4 (less y (inl refl)) in
    let tail : concatenation xs ≡ concatenation ys = sym (drop_at x (concatenation xs) 4 (few x (inl refl))) ∙ ap (drop 4) joined ∙ drop_at y (concatenation ys) 4 (less y (inl refl)) in
    let rest : xs ≡ ys = same_quads xs ys (λ z h. few z (inr h)) (λ z h. less z (inr h)) tail in
    λ i. first i ∷ rest i

-- a set that was read of the bytes of what stretches show
pub read_set : (stretches : List Stretch) (version : ℕ) (set : List (List ℕ)) (bytes : List ℕ) → HaveSize 4 set → concatenation set ≡ bytes
    → bytes ≡ concatenation (shown_at stretches version) → set ≡ shown_at stretches version
read_set stretches version set bytes sizes is shown =
    same_quads set (shown_at stretches version) (λ x h. All-contains (λ (member : List ℕ). length member ≡ 4) set x sizes (contains_in x set h)) (quads_shown stretches version) (is ∙ shown)

module _ (laws : SetLaws) (versions : History) (list : ListName) (stretches : List Stretch) (are : AreStretches versions list stretches) where
  pub few_at : (version : ℕ) → version ≤ version_count versions → WithinLimits versions → length (shown_at stretches version) < 2 ^ 32
  few_at version within limits =
      let same = ap length (shown_is laws versions list stretches version are within) in
      let few = few_prefixes versions list version limits within in
      omega (arith, same, few)

  pub set_is : (version : ℕ) → version ≤ version_count versions → (set : List (List ℕ)) (bytes : List ℕ) → HaveSize 4 set → concatenation set ≡ bytes
      → bytes ≡ concatenation (shown_at stretches version) → set ≡ prefixes_at versions list version
  set_is version within set bytes sizes is shown = read_set stretches version set bytes sizes is shown ∙ sym (shown_is laws versions list stretches version are within)

  pub digest_is : (version : ℕ) → version ≤ version_count versions → (digest : List ℕ) → digest ≡ sha256 (concatenation (shown_at stretches version))
      → digest ≡ sha256 (concatenation (prefixes_at versions list version))
  digest_is version within digest is = is ∙ ap (λ (set : List (List ℕ)). sha256 (concatenation set)) (sym (shown_is laws versions list stretches version are within))

  pub lead_is : (held version : ℕ) → held ≤ version_count versions → version ≤ version_count versions → (delta : Delta)
      → delta.removals ≡ removed_places (shown_at stretches held) (shown_at stretches version)
      → delta.additions ≡ added_members (shown_at stretches held) (shown_at stretches version) → LeadsTo versions list held version delta
  lead_is held version within below delta removals additions =
      let old : prefixes_at versions list held ≡ shown_at stretches held = shown_is laws versions list stretches held are within in
      let newer : prefixes_at versions list version ≡ shown_at stretches version = shown_is laws versions list stretches version are below in
      record {
        removals = removals ∙ ap (λ (set : List (List ℕ)). removed_places set (shown_at stretches version)) (sym old)
            ∙ ap (λ (set : List (List ℕ)). removed_places (prefixes_at versions list held) set) (sym newer);
        additions = additions ∙ ap (λ (set : List (List ℕ)). added_members set (shown_at stretches version)) (sym old)
            ∙ ap (λ (set : List (List ℕ)). added_members (prefixes_at versions list held) set) (sym newer);
      }
