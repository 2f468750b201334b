-- When a change has no fault, and what a set without one keeps.
use Rattle.std.proofs.Common.{◌≡◌, ℕ, ◌+◌, ◌<◌, ◌⊎◌, inl, inr, Bool, true, false, cond, List, [], ◌∷◌, ◌++◌, length, refl, sym, ap, subst, ◌∙◌, arith}
use Rattle.std.specs.Prelude.{◌↔◌, nat_lt, Some, None, Option}
use Rattle.std.specs.List.{All, Contains}
use Rattle.std.proofs.lemmas.Bool.{false≢true, ltb-false, le-ltb, lt-leb}
use Rattle.std.proofs.lemmas.List.Elements.{All-nil, All-head, All-tail, Contains-append_left, Contains-append_right, Contains-append_cases}
use Rattle.sb_model.specs.Candidate.{without_places}
use Rattle.sb_model.specs.Difference.{removed_places, added_members}
use Rattle.sb_model.specs.Prefixes.{concatenation}
use Rattle.sb_model.specs.History.{IsPrefixSize}
use Rattle.prefix_set.specs.declared.fault.ApplyFault.TheVariants.{TooMany, TooLarge}
use Rattle.prefix_set.specs.Apply.{applied, first_past, limit_fault, fault_of, apply_fault, Stays}
use Rattle.prefix_set.specs.Limits.{IsPrefixSet, IsWithinLimits}
use Rattle.prefix_set.proofs.DifferenceFacts.{leads_to_newer, removed_within}
use Rattle.prefix_set.proofs.KeptFacts.{is_removed, StaysAt, StaysAt-from_kept, kept_from_StaysAt, is_removed_Contains, Contains-is_removed}
use Rattle.prefix_set.proofs.SetFacts.{rising_nil, members-set_of}

-- the set without a member is within the limits
pub IsPrefixSet-nil : IsPrefixSet []
IsPrefixSet-nil = record { rising = rising_nil; prefixes = All-nil (λ member. IsPrefixSize (length member)); count = omega arith; bytes = omega arith }

-- a set that is kept has no fault of its limits, and the other way round
pub no_limit_fault : (members : List (List ℕ)) → IsWithinLimits members → limit_fault members ≡ None
no_limit_fault members within =
    ap (λ (many : Bool). cond many (Some (TooMany (length members))) (cond (nat_lt 8388608 (length (concatenation members))) (Some (TooLarge (length (concatenation members)))) None))
    (le-ltb 1048576 (length members) within.0)
    ∙ ap (λ (large : Bool). cond large (Some (TooLarge (length (concatenation members)))) None) (le-ltb 8388608 (length (concatenation members)) within.1)

pub within_limits : (members : List (List ℕ)) → limit_fault members ≡ None → IsWithinLimits members
within_limits members h = go (nat_lt 1048576 (length members)) refl (nat_lt 8388608 (length (concatenation members))) refl h
  where
    go : (many : Bool) → nat_lt 1048576 (length members) ≡ many → (large : Bool) → nat_lt 8388608 (length (concatenation members)) ≡ large
        → cond many (Some (TooMany (length members))) (cond large (Some (TooLarge (length (concatenation members)))) None) ≡ None → IsWithinLimits members
    go true is_many large is_large h = cc
    go false is_many true is_large h = cc
    go false is_many false is_large h = (ltb-false 1048576 (length members) is_many, ltb-false 8388608 (length (concatenation members)) is_large)

-- no index is past a length that all are below
pub none_past : (len : ℕ) (indices : List ℕ) → All (λ index. index < len) indices → first_past len indices ≡ None
none_past len [] h = refl
none_past len (x ∷ xs) h =
    ap (λ (b : Bool). cond b (Some x) (first_past len xs)) (lt-leb len x (All-head (λ index. index < len) x xs h))
    ∙ none_past len xs (All-tail (λ index. index < len) x xs h)

-- the places that a newer set lacks are places of the older one
pub removed_in_range : (old newer : List (List ℕ)) → first_past (length old) (removed_places old newer) ≡ None
removed_in_range old newer = none_past (length old) (removed_places old newer) (removed_within old newer)

pub no_apply_fault : (set : List (List ℕ)) (removals : List ℕ) (additions : List (List ℕ)) → first_past (length set) removals ≡ None
    → limit_fault (applied set removals additions) ≡ None → apply_fault set removals additions ≡ None
no_apply_fault set removals additions none within =
    ap (λ (o : Option ℕ). fault_of o (length set) (applied set removals additions)) none ∙ within

-- ---- in plain words

stays_not : (removals : List ℕ) (place : ℕ) → is_removed removals place ≡ false → Contains removals place → ⊥
stays_not removals place stays h = false≢true (sym stays ∙ Contains-is_removed removals place h)

is_not_removed : (removals : List ℕ) (place : ℕ) → (Contains removals place → ⊥) → is_removed removals place ≡ false
is_not_removed removals place none = go (is_removed removals place) (λ h. none (is_removed_Contains removals place h))
  where
    go : (b : Bool) → (b ≡ true → ⊥) → b ≡ false
    go true none = absurd (none refl)
    go false none = refl

pub Stays-from_kept : (set : List (List ℕ)) (removals x : List ℕ) → Contains (without_places set removals) x → Stays set removals x
Stays-from_kept set removals x h =
    let s : StaysAt 0 set removals x = StaysAt-from_kept 0 set removals x h in
    let here : 0 + s.place ≡ s.place = omega arith in
    (s.place, s.is, stays_not removals s.place (subst (λ (place : ℕ). is_removed removals place ≡ false) here s.stays))

pub kept_from_Stays : (set : List (List ℕ)) (removals x : List ℕ) → Stays set removals x → Contains (without_places set removals) x
kept_from_Stays set removals x h =
    let here : h.0 ≡ 0 + h.0 = omega arith in
    kept_from_StaysAt 0 set removals x (record { place = h.0; is = h.1; stays = subst (λ (place : ℕ). is_removed removals place ≡ false) here (is_not_removed removals h.0 h.2) })

pub members-applied : (set : List (List ℕ)) (removals : List ℕ) (additions : List (List ℕ)) (x : List ℕ)
    → Contains (applied set removals additions) x ↔ (Stays set removals x ⊎ Contains additions x)
members-applied set removals additions x = (
  λ h. to (Contains-append_cases (without_places set removals) additions x ((members-set_of (without_places set removals ++ additions) x).0 h)),
  λ h. (members-set_of (without_places set removals ++ additions) x).1 (from h),
)
  where
    to : Contains (without_places set removals) x ⊎ Contains additions x → Stays set removals x ⊎ Contains additions x
    to (inl h) = inl (Stays-from_kept set removals x h)
    to (inr h) = inr h

    from : Stays set removals x ⊎ Contains additions x → Contains (without_places set removals ++ additions) x
    from (inl h) = Contains-append_left (without_places set removals) additions x (kept_from_Stays set removals x h)
    from (inr h) = Contains-append_right (without_places set removals) additions x h

-- ---- a difference, where the lists are known by equations

module _ (old newer held wanted additions : List (List ℕ)) (removals : List ℕ) (set : IsPrefixSet newer) (is_held : held ≡ old) (is_wanted : wanted ≡ newer)
    (is_removed_places : removals ≡ removed_places held wanted) (is_added : additions ≡ added_members held wanted) where
  are_removals : removals ≡ removed_places old newer
  are_removals = is_removed_places ∙ (λ i. removed_places (is_held i) (is_wanted i))

  are_additions : additions ≡ added_members old newer
  are_additions = is_added ∙ (λ i. added_members (is_held i) (is_wanted i))

  pub difference_leads : applied old removals additions ≡ newer
  difference_leads = (λ i. applied old (are_removals i) (are_additions i)) ∙ leads_to_newer old newer set.rising

  pub difference_applies : apply_fault old removals additions ≡ None
  difference_applies =
      no_apply_fault old removals additions
      (ap (first_past (length old)) are_removals ∙ removed_in_range old newer)
      (ap limit_fault difference_leads ∙ no_limit_fault newer (set.count, set.bytes))
