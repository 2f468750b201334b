-- What the stretches of a prefix cover, one after the other.
use Rattle.std.proofs.Common.{◌≡◌, ℕ, ◌<◌, ◌≤◌, ◌⊎◌, inl, inr, Bool, true, false, List, [], ◌∷◌, ◌++◌, refl, sym, ap, subst, ◌∙◌, arith}
use Rattle.std.specs.Prelude.{◌&&◌, ◌||◌, ◌==◌, nat_le, nat_lt, max, min, All}
use Rattle.std.proofs.lemmas.Bool.{eqb-true, lt-ltb, ltb-true, ltb-false, le-leb, leb-true}
use Rattle.list_versions.specs.declared.stretch.Stretch.{Stretch}
use Rattle.list_versions.specs.Stretches.{ComesBefore}
use Rattle.delta_server.specs.declared.covered.Covered.{Covered}
use Rattle.delta_server.specs.Sweeping.{has_version, is_head_shown, shows_first, Covers, StandsBefore}
use Rattle.delta_server.proofs.Membership.{In, in_right, in_either}
use Rattle.delta_server.proofs.ShownFacts.{same_test, both_true, first_true, second_true, not_true, either_true, not_false, false_not, any_in, of_all, all_of, shown_push}

-- nothing is covered before the first stretch
pub nothing_covered : (now : Covered) (first end : ℕ) → now.head ≡ 0 → now.reach ≡ first → now.held ≡ false → first ≤ end → Covers now first end []
nothing_covered now first end lowest reach held within = record {
  low = omega (arith, reach);
  high = omega (arith, reach);
  greatest = λ head. (λ all. omega (arith, lowest), λ below. all_of (λ t. t.head ≤ head) [] (λ t h. absurd h));
  covered = λ version low high all. sym (not_true (nat_lt version now.reach) (λ h. let less : version < now.reach = ltb-true version now.reach h in absurd (omega (arith, reach))));
  held = held;
}

before_of : (s t : Stretch) → ComesBefore t s → t.head ≤ s.head
before_of s t (inl less) = omega (arith, less)
before_of s t (inr both) = omega (arith, both.0)

from_of : (s t : Stretch) → ComesBefore t s → t.head ≡ s.head → t.from ≤ s.from
from_of s t (inl less) same = absurd (omega (arith, less, same))
from_of s t (inr both) same = both.1

module _ (now : Covered) (first end : ℕ) (done : List Stretch) (s : Stretch) (covers : Covers now first end done) (before : All (λ earlier. ComesBefore earlier s) done) where
  abbrev each : (t : Stretch) → In t done → ComesBefore t s
  each t there = of_all (λ earlier. ComesBefore earlier s) done before t there

  -- the next stretch has the present prefix
  pub same_prefix : s.head ≡ now.head → StandsBefore now first end done s
  same_prefix same = record {
    covered = λ version low high from.
        ap (λ (head : ℕ). is_head_shown done head version) same
        ∙ covers.covered version low high (all_of (λ t. t.head ≡ now.head → t.from ≤ version) done (λ t there is.
        let no_later : t.from ≤ s.from = from_of s t (each t there) (is ∙ sym same) in omega arith));
    held = covers.held ∙ ap (λ (head : ℕ). is_head_shown done head first) (sym same);
  }

  -- it has another one
  pub other_prefix : (s.head ≡ now.head → ⊥) → (next : Covered) → next.reach ≡ first → next.held ≡ false → StandsBefore next first end done s
  other_prefix other next reach held = record {
    covered = λ version low high from.
        none version ∙ sym (not_true (nat_lt version next.reach) (λ h. let less : version < next.reach = ltb-true version next.reach h in absurd (omega (arith, reach))));
    held = held ∙ sym (none first);
  }
    where
      none : (version : ℕ) → is_head_shown done s.head version ≡ false
      none version = not_true (is_head_shown done s.head version) (λ h.
          let found = any_in (λ t. t.head == s.head && has_version version t) done h in
          let same : found.0.head ≡ s.head = eqb-true found.0.head s.head (first_true _ _ found.2) in
          let own : now.head ≤ now.head = omega arith in
          let few : found.0.head ≤ now.head = of_all (λ t. t.head ≤ now.head) done ((covers.greatest now.head).1 own) found.0 found.1 in
          let less : now.head ≤ s.head = (covers.greatest s.head).0 (all_of (λ t. t.head ≤ s.head) done (λ t there. before_of s t (each t there))) in
          other (omega (arith, same, few, less)))

-- ---- with the next stretch

module _ (before next : Covered) (first end : ℕ) (done : List Stretch) (s : Stretch) (stands : StandsBefore before first end done s)
    (begin : next.begin ≡ max s.from before.reach) (reach : next.reach ≡ max (min s.until end) next.begin) where
  -- what it covers anew is what it shows first
  pub shows_anew : (version : ℕ) → first ≤ version → version < end → (nat_le next.begin version && nat_lt version next.reach) ≡ shows_first done s version
  shows_anew version low high = same_test (nat_le next.begin version && nat_lt version next.reach) (shows_first done s version) to back
    where
      to : (nat_le next.begin version && nat_lt version next.reach) ≡ true → shows_first done s version ≡ true
      to h =
          let after : next.begin ≤ version = leb-true next.begin version (first_true _ _ h) in
          let less : version < next.reach = ltb-true version next.reach (second_true (nat_le next.begin version) _ h) in
          let from : s.from ≤ version = omega (arith, begin, after) in
          let until : version < s.until = omega (arith, begin, reach, after, less) in
          both_true (has_version version s) _ (both_true (nat_le s.from version) _ (le-leb s.from version from) (lt-ltb version s.until until))
          (not_false (is_head_shown done s.head version) (stands.covered version low high from
          ∙ not_true (nat_lt version before.reach) (λ k. let inside : version < before.reach = ltb-true version before.reach k in absurd (omega (arith, begin, after, inside)))))

      back : shows_first done s version ≡ true → (nat_le next.begin version && nat_lt version next.reach) ≡ true
      back h =
          let has : has_version version s ≡ true = first_true (has_version version s) _ h in
          let from : s.from ≤ version = leb-true s.from version (first_true _ _ has) in
          let until : version < s.until = ltb-true version s.until (second_true (nat_le s.from version) _ has) in
          let none : nat_lt version before.reach ≡ false = sym (stands.covered version low high from) ∙ false_not (is_head_shown done s.head version) (second_true (has_version version s) _ h) in
          let past_reach : before.reach ≤ version = ltb-false version before.reach none in
          both_true (nat_le next.begin version) _ (le-leb next.begin version (omega (arith, begin, from, past_reach))) (lt-ltb version next.reach (omega (arith, reach, until, high)))

  pub covers_next : next.head ≡ s.head → next.held ≡ (before.held || has_version first s) → first ≤ before.reach → before.reach ≤ end → s.from ≤ end
      → All (λ earlier. ComesBefore earlier s) done → Covers next first end (done ++ s ∷ [])
  covers_next head held low high from each = record {
    low = omega (arith, begin, reach);
    high = omega (arith, begin, reach);
    greatest = λ most. (
      λ all. let own : s.head ≤ most = of_all (λ t. t.head ≤ most) (done ++ s ∷ []) all s (in_right s done (s ∷ []) (inl refl)) in omega (arith, head, own),
      λ below. all_of (λ t. t.head ≤ most) (done ++ s ∷ []) (λ t there. within most (omega (arith, head, below)) t (in_either t done (s ∷ []) there)),
    );
    covered = λ version inside before_end all.
        let began : s.from ≤ version = of_all (λ t. t.head ≡ next.head → t.from ≤ version) (done ++ s ∷ []) all s (in_right s done (s ∷ []) (inl refl)) (sym head) in
        ap (λ (h : ℕ). is_head_shown (done ++ s ∷ []) h version) head ∙ shown_push done s version
        ∙ ap (λ (t : Bool). t || has_version version s) (stands.covered version inside before_end began)
        ∙ reached version before_end began;
    held =
        held ∙ ap (λ (t : Bool). t || has_version first s) stands.held ∙ sym (shown_push done s first) ∙ ap (λ (h : ℕ). is_head_shown (done ++ s ∷ []) h first) (sym head);
  }
    where
      within : (most : ℕ) → s.head ≤ most → (t : Stretch) → In t done ⊎ In t (s ∷ []) → t.head ≤ most
      within most below t (inl there) = let less : t.head ≤ s.head = before_of s t (of_all (λ earlier. ComesBefore earlier s) done each t there) in omega arith
      within most below t (inr (inl e)) = subst (λ (x : Stretch). x.head ≤ most) e below
      within most below t (inr (inr none)) = absurd none

      reached : (version : ℕ) → version < end → s.from ≤ version → (nat_lt version before.reach || has_version version s) ≡ nat_lt version next.reach
      reached version inside began = same_test (nat_lt version before.reach || has_version version s) (nat_lt version next.reach) to back
        where
          to : (nat_lt version before.reach || has_version version s) ≡ true → nat_lt version next.reach ≡ true
          to h = elim (either_true (nat_lt version before.reach) (has_version version s) h) [
            | inl less ↦ let within : version < before.reach = ltb-true version before.reach less in lt-ltb version next.reach (omega (arith, begin, reach))
            | inr has ↦ let until : version < s.until = ltb-true version s.until (second_true (nat_le s.from version) _ has) in lt-ltb version next.reach (omega (arith, reach))
          ]

          back : nat_lt version next.reach ≡ true → (nat_lt version before.reach || has_version version s) ≡ true
          back h =
              let less : version < next.reach = ltb-true version next.reach h in
              go (nat_lt version before.reach) refl less
            where
              go : (t : Bool) → nat_lt version before.reach ≡ t → version < next.reach → (t || has_version version s) ≡ true
              go true is less = refl
              go false is less =
                  let past_reach : before.reach ≤ version = ltb-false version before.reach is in
                  both_true (nat_le s.from version) _ (le-leb s.from version began) (lt-ltb version s.until (omega (arith, begin, reach)))
