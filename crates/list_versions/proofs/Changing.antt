-- The numbers of a set, of those of another one and of what is in one of the two alone.
use Rattle.std.proofs.Common.{◌≡◌, ◌⊎◌, inl, inr, ℕ, Bool, true, false, not, List, ◌++◌, length, get_or, refl, sym, ap, subst, ◌∙◌, Result, Ok, Err, IfOk}
use Rattle.std.specs.Prelude.{◌==◌, ◌↔◌, Contains}
use Rattle.std.specs.Int.{w32, from_le_bytes, to_le_bytes}
use Rattle.std.specs.List.Sorted.{IsStrictlyIncreasing}
use Rattle.std.proofs.lemmas.List.Elements.{All-contains, Contains-get_or}
use Rattle.sb_model.specs.Difference.{has_member, added_members}
use Rattle.sb_model.specs.Prefixes.{set_of}
use Rattle.list_versions.specs.Numbers.{AreNumbersOf, IsInOne, Tells, numbers_in, quads_in}
use Rattle.list_versions.specs.Shifting.{AreShifted}
use Rattle.list_versions.proofs.Membership.{In, Shows, contains_in, in_contained, in_left, in_right, in_either, in_map, from_map, in_filter, from_filter}
use Rattle.list_versions.proofs.Rising.{has_Contains, Contains-has, from_set, in_set}

abbrev number : List ℕ → ℕ
number member = from_le_bytes w32 member

abbrev has_four : List ℕ → Bool
has_four member = length member == 4

abbrev lacks : List (List ℕ) → List ℕ → Bool
lacks set member = not (has_member set member)

or_not : (set : List (List ℕ)) (x : List ℕ) → In x set ⊎ (In x set → ⊥)
or_not set x = go (has_member set x) refl
  where
    go : (b : Bool) → has_member set x ≡ b → In x set ⊎ (In x set → ⊥)
    go true e = inl (in_contained x set (has_Contains set x e))
    go false e = inr (λ i. let yes = Contains-has set x (contains_in x set i) in cc (e, yes))

is_lacked : (set : List (List ℕ)) (x : List ℕ) → (In x set → ⊥) → lacks set x ≡ true
is_lacked set x none = go (has_member set x) refl
  where
    go : (b : Bool) → has_member set x ≡ b → not b ≡ true
    go true e = absurd (none (in_contained x set (has_Contains set x e)))
    go false e = refl

not_in : (set : List (List ℕ)) (x : List ℕ) → lacks set x ≡ true → In x set → ⊥
not_in set x h i = let yes = Contains-has set x (contains_in x set i) in let no : not true ≡ true = ap not (sym yes) ∙ h in cc

-- what is in one of two sets alone
abbrev pub changed_of : (older newer went came : List (List ℕ)) → List (List ℕ)
changed_of older newer went came = set_of (added_members newer went ++ added_members older came)

pub renumbers : (older newer went came : List (List ℕ)) (numbers few after : List ℕ) → AreShifted older newer went came → AreNumbersOf older numbers → AreNumbersOf (changed_of older newer went came) few
    → IsStrictlyIncreasing after → ((n : ℕ) → Contains after n ↔ IsInOne numbers few n) → AreNumbersOf newer after
renumbers older newer went came numbers few after s h k up is = record {
  rising = up;
  same = λ n. (there n, back n);
  tell = λ i d lt. tells (get_or (quads_in newer) i d) (in_contained (get_or (quads_in newer) i d) (quads_in newer) (Contains-get_or (quads_in newer) i d lt));
}
  where
    changed : List (List ℕ)
    changed = changed_of older newer went came

    in_older : (x : List ℕ) → In x s.both ⊎ In x went → In x older
    in_older x e = subst (In x) (sym s.before) (in_set x (s.both ++ went) (elim e [ inl i ↦ in_left x s.both went i | inr i ↦ in_right x s.both went i ]))

    in_newer : (x : List ℕ) → In x s.both ⊎ In x came → In x newer
    in_newer x e = subst (In x) (sym s.after) (in_set x (s.both ++ came) (elim e [ inl i ↦ in_left x s.both came i | inr i ↦ in_right x s.both came i ]))

    from_older : (x : List ℕ) → In x older → In x s.both ⊎ In x went
    from_older x i = in_either x s.both went (from_set x (s.both ++ went) (subst (In x) s.before i))

    from_newer : (x : List ℕ) → In x newer → In x s.both ⊎ In x came
    from_newer x i = in_either x s.both came (from_set x (s.both ++ came) (subst (In x) s.after i))

    -- what changed is in one of the two
    from_changed : (x : List ℕ) → In x changed → (In x older × (In x newer → ⊥)) ⊎ (In x newer × (In x older → ⊥))
    from_changed x i = elim (in_either x (added_members newer went) (added_members older came) (from_set x (added_members newer went ++ added_members older came) i)) [
      | inl l ↦ (let f = from_filter (lacks newer) x went l in inl (in_older x (inr f.0), not_in newer x f.1))
      | inr r ↦ (let f = from_filter (lacks older) x came r in inr (in_newer x (inr f.0), not_in older x f.1))
    ]

    lost : (x : List ℕ) → In x older → (In x newer → ⊥) → In x changed
    lost x i none = in_set x (added_members newer went ++ added_members older came) (in_left x (added_members newer went) (added_members older came) (elim (from_older x i) [
      | inl b ↦ absurd (none (in_newer x (inl b)))
      | inr w ↦ in_filter (lacks newer) x went (is_lacked newer x none) w
    ]))

    gained : (x : List ℕ) → In x newer → (In x older → ⊥) → In x changed
    gained x i none = in_set x (added_members newer went ++ added_members older came) (in_right x (added_members newer went) (added_members older came) (elim (from_newer x i) [
      | inl b ↦ absurd (none (in_older x (inl b)))
      | inr c ↦ in_filter (lacks older) x came (is_lacked older x none) c
    ]))

    -- numbers of members
    numbered : (set : List (List ℕ)) (ns : List ℕ) → AreNumbersOf set ns → (x : List ℕ) → In x set → has_four x ≡ true → Contains ns (number x)
    numbered set ns a x i four = (a.same (number x)).1 (contains_in (number x) (numbers_in set) (in_map number x (quads_in set) (in_filter has_four x set four i)))

    member_of : (set : List (List ℕ)) (ns : List ℕ) → AreNumbersOf set ns → (n : ℕ) → Contains ns n → Shows (λ x. number x ≡ n) (quads_in set)
    member_of set ns a n c = from_map number n (quads_in set) (in_contained n (numbers_in set) ((a.same n).0 c))

    told : (set : List (List ℕ)) (ns : List ℕ) → AreNumbersOf set ns → (x : List ℕ) → In x (quads_in set) → Tells x
    told set ns a x i = All-contains Tells (quads_in set) x a.tell (contains_in x (quads_in set) i)

    one_member : (x y : List ℕ) → Tells x → Tells y → number x ≡ number y → x ≡ y
    one_member x y tx ty e = sym tx ∙ ap (to_le_bytes w32) e ∙ ty

    tells : (x : List ℕ) → In x (quads_in newer) → Tells x
    tells x i =
        let f = from_filter has_four x newer i in
        elim (or_not older x) [
          | inl o ↦ told older numbers h x (in_filter has_four x older f.1 o)
          | inr none ↦ told changed few k x (in_filter has_four x changed f.1 (gained x f.0 none))
        ]

    there : (n : ℕ) → Contains after n → Contains (numbers_in newer) n
    there n c = elim ((is n).0 c) [
      | inl e ↦ (let m = member_of older numbers h n e.0 in let f = from_filter has_four m.item older m.there in
          elim (or_not newer m.item) [
            | inl i ↦ subst (Contains (numbers_in newer)) m.holds (contains_in (number m.item) (numbers_in newer) (in_map number m.item (quads_in newer) (in_filter has_four m.item newer f.1 i)))
            | inr none ↦ absurd (e.1 (subst (Contains few) m.holds (numbered changed few k m.item (lost m.item f.0 none) f.1)))
          ])
      | inr e ↦ (let m = member_of changed few k n e.1 in let f = from_filter has_four m.item changed m.there in
          elim (from_changed m.item f.0) [
            | inl o ↦ absurd (e.0 (subst (Contains numbers) m.holds (numbered older numbers h m.item o.0 f.1)))
            | inr i ↦ subst (Contains (numbers_in newer)) m.holds (contains_in (number m.item) (numbers_in newer) (in_map number m.item (quads_in newer) (in_filter has_four m.item newer f.1 i.0)))
          ])
    ]

    back : (n : ℕ) → Contains (numbers_in newer) n → Contains after n
    back n c =
        let m = from_map number n (quads_in newer) (in_contained n (numbers_in newer) c) in
        let f = from_filter has_four m.item newer m.there in
        (is n).1 (elim (or_not older m.item) [
          | inl o ↦ inl (
            subst (Contains numbers) m.holds (numbered older numbers h m.item o f.1),
            λ there.
                let g = member_of changed few k n there in
                let same : m.item ≡ g.item = one_member m.item g.item (tells m.item m.there) (told changed few k g.item g.there) (m.holds ∙ sym g.holds) in
                elim (from_changed g.item (from_filter has_four g.item changed g.there).0) [
                  | inl a ↦ a.1 (subst (λ x. In x newer) same f.0)
                  | inr a ↦ a.1 (subst (λ x. In x older) same o)
                ],
          )
          | inr none ↦ inr (
            λ there.
                let g = member_of older numbers h n there in
                let same : m.item ≡ g.item = one_member m.item g.item (tells m.item m.there) (told older numbers h g.item g.there) (m.holds ∙ sym g.holds) in
                none (subst (λ x. In x older) (sym same) (from_filter has_four g.item older g.there).0),
            subst (Contains few) m.holds (numbered changed few k m.item (gained m.item f.0 none) f.1),
          )
        ])

pub renumbers_if : {V E : Type 0} (items : V → List ℕ) (result : Result V E) (older newer went came changed : List (List ℕ)) (numbers few : List ℕ) → AreShifted older newer went came → AreNumbersOf older numbers
    → changed ≡ changed_of older newer went came → AreNumbersOf changed few → IfOk result (λ after. IsStrictlyIncreasing (items after)) → IfOk result (λ after. (n : ℕ) → Contains (items after) n ↔ IsInOne numbers few n)
    → IfOk result (λ after. AreNumbersOf newer (items after))
renumbers_if items (Err fault) older newer went came changed numbers few s h e k up is = tt
renumbers_if items (Ok after) older newer went came changed numbers few s h e k up is =
    renumbers older newer went came numbers few (items after) s h (subst (λ c. AreNumbersOf c few) e k) up is
