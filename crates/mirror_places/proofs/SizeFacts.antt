-- Whether each member of a set has four bytes.
use Rattle.std.proofs.Common.{◌≡◌, ℕ, ◌<◌, ◌≤◌, inl, inr, List, [], ◌∷◌, Bool, true, false, length, refl, sym, ap, ◌∙◌, arith}
use Rattle.std.specs.Prelude.{All, nat_eq, ◌&&◌, ◌||◌}
use Rattle.std.specs.List.{list_all, list_any}
use Rattle.std.proofs.lemmas.Bool.{cases_lt, eq-eqb, eqb-true, ne_eqb}
use Rattle.std.proofs.lemmas.List.Elements.{All-head, All-tail}
use Rattle.std.proofs.lemmas.List.Folds.{Any-from_list_any, list_all_at}
use Rattle.sb_model.specs.History.{IsPrefixSize}
use Rattle.update_messages.specs.Answer.{has_size}

abbrev pub HasNone : ℕ → List (List ℕ) → Type 0
HasNone n set = list_any (λ member. nat_eq (length member) n) set ≡ false

pub not_four : (set : List (List ℕ)) (n : ℕ) → 5 ≤ n → list_any (λ member. nat_eq (length member) n) set ≡ true → list_all (has_size 4) set ≡ false
not_four set n large is =
    let one = Any-from_list_any (λ (member : List ℕ). nat_eq (length member) n) set is in
    let long : length one.1 ≡ n = eqb-true (length one.1) n one.4 in
    list_all_at (has_size 4) set one.0 one.1 one.2
    (ap (λ (member : List ℕ). has_size 4 member) one.3 ∙ ne_eqb (length one.1) 4 (λ four. absurd (omega (arith, four, long, large))))

or_left : (a b : Bool) → (a || b) ≡ false → a ≡ false
or_left true b h = absurd (cc)
or_left false b h = refl

or_right : (a b : Bool) → (a || b) ≡ false → b ≡ false
or_right true b h = absurd (cc)
or_right false b h = h

pub each_four : (set : List (List ℕ)) → All (λ member. IsPrefixSize (length member)) set → ((n : ℕ) → 5 ≤ n → n < 33 → HasNone n set) → list_all (has_size 4) set ≡ true
each_four [] sizes none = refl
each_four (m ∷ ms) sizes none =
    ap (λ b. b && list_all (has_size 4) ms) (eq-eqb (length m) 4 four)
    ∙ each_four ms (All-tail (λ member. IsPrefixSize (length member)) m ms sizes)
    (λ n low high. or_right (nat_eq (length m) n) (list_any (λ member. nat_eq (length member) n) ms) (none n low high))
  where
    own : IsPrefixSize (length m)
    own = All-head (λ member. IsPrefixSize (length member)) m ms sizes

    four : length m ≡ 4
    four = elim (cases_lt 4 (length m)) [
      | inl more ↦
          let no : nat_eq (length m) (length m) ≡ false =
          or_left (nat_eq (length m) (length m)) (list_any (λ member. nat_eq (length member) (length m)) ms) (none (length m) (omega (arith, more)) (omega (arith, own.high))) in
          absurd (cc (sym no ∙ eq-eqb (length m) (length m) refl))
      | inr less ↦ omega (arith, less, own.low)
    ]
