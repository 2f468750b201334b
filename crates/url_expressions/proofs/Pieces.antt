-- Texts that are pieces of one text, told apart by their places.
use Rattle.std.proofs.Common.{◌≡◌, ℕ, ◌≤◌, List, [], ◌∷◌, ◌++◌, Bool, true, false, eqb, cond, ◌||◌, length, take, drop, refl, sym, ap, ◌∙◌, arith, length-drop, ⊎_elim, All}
use Rattle.std.specs.Prelude.{map}
use Rattle.std.specs.List.{list_any, AllByRecursion}
use Rattle.std.specs.Str.{bytes_eq}
use Rattle.std.proofs.lemmas.Bool.{false_from_ne_true, eqb-true, eqb-false, cases_Bool, cond_both}
use Rattle.std.proofs.lemmas.List.{map-append, length-take-le}
use Rattle.std.proofs.lemmas.List.Elements.{recursion_from_All, All-append, All-cons, All-nil}
use Rattle.std.proofs.lemmas.Slice.Eq.{bytes_eq-Decides}
use Rattle.url_expressions.specs.Expressions.{first_occurrences}
use Rattle.url_expressions.proofs.Occurrences.{with_new, first_occurrences_push}

abbrev pub pushed : List ℕ → ℕ → List ℕ
pushed places place = cond (list_any (λ p. eqb p place) places) places (places ++ place ∷ [])

-- places up to `most` give other texts
abbrev pub TellsApart : (ℕ → List ℕ) → ℕ → Type 0
TellsApart piece most = (a b : ℕ) → a ≤ most → b ≤ most → piece a ≡ piece b → a ≡ b

pub fronts_apart : (text : List ℕ) → TellsApart (λ len. take len text) (length text)
fronts_apart text a b small small' e =
    omega (arith, length-take-le a text small, length-take-le b text small', ap (λ t. length t) e)

pub backs_apart : (text : List ℕ) → TellsApart (λ place. drop place text) (length text)
backs_apart text a b small small' e = omega (arith, length-drop a text, length-drop b text, ap (λ t. length t) e)

module _ (piece : ℕ → List ℕ) (most : ℕ) (apart : TellsApart piece most) where
  same : (a b : ℕ) → a ≤ most → b ≤ most → bytes_eq (piece a) (piece b) ≡ eqb a b
  same a b small small' =
      ⊎_elim
      (λ yes. (bytes_eq-Decides (piece a) (piece b)).1 (ap piece (eqb-true a b yes)) ∙ sym yes)
      (λ other. false_from_ne_true (bytes_eq (piece a) (piece b)) (λ t. eqb-false a b other (apart a b small small' ((bytes_eq-Decides (piece a) (piece b)).0 t))) ∙ sym other)
      (cases_Bool (eqb a b))

  any_same : (places : List ℕ) (place : ℕ) → AllByRecursion (λ p. p ≤ most) places → place ≤ most → list_any (λ y. bytes_eq y (piece place)) (map piece places) ≡ list_any (λ p. eqb p place) places
  any_same [] place h small = refl
  any_same (p ∷ places) place h small =
      ap (λ b. b || list_any (λ y. bytes_eq y (piece place)) (map piece places)) (same p place h.0 small) ∙ ap (λ b. eqb p place || b) (any_same places place h.1 small)

  map-pushed : (places : List ℕ) (place : ℕ) (b : Bool) → map piece (cond b places (places ++ place ∷ [])) ≡ cond b (map piece places) (map piece places ++ piece place ∷ [])
  map-pushed places place true = refl
  map-pushed places place false = map-append piece places (place ∷ [])

  -- one place more, unless it is there already
  pub pushed_piece : (places : List ℕ) (place : ℕ) (texts : List (List ℕ)) → All (λ p. p ≤ most) places → place ≤ most → map piece places ≡ first_occurrences texts → map piece (pushed places place) ≡ first_occurrences (texts ++ piece place ∷ [])
  pushed_piece places place texts h small so_far =
      map-pushed places place (list_any (λ p. eqb p place) places)
      ∙ ap (λ b. cond b (map piece places) (map piece places ++ piece place ∷ [])) (sym (any_same places place (recursion_from_All (λ p. p ≤ most) places h) small))
      ∙ ap (λ found. with_new found (piece place)) so_far
      ∙ sym (first_occurrences_push texts (piece place))

pub pushed_within : (most : ℕ) (places : List ℕ) (place : ℕ) → All (λ p. p ≤ most) places → place ≤ most → All (λ p. p ≤ most) (pushed places place)
pushed_within most places place h small =
    cond_both (list_any (λ p. eqb p place) places) places (places ++ place ∷ []) (All (λ p. p ≤ most)) (λ _. h) (λ _. All-append (λ p. p ≤ most) places (place ∷ []) h (All-cons (λ p. p ≤ most) place [] small (All-nil (λ p. p ≤ most))))
