-- The components of a path, written one after the other.
use Rattle.std.proofs.Common.{◌≡◌, ℕ, ◌+◌, ◌<◌, List, [], ◌∷◌, ◌++◌, Bool, not, ◌||◌, cond, map, drop, length, get_or, eqb, ◌-◌, ◌≤◌, arith, refl, sym, ap, ◌∙◌}
use Rattle.std.proofs.lemmas.List.{append_assoc, length-drop, drop_more}
use Rattle.std.specs.Borrow.{Bor}
use Rattle.std.proofs.lemmas.Bool.{ne_eqb}
use Rattle.std.proofs.lemmas.Bool.Decides.{nat_tests}
use Rattle.url_canon.specs.Words.{is_nil}
use Rattle.url_canon.specs.Escaping.{escaped}
use Rattle.url_canon.specs.Path.{path_text, without_empty}

-- the components of a canonical path, escaped
abbrev pub written : List (List ℕ) → List ℕ
written components = path_text (map escaped (without_empty components))

-- the components from the first on
pub written-step : (component : List ℕ) (components : List (List ℕ)) → written (component ∷ components) ≡ cond (not (is_nil component) || is_nil components) (47 ∷ escaped component) [] ++ written components
written-step [] [] = refl
written-step (b ∷ bs) [] = refl
written-step [] (next ∷ components) = refl
written-step (b ∷ bs) (next ∷ components) = refl

is_nil-length : {X : Type 0} (xs : List X) → is_nil xs ≡ eqb (length xs) 0
is_nil-length [] = refl
is_nil-length (x ∷ xs) = sym (ne_eqb (length (x ∷ xs)) 0 (λ e. omega arith))

is_nil-map : {X Y : Type 0} (f : X → Y) (xs : List X) → is_nil (map f xs) ≡ is_nil xs
is_nil-map f [] = refl
is_nil-map f (x ∷ xs) = refl

-- nothing is after the last
pub is_nil-rest : {X : Type 0} (xs : List X) (i : ℕ) (r : Bool) → i < length xs → r ≡ eqb (i + 1) (length xs) → is_nil (drop (i + 1) xs) ≡ r
is_nil-rest xs i r inside e =
    is_nil-length (drop (i + 1) xs) ∙ (ap (λ k. eqb k 0) (length-drop (i + 1) xs) ∙ (same (i + 1) (length xs) (omega arith) ∙ sym e))
  where
    same : (a b : ℕ) → a ≤ b → eqb (b - a) 0 ≡ eqb a b
    same a b h = grind (arith, nat_tests)

-- one turn of the loop that writes them
pub written-turn : (components : List (Bor (List ℕ))) (i : ℕ) (d : Bor (List ℕ)) (is_last : Bool) (out done all : List ℕ) → i < length components → is_last ≡ eqb (i + 1) (length components)
    → done ≡ out ++ cond (not (is_nil (get_or components i d).now) || is_last) (47 ∷ escaped (get_or components i d).now) []
    → out ++ written (map (λ c. c.now) (drop i components)) ≡ all
    → done ++ written (map (λ c. c.now) (drop (i + 1) components)) ≡ all
written-turn components i d is_last out done all inside last step so_far =
    let component : List ℕ = (get_or components i d).now in
    let rest : List (List ℕ) = map (λ c. c.now) (drop (i + 1) components) in
    let here : written (map (λ c. c.now) (drop i components)) ≡ written (component ∷ rest) = ap (λ cs. written (map (λ c. c.now) cs)) (drop_more components i d inside) in
    let later : is_nil rest ≡ is_last = is_nil-map (λ c. c.now) (drop (i + 1) components) ∙ is_nil-rest components i is_last inside last in
    let split : written (component ∷ rest) ≡ cond (not (is_nil component) || is_last) (47 ∷ escaped component) [] ++ written rest = written-step component rest ∙ ap (λ b. cond (not (is_nil component) || b) (47 ∷ escaped component) [] ++ written rest) later in
    ap (λ r. r ++ written rest) step ∙ (append_assoc out (cond (not (is_nil component) || is_last) (47 ∷ escaped component) []) (written rest) ∙ (ap (λ r. out ++ r) (sym (here ∙ split)) ∙ so_far))
