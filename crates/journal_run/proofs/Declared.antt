-- A list that has a declared size is declared.
use Rattle.std.proofs.Common.{◌≡◌, ℕ, List, [], ◌∷◌, Bool, true, false, refl, Some}
use Rattle.std.specs.Prelude.{find, option_map}
use Rattle.std.specs.List.{list_any}
use Rattle.sb_model.specs.declared.names.ListName.{ListName}
use Rattle.sb_model.specs.History.{History, declares}
use Rattle.sb_model.specs.Names.{same_name}
use Rattle.list_versions.specs.Journal.{declared_size_of}

step : {X : Type 0} (p : X → Bool) (f : X → ℕ) (x : X) (xs : List X) (y : ℕ) (b : Bool) → p x ≡ b → (option_map f (find p xs) ≡ Some y → list_any p xs ≡ true)
    → option_map f (find p (x ∷ xs)) ≡ Some y → list_any p (x ∷ xs) ≡ true
step p f x xs y true h next e = rw h refl
step p f x xs y false h next e = rw h (next (rw h at e))

found : {X : Type 0} (p : X → Bool) (f : X → ℕ) (xs : List X) (y : ℕ) → option_map f (find p xs) ≡ Some y → list_any p xs ≡ true
found p f [] y e = absurd (cc)
found p f (x ∷ xs) y e = step p f x xs y (p x) refl (found p f xs y) e

pub declared_is : (history : History) (list : ListName) (size : ℕ) → declared_size_of history list ≡ Some size → declares history list ≡ true
declared_is history list size e = found (λ (declared : ListName × ℕ). same_name declared.0 list) (λ declared. declared.1) history.declared size e
