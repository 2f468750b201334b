-- One more turn of a loop that appends to a list.
use Rattle.std.proofs.Common.{◌≡◌, ℕ, ◌+◌, ◌<◌, List, ◌++◌, length, take, get_or, sym, ap, ◌∙◌}
use Rattle.std.specs.List.{flat_map}
use Rattle.std.proofs.lemmas.List.{take_more, flat_map_more}

pub appended_more : {X A : Type 0} (f : X → List A) (xs : List X) (i : ℕ) (d : X) (first old new : List A) → i < length xs → old ≡ first ++ flat_map f (take i xs) → new ≡ old ++ f (get_or xs i d)
    → new ≡ first ++ flat_map f (take (i + 1) xs)
appended_more {A} f xs i d first old new below before pushed =
    pushed
    ∙ ap (λ (done : List A). done ++ f (get_or xs i d)) before
    ∙ flat_map_more f first (take i xs) (get_or xs i d)
    ∙ ap (λ ys. first ++ flat_map f ys) (sym (take_more xs i d below))
