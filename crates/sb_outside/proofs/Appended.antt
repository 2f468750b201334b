-- Bytes that a sink takes one after the other.
use Rattle.std.proofs.Common.{◌≡◌, ℕ, ◌+◌, List, ◌++◌, take, drop, Option, Some, None, refl, sym, ap, ◌∙◌, append_assoc}
use Rattle.std.proofs.Math.Seq.{take-add}
use Rattle.sb_outside.specs.Outside.{appended}

-- bytes after bytes are both, one after the other
pub appended-appended : (known : Option (List ℕ)) (front back : List ℕ) → appended (appended known front) back ≡ appended known (front ++ back)
appended-appended None front back = refl
appended-appended (Some bytes) front back = ap (λ bs. Some bs) (append_assoc bytes front back)

-- the next bytes of a piece after its first are a longer front of it
pub appended_more : (known : Option (List ℕ)) (piece : List ℕ) (i n : ℕ) → appended (appended known (take i piece)) (take n (drop i piece)) ≡ appended known (take (i + n) piece)
appended_more known piece i n =
    appended-appended known (take i piece) (take n (drop i piece)) ∙ ap (λ front. appended known front) (sym (take-add i n piece))
