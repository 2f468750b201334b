-- What is left of an answer that shares a text, once some of the text is sent.
use Rattle.std.proofs.Common.{◌≡◌, ℕ, zero, suc, ◌+◌, ◌<◌, ◌≤◌, List, [], ◌++◌, length, drop, sym, ap, ◌∙◌, arith}
use Rattle.std.specs.Prelude.{◌==◌, Bool, true}
use Rattle.std.proofs.lemmas.Bool.Decides.{nat_tests}
use Rattle.gathering.specs.Wires.{first_length}
use Rattle.gathering.proofs.Pieces.{moved_on}

pub no_length : (front shown : List ℕ) (r : Bool) → shown ≡ front → r ≡ (length shown == 0) → r ≡ true → length front ≡ 0
no_length front shown r same is holds = ap length (sym same) ∙ grind (arith, nat_tests)

-- where the first length is 0 and the second is not, that is the second
pub of_shared : (a b c count : ℕ) → a ≡ 0 → 0 < b → count ≤ first_length a b c → count ≤ b
of_shared zero zero c count none some within = absurd (omega arith)
of_shared zero (suc b) c count none some within = within
of_shared (suc a) b c count none some within = absurd (omega arith)

pub shared_moves : (front rest text tail now : List ℕ) (sent count : ℕ) → front ≡ [] → rest ≡ [] → (front ++ rest) ++ (drop sent text ++ tail) ≡ now → count ≤ length (drop sent text)
    → (front ++ rest) ++ (drop (sent + count) text ++ tail) ≡ drop count now
shared_moves front rest text tail now sent count none none' whole within = rw (← whole, none, none') (moved_on text tail sent count within)
