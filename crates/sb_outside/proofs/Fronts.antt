-- Bytes that a source gives one after the other.
use Rattle.std.proofs.Common.{◌≡◌, List, ℕ, ◌++◌, Option, Some, None, refl, sym, ap, ◌∙◌, append_assoc}
use Rattle.sb_outside.specs.Outside.{GivesFront, prepended}

pub prepended-prepended : (front back : List ℕ) (known : Option (List ℕ)) → prepended front (prepended back known) ≡ prepended (front ++ back) known
prepended-prepended front back None = refl
prepended-prepended front back (Some bytes) = ap Some (sym (append_assoc front back bytes))

pub front_then : (front back : List ℕ) (a b c : Option (List (List ℕ))) → GivesFront front a b → GivesFront back b c → GivesFront (front ++ back) a c
front_then front back a b c first then = record {
  front = first.front ∙ ap (λ known. prepended front known) then.front ∙ prepended-prepended front back _;
  later = then.later ∙ first.later;
}
