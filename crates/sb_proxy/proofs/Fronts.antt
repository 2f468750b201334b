-- A text of which a front was written.
use Rattle.std.proofs.Common.{◌≡◌, ◌≢◌, ℕ, List, [], take, drop, length, ◌<◌, ap, ◌∙◌, Option, arith}
use Rattle.std.proofs.lemmas.List.{length-drop, take-append-drop}
use Rattle.sb_outside.specs.Outside.{appended}
use Rattle.sb_outside.specs.Writing.{HasFront}

drop_some : (n : ℕ) (xs : List ℕ) → n < length xs → drop n xs ≢ []
drop_some n xs h = λ e. let none : length (drop n xs) ≡ 0 = ap length e in absurd (omega (arith, none, length-drop n xs, h))

-- the first bytes of a text, which are not all
pub front_of : (held held' : Option (List ℕ)) (n : ℕ) (piece text : List ℕ) → piece ≡ text → n < length piece → held' ≡ appended held (take n piece) → HasFront held held' text
front_of held held' n piece text same short has = record {
  taken = take n text;
  lost = drop n text;
  has = has ∙ ap (λ (bytes : List ℕ). appended held (take n bytes)) same;
  rest = take-append-drop n text;
  missing = drop_some n text (omega (arith, short, ap length same));
}
