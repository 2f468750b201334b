-- A text that was on its way to the output, and what waited of it was written, or a front of that.
use Rattle.std.proofs.Common.{◌≡◌, ℕ, List, ◌++◌, refl, ap, ◌∙◌, Option, Some, None, append_assoc}
use Rattle.sb_outside.specs.Outside.{appended}
use Rattle.sb_outside.specs.Writing.{IsOnItsWay, HasFront}

appended_twice : (known : Option (List ℕ)) (a b : List ℕ) → appended (appended known a) b ≡ appended known (a ++ b)
appended_twice None a b = refl
appended_twice (Some bytes) a b = ap Some (append_assoc bytes a b)

-- all that waited
pub way_whole : (before between after : Option (List ℕ)) (waiting text : List ℕ) → IsOnItsWay before between waiting text → after ≡ appended between waiting
    → after ≡ appended before text
way_whole before between after waiting text way is =
    is ∙ ap (λ known. appended known waiting) way.has ∙ appended_twice before way.taken waiting ∙ ap (λ bytes. appended before bytes) way.rest

-- a front of it
pub way_cut : (before between after : Option (List ℕ)) (waiting text : List ℕ) → IsOnItsWay before between waiting text → HasFront between after waiting
    → HasFront before after text
way_cut before between after waiting text way front = record {
  taken = way.taken ++ front.taken;
  lost = front.lost;
  has = front.has ∙ ap (λ known. appended known front.taken) way.has ∙ appended_twice before way.taken front.taken;
  rest = append_assoc way.taken front.taken front.lost ∙ ap (λ bytes. way.taken ++ bytes) front.rest ∙ way.rest;
  missing = front.missing;
}
