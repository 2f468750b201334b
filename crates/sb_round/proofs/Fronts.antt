-- What a page begins with, where more was written behind it.
use Rattle.std.proofs.Common.{◌≡◌, ℕ, List, ◌++◌, length, take, drop, sym, ap, ◌∙◌, append_assoc}
use Rattle.std.proofs.Math.Seq.{take-append_seam}
use Rattle.std.proofs.lemmas.List.{take-append-drop}

-- what begins with a longer page begins with the page
pub front_of : (page more longer new : List ℕ) → longer ≡ page ++ more → take (length longer) new ≡ longer → take (length page) new ≡ page
front_of page more longer new is front =
    let split : new ≡ page ++ (more ++ drop (length longer) new) =
    sym (take-append-drop (length longer) new) ∙ ap (λ text. text ++ drop (length longer) new) (front ∙ is) ∙ append_assoc page more (drop (length longer) new) in
    ap (take (length page)) split ∙ take-append_seam page (more ++ drop (length longer) new)
