-- What a wire has left after a read, by the place that it has come to.
use Rattle.std.proofs.Common.{◌≡◌, ℕ, ◌+◌, Bool, false, cond, List, [], ◌++◌, take, drop, Some, refl, sym, ap, ◌∙◌}
use Rattle.std.proofs.lemmas.List.{take-append-drop, drop-drop}
use Rattle.sb_outside.specs.Outside.{GivesFront}
use Rattle.sb_outside.specs.Connections.{pieces_of_wire}

-- the next bytes are given
pub gives_next : (ended : Bool) (left : List (List ℕ)) (sends bytes : List ℕ) (k n : ℕ) → ended ≡ false → cond ended [] (pieces_of_wire (drop k sends)) ≡ left → bytes ≡ take n (drop k sends)
    → GivesFront bytes (Some left) (Some (cond ended [] (pieces_of_wire (drop (k + n) sends))))
gives_next ended left sends bytes k n going view front =
    let joined : take n (drop k sends) ++ drop (k + n) sends ≡ drop k sends = ap (λ rest. take n (drop k sends) ++ rest) (sym (drop-drop n k sends)) ∙ take-append-drop n (drop k sends) in
    rw (← view, going, front) (record { front = ap (λ bs. Some bs) (sym joined); later = refl })
