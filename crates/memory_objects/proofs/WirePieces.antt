-- What a wire in memory has left, and what its entry says, by the place that it has come to.
use Rattle.std.proofs.Common.{◌≡◌, ℕ, ◌+◌, ◌<◌, ◌≤◌, ◌↔◌, Bool, true, false, cond, IsTrue, nat_lt, List, [], ◌++◌, length, take, drop, Some, refl, sym, ap, ◌∙◌, append_assoc, arith, rules, length-drop}
use Rattle.std.proofs.lemmas.List.{take-append-drop, drop-drop, take_all}
use Rattle.std.specs.List.{concat}
use Rattle.sb_outside.specs.Outside.{GivesFront}
use Rattle.sb_outside.specs.Connections.{HasEnded, IsEntryOf, pieces_of_wire}

-- the next bytes are given
pub gives_next : (ended : Bool) (left : List (List ℕ)) (sends bytes : List ℕ) (k n : ℕ) → ended ≡ false → cond ended [] (pieces_of_wire (drop k sends)) ≡ left → bytes ≡ take n (drop k sends)
    → GivesFront bytes (Some left) (Some (cond ended [] (pieces_of_wire (drop (k + n) sends))))
gives_next ended left sends bytes k n going view front =
    let joined : take n (drop k sends) ++ drop (k + n) sends ≡ drop k sends = ap (λ rest. take n (drop k sends) ++ rest) (sym (drop-drop n k sends)) ∙ take-append-drop n (drop k sends) in
    rw (← view, going, front) (record { front = ap (λ bs. Some bs) (sym joined); later = refl })

-- the bytes that were given and those that are left are all
given_of : (ended : Bool) (sends : List ℕ) (k : ℕ) → (ended ≡ true → k ≡ length sends) → concat (pieces_of_wire sends) ≡ take k sends ++ concat (cond ended [] (pieces_of_wire (drop k sends)))
given_of true sends k whole = ap (λ bs. bs ++ []) (sym (take_all k sends (omega (arith, whole refl))))
given_of false sends k whole =
    ap (λ bs. bs ++ []) (sym (take-append-drop k sends)) ∙ append_assoc (take k sends) (drop k sends) []

-- the one end of input comes last
not_ended : (sends rest : List ℕ) (n : ℕ) → 0 < n → n ≤ 1 → pieces_of_wire rest ≡ drop n (pieces_of_wire sends) → ⊥
not_ended sends rest n some one same =
    omega (arith, ap length same, length-drop n (pieces_of_wire sends))

ended_of : (ended : Bool) (sends : List ℕ) (k : ℕ) → IsTrue ended ↔ HasEnded (pieces_of_wire sends) (cond ended [] (pieces_of_wire (drop k sends)))
ended_of true sends k = (λ _. (1, omega arith, omega arith, refl), λ _. search rules)
ended_of false sends k = (λ yes. search rules, λ has. absurd (not_ended sends (drop k sends) has.0 has.1 has.2 has.3))

pub entry_of : (ended : Bool) (sends written : List ℕ) (k read_faults write_faults : ℕ) → (ended ≡ true → k ≡ length sends)
    → IsEntryOf (record { given = take k sends; ended = ended; written = written; read_fault = nat_lt 0 read_faults; write_fault = nat_lt 0 write_faults }) (Some (pieces_of_wire sends)) (Some (cond ended [] (pieces_of_wire (drop k sends)))) (Some written) read_faults write_faults
entry_of ended sends written k read_faults write_faults whole = record {
  pieces = pieces_of_wire sends;
  rest = cond ended [] (pieces_of_wire (drop k sends));
  started = refl;
  remains = refl;
  given = given_of ended sends k whole;
  ended = ended_of ended sends k;
  written = refl;
  read_fault = search rules;
  write_fault = search rules;
}
