-- The pieces that a source in memory has left, by the place that it has come to.
use Rattle.std.proofs.Common.{◌≡◌, ℕ, ◌+◌, List, [], ◌∷◌, ◌++◌, length, take, drop, Some, refl, sym, ap, ◌∙◌}
use Rattle.std.proofs.lemmas.List.{drop_more, take-append-drop, drop-drop, nil_from_length}
use Rattle.std.proofs.lemmas.Option.{slice_get_within, get_or_from_slice_get}
use Rattle.std.specs.List.{slice_get}
use Rattle.sb_outside.specs.Outside.{GivesFront, AnswersEnd}
use Rattle.memory_objects.specs.Memory.{without_front}

-- the piece at a place comes first of those that stand from it on
pub drop_at : {A : Type 0} (xs : List A) (i : ℕ) (x : A) → slice_get xs i ≡ Some x → drop i xs ≡ x ∷ drop (i + 1) xs
drop_at xs i x found =
    let within = slice_get_within xs i x found in
    let same = get_or_from_slice_get xs i x x found in
    drop_more xs i x within ∙ ap (λ y. y ∷ drop (i + 1) xs) same

-- what is left begins with the rest of the piece at the place
pub left_here : (left pieces : List (List ℕ)) (i given : ℕ) (piece : List ℕ) → without_front given (drop i pieces) ≡ left → slice_get pieces i ≡ Some piece → left ≡ drop given piece ∷ drop (i + 1) pieces
left_here left pieces i given piece view found = sym view ∙ ap (λ ps. without_front given ps) (drop_at pieces i piece found)

-- the next bytes of the piece at the place are given
pub gives_here : (bytes : List ℕ) (left pieces : List (List ℕ)) (i given n : ℕ) (piece : List ℕ) → without_front given (drop i pieces) ≡ left → slice_get pieces i ≡ Some piece → bytes ≡ take n (drop given piece) → GivesFront bytes (Some left) (Some (without_front (given + n) (drop i pieces)))
gives_here bytes left pieces i given n piece view found front =
    let here = left_here left pieces i given piece view found in
    let after = ap (λ ps. without_front (given + n) ps) (drop_at pieces i piece found) in
    let joined : take n (drop given piece) ++ drop (given + n) piece ≡ drop given piece = ap (λ rest. take n (drop given piece) ++ rest) (sym (drop-drop n given piece)) ∙ take-append-drop n (drop given piece) in
    rw (here, after, front) (record { front = ap (λ bs. Some bs) (sym joined); later = refl })

pub without_front-zero : (pieces : List (List ℕ)) → without_front 0 pieces ≡ pieces
without_front-zero [] = refl
without_front-zero (piece ∷ pieces) = refl

-- nothing is left of the piece at the place, and the next comes
pub ends_here : (left pieces : List (List ℕ)) (i given : ℕ) (piece : List ℕ) → without_front given (drop i pieces) ≡ left → slice_get pieces i ≡ Some piece → length (drop given piece) ≡ 0 → AnswersEnd (Some left) (Some (without_front 0 (drop (i + 1) pieces)))
ends_here left pieces i given piece view found none =
    rw (left_here left pieces i given piece view found, without_front-zero)
    (record { at_end = nil_from_length (drop given piece) none; later = refl })
