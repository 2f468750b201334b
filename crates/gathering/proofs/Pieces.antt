-- The pieces of an answer, of which the last is kept apart.
use Rattle.std.proofs.Common.{◌≡◌, ℕ, ◌+◌, ◌-◌, ◌<◌, ◌≤◌, ◌⊎◌, inl, inr, List, [], ◌∷◌, ◌++◌, length, drop, refl, sym, ap, ◌∙◌, append_assoc, arith, length-append, length-drop}
use Rattle.std.proofs.lemmas.List.{append-nil, drop-append-le, drop-drop, nil_from_length}
use Rattle.std.proofs.lemmas.List.Folds.{concat-append}
use Rattle.std.proofs.lemmas.List.Elements.{All-head}
use Rattle.std.specs.List.{All, concat}
use Rattle.gathering.specs.Wires.{first_of_pieces, pieces_after_first, IsOutgoing}

-- the first piece and the bytes after it are all
pub whole_from_first : (full : List (List ℕ)) (last : List ℕ) → first_of_pieces full last ++ pieces_after_first full last ≡ concat full ++ last
whole_from_first [] last = append-nil last
whole_from_first (piece ∷ pieces) last = sym (append_assoc piece (concat pieces) last)

-- the last piece is put to the others
pub sealed_rest : (full : List (List ℕ)) (last : List ℕ) → pieces_after_first (full ++ last ∷ []) [] ≡ pieces_after_first full last
sealed_rest [] last = refl
sealed_rest (piece ∷ pieces) last = append-nil (concat (pieces ++ last ∷ [])) ∙ concat-append pieces (last ∷ []) ∙ ap (λ bs. concat pieces ++ bs) (append-nil last)

-- how much of the first piece is sent
pub sent_within : (first : List ℕ) (sent : ℕ) → (sent ≡ 0) ⊎ (sent < length first) → sent ≤ length first
sent_within first sent (inl none) = omega arith
sent_within first sent (inr some) = omega arith

-- where nothing of the first piece is left, there is no other
pub nothing_after : (full : List (List ℕ)) (last : List ℕ) (sent : ℕ) → (sent ≡ 0) ⊎ (sent < length (first_of_pieces full last)) → All (λ piece. 0 < length piece) full
    → drop sent (first_of_pieces full last) ≡ [] → pieces_after_first full last ≡ []
nothing_after [] last sent going filled none = refl
nothing_after (piece ∷ pieces) last sent (inl at_zero) filled none =
    let some : 0 < length piece = All-head (λ piece. 0 < length piece) piece pieces filled in
    absurd (omega (arith, ap length none, length-drop sent piece))
nothing_after (piece ∷ pieces) last sent (inr within) filled none = absurd (omega (arith, ap length none, length-drop sent piece))

-- further bytes go to the last piece
pub put_bytes : (full : List (List ℕ)) (last more : List ℕ) (sent : ℕ) → sent ≤ length (first_of_pieces full last)
    → drop sent (first_of_pieces full (last ++ more)) ++ pieces_after_first full (last ++ more) ≡ (drop sent (first_of_pieces full last) ++ pieces_after_first full last) ++ more
put_bytes [] last more sent within = append-nil (drop sent (last ++ more)) ∙ drop-append-le sent last more within ∙ ap (λ bs. bs ++ more) (sym (append-nil (drop sent last)))
put_bytes (piece ∷ pieces) last more sent within = ap (λ bs. drop sent piece ++ bs) (sym (append_assoc (concat pieces) last more)) ∙ sym (append_assoc (drop sent piece) (concat pieces ++ last) more)

first_grows : (full : List (List ℕ)) (last more : List ℕ) → length (first_of_pieces full last) ≤ length (first_of_pieces full (last ++ more))
first_grows [] last more = omega (arith, length-append last more)
first_grows (piece ∷ pieces) last more = omega arith

still_going : (full : List (List ℕ)) (last more : List ℕ) (sent : ℕ) → (sent ≡ 0) ⊎ (sent < length (first_of_pieces full last)) → (sent ≡ 0) ⊎ (sent < length (first_of_pieces full (last ++ more)))
still_going full last more sent (inl none) = inl none
still_going full last more sent (inr some) = inr (omega (arith, first_grows full last more))

pub put_kept : (full : List (List ℕ)) (last more : List ℕ) (sent left : ℕ) → (sent ≡ 0) ⊎ (sent < length (first_of_pieces full last)) → All (λ piece. 0 < length piece) full
    → left ≡ length (drop sent (first_of_pieces full last) ++ pieces_after_first full last) → IsOutgoing full (last ++ more) sent (left + length more)
put_kept full last more sent left going filled count = record {
  going = still_going full last more sent going;
  filled = filled;
  count = rw (put_bytes full last more sent (sent_within (first_of_pieces full last) sent going), count) (sym (length-append (drop sent (first_of_pieces full last) ++ pieces_after_first full last) more));
}

-- so many bytes of the first piece are sent, and not all that are left of it
pub moved_on : (first rest : List ℕ) (sent count : ℕ) → count ≤ length (drop sent first) → drop (sent + count) first ++ rest ≡ drop count (drop sent first ++ rest)
moved_on first rest sent count within = sym (drop-append-le count (drop sent first) rest within ∙ ap (λ bs. bs ++ rest) (drop-drop count sent first))

pub moved_count : (first rest : List ℕ) (sent count left : ℕ) → count ≤ length (drop sent first) → left ≡ length (drop sent first ++ rest) → left - count ≡ length (drop (sent + count) first ++ rest)
moved_count first rest sent count left within whole = rw (moved_on first rest sent count within) (omega (arith, whole, length-drop count (drop sent first ++ rest)))

-- all that is left of the first piece is sent
pub moved_past : (front rest : List ℕ) (count : ℕ) → count ≡ length front → rest ≡ drop count (front ++ rest)
moved_past front rest count whole = rw whole (sym (drop-append-le (length front) front rest (omega arith) ∙ ap (λ bs. bs ++ rest) (nil_from_length (drop (length front) front) (omega (arith, length-drop (length front) front)))))

pub sealed : (full full' : List (List ℕ)) (last whole begun : List ℕ) → full' ≡ full ++ whole ∷ [] → whole ≡ last → begun ≡ [] → pieces_after_first full' begun ≡ pieces_after_first full last
sealed full full' last whole begun pushed same new = rw (pushed, same, new) (sealed_rest full last)

-- so are they once the last piece was sealed
pub put_sealed : (full full' : List (List ℕ)) (last last' more grown : List ℕ) (sent left left' : ℕ) → first_of_pieces full' last' ≡ first_of_pieces full last → pieces_after_first full' last' ≡ pieces_after_first full last
    → (All (λ piece. 0 < length piece) full → All (λ piece. 0 < length piece) full') → (sent ≡ 0) ⊎ (sent < length (first_of_pieces full last)) → All (λ piece. 0 < length piece) full
    → left ≡ length (drop sent (first_of_pieces full last) ++ pieces_after_first full last) → grown ≡ last' ++ more → left' ≡ left + length more → IsOutgoing full' grown sent left'
put_sealed full full' last last' more grown sent left left' first rest fills going filled count longer sum =
    rw (longer, sum) (put_kept full' last' more sent left (rw first going) (fills filled) (rw (first, rest) count))

pub put_sealed_bytes : (full full' : List (List ℕ)) (last last' more grown : List ℕ) (sent : ℕ) → first_of_pieces full' last' ≡ first_of_pieces full last → pieces_after_first full' last' ≡ pieces_after_first full last
    → (sent ≡ 0) ⊎ (sent < length (first_of_pieces full last)) → grown ≡ last' ++ more
    → drop sent (first_of_pieces full' grown) ++ pieces_after_first full' grown ≡ (drop sent (first_of_pieces full last) ++ pieces_after_first full last) ++ more
put_sealed_bytes full full' last last' more grown sent first rest going longer =
    rw longer (put_bytes full' last' more sent (rw first (sent_within (first_of_pieces full last) sent going)) ∙ ap (λ bs. bs ++ more) (rw (first, rest) refl))
