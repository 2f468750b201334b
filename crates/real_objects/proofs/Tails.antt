-- The last bytes of a text that was turned round.
use Rattle.std.proofs.Common.{◌≡◌, ℕ, ◌-◌, ◌<◌, ◌≤◌, List, ◌++◌, length, take, drop, arith, length-drop, ◌∙◌}
use Rattle.std.proofs.lemmas.List.{take_all, take-append-le}
use Rattle.real_objects.specs.Tails.{tail_of}

pub tail_in_front : (n : ℕ) (text : List ℕ) → n < length text → take n (drop (length text - n) text ++ take (length text - n) text) ≡ tail_of n text
tail_in_front n text more =
    let back = drop (length text - n) text in
    let count : length back ≡ length text - (length text - n) = length-drop (length text - n) text in
    let within : n ≤ length back = omega (arith, count, more) in
    let all : length back ≤ n = omega (arith, count, more) in
    take-append-le n back (take (length text - n) text) within ∙ take_all n back all

-- the same of what such a text was turned to, and of what was kept of that
pub tail_kept : (n count : ℕ) (text turned kept : List ℕ) → count ≡ length text → n < count → turned ≡ drop (count - n) text ++ take (count - n) text → kept ≡ take n turned → kept ≡ tail_of n text
tail_kept n count text turned kept whole more is_turned is_kept =
    rw (is_kept, is_turned, whole) (tail_in_front n text (omega (arith, whole, more)))
