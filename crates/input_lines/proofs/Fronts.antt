-- A front of a text within the limits is within them.
use Rattle.std.proofs.Common.{◌≡◌, ℕ, ◌≤◌, List, [], ◌∷◌, ◌++◌, Bool, true, false, length, refl, sym, ap, ◌∙◌, subst, Option, Some, None, arith, length-append}
use Rattle.std.specs.List.{onto_first}
use Rattle.sb_outside.specs.Outside.{next_piece, bytes_left, prepended}
use Rattle.input_lines.specs.Input.{GivesPast}
use Rattle.input_lines.specs.Lines.{is_newline, lines_of, IsInputWithinLimits}
use Rattle.input_lines.proofs.LineCuts.{lines-newline, lines-other, onto_some}

-- a longer text has no fewer lines
onto_one : (b : ℕ) (ls ms : List (List ℕ)) → length ls ≤ length ms → length (onto_first b ls) ≤ length (onto_first b ms)
onto_one b [] ms h = omega (arith, onto_some b ms)
onto_one b (l ∷ ls) [] h = absurd (omega arith)
onto_one b (l ∷ ls) (m ∷ ms) h = h

front_by : (b : ℕ) (bs more : List ℕ) (t : Bool) → is_newline b ≡ t → length (lines_of bs) ≤ length (lines_of (bs ++ more)) → length (lines_of (b ∷ bs)) ≤ length (lines_of (b ∷ (bs ++ more)))
front_by b bs more true e h = omega (arith, ap length (lines-newline b bs e), ap length (lines-newline b (bs ++ more) e), h)
front_by b bs more false e h = omega (arith, ap length (lines-other b bs e), ap length (lines-other b (bs ++ more) e), onto_one b (lines_of bs) (lines_of (bs ++ more)) h)

pub lines_of_front : (text more : List ℕ) → length (lines_of text) ≤ length (lines_of (text ++ more))
lines_of_front [] more = omega arith
lines_of_front (b ∷ bs) more = front_by b bs more _ refl (lines_of_front bs more)

-- a front of a text within the limits is within them
pub front_within : (front more : List ℕ) → IsInputWithinLimits (front ++ more) → IsInputWithinLimits front
front_within front more h = record { bytes = omega (arith, h.bytes, length-append front more); lines = omega (arith, h.lines, lines_of_front front more) }

-- an input within the limits is not past them
known_past : (pieces : List (List ℕ)) (after : Option (List (List ℕ))) (given : List ℕ) → Some (next_piece pieces) ≡ prepended given (bytes_left after) → IsInputWithinLimits (next_piece pieces) → IsInputWithinLimits given
known_past pieces None given e h = absurd (cc)
known_past pieces (Some left) given e h =
    let whole : next_piece pieces ≡ given ++ next_piece left = cc in
    front_within given (next_piece left) (subst IsInputWithinLimits whole h)

pub not_past : (before after : Option (List (List ℕ))) (pieces : List (List ℕ)) → before ≡ Some pieces → IsInputWithinLimits (next_piece pieces) → GivesPast before after → ⊥
not_past before after pieces e h past = past.past (known_past pieces after past.given (ap bytes_left (sym e) ∙ past.gives.front) h)
