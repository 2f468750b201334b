use Rattle.std.proofs.Common.{◌≡◌, List, ℕ, [], ◌∷◌, ◌++◌, ◌∙◌, ap, sym, append_assoc}
use Rattle.input_lines.specs.Lines.{lines_of}
use Rattle.input_lines.proofs.rows.split_lines.Goals as goal

-- the lines that are left after one more
left_after : (first left all : List (List ℕ)) (line : List ℕ) (rest : List (List ℕ)) → left ≡ line ∷ rest → first ++ left ≡ all → (first ++ line ∷ []) ++ rest ≡ all
left_after first left all line rest is h = append_assoc first (line ∷ []) rest ∙ ap (λ (ls : List (List ℕ)). first ++ ls) (sym is) ∙ h

pub loop-rest-preserved : goal.loop-rest-preserved
loop-rest-preserved c =
    let line = c.first_line.result.0.now in
    let rest = lines_of c.first_line.result.1.now in
    ap (λ (lines : List (List ℕ)). lines ++ rest) c.in_ok-push.ensures
    ∙ left_after c.loop-rest.lines (lines_of c.loop-rest.rest.now) (lines_of c.args.text.now) line rest c.first_line.ensures.lines c.loop-rest.invariant
