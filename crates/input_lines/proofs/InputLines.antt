-- What the lines of an input are.
use Rattle.std.proofs.Common.{◌≡◌, ℕ, ◌<◌, List, [], ◌∷◌, ◌++◌, length, Bool, true, false, refl, sym, ap, ◌∙◌, subst, arith}
use Rattle.std.specs.Prelude.{All, ◌||◌}
use Rattle.std.specs.List.{onto_first, list_any}
use Rattle.std.proofs.lemmas.List.Elements.{All-nil, All-cons, All-head, All-tail}
use borrow.Author.Tests.{eqb-true}
use Rattle.input_lines.specs.Lines.{newline, is_newline, lines_of, HasNoNewline, joined_lines, last_newline}
use Rattle.input_lines.proofs.LineCuts.{lines-newline, lines-other, lines_some}

-- ---- joined they are the input

last_kept : (b : ℕ) (bs : List ℕ) → is_newline b ≡ true → last_newline (b ∷ bs) ≡ last_newline bs
last_kept b [] e = rw e refl
last_kept b (c ∷ cs) e = refl

joined_onto : (b : ℕ) (ls : List (List ℕ)) → 0 < length ls → joined_lines (onto_first b ls) ≡ b ∷ joined_lines ls
joined_onto b [] h = absurd (omega arith)
joined_onto b (l ∷ ls) h = refl

whole_newline : (b : ℕ) (bs : List ℕ) → is_newline b ≡ true → joined_lines (lines_of bs) ≡ bs ++ last_newline bs → joined_lines (lines_of (b ∷ bs)) ≡ (b ∷ bs) ++ last_newline (b ∷ bs)
whole_newline b bs e h =
    ap joined_lines (lines-newline b bs e)
    ∙ ap (λ (rest : List ℕ). newline ∷ rest) h
    ∙ ap (λ (c : ℕ). c ∷ (bs ++ last_newline bs)) (sym (eqb-true b newline e))
    ∙ ap (λ (end : List ℕ). b ∷ (bs ++ end)) (sym (last_kept b bs e))

whole_other : (b : ℕ) (bs : List ℕ) → is_newline b ≡ false → joined_lines (lines_of bs) ≡ bs ++ last_newline bs → joined_lines (lines_of (b ∷ bs)) ≡ (b ∷ bs) ++ last_newline (b ∷ bs)
whole_other b [] e h = ap joined_lines (lines-other b [] e) ∙ rw e refl
whole_other b (c ∷ cs) e h =
    ap joined_lines (lines-other b (c ∷ cs) e)
    ∙ joined_onto b (lines_of (c ∷ cs)) (lines_some (c ∷ cs) (omega arith))
    ∙ ap (λ (rest : List ℕ). b ∷ rest) h

whole_by : (b : ℕ) (bs : List ℕ) (t : Bool) → is_newline b ≡ t → joined_lines (lines_of bs) ≡ bs ++ last_newline bs → joined_lines (lines_of (b ∷ bs)) ≡ (b ∷ bs) ++ last_newline (b ∷ bs)
whole_by b bs true e h = whole_newline b bs e h
whole_by b bs false e h = whole_other b bs e h

pub joined_whole : (input : List ℕ) → joined_lines (lines_of input) ≡ input ++ last_newline input
joined_whole [] = refl
joined_whole (b ∷ bs) = whole_by b bs _ refl (joined_whole bs)

-- ---- none has a newline in it

plain_onto : (b : ℕ) (ls : List (List ℕ)) → is_newline b ≡ false → All HasNoNewline ls → All HasNoNewline (onto_first b ls)
plain_onto b [] e h = All-cons HasNoNewline (b ∷ []) [] (rw e refl) (All-nil HasNoNewline)
plain_onto b (l ∷ ls) e h =
    let first : HasNoNewline l = All-head HasNoNewline l ls h in
    All-cons HasNoNewline (b ∷ l) ls (ap (λ (t : Bool). t || list_any is_newline l) e ∙ first) (All-tail HasNoNewline l ls h)

plain_by : (b : ℕ) (bs : List ℕ) (t : Bool) → is_newline b ≡ t → All HasNoNewline (lines_of bs) → All HasNoNewline (lines_of (b ∷ bs))
plain_by b bs true e h = subst (λ (ls : List (List ℕ)). All HasNoNewline ls) (sym (lines-newline b bs e)) (All-cons HasNoNewline [] (lines_of bs) refl h)
plain_by b bs false e h = subst (λ (ls : List (List ℕ)). All HasNoNewline ls) (sym (lines-other b bs e)) (plain_onto b (lines_of bs) e h)

pub each_plain : (input : List ℕ) → All HasNoNewline (lines_of input)
each_plain [] = All-nil HasNoNewline
each_plain (b ∷ bs) = plain_by b bs _ refl (each_plain bs)
