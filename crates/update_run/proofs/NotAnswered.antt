-- The lists for which an answer has no update, one list after the other.
use Rattle.std.proofs.Common.{◌≡◌, ℕ, List, [], ◌∷◌, ◌++◌, true, false, map, refl, sym, ap, ◌∙◌, append_assoc, append-nil}
use Rattle.std.specs.Prelude.{not, filter, Ok}
use Rattle.std.proofs.lemmas.Grind.{flat_map-append}
use Rattle.std.proofs.lemmas.List.{map-append}
use Rattle.std.proofs.lemmas.List.Elements.{filter-append}
use Rattle.sb_model.specs.declared.names.ListName.{ListName}
use Rattle.update_client.specs.Held.{Held}
use Rattle.sb_round.specs.declared.rounds.Taken.{Taken}
use Rattle.update_run.specs.Printed.{has_update_for, not_answered, not_answered_line, not_answered_lines}

-- the lines of the lists that are not among these updates
abbrev lines_of : ℕ → List Taken → List Held → List ℕ
lines_of number taken lists = not_answered_lines number (not_answered lists (Ok taken))

lines_append : (number : ℕ) (taken : List Taken) (lists more : List Held) → lines_of number taken (lists ++ more) ≡ lines_of number taken lists ++ lines_of number taken more
lines_append number taken lists more =
    ap (λ (names : List ListName). not_answered_lines number (filter (λ name. not (has_update_for taken name)) names)) (map-append (λ (held : Held). held.name) lists more)
    ∙ ap (not_answered_lines number) (filter-append (λ name. not (has_update_for taken name)) (map (λ (held : Held). held.name) lists) (map (λ (held : Held). held.name) more))
    ∙ flat_map-append (not_answered_line number) (not_answered lists (Ok taken)) (not_answered more (Ok taken))

no_lines : (number : ℕ) (taken : List Taken) (held : Held) → has_update_for taken held.name ≡ true → lines_of number taken (held ∷ []) ≡ []
no_lines number taken held answered = rw answered refl

one_line : (number : ℕ) (taken : List Taken) (held : Held) → has_update_for taken held.name ≡ false → lines_of number taken (held ∷ []) ≡ not_answered_line number held.name
one_line number taken held missing = rw missing (append-nil (not_answered_line number held.name))

-- a list that is among them
pub passes_over : (number : ℕ) (taken : List Taken) (lists : List Held) (held : Held) (before page : List ℕ) → has_update_for taken held.name ≡ true
    → page ≡ before ++ lines_of number taken lists → page ≡ before ++ lines_of number taken (lists ++ held ∷ [])
passes_over number taken lists held before page answered so_far =
    so_far
    ∙ ap (λ lines. before ++ lines) (sym (lines_append number taken lists (held ∷ []) ∙ ap (λ lines. lines_of number taken lists ++ lines) (no_lines number taken held answered) ∙ append-nil (lines_of number taken lists)))

-- one that is not
pub tells_one_more : (number : ℕ) (taken : List Taken) (lists : List Held) (held : Held) (before page page' : List ℕ) → has_update_for taken held.name ≡ false
    → page ≡ before ++ lines_of number taken lists → page' ≡ page ++ not_answered_line number held.name → page' ≡ before ++ lines_of number taken (lists ++ held ∷ [])
tells_one_more number taken lists held before page page' missing so_far more =
    more
    ∙ ap (λ text. text ++ not_answered_line number held.name) so_far
    ∙ append_assoc before (lines_of number taken lists) (not_answered_line number held.name)
    ∙ ap (λ lines. before ++ lines) (sym (lines_append number taken lists (held ∷ []) ∙ ap (λ lines. lines_of number taken lists ++ lines) (one_line number taken held missing)))
