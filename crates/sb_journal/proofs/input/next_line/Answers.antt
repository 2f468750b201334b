use Rattle.std.proofs.Common.{ℕ, ◌+◌, ◌-◌, List, ◌∷◌, length, take, drop, sym, ap, ◌∙◌}
use Rattle.std.specs.Str.Lines.{lines}
use Rattle.sb_journal.proofs.LineCuts.{line_found, line_none}
use Rattle.sb_journal.proofs.input.next_line.Goals as goal

pub returns-in-Some-clause-lines : goal.returns-in-Some-clause-lines
returns-in-Some-clause-lines c =
    let text = c.args.text.now in
    let end = c.in-Some.end in
    line_found text end (sym c.in-Some.ensures)
    ∙ ap (λ (line : List ℕ). line ∷ lines (take (length text - (end + 1)) (drop (end + 1) text))) (sym c.without_return.ensures)

pub returns-in-None-clause-lines : goal.returns-in-None-clause-lines
returns-in-None-clause-lines c = line_none c.args.text.now c.requires (sym c.in-None.ensures)
