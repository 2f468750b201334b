use Rattle.std.proofs.Common.{sym, ap, ◌∙◌, not}
use Rattle.input_lines.specs.Lines.{is_newline}
use Rattle.input_lines.proofs.LineCuts.{open_last, open_none, count_closed, count_open, other_byte}
use Rattle.input_lines.proofs.input.count_lines.Goals as goal

pub returns-in_default : goal.returns-in_default
returns-in_default c = count_closed c.args.text.now c.args.ended c.requires (open_none c.args.text.now (sym c.in_default.ensures.value))

pub returns-then-last-eq10 : goal.returns-then-last-eq10
returns-then-last-eq10 c =
    count_closed c.args.text.now c.args.ended c.requires
    (open_last c.args.text.now c.in-Some.last.now (sym c.in-Some.ensures.value) ∙ ap (λ b. not (is_newline b)) c.if-last-eq10.true)

pub returns : goal.returns
returns c =
    count_open c.args.text.now c.args.ended c.requires
    (open_last c.args.text.now c.in-Some.last.now (sym c.in-Some.ensures.value) ∙ ap not (other_byte c.in-Some.last.now c.if-last-eq10.false))
