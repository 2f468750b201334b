use Rattle.std.proofs.Common.{Some, ap, ◌∙◌}
use Rattle.sb_members.proofs.Written.{no_text, text_in_range, text_spelled}
use Rattle.sb_members.proofs.members.text_value.Goals as goal

pub returns-then-is_empty-clause-range : goal.returns-then-is_empty-clause-range
returns-then-is_empty-clause-range c = no_text c.args.text.now (c.is_empty.ensures.0 c.if-is_empty.true)

pub returns-clause-value : goal.returns-clause-value
returns-clause-value c =
    ap Some c.in_ok-string_value.ensures ∙ text_spelled c.args.text.now c.as_str.result.now c.as_str.utf8 c.as_str.ensures (λ e. cc (c.is_empty.ensures.1 e))

pub returns-clause-range : goal.returns-clause-range
returns-clause-range c = text_in_range c.args.text.now c.as_str.result.now c.as_str.utf8 c.as_str.ensures
