use Rattle.std.proofs.Common.{Bool, List, ◌-◌, ◌^◌, min, length, ap, ◌∙◌}
use Rattle.rice_coding.proofs.place.bits_left.Goals as goal

pub returns : goal.returns
returns c = c.remaining.ensures ∙ ap (λ (bits : List Bool). min (length bits) (2 ^ 64 - 1)) c.cursor_at.ensures
