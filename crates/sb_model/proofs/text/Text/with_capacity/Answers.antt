use Rattle.std.proofs.Common.{ap, ◌∙◌}
use Rattle.std.specs.Str.{chars}
use Rattle.std.proofs.lemmas.Str.{chars-nil}
use Rattle.sb_model.proofs.text.Text.with_capacity.Goals as goal

pub returns : goal.returns
returns c = ap chars c.in_ok-with_capacity.ensures.bytes ∙ chars-nil
