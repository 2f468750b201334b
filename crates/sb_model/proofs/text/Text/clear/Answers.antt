use Rattle.std.proofs.Common.{ap, ◌∙◌}
use Rattle.std.specs.Str.{chars}
use Rattle.std.proofs.lemmas.Str.{chars-nil}
use Rattle.sb_model.proofs.text.Text.clear.Goals as goal

pub returns : goal.returns
returns c = ap chars c.clear.ensures.bytes ∙ chars-nil
