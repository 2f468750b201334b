use Rattle.std.proofs.Common.{◌∙◌, ap, nat_eq, List, ℕ}
use Rattle.std.specs.Cmp.Lexicographic.{pointwise}
use Rattle.std.specs.Str.{chars}
use Rattle.sb_model.proofs.Characters.{pointwise-chars}
use Rattle.sb_model.proofs.text.TextPartialEq.eq.Goals as goal

pub returns : goal.returns
returns c =
    c.eq.ensures
    ∙ pointwise-chars _ _ c.as_bytes.ensures.utf8 c.as_bytes-2.ensures.utf8
    ∙ ap (λ (cs : List ℕ). pointwise nat_eq cs (chars c.as_bytes-2.result.now)) (ap chars c.as_bytes.ensures.value ∙ c.as_str.ensures)
    ∙ ap (pointwise nat_eq c.args.self.now) (ap chars c.as_bytes-2.ensures.value ∙ c.as_str-2.ensures)
