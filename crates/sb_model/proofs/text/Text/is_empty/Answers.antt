use Rattle.std.proofs.Common.{sym, ap, ◌∙◌, eq-eqb}
use borrow.Author.Tests.{eqb-true}
use Rattle.std.specs.Str.{chars}
use Rattle.sb_model.proofs.Characters.{no_chars, no_bytes}
use Rattle.sb_model.proofs.text.Text.is_empty.Goals as goal

pub returns : goal.returns
returns c =
    let shown = ap chars c.as_str.ensures.value ∙ c.self.view_is in (
      λ h. sym shown ∙ no_chars _ (eqb-true _ _ (sym c.is_empty.ensures ∙ h)),
      λ h. c.is_empty.ensures ∙ eq-eqb _ _ (no_bytes _ c.as_str.utf8 (shown ∙ h)),
    )
