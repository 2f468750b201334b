use Rattle.std.proofs.Common.{sym, ◌∙◌, ap}
use Rattle.std.specs.Prelude.{is_some}
use Rattle.sb_model.proofs.NameParts.{too_many, just_three}
use Rattle.sb_model.proofs.names.three_parts.Goals as goal

pub returns-then-is_some : goal.returns-then-is_some
returns-then-is_some c =
    too_many _ _ _ _ c.in-Some-split_at_slash.entry.now c.in-Some.ensures c.in-Some-split_at_slash.ensures
    (ap is_some (sym c.slash_in.ensures) ∙ sym c.is_some.ensures ∙ c.if-is_some.true)

pub returns : goal.returns
returns c =
    just_three _ _ _ _ c.in-Some-split_at_slash.entry.now c.in-Some.ensures c.in-Some-split_at_slash.ensures
    (ap is_some (sym c.slash_in.ensures) ∙ sym c.is_some.ensures ∙ c.if-is_some.false)
