use Rattle.std.proofs.Common.{◌∙◌, sym, subst}
use Rattle.list_versions.specs.declared.draft.Listed.{Listed}
use Rattle.list_versions.proofs.Applying.{limit_found, IsApplied}
use Rattle.list_versions.proofs.NameCodes.{names_same}
use Rattle.list_versions.proofs.lists.limit_of.Goals as goal

pub returns-then-same : goal.returns-then-same
returns-then-same c sizes few holds =
    limit_found c.args.change.now sizes c.listed-item.result c.args.line c.as_slice.result.now c.limit.result
    (names_same _ _ (sym c.same.ensures ∙ c.if-same.true)) c.as_slice.ensures
    (subst (λ (list : Listed). IsApplied c.args.change.now sizes list) (sym c.listed-item.is) (holds c.loop-listed.listed-index c.listed-item.result c.loop-listed-test.true)) (few c.args.change.now.list) c.limit.ensures
