use Rattle.std.proofs.Common.{◌∙◌, ap, sym, true, false}
use Rattle.std.specs.Prelude.{option_map, ℕ}
use Rattle.sb_model.specs.declared.names.ListName.{ListName}
use Rattle.list_versions.proofs.Applying.{find_here}
use Rattle.list_versions.proofs.lists.size_of.Goals as goal

pub returns-then-same : goal.returns-then-same
returns-then-same c =
    sym (ap (option_map (λ (list : ListName × ℕ). list.1)) (sym c.loop-listed.invariant ∙ find_here c.args.lists.now c.loop-listed.listed-index c.listed-item.result c.args.name true c.loop-listed-test.true c.listed-item.is (sym c.same.ensures ∙ c.if-same.true)))

pub loop-listed-preserved : goal.loop-listed-preserved
loop-listed-preserved c =
    sym (find_here c.args.lists.now c.loop-listed.listed-index c.listed-item.result c.args.name false c.loop-listed-test.true c.listed-item.is (sym c.same.ensures ∙ c.if-same.false)) ∙ c.loop-listed.invariant
