use Rattle.std.proofs.Common.{◌∙◌, ◌∷◌, ◌++◌, [], ap, sym, add-one}
use Rattle.list_versions.proofs.Begun.{take_next}
use Rattle.list_versions.proofs.leading.row_of.Goals as goal

pub loop-i-preserved : goal.loop-i-preserved
loop-i-preserved c =
    c.in_ok-push.ensures.ok ∙ ap (λ row. row ++ c.at.result ∷ []) c.loop-i.invariant ∙ rw add-one (sym (take_next c.args.set.now c.loop-i.i c.at.result c.at.ensures))
