use Rattle.std.proofs.Common.{◌∙◌, ℕ, List, add-one, ap, get_or, set}
use Rattle.list_versions.specs.Ends.{restored_end}
use Rattle.list_versions.proofs.Ended.{set_next, get_next}
use Rattle.list_versions.proofs.ends.restore.Goals as goal

pub loop-end-preserved : goal.loop-end-preserved
loop-end-preserved c =
    let f = restored_end c.args.version in
    let xs = c.deref_mut-end-items.result.now in
    let i = c.loop-end.end-index in
    let read = c.restored_end.ensures ∙ ap (λ (ys : List ℕ). f (get_or ys i 0)) c.loop-end.invariant ∙ ap f (get_next f xs i 0 c.loop-end-test.true) in
    rw add-one (ap (λ (v : ℕ). set c.loop-end.end-items i v) read ∙ ap (λ (ys : List ℕ). set ys i (f (get_or xs i 0))) c.loop-end.invariant
    ∙ set_next f xs i 0 c.loop-end-test.true)
