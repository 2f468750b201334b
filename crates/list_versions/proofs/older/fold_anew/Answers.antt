use Rattle.std.proofs.Common.{◌≡◌, ℕ, ◌-◌, ap, take, drop, fold, subst, List, length, arith}
use Rattle.std.proofs.lemmas.List.{take_all, length-drop}
use Rattle.sb_model.specs.declared.history.Change.{Change}
use Rattle.sb_model.specs.declared.history.Added.{Added}
use Rattle.sb_model.specs.History.{after_change, sizes_at}
use Rattle.list_versions.specs.Draft.{history_of}
use Rattle.list_versions.specs.HashSizes.{IsMapOf}
use Rattle.list_versions.specs.Limits.{hash_lines}
use Rattle.list_versions.proofs.Between.{folded_on, lines_between}
use Rattle.list_versions.proofs.older.fold_anew.Goals as goal

-- the changes after a version, in the changes up to another
rest_is : (front : List Change) (from : ℕ) → take (length front - from) (drop from front) ≡ drop from front
rest_is front from = take_all (length front - from) (drop from front) (omega (arith, length-drop from front))

pub fold_changes-requires : goal.fold_changes-requires
fold_changes-requires g c =
    let front = take c.args.to c.as_slice.result.now in
    let same = ap (λ (cs : List Change). hash_lines (drop c.args.from (take c.args.to cs))) c.as_slice.ensures.value in
    let few = lines_between c.args.draft.now.changes.items c.args.from c.args.to c.requires.order c.requires.within in
    omega (arith, few, same, ap hash_lines (rest_is front c.args.from), c.requires.stem.hashes, c.requires.stem.few_hashes, c.new-steps.ensures)

pub returns : goal.returns
returns g c = λ before.
    let draft = c.args.draft.now in
    let from = c.args.from in
    let front = take c.args.to c.as_slice.result.now in
    let folded = subst (λ (cs : List Change). IsMapOf c.fold_changes.new.folding (fold (after_change c.args.list) (sizes_at (history_of draft) c.args.list from) cs)) (rest_is front from)
    (c.in_ok-fold_changes.ensures.map (sizes_at (history_of draft) c.args.list from) before) in
    let here = subst (λ (cs : List Change). IsMapOf c.fold_changes.new.folding (fold (after_change c.args.list) (sizes_at (history_of draft) c.args.list from) (drop from (take c.args.to cs)))) c.as_slice.ensures.value folded in
    subst (λ (es : List Added). IsMapOf c.fold_changes.new.folding es) (folded_on c.args.list draft.changes.items from c.args.to c.requires.order) here
