use Rattle.std.proofs.Common.{◌∙◌, sym, List, ℕ, fold, subst}
use Rattle.sb_model.specs.declared.history.Added.{Added}
use Rattle.sb_model.specs.History.{with_added, without_hash}
use Rattle.list_versions.specs.HashSizes.{IsMapOf}
use Rattle.list_versions.proofs.Mapped.{mapped_change, mapped_other}
use Rattle.list_versions.proofs.older.fold_change.Goals as goal

pub returns-in_ok-fold_adds-clause-map : goal.returns-in_ok-fold_adds-clause-map
returns-in_ok-fold_adds-clause-map g c entries h =
    let removed = subst (λ (rs : List (List ℕ)). IsMapOf c.fold_removes.new.folding (fold without_hash entries rs)) c.as_slice.ensures (c.in_ok-fold_removes.ensures.map entries h) in
    let added = subst (λ (es : List Added). IsMapOf c.fold_adds.new.folding (fold with_added (fold without_hash entries c.args.change.now.removes) es)) c.as_slice-then-same.ensures
    (c.in_ok-fold_adds.ensures.map (fold without_hash entries c.args.change.now.removes) removed) in
    mapped_change c.fold_adds.new.folding c.args.list c.args.change.now entries (sym c.same.ensures ∙ c.if-same.true) added

pub returns-else-same-clause-map : goal.returns-else-same-clause-map
returns-else-same-clause-map g c entries h = mapped_other c.args.folding.now c.args.list c.args.change.now entries (sym c.same.ensures ∙ c.if-same.false) h
