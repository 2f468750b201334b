use Rattle.std.proofs.Common.{subst}
use Rattle.std.specs.Prelude.{All}
use Rattle.sb_model.specs.History.{sizes_at}
use Rattle.list_versions.specs.HashSizes.{IsMapOf}
use Rattle.list_versions.specs.Journal.{Kept}
use Rattle.list_versions.specs.Live.{IsPublishable}
use Rattle.list_versions.proofs.Folds.{publishable_at}
use Rattle.list_versions.proofs.history.History.fold_on.Goals as goal

pub returns-clause-map : goal.returns-clause-map
returns-clause-map c =
    subst (λ (k : Kept). IsMapOf c.args.folding (sizes_at k.versions c.args.list c.args.from) → IsMapOf c.in_ok-later.later (sizes_at k.versions c.args.list c.args.to))
    c.self.view_is c.in_ok-later.ensures

pub returns-clause-publishable : goal.returns-clause-publishable
returns-clause-publishable c =
    subst (λ (k : Kept). All IsPublishable (sizes_at k.versions c.args.list c.args.to)) c.self.view_is
    (publishable_at c.self.inside.draft c.args.list c.args.to c.self.invariant.stem)
