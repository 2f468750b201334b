use Rattle.std.proofs.Common.{List, sym, subst, ◌∙◌}
use Rattle.sb_model.specs.declared.history.Added.{Added}
use Rattle.sb_model.specs.History.{without_hash}
use Rattle.delta_server.specs.Counts.{Counts}
use Rattle.delta_server.proofs.EntryFacts.{lacks_none, without_lacking, goes}
use Rattle.delta_server.proofs.holders.Holders.leave_if.Goals as goal

pub returns-in_ok-leave-clause-ok : goal.returns-in_ok-leave-clause-ok
returns-in_ok-leave-clause-ok c = λ entries hash apart is counts.
    c.in_ok-leave.ensures.ok (without_hash entries hash) entries (goes entries hash c.in-Some.prefix apart (sym is ∙ c.in-Some.is)).gains counts

pub returns-in_default-clause-ok : goal.returns-in_default-clause-ok
returns-in_default-clause-ok c = λ entries hash apart is counts.
    subst (λ (es : List Added). Counts c.args.self.now es) (sym (without_lacking entries hash (lacks_none entries hash (sym is ∙ c.in_default.is)))) counts
