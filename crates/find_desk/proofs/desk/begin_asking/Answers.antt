use Rattle.std.proofs.Common.{List, inr, subst}
use Rattle.find_sessions.specs.Asking.{StopsAsking}
use Rattle.url_checker.specs.Resolving.{find_body_asked}
use Rattle.url_checker.specs.declared.findings.Hit.{Hit}
use Rattle.find_desk.proofs.Keeping.{err_says}
use Rattle.find_desk.proofs.desk.begin_asking.Goals as goal

pub returns-in_err-find-clause-stopped : goal.returns-in_err-find-clause-stopped
returns-in_err-find-clause-stopped g c =
    let asked = c.in_ok-count.field-0.asked in
    err_says c.from_residual-in_err-find.result _ (record {
      now = c.now-now.result;
      between = g.N.Line.view c.now-now.new.self;
      reads = c.now-now.ensures;
      asked = asked;
      stops = inr (
        record { count = c.in_ok-count.field-0.count; are = c.in_ok-count.ensures },
        subst (λ (hits : List Hit). StopsAsking c.args.waits c.now-now.result c.args.target.now (find_body_asked c.args.states hits) (g.N.Line.view c.now-now.new.self).told (g.N.Line.view c.begin_find_for.new.line).told)
            c.as_slice.ensures c.in_err-find.ensures.stopped,
      );
    })
