use Rattle.http_serving.specs.Serving.{IsServed}
use Rattle.sb_service.specs.Connection.{IsResponseTo}
use Rattle.sb_service.proofs.Entries.{logged}
use Rattle.sb_service.proofs.serve.serve_taken.Goals as goal

pub returns-clause-told : goal.returns-clause-told
returns-clause-told g c = λ before pieces opening fresh. record {
  how = c.serve_wire-end.result;
  logged = logged (IsServed (IsResponseTo c.args.history.now.versions c.args.plan.now.settings) c.serve_wire-end.result pieces) before _ _ _ opening
      (c.serve_wire-end.ensures.served pieces fresh);
  lined = c.tell_end.ensures.lined;
}
