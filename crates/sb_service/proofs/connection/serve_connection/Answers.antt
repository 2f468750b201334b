use Rattle.sb_service.proofs.ConnectionFacts.{complete_of}
use Rattle.sb_service.proofs.connection.serve_connection.Goals as goal

pub returns-clause-complete : goal.returns-clause-complete
returns-clause-complete g c =
    complete_of c.args.history.now.versions c.args.settings.now c.serve_connection.result _ _ _ c.serve_connection.ensures.complete

pub invariant_of-server : goal.invariant_of-server
invariant_of-server g c = c.nothing_kept.ensures c.args.history.now.versions c.args.settings.now
