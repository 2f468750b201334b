use Rattle.std.proofs.Common.{refl}
use Rattle.std.specs.Prelude.{Ok, Err}
use Rattle.sb_service.proofs.Journals.{of_journal}
use Rattle.sb_service.proofs.serve.serve.Goals as goal

pub returns-in-Ok-clause-run : goal.returns-in-Ok-clause-run
returns-in-Ok-clause-run g c =
    let load = c.in-Ok.ensures.outcome in
    let run = c.serve_connections.ensures.run in
    record {
      bytes = load.0;
      ended = load.1;
      read = g.J.Source.left c.load.new.source;
      gives = load.2;
      loaded = Ok c.in-Ok.history;
      outcome = load.3;
      leads = record {
        last = c.serve_connections.new.served.history;
        run = run;
        journal = of_journal c.cuts_make_no_difference.ensures load.0 c.in-Ok.history run.turns run.last.kept load.3.1 run.turned.grows;
      };
    }

pub returns-in-Err-clause-run : goal.returns-in-Err-clause-run
returns-in-Err-clause-run g c =
    let load = c.in-Err.ensures.outcome in
    record {
      bytes = load.0;
      ended = load.1;
      read = g.J.Source.left c.load.new.source;
      gives = load.2;
      loaded = Err c.in-Err.fault;
      outcome = load.3;
      leads = record { unread = refl; refusal = c.refuse.ensures.refusal; untouched = refl; untaken = refl };
    }

pub serve_connections-requires : goal.serve_connections-requires
serve_connections-requires g c = c.nothing_kept.ensures c.in-Ok.history.versions c.args.plan.now.settings
