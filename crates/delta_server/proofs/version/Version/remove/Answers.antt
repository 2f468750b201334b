use Rattle.delta_server.proofs.version.Version.remove.Goals as goal

pub returns-clause-ok : goal.returns-clause-ok
returns-clause-ok c = λ entries stands. record {
  knows = c.take-gone.ensures.knows entries stands.knows;
  counts = c.in_ok-leave_if.ensures.ok entries c.args.hash.now stands.knows.apart (c.take-gone.ensures.prefix entries stands.knows) stands.counts;
}
