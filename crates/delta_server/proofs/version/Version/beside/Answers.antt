use Rattle.delta_server.proofs.version.Version.beside.Goals as goal

pub returns-clause-stands : goal.returns-clause-stands
returns-clause-stands c = λ entries own stands. record {
  knows = stands.knows;
  counts = c.beside.ensures.counts entries own stands.counts;
}
