use Rattle.proxy_run.specs.Steps.{proxy_at}
use Rattle.proxy_run.proofs.turning.end_answered.Goals as goal

pub end_answered_find-requires : goal.end_answered_find-requires
end_answered_find-requires g c =
    let run = c.requires.running in
    record { running = (run.0, (run.1.0, c.end_answered_round.ensures.goes run.0 run.1.0 run.1.1)) }

pub returns : goal.returns
returns g c = record {
  goes = λ phase turns now.
      let later = c.end_answered_find.ensures.goes phase turns now in
      (later.0, λ start run. later.1 start (c.end_answered_round.ensures.goes (proxy_at phase now turns) start run));
}
