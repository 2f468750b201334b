use Rattle.http_serving.specs.Routes.{RoutedAnswer}
use Rattle.http_serving.specs.Serving.{IsServed}
use Rattle.http_serving.proofs.Entries.{entry_served, returned}
use Rattle.http_serving.proofs.serving.serve_wire.Goals as goal

pub returns-clause-served : goal.returns-clause-served
returns-clause-served g c = λ pieces fresh.
    let served = c.serve_connection-end.ensures in
    let how = c.serve_connection-end.result in
    let right = RoutedAnswer g.A.Answers.routes (g.A.Answers.right c.args.answers.now c.serve_connection-end.new.answers) in
    returned (IsServed right how pieces) _ _ _ _ _ _ _ _ _ served.number c.done.ensures.entry
    (λ entry is. entry_served right how entry pieces _ _ _ _ _ _ _ _ _ _ fresh served.serves served.complete served.start
    served.read_failed served.read_kept served.write_failed served.write_kept served.unavailable is)
