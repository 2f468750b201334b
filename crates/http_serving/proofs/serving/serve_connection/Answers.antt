use Rattle.std.proofs.Common.{ℕ, List, Option, IfSome, subst}
use Rattle.http_serving.specs.Routes.{RoutedAnswer}
use Rattle.http_serving.specs.Serving.{IsComplete}
use Rattle.http_serving.proofs.serving.serve_connection.Goals as goal

pub returns-clause-complete : goal.returns-clause-complete
returns-clause-complete g c =
    let right = RoutedAnswer g.A.Answers.routes (g.A.Answers.right c.args.answers.now c.answer_request.new.answers) in
    let left = g.T.Source.left c.args.wire.now in
    subst (λ (before : Option (List ℕ)). IfSome left (λ pieces. IsComplete right pieces c.answer_request.result before (g.T.Sink.contents c.answer_request.new.wire)))
    c.hear_request-received.ensures.unwritten (c.answer_request.ensures.complete left c.hear_request-received.ensures.hears)
