use Rattle.http_serving.proofs.RoutedAnswers.{one_routed}
use Rattle.http_serving.proofs.laws.requests_have_one_answer.Goals as goal

pub returns : goal.returns
returns g c = λ before after request.
    one_routed g.A.Answers.routes (g.A.Answers.right before after) request (λ place. c.have_one_answer.ensures before after place request)
