use Rattle.http_serving.specs.Routes.{RoutedAnswer}
use Rattle.http_serving.proofs.Answering.{response_of_whole}
use Rattle.http_serving.proofs.laws.answers_follow_requests.Goals as goal

pub returns : goal.returns
returns g c = λ before after bytes request.
    response_of_whole (RoutedAnswer g.A.Answers.routes (g.A.Answers.right before after)) bytes request
