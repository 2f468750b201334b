use Rattle.std.proofs.Common.{Result, sym, subst}
use Rattle.http_edge.specs.declared.faults.RequestFault.{RequestFault}
use Rattle.http_edge.specs.declared.messages.HttpRequest.{HttpRequest}
use Rattle.http_serving.specs.Routes.{RoutedAnswer}
use Rattle.http_serving.specs.Serving.{IsAnswerAfter}
use Rattle.http_serving.specs.Written.{IsRightAnswer}
use Rattle.http_serving.proofs.serving.respond.Goals as goal

pub returns-in-Ok-answer_routed-clause-right : goal.returns-in-Ok-answer_routed-clause-right
returns-in-Ok-answer_routed-clause-right g c =
    let right = RoutedAnswer g.A.Answers.routes (g.A.Answers.right c.args.answers.now c.answer_routed.new.answers) in
    subst (λ (received : Result HttpRequest RequestFault). IsRightAnswer (IsAnswerAfter right received) c.in-Ok-answer_routed.answer) (sym c.in-Ok.is)
    c.in-Ok-answer_routed.ensures.right
