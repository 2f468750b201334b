use Rattle.std.proofs.Common.{◌≡◌, refl, sym, ap, ◌∙◌}
use Rattle.http_serving.specs.Routes.{RoutedAnswer}
use Rattle.http_serving.proofs.Answering.{served, stopped, complete_of, complete_of_stop, fault_of_sent, fault_of_stop}
use Rattle.http_serving.proofs.RoutedAnswers.{one_routed}
use Rattle.http_serving.proofs.serving.answer_received.Goals as goal

pub returns-in-Ok-clause-serves : goal.returns-in-Ok-clause-serves
returns-in-Ok-clause-serves g c = λ left heard.
    let wire = c.args.wire.now in
    let told = c.send.new.wire in
    let unread : g.T.Source.left told ≡ g.T.Source.left wire =
    ap (λ side. side.left) (sym (g.met.T.Wire.front_is told) ∙ c.send.ensures.other ∙ g.met.T.Wire.front_is wire) in
    served (RoutedAnswer g.A.Answers.routes (g.A.Answers.right c.args.answers.now c.respond.new.answers)) c.args.received
    c.in-Ok.answer c.send.result
    left (g.T.Source.left wire) (g.T.Source.left told) (g.T.Sink.contents wire) (g.T.Sink.contents wire) (g.T.Sink.contents told)
    heard unread refl c.in-Ok.ensures.right c.send.ensures.sent

pub returns-in-Ok-clause-complete : goal.returns-in-Ok-clause-complete
returns-in-Ok-clause-complete g c = λ left heard.
    complete_of (RoutedAnswer g.A.Answers.routes (g.A.Answers.right c.args.answers.now c.respond.new.answers)) c.send.result
    left (g.T.Source.left c.send.new.wire) (g.T.Sink.contents c.args.wire.now) (g.T.Sink.contents c.send.new.wire)
    (λ request. one_routed g.A.Answers.routes (g.A.Answers.right c.args.answers.now c.respond.new.answers) request
    (λ place. c.have_one_answer.ensures c.args.answers.now c.respond.new.answers place request))
    (returns-in-Ok-clause-serves g c left heard)

pub returns-in-Ok-clause-read_fault : goal.returns-in-Ok-clause-read_fault
returns-in-Ok-clause-read_fault g c =
    fault_of_sent (RoutedAnswer g.A.Answers.routes (g.A.Answers.right c.args.answers.now c.respond.new.answers)) c.args.received
    c.in-Ok.answer c.send.result _ _ _ _ _ c.in-Ok.ensures.right c.send.ensures.sent

pub returns-in-Err-clause-serves : goal.returns-in-Err-clause-serves
returns-in-Err-clause-serves g c = λ left heard. stopped _ c.args.received c.in-Err.end left _ _ _ heard refl c.in-Err.ensures.stop

pub returns-in-Err-clause-complete : goal.returns-in-Err-clause-complete
returns-in-Err-clause-complete g c = λ left heard. complete_of_stop _ c.args.received c.in-Err.end left _ _ c.in-Err.ensures.stop

pub returns-in-Err-clause-read_fault : goal.returns-in-Err-clause-read_fault
returns-in-Err-clause-read_fault g c = fault_of_stop c.args.received c.in-Err.end c.in-Err.ensures.stop
