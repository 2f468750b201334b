use Rattle.http_serving.specs.Routes.{RoutedAnswer}
use Rattle.http_serving.specs.Serving.{IsServed}
use Rattle.http_serving.proofs.Entries.{entry_answered, returned}
use Rattle.http_serving.proofs.serving.answer_wire.Goals as goal

pub returns-clause-served : goal.returns-clause-served
returns-clause-served g c = λ pieces heard.
    let answered = c.answer_request-end.ensures in
    let how = c.answer_request-end.result in
    let right = RoutedAnswer g.A.Answers.routes (g.A.Answers.right c.args.answers.now c.answer_request-end.new.answers) in
    returned (IsServed right how pieces) _ _ _ _ _ _ _ _ _ answered.number c.done.ensures.entry
    (λ entry is. entry_answered right c.args.received how entry pieces _ _ _ _ _ _ _ _ _ _ heard answered.serves answered.complete answered.start
    answered.unread answered.read_kept answered.read_fault answered.write_failed answered.write_kept answered.unavailable is)
