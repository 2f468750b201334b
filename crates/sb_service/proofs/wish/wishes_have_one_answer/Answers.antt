use Rattle.sb_service.proofs.Wishes.{answered, one_answer}
use Rattle.sb_service.proofs.wish.wishes_have_one_answer.Goals as goal

pub returns-clause-answered : goal.returns-clause-answered
returns-clause-answered c = λ history wait request wishes limits are. answered history limits wait request wishes are

pub returns-clause-one : goal.returns-clause-one
returns-clause-one c = λ history wait first second wishes limits are also. one_answer history limits wait first second wishes are also
