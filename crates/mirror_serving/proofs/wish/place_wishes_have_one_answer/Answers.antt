use Rattle.mirror_serving.proofs.WishFacts.{answered, one_text}
use Rattle.mirror_serving.proofs.wish.place_wishes_have_one_answer.Goals as goal

pub returns-clause-answered : goal.returns-clause-answered
returns-clause-answered c = answered

pub returns-clause-one : goal.returns-clause-one
returns-clause-one c = one_text
