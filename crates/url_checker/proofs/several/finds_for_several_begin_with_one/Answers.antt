use Rattle.url_checker.proofs.SeveralFacts.{one_is_its_case, takes_the_first}
use Rattle.url_checker.proofs.several.finds_for_several_begin_with_one.Goals as goal

pub returns-clause-one : goal.returns-clause-one
returns-clause-one c = λ states look. one_is_its_case states look

pub returns-clause-first : goal.returns-clause-first
returns-clause-first c = λ looks look together few are. takes_the_first looks look together few are
