use Rattle.http_serving.proofs.Keeping.{finds_by_body, finds_by_meaning, stays_asked, stays_kept}
use Rattle.http_serving.proofs.laws.kept_answers_stay_right.Goals as goal

pub returns-clause-by_body : goal.returns-clause-by_body
returns-clause-by_body g c = λ server. finds_by_body (g.S.KeepsAnswers.is_right server)

pub returns-clause-by_meaning : goal.returns-clause-by_meaning
returns-clause-by_meaning g c = λ server. finds_by_meaning (g.S.KeepsAnswers.is_right server) _ _

pub returns-clause-asked : goal.returns-clause-asked
returns-clause-asked g c = λ server. stays_asked (g.S.KeepsAnswers.is_right server) _ _

pub returns-clause-kept : goal.returns-clause-kept
returns-clause-kept g c = λ server. stays_kept (g.S.KeepsAnswers.is_right server) _
