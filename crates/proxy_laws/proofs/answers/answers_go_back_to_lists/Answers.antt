use Rattle.proxy_laws.proofs.Tracing.{answers_go}
use Rattle.proxy_laws.proofs.answers.answers_go_back_to_lists.Goals as goal

pub returns : goal.returns
returns c = answers_go
