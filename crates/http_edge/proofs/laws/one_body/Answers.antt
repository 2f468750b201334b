use Rattle.http_edge.proofs.OneAnswer.{bytes_one, session_one}
use Rattle.http_edge.proofs.laws.one_body.Goals as goal

pub returns-clause-bytes : goal.returns-clause-bytes
returns-clause-bytes c = bytes_one

pub returns-clause-session : goal.returns-clause-session
returns-clause-session c = session_one
