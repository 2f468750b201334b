use Rattle.proto_messages.specs.Fetch.{fetch_of}
use Rattle.proto_messages.specs.Find.{find_of}
use Rattle.proto_messages.proofs.LawFacts.{one}
use Rattle.proto_messages.proofs.laws.requests_read_one_way.Goals as goal

pub returns-clause-fetch : goal.returns-clause-fetch
returns-clause-fetch c = λ text a b p q. one (fetch_of text) a b p q

pub returns-clause-find : goal.returns-clause-find
returns-clause-find c = λ text a b p q. one (find_of text) a b p q
